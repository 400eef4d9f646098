use Rattle.std.proofs.Common.{sym, subst}
use Rattle.moka_model.specs.Calls.{Abandon}
use Rattle.moka_model.specs.StandsFor.{StandsFor}
use Rattle.moka_expiration.specs.Behaviour.{hash_by, behaviour_by}
use Rattle.moka_expiration.specs.StateData.{estimates, view_by}
use Rattle.moka_turns.specs.Handles.{turn_name}
use Rattle.moka_state.specs.Step.{IsReplyTo, after_reply}
use Rattle.moka_state.proofs.TurnSteps.{given-stands, OnErr-so}
use Rattle.moka_state.proofs.state.State.step_abandon.Goals as goal

pub returns-clause-reply : goal.returns-clause-reply
returns-clause-reply g c given steps stands =
    subst (λ n. IsReplyTo g.K.PartialEq.eq g.V.Clone.is_clone g.V.Clone.is_infallible given steps (Abandon n) c.done_reply.result) c.turn_of.ensures.name
    (c.done_reply.ensures.says given steps (Abandon (turn_name c.turn_of.result)) (c.abandon.ensures.reply given steps stands))

pub returns-clause-stands : goal.returns-clause-stands
returns-clause-stands g c given steps stands =
    let view = view_by (behaviour_by (hash_by g.C.Hasher.BuildHasher.build_hasher g.C.Hasher.Hasher.Hasher.write g.C.Hasher.Hasher.Hasher.finish g.K.Hash.hash_input) g.C.CacheTypes.weight g.C.CacheTypes.lifetimes) (estimates g.C.Frequency.FrequencySource.noted g.C.Frequency.FrequencySource.count) g.C.Frequency.FrequencySource.opened in
    subst (λ n. StandsFor g.K.PartialEq.eq g.V.Clone.is_clone given (view c.abandon.new.self) (after_reply g.K.PartialEq.eq given (Abandon n) c.done_reply.result steps)) c.turn_of.ensures.name
    (subst (StandsFor g.K.PartialEq.eq g.V.Clone.is_clone given (view c.abandon.new.self)) (sym (c.done_reply.ensures.leaves given steps (Abandon (turn_name c.turn_of.result))))
    (given-stands g.K.PartialEq.eq view c.args.self.now c.abandon.new.self (Abandon (turn_name c.turn_of.result)) c.abandon.result c.abandon.ensures.stands c.abandon.ensures.refused given steps stands))

pub returns-clause-refused : goal.returns-clause-refused
returns-clause-refused g c refusal = OnErr-so c.abandon.result c.abandon.ensures.refused (c.done_reply.ensures.refused refusal)
