use Rattle.std.proofs.Common.{sym, subst}
use Rattle.moka_model.specs.Calls.{Finish}
use Rattle.moka_model.specs.StandsFor.{StandsFor}
use Rattle.moka_expiration.specs.Behaviour.{hash_by, behaviour_by}
use Rattle.moka_expiration.specs.StateData.{estimates, view_by}
use Rattle.moka_turns.specs.Handles.{turn_name}
use Rattle.moka_state.specs.Finish.{outcome_of}
use Rattle.moka_state.specs.Step.{IsReplyTo, after_reply}
use Rattle.moka_state.proofs.TurnSteps.{given-stands, OnErr-so}
use Rattle.moka_state.proofs.state.State.step_finish.Goals as goal

pub returns-clause-reply : goal.returns-clause-reply
returns-clause-reply g c given steps stands =
    subst (λ n. IsReplyTo g.K.PartialEq.eq g.V.Clone.is_clone g.V.Clone.is_infallible given steps (Finish n (outcome_of c.args.outcome) c.args.now) c.finish_reply.result) c.turn_of.ensures.name
    (c.finish_reply.ensures.says given steps (Finish (turn_name c.turn_of.result) (outcome_of c.args.outcome) c.args.now) (c.finish.ensures.reply given steps stands))

pub returns-clause-stands : goal.returns-clause-stands
returns-clause-stands g c given steps stands =
    let view = view_by (behaviour_by (hash_by g.C.Hasher.BuildHasher.build_hasher g.C.Hasher.Hasher.Hasher.write g.C.Hasher.Hasher.Hasher.finish g.K.Hash.hash_input) g.C.CacheTypes.weight g.C.CacheTypes.lifetimes) (estimates g.C.Frequency.FrequencySource.noted g.C.Frequency.FrequencySource.count) g.C.Frequency.FrequencySource.opened in
    subst (λ n. StandsFor g.K.PartialEq.eq g.V.Clone.is_clone given (view c.finish.new.self) (after_reply g.K.PartialEq.eq given (Finish n (outcome_of c.args.outcome) c.args.now) c.finish_reply.result steps)) c.turn_of.ensures.name
    (subst (StandsFor g.K.PartialEq.eq g.V.Clone.is_clone given (view c.finish.new.self)) (sym (c.finish_reply.ensures.leaves given steps (Finish (turn_name c.turn_of.result) (outcome_of c.args.outcome) c.args.now)))
    (given-stands g.K.PartialEq.eq view c.args.self.now c.finish.new.self (Finish (turn_name c.turn_of.result) (outcome_of c.args.outcome) c.args.now) c.finish.result c.finish.ensures.stands c.finish.ensures.refused given steps stands))

pub returns-clause-refused : goal.returns-clause-refused
returns-clause-refused g c refusal = OnErr-so c.finish.result c.finish.ensures.refused (c.finish_reply.ensures.refused refusal)
