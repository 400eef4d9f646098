use Rattle.std.proofs.Common.{sym, subst}
use Rattle.moka_model.specs.Calls.{Leave}
use Rattle.moka_model.specs.StandsFor.{StandsFor}
use Rattle.moka_expiration.specs.Behaviour.{hash_by, behaviour_by}
use Rattle.moka_expiration.specs.StateData.{estimates, view_by}
use Rattle.moka_turns.specs.Handles.{ticket_name}
use Rattle.moka_state.specs.Step.{IsReplyTo, after_reply}
use Rattle.moka_state.proofs.TurnSteps.{given-stands, OnErr-so}
use Rattle.moka_state.proofs.state.State.step_leave.Goals as goal

pub returns-clause-reply : goal.returns-clause-reply
returns-clause-reply g c given steps stands =
    subst (λ n. IsReplyTo g.K.PartialEq.eq g.V.Clone.is_clone g.V.Clone.is_infallible given steps (Leave n) c.done_reply.result) c.ticket_of.ensures
    (c.done_reply.ensures.says given steps (Leave (ticket_name c.ticket_of.result)) (c.leave.ensures.reply given steps stands))

pub returns-clause-stands : goal.returns-clause-stands
returns-clause-stands g c given steps stands =
    let view = view_by (behaviour_by (hash_by g.C.Hasher.BuildHasher.build_hasher g.C.Hasher.Hasher.Hasher.write g.C.Hasher.Hasher.Hasher.finish g.K.Hash.hash_input) g.C.CacheTypes.weight g.C.CacheTypes.lifetimes) (estimates g.C.Frequency.FrequencySource.noted g.C.Frequency.FrequencySource.count) g.C.Frequency.FrequencySource.opened in
    subst (λ n. StandsFor g.K.PartialEq.eq g.V.Clone.is_clone given (view c.leave.new.self) (after_reply g.K.PartialEq.eq given (Leave n) c.done_reply.result steps)) c.ticket_of.ensures
    (subst (StandsFor g.K.PartialEq.eq g.V.Clone.is_clone given (view c.leave.new.self)) (sym (c.done_reply.ensures.leaves given steps (Leave (ticket_name c.ticket_of.result))))
    (given-stands g.K.PartialEq.eq view c.args.self.now c.leave.new.self (Leave (ticket_name c.ticket_of.result)) c.leave.result c.leave.ensures.stands c.leave.ensures.refused given steps stands))

pub returns-clause-refused : goal.returns-clause-refused
returns-clause-refused g c refusal = OnErr-so c.leave.result c.leave.ensures.refused (c.done_reply.ensures.refused refusal)
