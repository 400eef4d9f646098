use Rattle.std.proofs.Common.{sym, subst}
use Rattle.moka_state.specs.Recorded.{WantsMemory}
use Rattle.moka_state.specs.Step.{call_of}
use Rattle.moka_expiration.specs.Behaviour.{hash_by, behaviour_by}
use Rattle.moka_expiration.specs.StateData.{estimates, view_by}
use Rattle.moka_state.proofs.Replied.{IfOk-by, IfOk-three, IfOk-four, same-replies, first-two, grown}
use Rattle.moka_state.proofs.state.State.step_recorded.Goals as goal

pub returns-clause-stands : goal.returns-clause-stands
returns-clause-stands g c = IfOk-by c.with_entries.result (λ done same given steps stands.
    rw same (c.step-reply.ensures.stands given steps stands)) c.with_entries.ensures.reply

pub returns-clause-replies : goal.returns-clause-replies
returns-clause-replies g c = IfOk-three c.with_entries.result (λ done same first second given steps stands.
    rw same (same-replies g.K.PartialEq.eq g.V.Clone.is_clone g.V.Clone.is_infallible given steps (call_of g.C.CacheTypes.test c.args.step) c.step-reply.result done.1.1 done.2.1 c.in-Ok.first.out c.in-Ok.second.out
    (c.step-reply.ensures.reply given steps stands) (c.in-Ok.ensures.first given steps stands) (c.in-Ok.ensures.second given steps stands)
    first.1.0 second.1.0 first.1.1 second.1.1)) c.with_entries.ensures.reply c.with_entries.ensures.first c.with_entries.ensures.second

pub returns-clause-record : goal.returns-clause-record
returns-clause-record g c =
    let view = view_by (behaviour_by (hash_by g.C.Hasher.BuildHasher.build_hasher g.C.Hasher.Hasher.Hasher.write g.C.Hasher.Hasher.Hasher.finish g.K.Hash.hash_input) g.C.CacheTypes.weight g.C.CacheTypes.lifetimes) (estimates g.C.Frequency.FrequencySource.noted g.C.Frequency.FrequencySource.count) g.C.Frequency.FrequencySource.opened in
    IfOk-four c.with_entries.result (λ done same given first second settings history recorded.
    grown g.V.Clone.is_clone g.K.PartialEq.eq g.V.Clone.is_infallible g.C.CacheTypes.test view c.args.self.now c.step-reply.new.self (c.args.step, c.step-reply.result) done.1 settings history recorded
    c.step-reply.ensures.reply c.step-reply.ensures.stands (rw same at given) (rw first.0 c.in-Ok.ensures.steps.0)
    (λ under steps stands. first-two g.V.Clone.is_clone c.step-reply.result done.1.1 done.2.1 (same-replies g.K.PartialEq.eq g.V.Clone.is_clone g.V.Clone.is_infallible under steps (call_of g.C.CacheTypes.test c.args.step) c.step-reply.result done.1.1 done.2.1 c.in-Ok.first.out c.in-Ok.second.out
    (c.step-reply.ensures.reply under steps stands) (c.in-Ok.ensures.first under steps stands) (c.in-Ok.ensures.second under steps stands)
    first.1.0 second.1.0 first.1.1 second.1.1)))
    c.with_entries.ensures.reply c.with_entries.ensures.given c.with_entries.ensures.first c.with_entries.ensures.second
