use Rattle.std.proofs.Common.{sym, subst}
use Rattle.std.specs.Arc.{arc_value}
use Rattle.moka_model.specs.Calls.{BeginCompute}
use Rattle.moka_model.specs.StandsFor.{StandsFor}
use Rattle.moka_expiration.specs.Behaviour.{hash_by, behaviour_by}
use Rattle.moka_expiration.specs.StateData.{estimates, view_by}
use Rattle.moka_state.proofs.TurnSteps.{given-stands, OnErr-so}
use Rattle.moka_state.proofs.state.State.step_begin_compute.Goals as goal

pub returns-clause-reply : goal.returns-clause-reply
returns-clause-reply g c given steps stands =
    c.compute_reply.ensures.says given steps (BeginCompute (arc_value c.args.key) c.args.keep c.args.now) (c.begin_compute.ensures.begins.reply given steps stands)

pub returns-clause-stands : goal.returns-clause-stands
returns-clause-stands g c given steps stands =
    let view = view_by (behaviour_by (hash_by g.C.Hasher.BuildHasher.build_hasher g.C.Hasher.Hasher.Hasher.write g.C.Hasher.Hasher.Hasher.finish g.K.Hash.hash_input) g.C.CacheTypes.weight g.C.CacheTypes.lifetimes) (estimates g.C.Frequency.FrequencySource.noted g.C.Frequency.FrequencySource.count) g.C.Frequency.FrequencySource.opened in
    subst (StandsFor g.K.PartialEq.eq g.V.Clone.is_clone given (view c.begin_compute.new.self)) (sym (c.compute_reply.ensures.leaves given steps (BeginCompute (arc_value c.args.key) c.args.keep c.args.now)))
    (given-stands g.K.PartialEq.eq view c.args.self.now c.begin_compute.new.self (BeginCompute (arc_value c.args.key) c.args.keep c.args.now) c.begin_compute.result c.begin_compute.ensures.begins.stands c.begin_compute.ensures.begins.refused given steps stands)

pub returns-clause-refused : goal.returns-clause-refused
returns-clause-refused g c refusal = OnErr-so c.begin_compute.result c.begin_compute.ensures.begins.refused (c.compute_reply.ensures.refused refusal)
