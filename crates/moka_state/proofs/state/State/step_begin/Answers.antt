use Rattle.std.proofs.Common.{◌≡◌, sym, subst, ◌∙◌}
use Rattle.std.specs.Arc.{arc_value}
use Rattle.moka_model.specs.declared.turns.Kind.TheVariants.{Compute}
use Rattle.moka_model.specs.Calls.{Begin}
use Rattle.moka_model.proofs.Callers.{same_kind-is}
use Rattle.moka_turns.proofs.Abandons.{kinds-same}
use Rattle.moka_state.specs.Given.{of_begin_compute}
use Rattle.moka_model.specs.StandsFor.{StandsFor}
use Rattle.moka_expiration.specs.Behaviour.{hash_by, behaviour_by}
use Rattle.moka_expiration.specs.StateData.{estimates, view_by}
use Rattle.moka_state.proofs.TurnSteps.{OnOk-by, after-compute, compute-gives, given-stands, OnErr-so}
use Rattle.moka_state.proofs.state.State.step_begin.Goals as goal

pub returns-clause-reply : goal.returns-clause-reply
returns-clause-reply g c given steps stands =
    c.begin_reply.ensures.says given steps (Begin (arc_value c.args.key) c.args.kind c.args.replace c.args.now) (c.begin_for_step.ensures.reply given steps stands)

pub returns-clause-stands : goal.returns-clause-stands
returns-clause-stands g c given steps stands =
    let view = view_by (behaviour_by (hash_by g.C.Hasher.BuildHasher.build_hasher g.C.Hasher.Hasher.Hasher.write g.C.Hasher.Hasher.Hasher.finish g.K.Hash.hash_input) g.C.CacheTypes.weight g.C.CacheTypes.lifetimes) (estimates g.C.Frequency.FrequencySource.noted g.C.Frequency.FrequencySource.count) g.C.Frequency.FrequencySource.opened in
    subst (StandsFor g.K.PartialEq.eq g.V.Clone.is_clone given (view c.begin_for_step.new.self)) (sym (c.begin_reply.ensures.leaves given steps (Begin (arc_value c.args.key) c.args.kind c.args.replace c.args.now)))
    (given-stands g.K.PartialEq.eq view c.args.self.now c.begin_for_step.new.self (Begin (arc_value c.args.key) c.args.kind c.args.replace c.args.now) c.begin_for_step.result c.begin_for_step.ensures.stands c.begin_for_step.ensures.refused given steps stands)

pub returns-then-eq-clause-reply : goal.returns-then-eq-clause-reply
returns-then-eq-clause-reply g c given steps stands =
    let kind : c.args.kind ≡ Compute = same_kind-is c.args.kind Compute (sym (kinds-same c.args.kind Compute) ∙ sym c.eq.ensures ∙ c.if-eq.true) in
    c.compute_reply.ensures.says given steps (Begin (arc_value c.args.key) c.args.kind c.args.replace c.args.now)
    (compute-gives g.K.PartialEq.eq g.V.Clone.is_clone g.V.Clone.is_infallible given steps (arc_value c.args.key) c.args.kind kind c.args.replace c.args.now (of_begin_compute c.begin_compute.result) (c.begin_compute.ensures.begins.reply given steps stands))

pub returns-then-eq-clause-stands : goal.returns-then-eq-clause-stands
returns-then-eq-clause-stands g c given steps stands =
    let kind : c.args.kind ≡ Compute = same_kind-is c.args.kind Compute (sym (kinds-same c.args.kind Compute) ∙ sym c.eq.ensures ∙ c.if-eq.true) in
    let view = view_by (behaviour_by (hash_by g.C.Hasher.BuildHasher.build_hasher g.C.Hasher.Hasher.Hasher.write g.C.Hasher.Hasher.Hasher.finish g.K.Hash.hash_input) g.C.CacheTypes.weight g.C.CacheTypes.lifetimes) (estimates g.C.Frequency.FrequencySource.noted g.C.Frequency.FrequencySource.count) g.C.Frequency.FrequencySource.opened in
    let follows = OnOk-by c.begin_compute.result (λ follows s before stand. subst (StandsFor g.K.PartialEq.eq g.V.Clone.is_clone s (view c.begin_compute.new.self)) (after-compute g.K.PartialEq.eq s before (arc_value c.args.key) c.args.kind kind c.args.replace c.args.now) (follows s before stand)) c.begin_compute.ensures.begins.stands in
    subst (StandsFor g.K.PartialEq.eq g.V.Clone.is_clone given (view c.begin_compute.new.self)) (sym (c.compute_reply.ensures.leaves given steps (Begin (arc_value c.args.key) c.args.kind c.args.replace c.args.now)))
    (given-stands g.K.PartialEq.eq view c.args.self.now c.begin_compute.new.self (Begin (arc_value c.args.key) c.args.kind c.args.replace c.args.now) c.begin_compute.result follows c.begin_compute.ensures.begins.refused given steps stands)

pub returns-clause-refused : goal.returns-clause-refused
returns-clause-refused g c refusal = OnErr-so c.begin_for_step.result c.begin_for_step.ensures.refused (c.begin_reply.ensures.refused refusal)

pub returns-then-eq-clause-refused : goal.returns-then-eq-clause-refused
returns-then-eq-clause-refused g c refusal = OnErr-so c.begin_compute.result c.begin_compute.ensures.begins.refused (c.compute_reply.ensures.refused refusal)
