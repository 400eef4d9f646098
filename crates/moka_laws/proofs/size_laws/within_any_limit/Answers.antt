use Rattle.std.proofs.Common.{ℕ, ◌≤◌, Some, ◌∷◌, map, ap, sym, subst, arith}
use Rattle.std.proofs.lemmas.List.{length-map}
use Rattle.moka_model.specs.Maintenance.{total, parts, done, evicted_in, after_parts}
use Rattle.moka_model.specs.declared.notification.RemovalCause.TheVariants.{Size}
use Rattle.moka_model.specs.Lives.{is_live}
use Rattle.moka_model.specs.Events.{Maintained, latest}
use Rattle.moka_model.specs.Admission.{frequency, wins}
use Rattle.moka_model.specs.Orders.{parts_at, evicted_at, orders}
use Rattle.moka_model.specs.Removals.{removal_of}
use Rattle.moka_model.proofs.Callers.{waiting-within-le, admitted-within-le, evicted-done-le, done-all}
use Rattle.moka_laws.proofs.size_laws.within_any_limit.Goals as goal

pub returns-clause-waiting : goal.returns-clause-waiting
returns-clause-waiting g c settings h limit at = waiting-within-le (λ w. w.policy_weight) settings.max_capacity (λ w. is_live settings w (latest (Maintained limit at ∷ h))) (wins settings (frequency settings h)) limit (orders g.K.PartialEq.eq settings h)

pub returns-clause-admitted : goal.returns-clause-admitted
returns-clause-admitted g c settings h limit at capacity e le =
    subst (λ m. total (λ w. w.policy_weight) (after_parts (orders g.K.PartialEq.eq settings h) (done limit (parts (λ w. w.policy_weight) m (λ w. is_live settings w (latest (Maintained limit at ∷ h))) (wins settings (frequency settings h)) (orders g.K.PartialEq.eq settings h)))).admitted ≤ capacity) (sym e)
    (admitted-within-le (λ w. w.policy_weight) capacity (λ w. is_live settings w (latest (Maintained limit at ∷ h))) (wins settings (frequency settings h)) limit (orders g.K.PartialEq.eq settings h) le)

pub returns-clause-left : goal.returns-clause-left
returns-clause-left g c settings h limit at =
    let now : ℕ = latest (Maintained (Some limit) at ∷ h) in
    let few = evicted-done-le (parts_at settings (frequency settings h) now (orders g.K.PartialEq.eq settings h)) limit in
    let same = length-map (evicted_at g.K.PartialEq.eq settings (Some limit) at h) (removal_of settings Size now) in
    omega (arith, few, same)

pub returns-clause-whole : goal.returns-clause-whole
returns-clause-whole g c settings h limit at none =
    let now : ℕ = latest (Maintained limit at ∷ h) in
    let q = orders g.K.PartialEq.eq settings h in
    let all = done-all limit (parts_at settings (frequency settings h) now q) none in
    (ap (after_parts q) all, ap (λ ps. map (removal_of settings Size now) (evicted_in ps)) all)
