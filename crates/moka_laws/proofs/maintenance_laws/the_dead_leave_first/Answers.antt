use Rattle.std.proofs.Common.{◌≡◌, true, None}
use Rattle.std.proofs.lemmas.List.Elements.{recursion_from_All}
use Rattle.moka_model.specs.MaintenanceLaws.{behind_the_dead, evicted_within}
use Rattle.moka_model.proofs.Callers.{take-evicted, All-live-behind}
use Rattle.moka_laws.proofs.maintenance_laws.the_dead_leave_first.Goals as goal

pub returns-clause-dead : goal.returns-clause-dead
returns-clause-dead g c weight capacity is_live wins q = take-evicted weight capacity is_live wins q

pub returns-clause-live : goal.returns-clause-live
returns-clause-live g c weight capacity is_live wins q = recursion_from_All (λ x. is_live x ≡ true) (behind_the_dead is_live q (evicted_within weight capacity is_live wins None q)) (All-live-behind weight capacity is_live wins q)
