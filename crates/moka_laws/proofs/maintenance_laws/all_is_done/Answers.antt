use Rattle.std.proofs.Common.{◌≡◌, true, None, ap}
use Rattle.std.proofs.lemmas.List.Elements.{recursion_from_All}
use Rattle.moka_model.specs.MaintenanceLaws.{after_within}
use Rattle.moka_model.proofs.Callers.{after-parts, All-live-after, total-after-le}
use Rattle.moka_laws.proofs.maintenance_laws.all_is_done.Goals as goal

pub returns-clause-none_waits : goal.returns-clause-none_waits
returns-clause-none_waits g c weight capacity is_live wins q = ap (λ after. after.waiting) (after-parts weight capacity is_live wins q)

pub returns-clause-all_live : goal.returns-clause-all_live
returns-clause-all_live g c weight capacity is_live wins q = recursion_from_All (λ x. is_live x ≡ true) (after_within weight capacity is_live wins None q).admitted (All-live-after weight capacity is_live wins q)

pub returns-clause-within : goal.returns-clause-within
returns-clause-within g c weight capacity is_live wins q = total-after-le weight capacity is_live wins q
