use Rattle.moka_laws.proofs.MaintenanceFirst.{parts-first}
use Rattle.moka_laws.proofs.maintenance_laws.those_that_wait_are_judged_one_by_one.Goals as goal

pub returns : goal.returns
returns g c weight capacity is_live wins admitted x xs live live_w fit = parts-first weight capacity is_live wins admitted x xs live live_w fit
