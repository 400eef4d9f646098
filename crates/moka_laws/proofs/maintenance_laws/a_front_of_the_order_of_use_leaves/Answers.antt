use Rattle.moka_laws.proofs.MaintenanceFronts.{maintenance-stays}
use Rattle.moka_laws.proofs.maintenance_laws.a_front_of_the_order_of_use_leaves.Goals as goal

pub returns : goal.returns
returns g c weight capacity is_live wins q = maintenance-stays weight capacity is_live wins q
