use Rattle.std.proofs.Common.{None, ◌∷◌}
use Rattle.moka_model.specs.Lives.{is_live}
use Rattle.moka_model.specs.Events.{Maintained, latest}
use Rattle.moka_model.specs.Admission.{frequency, wins}
use Rattle.moka_model.specs.Orders.{orders}
use Rattle.moka_laws.proofs.MaintenanceFronts.{maintenance-stays}
use Rattle.moka_laws.proofs.size_laws.a_front_of_the_order_of_use_leaves.Goals as goal

pub returns : goal.returns
returns g c settings h at =
    maintenance-stays (λ w. w.policy_weight) settings.max_capacity (λ w. is_live settings w (latest (Maintained None at ∷ h))) (wins settings (frequency settings h)) (orders g.K.PartialEq.eq settings h)
