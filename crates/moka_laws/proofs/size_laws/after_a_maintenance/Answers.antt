use Rattle.moka_model.specs.Events.{Maintained, latest}
use Rattle.moka_model.specs.Admission.{frequency}
use Rattle.moka_model.specs.Orders.{orders}
use Rattle.std.proofs.Common.{None, ◌∷◌}
use Rattle.moka_model.proofs.Callers.{maintained-none_waits, maintained-live, maintained-weighted_size-le, maintained-entry_count-le}
use Rattle.moka_laws.proofs.size_laws.after_a_maintenance.Goals as goal

pub returns-clause-none_waits : goal.returns-clause-none_waits
returns-clause-none_waits g c settings h at = maintained-none_waits g.K.PartialEq.eq settings (frequency settings h) (latest (Maintained None at ∷ h)) (orders g.K.PartialEq.eq settings h)

pub returns-clause-all_live : goal.returns-clause-all_live
returns-clause-all_live g c settings h at k w stands = maintained-live g.K.PartialEq.eq settings g.met.K.Eq.laws h at k w stands

pub returns-clause-within : goal.returns-clause-within
returns-clause-within g c settings h at capacity e = maintained-weighted_size-le g.K.PartialEq.eq settings h at capacity e

pub returns-clause-count : goal.returns-clause-count
returns-clause-count g c settings h at capacity ones e = maintained-entry_count-le g.K.PartialEq.eq settings ones h at capacity e
