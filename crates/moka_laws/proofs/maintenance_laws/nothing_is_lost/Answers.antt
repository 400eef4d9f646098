use Rattle.moka_model.proofs.Callers.{count-maintenance}
use Rattle.moka_laws.proofs.maintenance_laws.nothing_is_lost.Goals as goal

pub returns : goal.returns
returns g c weight capacity is_live wins limit q test = count-maintenance test weight capacity is_live wins limit q
