use Rattle.std.proofs.Common.{None, refl}
use Rattle.moka_model.proofs.Callers.{evicted-room, admitted-room}
use Rattle.moka_laws.proofs.maintenance_laws.without_a_capacity.Goals as goal

pub returns-clause-leaving : goal.returns-clause-leaving
returns-clause-leaving g c weight is_live wins q = evicted-room weight None is_live wins q refl

pub returns-clause-admitted : goal.returns-clause-admitted
returns-clause-admitted g c weight is_live wins q = admitted-room weight None is_live wins q refl
