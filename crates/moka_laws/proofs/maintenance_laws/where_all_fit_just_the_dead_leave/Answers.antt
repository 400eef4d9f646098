use Rattle.std.proofs.Common.{◌+◌, Some, arith}
use Rattle.std.proofs.lemmas.Bool.{le-leb}
use Rattle.moka_model.specs.Maintenance.{total}
use Rattle.moka_model.specs.MaintenanceLaws.{the_living}
use Rattle.moka_model.proofs.Callers.{evicted-room, admitted-room}
use Rattle.moka_laws.proofs.maintenance_laws.where_all_fit_just_the_dead_leave.Goals as goal

pub returns-clause-leaving : goal.returns-clause-leaving
returns-clause-leaving g c weight capacity is_live wins q room = evicted-room weight (Some capacity) is_live wins q (le-leb (0 + total weight (the_living is_live q)) capacity (omega arith))

pub returns-clause-admitted : goal.returns-clause-admitted
returns-clause-admitted g c weight capacity is_live wins q room = admitted-room weight (Some capacity) is_live wins q (le-leb (0 + total weight (the_living is_live q)) capacity (omega arith))
