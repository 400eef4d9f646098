use Rattle.moka_model.proofs.Callers.{behind_the_dead-append-admitted}
use Rattle.moka_laws.proofs.MaintenanceShortest.{evicted-shortest, admitted-shortest}
use Rattle.moka_laws.proofs.maintenance_laws.the_order_of_use_decides.Goals as goal

pub returns-clause-in_order : goal.returns-clause-in_order
returns-clause-in_order g c weight capacity is_live wins q always light = behind_the_dead-append-admitted weight capacity is_live wins q always light

pub returns-clause-leaving : goal.returns-clause-leaving
returns-clause-leaving g c weight capacity is_live wins q always light = evicted-shortest weight capacity is_live wins q always light

pub returns-clause-admitted : goal.returns-clause-admitted
returns-clause-admitted g c weight capacity is_live wins q always light = admitted-shortest weight capacity is_live wins q always light
