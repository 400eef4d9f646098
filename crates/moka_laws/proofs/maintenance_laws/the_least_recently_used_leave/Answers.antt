use Rattle.moka_model.proofs.Callers.{evicted-ones, admitted-ones}
use Rattle.moka_laws.proofs.maintenance_laws.the_least_recently_used_leave.Goals as goal

pub returns-clause-leaving : goal.returns-clause-leaving
returns-clause-leaving g c weight capacity is_live wins q one always = evicted-ones weight one is_live wins always q capacity

pub returns-clause-admitted : goal.returns-clause-admitted
returns-clause-admitted g c weight capacity is_live wins q one always = admitted-ones weight one is_live wins always q capacity
