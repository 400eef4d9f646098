use Rattle.moka_laws.proofs.MaintenanceResumed.{parts_left, parts_none_left, leaving_in_turn, after_in_turn}
use Rattle.moka_laws.proofs.maintenance_laws.it_goes_on_where_it_ended.Goals as goal

pub returns-clause-parts : goal.returns-clause-parts
returns-clause-parts g c weight capacity is_live wins q n = parts_left weight capacity is_live wins q n

pub returns-clause-leaving : goal.returns-clause-leaving
returns-clause-leaving g c weight capacity is_live wins limit q = leaving_in_turn weight capacity is_live wins q limit

pub returns-clause-after : goal.returns-clause-after
returns-clause-after g c weight capacity is_live wins limit q = after_in_turn weight capacity is_live wins q limit

pub returns-clause-nothing_to_do : goal.returns-clause-nothing_to_do
returns-clause-nothing_to_do g c weight capacity is_live wins q = parts_none_left weight capacity is_live wins q
