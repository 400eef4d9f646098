use Rattle.moka_model.specs.Lives.{deadline}
use Rattle.moka_laws.proofs.Deadlines.{latest-more, has_come-later, dead-later, dead_stays, looks-missed}
use Rattle.moka_laws.proofs.laws.expiry_is_final.Goals as goal

pub returns-clause-latest : goal.returns-clause-latest
returns-clause-latest g c later h = latest-more later h

pub returns-clause-deadline : goal.returns-clause-deadline
returns-clause-deadline g c settings w at later le gone = has_come-later (deadline settings w) at later le gone

pub returns-clause-dead : goal.returns-clause-dead
returns-clause-dead g c settings w at later le gone = dead-later settings w at later le gone

pub returns-clause-stays : goal.returns-clause-stays
returns-clause-stays g c settings later h k w stands gone u = dead_stays g.K.PartialEq.eq settings k later h w stands gone u

pub returns-clause-missed : goal.returns-clause-missed
returns-clause-missed g c settings later steps k at now missed u = looks-missed g.K.PartialEq.eq settings k later steps at now missed u
