use Rattle.moka_model.proofs.Callers.{admitted-le, waiting-le, entry_count-le}
use Rattle.moka_laws.proofs.size_laws.the_size_stays_bounded.Goals as goal

pub returns-clause-admitted : goal.returns-clause-admitted
returns-clause-admitted g c settings h capacity ones e = admitted-le g.K.PartialEq.eq settings ones h capacity e

pub returns-clause-waiting : goal.returns-clause-waiting
returns-clause-waiting g c settings steps whole legal = waiting-le g.K.PartialEq.eq settings whole steps legal

pub returns-clause-all : goal.returns-clause-all
returns-clause-all g c settings steps capacity ones some e legal = entry_count-le g.K.PartialEq.eq settings ones some steps capacity e legal
