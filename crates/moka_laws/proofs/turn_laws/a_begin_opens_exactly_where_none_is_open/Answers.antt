use Rattle.moka_laws.proofs.Begins.{opens_exactly, computes_exactly, finds_acceptable}
use Rattle.moka_laws.proofs.turn_laws.a_begin_opens_exactly_where_none_is_open.Goals as goal

pub returns-clause-initializers : goal.returns-clause-initializers
returns-clause-initializers g c settings steps = opens_exactly g.K.PartialEq.eq settings steps

pub returns-clause-computes : goal.returns-clause-computes
returns-clause-computes g c settings steps = computes_exactly g.K.PartialEq.eq settings steps

pub returns-clause-finds : goal.returns-clause-finds
returns-clause-finds g c settings steps = finds_acceptable g.K.PartialEq.eq settings steps
