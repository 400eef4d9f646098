use Rattle.moka_laws.proofs.Names.{by_name}
use Rattle.moka_laws.proofs.hiding_laws.tests_and_names_alone_are_refused.Goals as goal

pub returns-clause-others : goal.returns-clause-others
returns-clause-others g c settings steps call none = by_name g.K.PartialEq.eq settings steps call none
