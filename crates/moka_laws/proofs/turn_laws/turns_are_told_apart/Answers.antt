use Rattle.moka_model.proofs.Callers.{legal-fit, one_is_open}
use Rattle.moka_laws.proofs.Begins.{numbers_name}
use Rattle.moka_laws.proofs.turn_laws.turns_are_told_apart.Goals as goal

pub returns-clause-numbers : goal.returns-clause-numbers
returns-clause-numbers g c settings steps legal = numbers_name g.K.PartialEq.eq settings steps (legal-fit g.K.PartialEq.eq settings steps legal)

pub returns-clause-one_open : goal.returns-clause-one_open
returns-clause-one_open g c settings steps legal = one_is_open g.K.PartialEq.eq settings g.met.K.Eq.laws steps (legal-fit g.K.PartialEq.eq settings steps legal)
