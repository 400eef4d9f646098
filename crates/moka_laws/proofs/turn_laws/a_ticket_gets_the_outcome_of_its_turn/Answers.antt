use Rattle.moka_model.proofs.Callers.{legal-fit}
use Rattle.moka_laws.proofs.Outcomes.{collects_give}
use Rattle.moka_laws.proofs.Ends.{ends_once}
use Rattle.moka_laws.proofs.turn_laws.a_ticket_gets_the_outcome_of_its_turn.Goals as goal

pub returns-clause-collects : goal.returns-clause-collects
returns-clause-collects g c settings steps legal = collects_give g.K.PartialEq.eq settings steps (legal-fit g.K.PartialEq.eq settings steps legal)

pub returns-clause-once : goal.returns-clause-once
returns-clause-once g c settings steps legal = ends_once g.K.PartialEq.eq settings steps (legal-fit g.K.PartialEq.eq settings steps legal)
