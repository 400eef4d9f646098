use Rattle.moka_model.proofs.Callers.{legal-fit}
use Rattle.moka_laws.proofs.Tickets.{tickets_match, waits_cover}
use Rattle.moka_laws.proofs.turn_laws.tickets_match_the_waits.Goals as goal

pub returns-clause-unspent : goal.returns-clause-unspent
returns-clause-unspent g c settings steps legal = tickets_match g.K.PartialEq.eq settings steps (legal-fit g.K.PartialEq.eq settings steps legal)

pub returns-clause-spent : goal.returns-clause-spent
returns-clause-spent g c settings steps legal = waits_cover g.K.PartialEq.eq settings steps (legal-fit g.K.PartialEq.eq settings steps legal)
