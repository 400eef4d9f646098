use Rattle.moka_laws.proofs.Ends.{moves_show}
use Rattle.moka_laws.proofs.turn_laws.moves_show_in_calls_and_answers.Goals as goal

pub returns : goal.returns
returns g c settings steps legal = moves_show g.K.PartialEq.eq settings steps legal
