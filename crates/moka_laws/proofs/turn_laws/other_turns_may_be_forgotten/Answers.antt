use Rattle.moka_laws.proofs.HeldTurns.{held_suffice}
use Rattle.moka_laws.proofs.turn_laws.other_turns_may_be_forgotten.Goals as goal

pub returns : goal.returns
returns g c settings steps legal = held_suffice g.K.PartialEq.eq settings steps legal
