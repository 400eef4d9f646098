use Rattle.moka_laws.proofs.CallEvents.{finish_tells}
use Rattle.moka_laws.proofs.turn_laws.a_finish_tells_what_its_write_replaced.Goals as goal

pub returns : goal.returns
returns g c settings steps = finish_tells g.K.PartialEq.eq settings steps
