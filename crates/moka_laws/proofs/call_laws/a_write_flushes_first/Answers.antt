use Rattle.moka_laws.proofs.CallEvents.{flushes_first}
use Rattle.moka_laws.proofs.call_laws.a_write_flushes_first.Goals as goal

pub returns : goal.returns
returns g c settings steps = flushes_first g.K.PartialEq.eq settings steps
