use Rattle.moka_laws.proofs.CallSteps.{latest-after}
use Rattle.moka_laws.proofs.call_laws.moments_are_recorded.Goals as goal

pub returns : goal.returns
returns g c settings steps call it is = latest-after g.K.PartialEq.eq settings steps call it is
