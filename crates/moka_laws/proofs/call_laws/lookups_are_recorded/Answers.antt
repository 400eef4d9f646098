use Rattle.moka_laws.proofs.CallEvents.{looks-told}
use Rattle.moka_laws.proofs.call_laws.lookups_are_recorded.Goals as goal

pub returns : goal.returns
returns g c settings steps call it is = looks-told g.K.PartialEq.eq settings steps call it is
