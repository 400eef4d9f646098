use Rattle.moka_laws.proofs.CallSteps.{one_moment}
use Rattle.moka_laws.proofs.call_laws.a_step_is_at_one_moment.Goals as goal

pub returns : goal.returns
returns g c settings steps call it is = one_moment g.K.PartialEq.eq settings steps call it is
