use Rattle.moka_laws.proofs.Deadlines.{is_expired-ended}
use Rattle.moka_laws.proofs.laws.expired_where_a_life_has_ended.Goals as goal

pub returns : goal.returns
returns g c settings w at = is_expired-ended settings w at
