use Rattle.moka_laws.proofs.OwnLives.{own-none}
use Rattle.moka_laws.proofs.own_life_laws.without_an_expiry_no_value_has_its_own_life.Goals as goal

pub returns : goal.returns
returns g c settings h k w none stands = own-none g.K.PartialEq.eq settings g.met.K.Eq.laws none k h w stands
