use Rattle.moka_laws.proofs.Written.{get-finished}
use Rattle.moka_laws.proofs.laws.get_after_finish.Goals as goal

pub returns : goal.returns
returns g c settings steps name q v at now same le stores live idle own some = get-finished g.K.PartialEq.eq settings g.met.K.Eq.laws name q v at now same steps le stores live idle own some
