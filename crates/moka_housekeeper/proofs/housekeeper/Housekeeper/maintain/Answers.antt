use Rattle.std.proofs.Common.{refl}
use Rattle.moka_housekeeper.proofs.Whole.{no-part-left}
use Rattle.moka_housekeeper.proofs.housekeeper.Housekeeper.maintain.Goals as goal

pub returns-clause-maintained : goal.returns-clause-maintained
returns-clause-maintained g c dated = no-part-left (c.maintain_up_to.ensures.maintained dated) (c.maintain_up_to.ensures.unlimited refl)
