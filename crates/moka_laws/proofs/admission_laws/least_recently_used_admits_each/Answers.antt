use Rattle.moka_laws.proofs.Admissions.{alone-lru}
use Rattle.moka_laws.proofs.admission_laws.least_recently_used_admits_each.Goals as goal

pub returns : goal.returns
returns g c settings h at capacity w waits lru light = alone-lru g.K.PartialEq.eq settings at h capacity w waits lru light
