use Rattle.moka_housekeeper.proofs.VisitLaws.{visits-none}
use Rattle.moka_housekeeper.proofs.visit_laws.nothing_to_do_takes_no_step.Goals as goal

pub returns : goal.returns
returns g c is_lru frequency_of capacity at table none shown fit = visits-none is_lru frequency_of capacity at table none shown fit
