use Rattle.moka_housekeeper.proofs.VisitLaws.{visits-few}
use Rattle.moka_housekeeper.proofs.visit_laws.steps_are_for_rows_that_wait_or_leave.Goals as goal

pub returns : goal.returns
returns g c is_lru frequency_of capacity at table = visits-few is_lru frequency_of capacity at table
