use Rattle.moka_recorded_laws.proofs.Openings.{opens_once}
use Rattle.moka_recorded_laws.proofs.run_laws.a_turn_is_opened_at_one_place.Goals as goal

pub returns : goal.returns
returns g c settings steps replies run = opens_once g.K.PartialEq.eq g.V.Clone.is_clone g.V.Clone.is_infallible g.C.CacheTypes.test settings steps replies run
