use Rattle.moka_recorded_laws.proofs.Openings.{opens_once}
use Rattle.moka_recorded_laws.proofs.Histories.{opens-kept, in-one-pass}
use Rattle.moka_recorded_laws.proofs.history_laws.a_turn_is_opened_in_one_pass.Goals as goal

pub returns-clause-place : goal.returns-clause-place
returns-clause-place g c settings state history it = opens-kept g.V.Clone.is_clone it.0 history it.3 (opens_once g.K.PartialEq.eq g.V.Clone.is_clone g.V.Clone.is_infallible g.C.CacheTypes.test settings _ _ it.1)

pub returns-clause-pass : goal.returns-clause-pass
returns-clause-pass g c settings state log it = in-one-pass log (opens-kept g.V.Clone.is_clone it.0 _ it.3 (opens_once g.K.PartialEq.eq g.V.Clone.is_clone g.V.Clone.is_infallible g.C.CacheTypes.test settings _ _ it.1))
