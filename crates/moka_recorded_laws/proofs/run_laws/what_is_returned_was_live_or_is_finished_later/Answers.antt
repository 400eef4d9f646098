use Rattle.moka_recorded_laws.proofs.Between.{finds_live, collects_finished, finishes_after}
use Rattle.moka_recorded_laws.proofs.run_laws.what_is_returned_was_live_or_is_finished_later.Goals as goal

pub returns-clause-found : goal.returns-clause-found
returns-clause-found g c settings steps replies run = finds_live g.K.PartialEq.eq g.V.Clone.is_clone g.V.Clone.is_infallible g.C.CacheTypes.test settings steps replies run

pub returns-clause-collected : goal.returns-clause-collected
returns-clause-collected g c settings steps replies run = collects_finished g.K.PartialEq.eq g.V.Clone.is_clone g.V.Clone.is_infallible g.C.CacheTypes.test settings steps replies run

pub returns-clause-finished : goal.returns-clause-finished
returns-clause-finished g c settings steps replies run = finishes_after g.K.PartialEq.eq g.V.Clone.is_clone g.V.Clone.is_infallible g.C.CacheTypes.test settings steps replies run
