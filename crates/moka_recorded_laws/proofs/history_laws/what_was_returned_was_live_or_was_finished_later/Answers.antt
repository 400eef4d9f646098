use Rattle.moka_recorded_laws.specs.HistoryLaws.{steps_of, replies_of}
use Rattle.moka_recorded_laws.specs.RunLaws.{accepted_before}
use Rattle.moka_recorded_laws.proofs.Between.{finds_live, collects_finished, finishes_after}
use Rattle.moka_recorded_laws.proofs.Histories.{finds-kept, collects-kept, finishes-kept}
use Rattle.moka_recorded_laws.proofs.history_laws.what_was_returned_was_live_or_was_finished_later.Goals as goal

pub returns-clause-found : goal.returns-clause-found
returns-clause-found g c settings state history it = finds-kept g.V.Clone.is_clone it.0 history it.3 g.K.PartialEq.eq settings (accepted_before g.K.PartialEq.eq g.C.CacheTypes.test settings (steps_of it.0) (replies_of it.0)) (finds_live g.K.PartialEq.eq g.V.Clone.is_clone g.V.Clone.is_infallible g.C.CacheTypes.test settings _ _ it.1)

pub returns-clause-collected : goal.returns-clause-collected
returns-clause-collected g c settings state history it = collects-kept g.V.Clone.is_clone it.0 history it.3 (collects_finished g.K.PartialEq.eq g.V.Clone.is_clone g.V.Clone.is_infallible g.C.CacheTypes.test settings _ _ it.1)

pub returns-clause-finished : goal.returns-clause-finished
returns-clause-finished g c settings state history it = finishes-kept g.V.Clone.is_clone it.0 history it.3 (finishes_after g.K.PartialEq.eq g.V.Clone.is_clone g.V.Clone.is_infallible g.C.CacheTypes.test settings _ _ it.1)
