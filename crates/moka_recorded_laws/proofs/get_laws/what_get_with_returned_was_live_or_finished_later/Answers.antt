use Rattle.moka_recording.specs.Receipts.{pairs}
use Rattle.moka_recorded_laws.specs.HistoryLaws.{steps_of, replies_of}
use Rattle.moka_recorded_laws.specs.RunLaws.{accepted_before}
use Rattle.moka_recorded_laws.proofs.Between.{finds_live, collects_finished}
use Rattle.moka_recorded_laws.proofs.Histories.{finds-kept, collects-kept}
use Rattle.moka_recorded_laws.proofs.Passes as passes
use Rattle.moka_recorded_laws.proofs.get_laws.what_get_with_returned_was_live_or_finished_later.Goals as goal

pub returns : goal.returns
returns g c init settings state log it =
    passes.returns g.K.PartialEq.eq g.V.Clone.is_clone settings (accepted_before g.K.PartialEq.eq g.C.CacheTypes.test settings (steps_of it.0) (replies_of it.0)) log g.C.CacheTypes.keeps _
    (finds-kept g.V.Clone.is_clone it.0 (pairs log) it.3 g.K.PartialEq.eq settings (accepted_before g.K.PartialEq.eq g.C.CacheTypes.test settings (steps_of it.0) (replies_of it.0)) (finds_live g.K.PartialEq.eq g.V.Clone.is_clone g.V.Clone.is_infallible g.C.CacheTypes.test settings _ _ it.1))
    (collects-kept g.V.Clone.is_clone it.0 (pairs log) it.3 (collects_finished g.K.PartialEq.eq g.V.Clone.is_clone g.V.Clone.is_infallible g.C.CacheTypes.test settings _ _ it.1))
