use Rattle.std.proofs.Common.{◌≡◌, ◌+◌, ℕ, List, map, nat_eq}
use Rattle.moka_model.specs.Calls.{Call}
use Rattle.moka_segment_model.specs.Segments.{AllStandFor}
use Rattle.moka_segmented.specs.SegmentedData.{notices_queued}
use Rattle.mokabox_syntax.specs.OutputLine.{output_text}
use Rattle.mokabox_interpreter.specs.Script.{is_copy, Text, CacheSettings}
use Rattle.mokabox_interpreter.specs.Session.{view}
use Rattle.mokabox_interpreter.proofs.SessionLaws.{HasTaken}
use Rattle.mokabox_interpreter.proofs.session.Session.notices.Given as goal

-- so many notices were taken and printed, and the others are left
abbrev pub invariant-loop-notice : goal.invariant-loop-notice
invariant-loop-notice l =
    ((settings : CacheSettings) (steps : List (Call ℕ Text Text)) → AllStandFor nat_eq is_copy settings (view l.initial.self.cache) steps
    → (count : ℕ) × (count + notices_queued l.self.cache.segments ≡ notices_queued l.initial.self.cache.segments) × HasTaken l.self.cache settings steps count (map output_text l.outputs.items))
    × (l.self.moment ≡ l.initial.self.moment)

abbrev pub decreases-loop-notice : goal.decreases-loop-notice
decreases-loop-notice l = notices_queued l.self.cache.segments
