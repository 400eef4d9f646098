use Rattle.std.proofs.Common.{◌≡◌, ◌-◌, length}
use Rattle.moka_segment_model.specs.Segments.{first_from}
use Rattle.moka_segmented.specs.SegmentedData.{has_notice}
use Rattle.moka_segmented.proofs.segment.Segmented.first_with_notice.Given as goal

-- none before the index has a notice, so the first is the first from there on
abbrev pub invariant-loop-index : goal.invariant-loop-index
invariant-loop-index g l = first_from (has_notice l.fn.self.segments) 0 (length l.fn.self.segments) ≡ first_from (has_notice l.fn.self.segments) l.index (length l.fn.self.segments - l.index)
