use Rattle.std.proofs.Common.{◌≡◌, min}
use Rattle.moka_model.specs.Numbers.{greatest_number}
use Rattle.moka_segment_model.specs.Segments.{sum_below}
use Rattle.moka_segmented.specs.SegmentedData.{notices_at}
use Rattle.moka_segmented.proofs.segment.Segmented.notice_count.Given as goal

abbrev pub invariant-loop-index : goal.invariant-loop-index
invariant-loop-index g l = l.count ≡ min (sum_below (notices_at l.fn.self.segments) l.index) greatest_number
