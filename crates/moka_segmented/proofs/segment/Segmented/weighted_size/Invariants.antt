use Rattle.std.proofs.Common.{◌≡◌, min}
use Rattle.moka_model.specs.Numbers.{greatest_number}
use Rattle.moka_segment_model.specs.Segments.{sum_below}
use Rattle.moka_segmented.specs.SegmentedData.{weight_at}
use Rattle.moka_segmented.proofs.segment.Segmented.weighted_size.Given as goal

abbrev pub invariant-loop-index : goal.invariant-loop-index
invariant-loop-index g l = l.weight ≡ min (sum_below (weight_at l.fn.self.segments) l.index) greatest_number
