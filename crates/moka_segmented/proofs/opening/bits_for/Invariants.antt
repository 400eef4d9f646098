use Rattle.std.proofs.Common.{◌≡◌, ◌-◌}
use Rattle.moka_segment_model.specs.Segments.{first_from}
use Rattle.moka_segment_model.proofs.Callers.{enough}
use Rattle.moka_segmented.proofs.opening.bits_for.Given as goal

-- none before are enough, so the first that are is the first from there on
abbrev pub invariant-loop-bits : goal.invariant-loop-bits
invariant-loop-bits l = first_from (enough l.fn.segments) 0 63 ≡ first_from (enough l.fn.segments) l.bits (63 - l.bits)
