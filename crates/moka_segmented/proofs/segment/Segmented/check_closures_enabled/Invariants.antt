use Rattle.std.proofs.Common.{◌≡◌, ℕ, ◌<◌, true, IfSome}
use Rattle.std.specs.Arc.{arc_value}
use Rattle.std.specs.List.{slice_get}
use Rattle.moka_segmented.specs.SegmentedData.{AllHashBy, data_of}
use Rattle.moka_segmented.proofs.segment.Segmented.check_closures_enabled.Given as goal

-- nothing has changed, and each before the index supports closures
abbrev pub invariant-loop-index : goal.invariant-loop-index
invariant-loop-index g l = record {
  bits : l.self-inside.bits ≡ l.fn.self.bits;
  settings : data_of l.self-inside.settings ≡ l.fn.self.settings;
  hashed : AllHashBy (arc_value l.self-inside.settings.hasher) l.self-inside.segments.items;
  same : l.self-inside.segments.items ≡ l.fn.self.segments;
  supported : (i : ℕ) → i < l.index → IfSome (slice_get l.fn.self.segments i) (λ state. state.settings.supports_closures ≡ true);
}
