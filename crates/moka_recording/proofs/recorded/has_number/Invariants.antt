use Rattle.std.proofs.Common.{◌≡◌, ℕ, ◌<◌, Some}
use Rattle.std.specs.Prelude.{slice_get}
use Rattle.moka_recording.proofs.recorded.has_number.Given as goal

abbrev pub invariant-loop-pass : goal.invariant-loop-pass
invariant-loop-pass g l = (k : ℕ) (p : _) → k < l.pass-index → slice_get l.passes k ≡ Some p → ¬ (p.number ≡ l.number)
