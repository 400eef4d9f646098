use Rattle.std.proofs.Common.{◌≡◌, ℕ, ◌<◌, length}
use Rattle.moka_recording.specs.Receipts.{HasNumber}
use Rattle.moka_recording.proofs.recorded.are_all_passes.Given as goal

abbrev pub invariant-loop-number : goal.invariant-loop-number
invariant-loop-number g l = (length l.passes ≡ l.count) × ((n : ℕ) → n < l.number → HasNumber l.passes n)
