-- Where a hash's counters are.
use Rattle.std.proofs.Common.{ℕ, ◌*◌, ◌<◌, ◌≤◌, min, arith}
use Rattle.std.proofs.Math.Pow.{pow_mono}
use Rattle.std.proofs.Math.Nat.{mul-le-mul_right}
use Rattle.std.proofs.lemmas.Nat.{pow_pos}
use Rattle.moka_policy.specs.Frequency.{counter_count}
use Rattle.moka_sketch.specs.Sketch.{place}

-- a row has a counter at least, and there are few
pub counter_count-pos : (bits : ℕ) → 0 < counter_count bits
counter_count-pos bits = pow_pos (min bits 20)

pub counter_count-le : (bits : ℕ) → counter_count bits ≤ 1_048_576
counter_count-le bits = pow_mono {i = min bits 20} {j = 20} (omega arith)

-- the rows before one have so many counters
pub rows-le : (bits row : ℕ) → row < 4 → row * counter_count bits ≤ 3 * counter_count bits
rows-le bits row in_rows = mul-le-mul_right (counter_count bits) (omega arith)

-- a place is in its row
pub place-lt : (bits row hash : ℕ) → row < 4 → place bits row hash < 4 * counter_count bits
place-lt bits row hash in_rows =
    let positive = counter_count-pos bits in
    let before = rows-le bits row in_rows in
    omega (arith, before, positive)
