-- What the memoizer computes.
use Rattle.std.specs.Prelude.{ℕ, ◌+◌, ◌*◌, ◌/◌}

-- the sum of the numbers from 1 to n
abbrev pub triangle : ℕ → ℕ
triangle n = n * (n + 1) / 2
