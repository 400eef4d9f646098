-- How the steps from row to row are counted.
use Rattle.std.specs.Prelude.{ℕ, ◌+◌, ◌-◌, ◌^◌, min}

-- The count after one more step; the greatest `u128` stays as it is.
abbrev pub one_more : ℕ → ℕ
one_more visits = min (visits + 1) (2 ^ 128 - 1)
