-- The hash function that maps a number to itself.
use Rattle.std.specs.Prelude.{ℕ, ◌+◌, ◌*◌, ◌/◌, ◌^◌, List, fold}

-- The hash after one more byte.
abbrev pub byte_hash : ℕ → ℕ → ℕ
byte_hash hash byte = hash / 256 + byte * 2 ^ 56

-- The hash after these bytes, in order.
abbrev pub number_hash : ℕ → List ℕ → ℕ
number_hash hash bytes = fold byte_hash hash bytes
