-- The hasher that uses a number as it is.
use Rattle.std.specs.Prelude.{ℕ, List, length, nat_le, if◌then◌else◌}
use Rattle.std.specs.Int.{from_le_bytes, w64}

-- The hash after these bytes: the number that the first eight encode, if there are eight, and else the hash before.
abbrev pub hash_after : ℕ → List ℕ → ℕ
hash_after hash bytes = if nat_le 8 (length bytes) then from_le_bytes w64 bytes else hash
