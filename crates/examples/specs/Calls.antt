-- The weight and the lifetime of a name.
use Rattle.std.specs.Prelude.{ℕ, min, length, Some, String}
use Rattle.std.specs.String.{string_bytes}
use Rattle.std.specs.declared.alloc.Global.{Global}
use Rattle.moka.specs.Lives.{Lifetimes}

-- the weight of a name: its length in bytes, at most the greatest weight
abbrev pub length_of : ℕ → String Global → ℕ
length_of key name = min (length (string_bytes name)) 4_294_967_295

-- a name lives one minute from each write; an access leaves its lifetime unchanged
abbrev pub a_minute : Lifetimes ℕ (String Global)
a_minute = record {
  created = λ key name at. Some 60_000_000_000;
  read = λ key name at rest written. rest;
  updated = λ key name at rest. Some 60_000_000_000;
}
