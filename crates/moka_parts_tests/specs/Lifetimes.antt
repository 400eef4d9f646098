-- The lifetimes that closures of the tests give.
use Rattle.std.specs.Prelude.{ℕ, ◌*◌, Some, None}
use Rattle.moka_model.specs.Lives.{Lifetimes}

-- As many seconds as the value says at its creation. An access does not change the end, and an update ends it.
abbrev pub in_seconds : Lifetimes ℕ ℕ
in_seconds = record {
  created = λ key seconds at. Some (seconds * 1_000_000_000);
  read = λ key seconds at rest written. rest;
  updated = λ key seconds at rest. None;
}
