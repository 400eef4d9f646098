-- The lifetimes that the closures of the worked cases give, in nanoseconds. Keys and values are numbers.
use Rattle.std.specs.Prelude.{◌≡◌, ℕ, ◌-◌, Option, Some, None, option_map}
use Rattle.std.specs.Duration.{as_nanos}
use Rattle.std.specs.declared.time.Duration.{Duration}
use Rattle.moka_model.specs.Lives.{Lifetimes}

-- As long as the moment's number; after a lookup as long as the value's age.
abbrev pub by_moments : Lifetimes ℕ ℕ
by_moments = record {
  created = λ k v at. Some at;
  read = λ k v at left written. Some (at - written);
  updated = λ k v at left. Some at;
}

-- The rest of the lifetime, and none at creation.
abbrev pub by_rest : Lifetimes ℕ ℕ
by_rest = record {
  created = λ k v at. None;
  read = λ k v at left written. left;
  updated = λ k v at left. left;
}

-- Three lifetimes are these, in nanoseconds: those of a creation, a lookup and an update.
abbrev pub AreLives : Option Duration × Option Duration × Option Duration → Option ℕ → Option ℕ → Option ℕ → Type 0
AreLives lives created read updated =
    (option_map as_nanos lives.0 ≡ created) × (option_map as_nanos lives.1 ≡ read) × (option_map as_nanos lives.2 ≡ updated)
