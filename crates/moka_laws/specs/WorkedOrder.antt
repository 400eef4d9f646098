-- Events and queues of the worked cases of the two orders. Keys and values are numbers.
use Rattle.std.specs.Prelude.{ℕ, None, List, [], ◌∷◌}
use Rattle.moka_model.specs.Maintenance.{Queues}
use Rattle.moka_model.specs.Lives.{Write, after_write}
use Rattle.moka_model.specs.Events.{Event, Looked, Written, Invalidated}
use Rattle.moka_laws.specs.Worked.{without_lives}

-- Three keys are written,
abbrev pub three_come : List (Event ℕ ℕ)
three_come = Written 3 30 2 ∷ Written 2 20 1 ∷ Written 1 10 0 ∷ []

-- the first is overwritten,
abbrev pub first_again : List (Event ℕ ℕ)
first_again = Written 1 11 3 ∷ three_come

-- the second is looked up,
abbrev pub second_hit : List (Event ℕ ℕ)
second_hit = Looked 2 4 ∷ first_again

-- the first is removed,
abbrev pub first_removed : List (Event ℕ ℕ)
first_removed = Invalidated 1 5 ∷ second_hit

-- and it is written anew.
abbrev pub first_anew : List (Event ℕ ℕ)
first_anew = Written 1 12 6 ∷ first_removed

-- The entry that a write of a new key creates.
abbrev pub newly : ℕ → ℕ → ℕ → Write ℕ ℕ
newly k v at = after_write without_lives k v at None

-- Three resident entries, the least recently used first, and a pending fourth.
abbrev pub three_admitted : Queues (Write ℕ ℕ)
three_admitted = record { admitted = newly 1 10 0 ∷ newly 2 20 1 ∷ newly 3 30 2 ∷ []; waiting = newly 4 40 3 ∷ [] }
