-- Settings and events of the worked cases of a bounded size. Keys and values are numbers.
use Rattle.std.specs.Prelude.{ℕ, nat_eq, zero, suc, Some, None, List, [], ◌∷◌, ◌++◌}
use Rattle.moka_model.specs.declared.notification.RemovalCause.TheVariants.{Size}
use Rattle.moka_model.specs.Lives.{Settings}
use Rattle.moka_model.specs.Events.{Event, Looked, Written, Maintained}
use Rattle.moka_model.specs.Removals.{Removal}
use Rattle.moka_model.specs.Calls.{write_events}
use Rattle.moka_laws.specs.Worked.{seconds, without_lives, left_as}

-- A capacity under LRU, without TTL and TTI.
abbrev pub at_capacity : ℕ → Settings ℕ ℕ
at_capacity capacity = record without_lives { max_capacity = Some capacity }

-- A TTL of 10 s, at a capacity of 10.
abbrev pub ten_to_live_at_ten : Settings ℕ ℕ
ten_to_live_at_ten = record without_lives { time_to_live = Some (seconds 10); max_capacity = Some 10 }

-- Two keys are written and admitted, the first is hit, and a third is written.
abbrev pub third_comes : List (Event ℕ ℕ)
third_comes = Written 3 30 4 ∷ Looked 1 3 ∷ Maintained None 2 ∷ Written 2 20 1 ∷ Written 1 10 0 ∷ []

-- Two keys are written, hit and admitted; a third is written, hit and admitted; and the first two are hit again.
abbrev pub three_used : List (Event ℕ ℕ)
three_used =
    Maintained None 10 ∷ Looked 2 9 ∷ Looked 1 8 ∷ Maintained None 7 ∷ Looked 3 6 ∷ Written 3 30 5 ∷ Maintained None 4 ∷ Looked 2 3
    ∷ Looked 1 2 ∷ Written 2 20 1 ∷ Written 1 10 0 ∷ []

-- And a fourth is written.
abbrev pub fourth_comes : List (Event ℕ ℕ)
fourth_comes = Written 4 40 11 ∷ three_used

-- The events of writing the value 7 to the key 1 at moment 0, at a capacity of 0.
abbrev pub skipped : List (Event ℕ ℕ)
skipped = write_events nat_eq (at_capacity 0) 1 7 0 []

-- The keys from 1 to `n` are written, in order.
abbrev pub all_come : ℕ → List (Event ℕ ℕ)
all_come zero = []
all_come (suc n) = Written (suc n) (suc n) 0 ∷ all_come n

-- The write of key 65 after the first 64, at a capacity of 10.
abbrev pub after_65 : List (Event ℕ ℕ)
after_65 = write_events nat_eq (at_capacity 10) 65 65 1 (all_come 64) ++ all_come 64

-- The removals of the keys from 1 to `n` for size, in order.
abbrev pub all_left : ℕ → List (Removal ℕ ℕ)
all_left zero = []
all_left (suc n) = all_left n ++ left_as (suc n) (suc n) Size ∷ []
