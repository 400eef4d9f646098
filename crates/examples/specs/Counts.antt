-- The counts of page visits.
use Rattle.std.specs.Prelude.{ℕ, ◌+◌, ◌-◌, ◌^◌, min, Option, Some, None, List, option_map, nat_eq}
use Rattle.moka.specs.Lives.{Settings}
use Rattle.moka.specs.Steps.{AcceptedStep, events_in}
use Rattle.moka.specs.Calls.{live_at}

-- the count that is stored, or 0 if there is none
abbrev pub count_of : Option ℕ → ℕ
count_of None = 0
count_of (Some count) = count

-- the count plus one; the greatest `u64` stays
abbrev pub one_more_than : ℕ → ℕ
one_more_than count = min (count + 1) (2 ^ 64 - 1)

-- how often a page was counted: its live count at a moment, after these steps
abbrev pub live_count : {E : Type 0} → Settings ℕ ℕ → List (AcceptedStep ℕ ℕ E) → ℕ → ℕ → ℕ
live_count settings steps page at = count_of (option_map (λ w. w.value) (live_at nat_eq settings page at (events_in steps)))
