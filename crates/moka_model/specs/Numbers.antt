-- Sequence numbers, the size of a cache, and when a write flushes first.
use Rattle.std.specs.Prelude.{ℕ, ◌+◌, ◌-◌, ◌^◌, ◌==◌, Bool, false, nat_le, Option, Some, None, List, [], ◌∷◌, ◌++◌, length}
use Rattle.moka_model.specs.Maintenance.{total}
use Rattle.moka_model.specs.Lives.{Settings, Write}
use Rattle.moka_model.specs.Events.{Event, Written, Drawn}
use Rattle.moka_model.specs.Orders.{orders}

-- How many sequence numbers an event draws: a write and a `Drawn` draw one each.
abbrev pub drawn : {K V : Type 0} → Event K V → ℕ
drawn (Written k v at) = 1
drawn Drawn = 1
drawn e = 0

abbrev pub drawn_in : {K V : Type 0} → List (Event K V) → ℕ  -- How many sequence numbers some events draw.
drawn_in [] = 0
drawn_in (e ∷ h) = drawn_in h + drawn e

-- The sequence number that is drawn next: the first one plus the number of draws so far.
abbrev pub next_number : {K V : Type 0} → Settings K V → List (Event K V) → ℕ
next_number settings [] = settings.first_number
next_number settings (e ∷ h) = next_number settings h + drawn e

abbrev pub greatest_number : ℕ  -- The greatest sequence number. If it is next, no further number can be drawn.
greatest_number = 2 ^ 64 - 1

abbrev pub stores_nothing : Option ℕ → Bool  -- Whether a cache stores nothing: exactly if its capacity is 0.
stores_nothing None = false
stores_nothing (Some capacity) = capacity == 0

abbrev pub flush_point : ℕ  -- A write that finds this many entries pending, or more, flushes first.
flush_point = 64

module _ {K V : Type 0} (eq : K → K → Bool) (settings : Settings K V) (h : List (Event K V)) where
  -- Whether a write has to flush first: `flush_point` or more entries are pending, live or not.
  abbrev pub is_flush_due : Bool
  is_flush_due = nat_le flush_point (length (orders eq settings h).waiting)

  abbrev pub all_standing : List (Write K V)  -- All stored entries, the residents first.
  all_standing = (orders eq settings h).admitted ++ (orders eq settings h).waiting

  abbrev pub entry_count : ℕ  -- How many entries are stored, resident or pending, live or not.
  entry_count = length all_standing

  abbrev pub weighted_size : ℕ  -- The total weight of all stored entries.
  weighted_size = total (λ w. w.policy_weight) all_standing
