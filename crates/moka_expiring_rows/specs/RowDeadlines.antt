-- The deadlines of rows, in the order of the rows. A deadline is listed under the number of its row plus 1, since 0 is
-- no number there.
use Rattle.std.specs.Prelude.{◌≡◌, ℕ, suc, ◌<◌, Bool, true, false, Option, Some, None, List, [], ◌∷◌, ◌++◌, length}
use Rattle.moka_rows.specs.declared.rows.Row.{Row}
use Rattle.moka_rows.specs.Rows.{row_under, without_row}
use Rattle.moka_rows.specs.declared.rows.Order.{Order}
use Rattle.moka_rows.specs.declared.rows.Order.TheVariants.{Admitted, Waiting}

-- The deadline of a row as a list, empty without one.
abbrev pub deadline_in : ℕ → Option ℕ → List (ℕ × ℕ)
deadline_in n None = []
deadline_in n (Some deadline) = (suc n, deadline) ∷ []

-- The deadlines of some rows, in their order.
abbrev pub deadlines_in : {K V : Type 0} → List (ℕ × Row K V) → List (ℕ × ℕ)
deadlines_in [] = []
deadlines_in (p ∷ ps) = deadline_in p.0 p.1.info.deadline ++ deadlines_in ps

-- The deadlines after that of a row was removed, if it had one.
abbrev pub without_deadline : ℕ → Option ℕ → List (ℕ × ℕ) → List (ℕ × ℕ)
without_deadline n None deadlines = deadlines
without_deadline n (Some deadline) deadlines = without_row (suc n) deadlines

-- A deadline can be appended to an order: its number has a place and is not listed yet, and there is room. A row
-- without a deadline needs nothing.
abbrev pub CanStand : ℕ → Option ℕ → ℕ → ℕ → List (ℕ × ℕ) → Type 0
CanStand n None known room order = Unit {0}
CanStand n (Some deadline) known room order = (suc n < known) × (length order < room) × (row_under (suc n) order ≡ None)

-- The number of a listed deadline has a place.
abbrev pub HasPlace : ℕ → Option ℕ → ℕ → Type 0
HasPlace n None known = Unit {0}
HasPlace n (Some deadline) known = suc n < known

-- What is recorded of a row. If no row has had a deadline, this one has none. Its number is below the top.
abbrev pub IsNoted : {K V : Type 0} → Bool → ℕ → ℕ × Row K V → Type 0
IsNoted has_deadlines top p = (has_deadlines ≡ false → p.1.info.deadline ≡ None) × (p.0 < top)

-- Whether an order is that of the resident rows.
abbrev pub is_of_admitted : Order → Bool
is_of_admitted Admitted = true
is_of_admitted Waiting = false
