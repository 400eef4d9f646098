-- Rows with their numbers, in an order.
use Rattle.std.specs.Prelude.{◌≡◌, ℕ, ◌+◌, ◌≤◌, ◌==◌, Bool, true, false, ◌&&◌, ◌||◌, if◌then◌else◌, List, [], ◌∷◌, ◌++◌, filter, not, max}
use Rattle.std.specs.Prelude.{Option, Some, None, MatchOption}
use Rattle.std.specs.Arc.{arc_value}
use Rattle.std.specs.List.{AllByRecursion}
use Rattle.moka_model.specs.declared.notification.RemovalCause.{RemovalCause}
use Rattle.moka_model.specs.declared.notification.RemovalCause.TheVariants.{Expired, Explicit}
use Rattle.moka_model.specs.Lives.{has_come}
use Rattle.moka_rows.specs.declared.rows.Row.{Row}
use Rattle.moka_rows.specs.declared.rows.EntryInfo.{EntryInfo}
use Rattle.moka_rows.specs.declared.rows.Access.{Access}
use Rattle.moka_rows.specs.declared.rows.Order.{Order}
use Rattle.moka_rows.specs.declared.rows.Order.TheVariants.{Admitted, Waiting}

-- The first row with a number.
abbrev pub row_under : {R : Type 0} → ℕ → List (ℕ × R) → Option R
row_under n [] = None
row_under n (p ∷ ps) = if p.0 == n then Some p.1 else row_under n ps

-- The rows after a change of the first one with a number.
abbrev pub with_row : {R : Type 0} → ℕ → (R → R) → List (ℕ × R) → List (ℕ × R)
with_row n change [] = []
with_row n change (p ∷ ps) = if p.0 == n then (p.0, change p.1) ∷ ps else p ∷ with_row n change ps

-- The rows without the first one with a number.
abbrev pub without_row : {R : Type 0} → ℕ → List (ℕ × R) → List (ℕ × R)
without_row n [] = []
without_row n (p ∷ ps) = if p.0 == n then ps else p ∷ without_row n ps

-- A row was changed by an access: a resident one became the most recently used, and a pending one kept its place.
abbrev pub AccessesRow : {R : Type 0} → ℕ → (R → R) → List (ℕ × R) → List (ℕ × R) → List (ℕ × R) → List (ℕ × R) → Type 0
AccessesRow n change admitted waiting admitted' waiting' = MatchOption (row_under n admitted)
    ((admitted' ≡ admitted) × (waiting' ≡ with_row n change waiting))
    (λ row. (admitted' ≡ without_row n admitted ++ (n, change row) ∷ []) × (waiting' ≡ waiting))

-- A row was removed from its order.
abbrev pub RemovesRow : {R : Type 0} → ℕ → List (ℕ × R) → List (ℕ × R) → List (ℕ × R) → List (ℕ × R) → Type 0
RemovesRow n admitted waiting admitted' waiting' = MatchOption (row_under n admitted)
    ((admitted' ≡ admitted) × (waiting' ≡ without_row n waiting))
    (λ _. (admitted' ≡ without_row n admitted) × (waiting' ≡ waiting))

-- The other one of the two orders.
abbrev pub other : Order → Order
other Admitted = Waiting
other Waiting = Admitted

-- The order of a stored row: it is resident if its number is among the resident rows, and else pending.
abbrev pub IsOrderOf : {R : Type 0} → ℕ → List (ℕ × R) → Order → Type 0
IsOrderOf n admitted order = MatchOption (row_under n admitted) (order ≡ Waiting) (λ _. order ≡ Admitted)

-- The metadata of a value after an access.
abbrev pub used_at : Access → EntryInfo → EntryInfo
used_at touch info = record info { last_accessed = touch.last_accessed; own_life = touch.own_life; deadline = touch.deadline }

-- The metadata of a value that was written at a moment, has no lifetime of its own and never expires.
abbrev pub written : ℕ → ℕ → EntryInfo
written weight at = record {
  last_modified = at;
  last_accessed = at;
  own_life = None;
  deadline = None;
  policy_weight = weight;
  is_hidden = false;
}

-- The cause of a removal of a value at a moment: `Explicit` if it is invalidated, `Expired` if its deadline has come,
-- and else the cause of the call.
abbrev pub cause_at : RemovalCause → EntryInfo → ℕ → RemovalCause
cause_at own info at = if info.is_hidden then Explicit else (if has_come info.deadline at then Expired else own)

module _ {K V : Type 0} where
  -- The row after an access.
  abbrev pub touched : Access → Row K V → Row K V
  touched touch row = record row { info = used_at touch row.info }

  -- The row after an overwrite.
  abbrev pub overwritten : V → EntryInfo → Row K V → Row K V
  overwritten value info row = record row { value = value; info = info }

  -- The row after it was invalidated.
  abbrev pub hidden : Row K V → Row K V
  hidden row = record row { info = record row.info { is_hidden = true } }

  -- An access at a moment after which the value has no lifetime of its own and never expires.
  abbrev pub plain_access : ℕ → Row K V → Access
  plain_access at row = record { last_accessed = max row.info.last_accessed at; own_life = None; deadline = None }

  -- No row has a deadline.
  abbrev pub AreUndated : List (ℕ × Row K V) → Type 0
  AreUndated rows = AllByRecursion (λ p. p.1.info.deadline ≡ None) rows

  -- Whether a row is expired at a moment: its deadline has come.
  abbrev pub is_expired : ℕ → ℕ × Row K V → Bool
  is_expired at p = has_come p.1.info.deadline at

  -- The rows that are expired at a moment, in their order.
  abbrev pub expired_at : ℕ → List (ℕ × Row K V) → List (ℕ × Row K V)
  expired_at at rows = filter (is_expired at) rows

  -- Whether a row is dead at a moment: it is invalidated or expired.
  abbrev pub is_dead : ℕ → ℕ × Row K V → Bool
  is_dead at p = p.1.info.is_hidden || has_come p.1.info.deadline at

  -- The rows that are dead at a moment, in their order.
  abbrev pub dead_at : ℕ → List (ℕ × Row K V) → List (ℕ × Row K V)
  dead_at at rows = filter (is_dead at) rows

  -- The rows that are not dead at a moment, in their order.
  abbrev pub living_at : ℕ → List (ℕ × Row K V) → List (ℕ × Row K V)
  living_at at rows = filter (λ p. not (is_dead at p)) rows

  -- Whether a row has this hash and a key that is equal to this one.
  abbrev pub is_row_of : (K → K → Bool) → K → ℕ → Row K V → Bool
  is_row_of eq key hash row = (row.hash == hash) && eq (arc_value row.key) key

-- The row has this hash and a key that is equal to this one.
abbrev pub IsRowOf : {K V : Type 0} → (K → K → Bool) → K → ℕ → Row K V → Type 0
IsRowOf eq key hash row = is_row_of eq key hash row ≡ true

-- No row has this hash and a key that is equal to this one.
abbrev pub NoneIsRowOf : {K V : Type 0} → (K → K → Bool) → K → ℕ → List (ℕ × Row K V) → Type 0
NoneIsRowOf eq key hash rows = filter (λ p. is_row_of eq key hash p.1) rows ≡ []

-- The number of the first row, if there is one.
abbrev pub first_number : {R : Type 0} → List (ℕ × R) → Option ℕ
first_number [] = None
first_number (p ∷ ps) = Some p.0

-- The number of the row after the first one with a number, if there is one.
abbrev pub number_after : {R : Type 0} → ℕ → List (ℕ × R) → Option ℕ
number_after n [] = None
number_after n (p ∷ ps) = if p.0 == n then first_number ps else number_after n ps

-- The new rows are the old ones without the first, which is the result; without rows there is no result.
abbrev pub TakesFirst : {R : Type 0} → Option R → List (ℕ × R) → List (ℕ × R) → Type 0
TakesFirst None old new = (old ≡ []) × (new ≡ [])
TakesFirst (Some row) old new = (number : ℕ) × (old ≡ (number, row) ∷ new)

-- How many rows have a number.
abbrev pub count_under : {R : Type 0} → ℕ → List (ℕ × R) → ℕ
count_under n [] = 0
count_under n (p ∷ ps) = (if p.0 == n then 1 else 0) + count_under n ps

-- No two rows have the same number.
abbrev pub NumbersDiffer : {R : Type 0} → List (ℕ × R) → Type 0
NumbersDiffer rows = (n : ℕ) → count_under n rows ≤ 1
