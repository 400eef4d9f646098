-- Lookups of live values: which row they find, and the entry that they return.
use Rattle.std.specs.Prelude.{◌≡◌, ◌⊎◌, ℕ, Bool, true, false, Option, Some, None, List}
use denote.Ref.{Bor}
use Rattle.std.specs.Arc.{arc_value}
use Rattle.std.specs.Fn.{CalledAt, Mut, TakesAt}
use Rattle.moka_model.specs.Calls.{Entry}
use Rattle.moka_rows.specs.declared.rows.Row.{Row}
use Rattle.moka_rows.specs.Rows.{row_under, IsRowOf, NoneIsRowOf}
use Rattle.moka_table.specs.WriteSlot.{is_live_row}

-- A lookup finds the row of a key if its value is live at a moment. Otherwise there is no row of the key, or its value is
-- not live.
abbrev pub FindsLive : {K V : Type 0} → (K → K → Bool) → K → ℕ → ℕ → List (ℕ × Row K V) → Option ℕ → Type 0
FindsLive {K} {V} eq key hash at rows (Some n) =
    (row : Row K V) × (row_under n rows ≡ Some row) × IsRowOf eq key hash row × (is_live_row at (Some row) ≡ true)
FindsLive {K} {V} eq key hash at rows None =
    NoneIsRowOf eq key hash rows
    ⊎ ((n : ℕ) × (row : Row K V) × (row_under n rows ≡ Some row) × IsRowOf eq key hash row × (is_live_row at (Some row) ≡ false))

-- What a caller's closure says of a live value, whether to replace it. Without a closure it says nothing.
abbrev pub IsSaid : {F V : Type 0} → Mut F (Bor V × Unit {0}) Bool → Option F → V → Option Bool → Type 0
IsSaid call None v said = said ≡ None
IsSaid call (Some f) v None = ⊥
IsSaid {F} call (Some f) v (Some b) = (after : F) × CalledAt call f v b after

abbrev pub is_yes : Option Bool → Bool  -- whether the closure asked to replace the value
is_yes None = false
is_yes (Some said) = said

-- The closure may be called at the value of each row of the key that is live at the moment.
abbrev pub TakesLiveRow : {K V F : Type 0} → (K → K → Bool) → Mut F (Bor V × Unit {0}) Bool → K → ℕ → ℕ → List (ℕ × Row K V) → F → Type 0
TakesLiveRow {K} {V} eq call key hash at rows f =
    (n : ℕ) (row : Row K V) → row_under n rows ≡ Some row → IsRowOf eq key hash row → is_live_row at (Some row) ≡ true
    → TakesAt call f row.value

-- The closure was called once, at this value, if there is a closure.
abbrev pub IsCalledOnce : {F V : Type 0} → Mut F (Bor V × Unit {0}) Bool → Option F → V → Option F → Type 0
IsCalledOnce call None v new = new ≡ None
IsCalledOnce {F} call (Some f) v new = (said : Bool) × (left : F) × CalledAt call f v said left × (new ≡ Some left)

-- A lookup leaves the closure as it was, or called once, at the value of the key's row, which is live at the moment.
abbrev pub LeavesShown : {K V F : Type 0} → (K → K → Bool) → Mut F (Bor V × Unit {0}) Bool → K → ℕ → ℕ → List (ℕ × Row K V) →
    Option F → Option F → Type 0
LeavesShown {K} {V} eq call key hash at rows old new =
    (new ≡ old)
    ⊎ ((n : ℕ) × (row : Row K V) × (row_under n rows ≡ Some row) × IsRowOf eq key hash row
    × (is_live_row at (Some row) ≡ true) × IsCalledOnce call old row.value new)

-- A lookup finds the row of a key if its value is live and the closure, which said this, does not ask to replace it.
-- Otherwise there is no row of the key, or its value is dead, or the closure asked to replace it.
abbrev pub Accepts : {K V F : Type 0} → (K → K → Bool) → Mut F (Bor V × Unit {0}) Bool → Option F → K → ℕ → ℕ → List (ℕ × Row K V) →
    Option Bool → Option ℕ → Type 0
Accepts {K} {V} eq call replace_if key hash at rows said (Some n) =
    (row : Row K V) × (row_under n rows ≡ Some row) × IsRowOf eq key hash row × (is_live_row at (Some row) ≡ true)
    × IsSaid call replace_if row.value said × (is_yes said ≡ false)
Accepts {K} {V} eq call replace_if key hash at rows said None =
    ((said ≡ None) × NoneIsRowOf eq key hash rows)
    ⊎ ((n : ℕ) × (row : Row K V) × (row_under n rows ≡ Some row) × IsRowOf eq key hash row
    × (((is_live_row at (Some row) ≡ false) × (said ≡ None))
    ⊎ ((is_live_row at (Some row) ≡ true) × IsSaid call replace_if row.value said × (is_yes said ≡ true))))

-- The entry that is returned for a row: its stored key, and a clone of its value.
abbrev pub IsEntryOfRow : {K V : Type 0} → (V → V → Type 0) → Row K V → Entry K V → Type 0
IsEntryOfRow is_clone row e =
    (e.key ≡ arc_value row.key) × is_clone row.value e.value × (e.fresh ≡ false) × (e.replaced ≡ false)
