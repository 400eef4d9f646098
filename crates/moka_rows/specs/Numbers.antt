-- Rows with different numbers, and the place of one of them.
use Rattle.std.specs.Prelude.{◌≡◌, ℕ, ◌+◌, ◌<◌, ◌≤◌, Bool, Option, Some, None, List, length, slice_index_or, slice_set, remove, find}
use Rattle.std.specs.Prelude.{option_map, drop}
use Rattle.moka_rows.specs.Rows.{count_under, row_under, with_row, without_row, first_number, number_after}
use Rattle.moka_rows.specs.declared.list_rows.Place.{Place}
use Rattle.moka_rows.specs.declared.list_rows.Place.TheVariants.{Admitted, Waiting}

-- Each row has its own number, below the next one to be given out.
pub record IsNumbered {R : Type 0} (next : ℕ) (rows : List (ℕ × R)) : Type 0 where
  pub apart : (n : ℕ) → count_under n rows ≤ 1
  pub below : (n : ℕ) → next ≤ n → count_under n rows ≡ 0
  pub few : length rows ≤ next

-- The number of the first row that passes a test.
abbrev pub number_where : {R : Type 0} → (R → Bool) → List (ℕ × R) → Option ℕ
number_where test rows = option_map (λ p. p.0) (find (λ p. test p.1) rows)

-- An index is the place of the first row with a number. For each field, p is what is read at that index.
pub record IsPlaceOf {R : Type 0} (n : ℕ) (rows : List (ℕ × R)) (place : ℕ) : Type 0 where
  pub within : place < length rows
  pub number : (p : ℕ × R) → p ≡ slice_index_or rows place p → p.0 ≡ n
  pub row : (p : ℕ × R) → p ≡ slice_index_or rows place p → row_under n rows ≡ Some p.1
  pub changed :
      (p : ℕ × R) (change : R → R) → p ≡ slice_index_or rows place p → slice_set rows place (p.0, change p.1) ≡ with_row n change rows
  pub rest : remove rows place ≡ without_row n rows
  pub next : number_after n rows ≡ first_number (drop (place + 1) rows)

-- A place is that of the first row with a number, in the resident rows if it is there, and else in the pending ones.
abbrev pub IsPlaceIn : {R : Type 0} → ℕ → List (ℕ × R) → List (ℕ × R) → Place → Type 0
IsPlaceIn n admitted waiting (Admitted place) = IsPlaceOf n admitted place
IsPlaceIn n admitted waiting (Waiting place) = (row_under n admitted ≡ None) × IsPlaceOf n waiting place
