-- Where the row of a key is.
use Rattle.std.specs.Prelude.{◌≡◌, ℕ, Bool, Some, List}
use Rattle.std.specs.Arc.{arc_value}
use Rattle.moka_table.specs.declared.table.Lookup.{Lookup}
use Rattle.moka_table.specs.declared.table.Lookup.TheVariants.{Stored, Absent}
use Rattle.moka_rows.specs.declared.rows.Row.{Row}
use Rattle.moka_rows.specs.Rows.{row_under, IsRowOf, NoneIsRowOf}

-- The result of a lookup of a key with this hash among these rows.
abbrev pub IsLookupOf : {K V : Type 0} → (K → K → Bool) → K → ℕ → List (ℕ × Row K V) → Lookup K → Type 0
IsLookupOf {K} {V} eq key hash rows (Stored number shared) =
    (row : Row K V) × (row_under number rows ≡ Some row) × IsRowOf eq key hash row × (arc_value shared ≡ arc_value row.key)
IsLookupOf eq key hash rows Absent = NoneIsRowOf eq key hash rows
