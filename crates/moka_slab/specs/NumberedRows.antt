-- Rows with their numbers, in the order of a list of numbers.
use Rattle.std.specs.Prelude.{ℕ, ◌-◌, Bool, if◌then◌else◌, Option, List, [], ◌∷◌}
use Rattle.std.specs.Option.{option_map_or}
use Rattle.slab.specs.Slab.{Slab, get}
use Rattle.moka_rows.specs.declared.rows.Order.{Order}
use Rattle.moka_rows.specs.declared.rows.Order.TheVariants.{Admitted, Waiting}

-- The order of a row, given whether it is resident.
abbrev pub order_of : Bool → Order
order_of is_admitted = if is_admitted then Admitted else Waiting

module _ {R : Type 0} where
  -- The row with a number; row numbers begin at 2.
  abbrev pub row_at : Slab R → ℕ → Option R
  row_at rows k = get rows (k - 2)

  -- The rows with these numbers.
  abbrev pub numbered : (ℕ → Option R) → List ℕ → List (ℕ × R)
  numbered at [] = []
  numbered at (k ∷ ks) = option_map_or (λ row. (k, row) ∷ numbered at ks) (at k) (numbered at ks)
