-- The row store of two lists: its rows, and its room.
use Rattle.std.specs.Prelude.{ℕ, ◌+◌, ◌-◌, min, List, ◌++◌, vec_len, vec_capacity}
use Rattle.std.below.core.specs.declared.int.u32.TheConstants.{MAX}
use Rattle.moka_rows.specs.declared.rows.Row.{Row}
use Rattle.moka_rows.specs.declared.list_rows.ListRows.{ListRows}

module _ {K V : Type 0} where
  -- All rows with their numbers, the resident ones first.
  abbrev pub rows_of : ListRows K V → List (ℕ × Row K V)
  rows_of store = store.admitted.items ++ store.waiting.items

  -- How many rows can be added without an allocation: as many as numbers are left, and as both lists have capacity for.
  abbrev pub room_of : ListRows K V → ℕ
  room_of store = min (MAX - store.next)
      (min (vec_capacity store.waiting - vec_len store.waiting)
      (vec_capacity store.admitted - (vec_len store.admitted + vec_len store.waiting)))
