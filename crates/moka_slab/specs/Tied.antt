-- Rows in a slab, and the links between their numbers.
use Rattle.std.specs.Prelude.{◌≡◌, ℕ, ◌+◌, ◌-◌, if◌then◌else◌, nat_lt, Some, IsSome, List, ◌++◌, min}
use Rattle.slab.specs.Slab.{Slab, slab_len}
use Rattle.moka_rows.specs.declared.rows.Row.{Row}
use Rattle.moka_index.specs.RowIndex.{IsLinked, admitted_of, waiting_of, hash_at, places_of, spare_of}
use Rattle.moka_index.specs.declared.row_index.RowIndex.{RowIndex}
use Rattle.moka_slab.specs.NumberedRows.{row_at, numbered}

module _ {K V : Type 0} where
  -- Each linked number has a row, and the number's hash is the row's hash.
  pub record IsTied (rows : Slab (Row K V)) (links : RowIndex) : Type 0 where
    pub stored : (k : ℕ) → IsLinked links k → IsSome (row_at rows k)
    pub hashed : (k : ℕ) (row : Row K V) → IsLinked links k → row_at rows k ≡ Some row → row.hash ≡ hash_at links k

  -- The resident rows with their numbers, the least recently used first.
  abbrev pub admitted_rows : Slab (Row K V) → RowIndex → List (ℕ × Row K V)
  admitted_rows rows links = numbered (row_at rows) (admitted_of links)

  -- The pending rows with their numbers, in arrival order.
  abbrev pub waiting_rows : Slab (Row K V) → RowIndex → List (ℕ × Row K V)
  waiting_rows rows links = numbered (row_at rows) (waiting_of links)

  -- All rows, the resident ones first.
  abbrev pub all_rows : Slab (Row K V) → RowIndex → List (ℕ × Row K V)
  all_rows rows links = admitted_rows rows links ++ waiting_rows rows links

  -- How many rows can be added without an allocation: as many as the slab and the index have room for. It is 0 unless
  -- each number that the slab can give out has a place.
  abbrev pub room_in : Slab (Row K V) → RowIndex → ℕ
  room_in rows links =
      if nat_lt (places_of links) (rows.capacity + 2) then 0 else min (rows.capacity - slab_len rows) (spare_of links)
