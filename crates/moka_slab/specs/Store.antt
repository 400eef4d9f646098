-- A slab store as a row store: its rows in two orders, and its room.
use Rattle.std.specs.Prelude.{ℕ, List, if◌then◌else◌, nat_lt, vec_capacity}
use Rattle.moka_rows.specs.declared.rows.Row.{Row}
use Rattle.moka_slab.specs.declared.slab_rows.SlabRows.{SlabRows}
use Rattle.moka_slab.specs.Tied.{admitted_rows, waiting_rows, all_rows, room_in}

module _ {K V : Type 0} where
  -- The resident rows with their numbers, the least recently used first.
  abbrev pub admitted_in : SlabRows K V → List (ℕ × Row K V)
  admitted_in store = admitted_rows store.rows store.links

  -- The pending rows with their numbers, in arrival order.
  abbrev pub waiting_in : SlabRows K V → List (ℕ × Row K V)
  waiting_in store = waiting_rows store.rows store.links

  -- All rows with their numbers, the resident ones first.
  abbrev pub rows_of : SlabRows K V → List (ℕ × Row K V)
  rows_of store = all_rows store.rows store.links

  -- How many rows can be added without an allocation: none unless there is a place for the lives of each.
  abbrev pub room_of : SlabRows K V → ℕ
  room_of store = if nat_lt (vec_capacity store.lives) store.rows.capacity then 0 else room_in store.rows store.links
