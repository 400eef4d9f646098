-- The rows of a store with deadlines, and whether there is room for the deadlines of all rows.
use Rattle.std.specs.Prelude.{◌≡◌, ◌⊎◌, ℕ, ◌+◌, ◌<◌, ◌≤◌, true, List, ◌++◌, length}
use Rattle.moka_rows.specs.declared.rows.Row.{Row}
use Rattle.moka_expiry_index.specs.ExpiryIndex.{known_of, room_of as deadlines_room}
use Rattle.moka_slab.specs.Store.{admitted_in, waiting_in, room_of as slab_room}
use Rattle.moka_expiring_rows.specs.declared.expiring_rows.ExpiringRows.{ExpiringRows}

module _ {K V : Type 0} where
  -- The resident rows with their numbers, the least recently used first.
  abbrev pub admitted_of : ExpiringRows K V → List (ℕ × Row K V)
  admitted_of store = admitted_in store.rows

  -- The pending rows with their numbers, in arrival order.
  abbrev pub waiting_of : ExpiringRows K V → List (ℕ × Row K V)
  waiting_of store = waiting_in store.rows

  -- How many rows can be added without an allocation.
  abbrev pub room_of : ExpiringRows K V → ℕ
  room_of store = slab_room store.rows

  -- All rows with their numbers, the resident ones first.
  abbrev pub rows_in : ExpiringRows K V → List (ℕ × Row K V)
  rows_in store = admitted_of store ++ waiting_of store

  -- There is room for the deadlines of all rows, and of this many more with the next numbers from the top on.
  abbrev pub IsReady : ℕ → ExpiringRows K V → Type 0
  IsReady more store = (store.top + more < known_of store.deadlines) × (length (rows_in store) + more ≤ deadlines_room store.deadlines)

  -- A row has had a deadline, or there is no row yet.
  abbrev pub WantsRoom : ExpiringRows K V → Type 0
  WantsRoom store = (store.has_deadlines ≡ true) ⊎ (length (rows_in store) ≡ 0)
