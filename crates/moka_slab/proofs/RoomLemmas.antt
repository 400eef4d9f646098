-- The room for one more row.
use Rattle.std.proofs.Common.{◌≡◌, ℕ, zero, suc, Bool, true, false, ◌+◌, ◌-◌, ◌<◌, ◌≤◌, if◌then◌else◌, List, [], ◌∷◌, length, Option, Some, None, slice_index_or, slice_set, refl, sym, ap, ◌∙◌, arith}
use Rattle.std.specs.Prelude.{nat_lt, min}
use Rattle.std.proofs.lemmas.Bool.{ltb-true, ltb-false}
use Rattle.slab.specs.Slab.{Slab, get, slab_len, with_value, entries_from}
use Rattle.slab.proofs.SlabLemmas.{length-entries_from}
use Rattle.moka_rows.specs.declared.rows.Row.{Row}
use Rattle.moka_index.specs.RowIndex.{places_of, spare_of}
use Rattle.moka_index.specs.declared.row_index.RowIndex.{RowIndex}
use Rattle.moka_slab.specs.Tied.{room_in}

module _ {R : Type 0} where
  entries-write : (k : ℕ) (slots : List (Option R)) (i : ℕ) (was r : R) → slice_index_or slots i None ≡ Some was
      → length (entries_from k (slice_set slots i (Some r))) ≡ length (entries_from k slots)
  entries-write k [] i was r is = absurd cc
  entries-write k (None ∷ ss) zero was r is = absurd cc
  entries-write k (Some x ∷ ss) zero was r is = refl
  entries-write k (None ∷ ss) (suc i) was r is = entries-write (k + 1) ss i was r is
  entries-write k (Some x ∷ ss) (suc i) was r is = ap suc (entries-write (k + 1) ss i was r is)

  -- overwriting a row keeps the number of rows
  pub len-write : (rows : Slab R) (key : ℕ) (was r : R) → get rows key ≡ Some was → slab_len (with_value rows key r) ≡ slab_len rows
  len-write rows key was r is =
      sym (length-entries_from 0 (slice_set rows.slots key (Some r))) ∙ entries-write 0 rows.slots key was r is ∙ length-entries_from 0 rows.slots

-- room for lives goes with the room for rows
pub room-within : (lives capacity room : ℕ) → 0 < (if nat_lt lives capacity then 0 else room) → (capacity ≤ lives) × (0 < room)
room-within lives capacity room some = go (nat_lt lives capacity) refl some
  where
    go : (b : Bool) → nat_lt lives capacity ≡ b → 0 < (if b then 0 else room) → (capacity ≤ lives) × (0 < room)
    go true few none = absurd (omega (arith, none))
    go false enough there = (ltb-false lives capacity enough, there)

-- if the room of a store of rows does not shrink, the room of a store with lives does not
pub room-if : (lives capacity lives' capacity' room more : ℕ) → lives' ≡ lives → capacity' ≡ capacity → room ≤ more
    → (if nat_lt lives capacity then 0 else room) ≤ (if nat_lt lives' capacity' then 0 else more)
room-if lives capacity lives' capacity' room more same equal up = rw (same, equal) (go (nat_lt lives capacity))
  where
    go : (b : Bool) → (if b then 0 else room) ≤ (if b then 0 else more)
    go true = omega arith
    go false = up

-- if the room of a store of rows shrinks by one at most, so does the room of a store with lives
pub room-if-taken : (lives capacity lives' capacity' room more : ℕ) → lives' ≡ lives → capacity' ≡ capacity → room ≤ more + 1
    → (if nat_lt lives capacity then 0 else room) ≤ (if nat_lt lives' capacity' then 0 else more) + 1
room-if-taken lives capacity lives' capacity' room more same equal up = rw (same, equal) (go (nat_lt lives capacity))
  where
    go : (b : Bool) → (if b then 0 else room) ≤ (if b then 0 else more) + 1
    go true = omega arith
    go false = up

below : (v p q a b : ℕ) → p ≤ q → a ≤ b → (if nat_lt p v then 0 else a) ≤ (if nat_lt q v then 0 else b)
below v p q a b more up = grind (arith)

module _ {K V : Type 0} where
  -- the room stays the same if no row is added
  pub room-kept : (old new : Slab (Row K V)) (l m : RowIndex) → new.capacity ≡ old.capacity → slab_len new ≤ slab_len old
      → places_of l ≤ places_of m → spare_of l ≤ spare_of m → room_in old l ≤ room_in new m
  room-kept old new l m capacity len places spare =
      rw capacity
      (below (old.capacity + 2) (places_of l) (places_of m) (min (old.capacity - slab_len old) (spare_of l)) (min (old.capacity - slab_len new) (spare_of m)) places (omega arith))

  -- if there is room, the slab and the index have it, and each number that the slab can give out has a place
  pub record HasRoom (rows : Slab (Row K V)) (l : RowIndex) : Type 0 where
    pub row : slab_len rows + 1 ≤ rows.capacity
    pub hash : 0 < spare_of l
    pub place : (key : ℕ) → key < rows.capacity → key + 2 < places_of l

  pub has-room : (rows : Slab (Row K V)) (l : RowIndex) → 0 < room_in rows l → HasRoom rows l
  has-room rows l some = go (nat_lt (places_of l) (rows.capacity + 2)) refl some
    where
      go : (b : Bool) → nat_lt (places_of l) (rows.capacity + 2) ≡ b → 0 < (if b then 0 else min (rows.capacity - slab_len rows) (spare_of l)) → HasRoom rows l
      go true few none = absurd (omega arith)
      go false placed some = record { row = omega arith; hash = omega arith; place = λ key within. let made = ltb-false (places_of l) (rows.capacity + 2) placed in omega (arith, made, within) }

  -- adding a row uses the room of one
  pub room-taken : (old new : Slab (Row K V)) (l m : RowIndex) → new.capacity ≡ old.capacity → slab_len new ≡ slab_len old + 1
      → places_of m ≡ places_of l → spare_of l ≤ spare_of m + 1 → room_in old l ≤ room_in new m + 1
  room-taken old new l m capacity len places spare = rw (capacity, places) (go (nat_lt (places_of l) (old.capacity + 2)))
    where
      go : (b : Bool) → (if b then 0 else min (old.capacity - slab_len old) (spare_of l)) ≤ (if b then 0 else min (old.capacity - slab_len new) (spare_of m)) + 1
      go true = omega arith
      go false = omega (arith, len, spare)

  -- the room after a successful `reserve`
  pub room-made : (rows : Slab (Row K V)) (l : RowIndex) (more : ℕ) → slab_len rows + more ≤ rows.capacity → rows.capacity + 2 ≤ places_of l → more ≤ spare_of l → more ≤ room_in rows l
  room-made rows l more row place hash = go (nat_lt (places_of l) (rows.capacity + 2)) refl
    where
      go : (b : Bool) → nat_lt (places_of l) (rows.capacity + 2) ≡ b → more ≤ (if b then 0 else min (rows.capacity - slab_len rows) (spare_of l))
      go true few = let none = ltb-true (places_of l) (rows.capacity + 2) few in absurd (omega (arith, none, place))
      go false placed = omega arith
