-- The terms in which contracts describe `RowIndex`.
use Rattle.std.specs.Prelude.{◌≡◌, ℕ, ◌≤◌, Option, List, ◌++◌}
use Rattle.indexmap.specs.IndexMap.{spare, index_map_len}
use Rattle.moka_index.specs.BucketHeads.{first_in}
use Rattle.moka_index.specs.Deques.{admitted_in, waiting_in, places_in, hash_in, same_in, Stands}
use Rattle.moka_index.specs.Chains.{chain_in}
use Rattle.moka_index.specs.declared.row_index.RowIndex.{RowIndex}

-- The resident numbers, the least recently used first.
abbrev pub admitted_of : RowIndex → List ℕ
admitted_of l = admitted_in l.orders

-- The pending numbers, in arrival order.
abbrev pub waiting_of : RowIndex → List ℕ
waiting_of l = waiting_in l.orders

-- All numbers, the resident ones first.
abbrev pub numbers_of : RowIndex → List ℕ
numbers_of l = admitted_of l ++ waiting_of l

-- The number is in one of the orders.
abbrev pub IsLinked : RowIndex → ℕ → Type 0
IsLinked l k = Stands l.orders k

-- The hash of a number.
abbrev pub hash_at : RowIndex → ℕ → ℕ
hash_at l k = hash_in l.orders k

-- The first number of a hash, if it has one.
abbrev pub first_at : RowIndex → ℕ → Option ℕ
first_at l h = first_in l.bucket_heads h

-- The next number with the same hash, if there is one.
abbrev pub same_at : RowIndex → ℕ → Option ℕ
same_at l k = same_in l.orders k

-- The numbers of a hash, in the order in which a lookup visits them.
abbrev pub chain_of : RowIndex → ℕ → List ℕ
chain_of l h = chain_in l.orders l.bucket_heads h

-- Each number below this one has a place.
abbrev pub places_of : RowIndex → ℕ
places_of l = places_in l.orders

-- For how many more hashes the index has room.
abbrev pub spare_of : RowIndex → ℕ
spare_of l = spare l.bucket_heads

-- How many hashes the index has.
abbrev pub hashes_of : RowIndex → ℕ
hashes_of l = index_map_len l.bucket_heads

-- The hashes stay the same, and no room is lost.
pub record PreservesRoom (old new : RowIndex) : Type 0 where
  pub hash : (k : ℕ) → hash_at new k ≡ hash_at old k
  pub places : places_of old ≤ places_of new
  pub spare : spare_of old ≤ spare_of new
