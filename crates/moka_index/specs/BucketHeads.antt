-- The first number of each hash.
use Rattle.std.specs.Prelude.{◌≡◌, ◌≢◌, ℕ, ◌*◌, ◌^◌, ◌≤◌, min, Option, nat_eq}
use Rattle.indexmap.specs.IndexMap.{IndexMap, get, spare}

-- Twice this many places, or 2^31 if that is fewer.
abbrev pub twice_of : ℕ → ℕ
twice_of places = 2 * min places (2 ^ 30)

module _ {S : Type 0} where
  -- The first number of a hash, if it has one.
  abbrev pub first_in : IndexMap ℕ ℕ S → ℕ → Option ℕ
  first_in bucket_heads hash = get nat_eq bucket_heads hash

  -- The first number of a hash was set or removed. All other hashes keep theirs, and no room is lost.
  pub record Leads (old new : IndexMap ℕ ℕ S) (hash : ℕ) (first : Option ℕ) : Type 0 where
    pub changed : first_in new hash ≡ first
    pub others : (other : ℕ) → other ≢ hash → first_in new other ≡ first_in old other
    pub room : spare old ≤ spare new
