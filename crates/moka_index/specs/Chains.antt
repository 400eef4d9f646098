-- The chains of the numbers with one hash.
use Rattle.std.specs.Prelude.{◌≡◌, ℕ, ◌<◌, ◌≤◌, Option, List, ◌++◌}
use Rattle.indexmap.specs.IndexMap.{IndexMap}
use Rattle.moka_index.specs.Paths.{IsAmong, count_of, IsChain}
use Rattle.moka_index.specs.BucketHeads.{first_in}
use Rattle.moka_index.specs.Deques.{admitted_in, waiting_in, hash_in, same_in, chain_from}
use Rattle.moka_index.specs.declared.deques.Deques.{Deques}

-- Each hash has a chain of exactly those of the numbers that have it.
pub record IsChained (same : ℕ → Option ℕ) (hash : ℕ → ℕ) (first : ℕ → Option ℕ) (numbers : List ℕ)
    (chain : ℕ → List ℕ) : Type 0 where
  pub linked : (h : ℕ) → IsChain same (first h) (chain h)
  pub apart : (h k : ℕ) → count_of k (chain h) ≤ 1
  pub members : (h k : ℕ) → IsAmong k (chain h) → (0 < count_of k numbers) × (hash k ≡ h)
  pub covers : (k : ℕ) → IsAmong k numbers → 0 < count_of k (chain (hash k))

-- All numbers, the resident ones first.
abbrev pub numbers_in : Deques → List ℕ
numbers_in o = admitted_in o ++ waiting_in o

module _ {S : Type 0} where
  -- The chain of a hash.
  abbrev pub chain_in : Deques → IndexMap ℕ ℕ S → ℕ → List ℕ
  chain_in o bucket_heads hash = chain_from o (first_in bucket_heads hash)

  -- Each hash has a chain of exactly the numbers that have it and are in an order.
  abbrev pub IsIndexed : Deques → IndexMap ℕ ℕ S → Type 0
  IsIndexed o bucket_heads = IsChained (same_in o) (hash_in o) (first_in bucket_heads) (numbers_in o) (chain_in o bucket_heads)
