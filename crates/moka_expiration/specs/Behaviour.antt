-- The behaviour of a cache, computed from the data that it stores. The types of the cache say what that data means.
use Rattle.std.specs.Prelude.{ℕ, Bool, List, Option, Some, None, fold}
use Rattle.moka_model.specs.Lives.{Behaviour, Lifetimes, no_lifetimes}

-- What a cache stores for its behaviour: its policy, its hasher, and the weigher and the expiry, if it was given any.
pub record BehaviourData (H W X : Type 0) : Type 0 where
  pub is_lru : Bool
  pub hasher : H
  pub weigher : Option W
  pub expiry : Option X

-- The data of a behaviour of these four.
abbrev pub data_with : {H W X : Type 0} → Bool → H → Option W → Option X → BehaviourData H W X
data_with is_lru hasher weigher expiry = record { is_lru = is_lru; hasher = hasher; weigher = weigher; expiry = expiry }

-- The hash that a hasher computes of a key, from what the key feeds it.
abbrev pub hash_by : {K H S I : Type 0} → (H → S) → (S → List I → S) → (S → ℕ) → (K → List (List I)) → H → K → ℕ
hash_by build_hasher write finish hash_input hasher key = finish (fold write (build_hasher hasher) (hash_input key))

-- The weight that the weigher computes; without a weigher it is 1.
abbrev pub weight_by : {K V W : Type 0} → (W → K → V → ℕ) → Option W → K → V → ℕ
weight_by weight None key value = 1
weight_by weight (Some weigher) key value = weight weigher key value

-- The lifetimes that the expiry computes; without an expiry no entry has one of its own.
abbrev pub lifetimes_by : {K V X : Type 0} → (X → Lifetimes K V) → Option X → Lifetimes K V
lifetimes_by lifetimes None = no_lifetimes
lifetimes_by lifetimes (Some expiry) = lifetimes expiry

-- The behaviour that the data means, given what hashers, weighers and expiries compute.
abbrev pub behaviour_by : {K V H W X : Type 0} → (H → K → ℕ) → (W → K → V → ℕ) → (X → Lifetimes K V) → BehaviourData H W X → Behaviour K V
behaviour_by hash weight lifetimes stored = record {
  is_lru = stored.is_lru;
  hash = hash stored.hasher;
  weight = weight_by weight stored.weigher;
  lifetimes = lifetimes_by lifetimes stored.expiry;
}
