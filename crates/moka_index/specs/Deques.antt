-- The terms in which contracts describe `Deques`.
use Rattle.std.specs.Prelude.{◌≡◌, ◌⊎◌, ℕ, Bool, true, false, Option, Some, List, ◌++◌, ◌∷◌, length}
use Rattle.moka_index.specs.Paths.{IsAmong, IsAbsent, IsChain, chase}
use Rattle.moka_index.specs.Nodes.{same_of, hash_of}
use Rattle.moka_index.specs.Rings.{order}
use Rattle.moka_index.specs.declared.deques.Deques.{Deques}
use Rattle.moka_index.specs.declared.deques.Queue.{Queue}
use Rattle.moka_index.specs.declared.deques.Queue.TheVariants.{Admitted, Waiting}

-- The other one of the two queues.
abbrev pub other : Queue → Queue
other Admitted = Waiting
other Waiting = Admitted

-- The node that is the end of a queue.
abbrev pub end_of : Queue → ℕ
end_of Admitted = 0
end_of Waiting = 1

-- Whether a queue is that of the resident numbers.
abbrev pub is_of_admitted : Queue → Bool
is_of_admitted Admitted = true
is_of_admitted Waiting = false

-- The resident numbers, the least recently used first.
abbrev pub admitted_in : Deques → List ℕ
admitted_in o = order o.nodes.items 0 o.admitted_len

-- The pending numbers, in arrival order.
abbrev pub waiting_in : Deques → List ℕ
waiting_in o = order o.nodes.items 1 o.waiting_len

-- The numbers of a queue.
abbrev pub queue_in : Deques → Queue → List ℕ
queue_in o Admitted = admitted_in o
queue_in o Waiting = waiting_in o

-- The number is in one of the orders.
abbrev pub Stands : Deques → ℕ → Type 0
Stands o k = IsAmong k (admitted_in o) ⊎ IsAmong k (waiting_in o)

-- The number is in neither order.
abbrev pub IsUnlinked : Deques → ℕ → Type 0
IsUnlinked o k = IsAbsent k (admitted_in o) × IsAbsent k (waiting_in o)

-- The number of nodes; each number below it has one.
abbrev pub places_in : Deques → ℕ
places_in o = length o.nodes.items

-- The hash of each number.
abbrev pub hash_in : Deques → ℕ → ℕ
hash_in o = hash_of o.nodes.items

-- The next number with the same hash as this one, if there is one.
abbrev pub same_in : Deques → ℕ → Option ℕ
same_in o = same_of o.nodes.items

-- The hashes, the links of hashes and the number of nodes stay the same.
pub record PreservesHashes (old new : Deques) : Type 0 where
  pub same : (k : ℕ) → same_in new k ≡ same_in old k
  pub hash : (k : ℕ) → hash_in new k ≡ hash_in old k
  pub places : places_in new ≡ places_in old

-- Both orders and the number of nodes stay the same.
pub record PreservesDeques (old new : Deques) : Type 0 where
  pub admitted : admitted_in new ≡ admitted_in old
  pub waiting : waiting_in new ≡ waiting_in old
  pub places : places_in new ≡ places_in old

-- The numbers that a link leads to, one after another.
abbrev pub chain_from : Deques → Option ℕ → List ℕ
chain_from o first = chase (same_in o) (places_in o) first

-- The links of hashes lead from a number through a chain, and end.
abbrev pub EndsFrom : Deques → ℕ → Type 0
EndsFrom o first = IsChain (same_in o) (Some first) (chain_from o (Some first))

-- The first of these numbers links to the second in the chain.
pub record LeadsTo (chain : List ℕ) (at to : ℕ) : Type 0 where
  pub front : List ℕ
  pub back : List ℕ
  pub is : chain ≡ front ++ at ∷ to ∷ back
