-- Nodes, and what the calls on nodes change in them.
use Rattle.std.specs.Prelude.{◌≡◌, ◌≢◌, ℕ, ◌≤◌, ◌^◌, Bool, false, if◌then◌else◌, nat_lt, Option, Some, None, List, length, slice_index_or}
use Rattle.moka_index.specs.declared.nodes.Node.{Node}

-- The node of an isolated number: it links only to itself.
abbrev pub alone : ℕ → Node
alone k = record { hash = 0; prev = k; next = k; same = 0; is_admitted = false }

-- The node of a number; without one in the list, the number is isolated.
abbrev pub node_at : List Node → ℕ → Node
node_at nodes k = slice_index_or nodes k (alone k)

-- The number after a number in its order.
abbrev pub next_of : List Node → ℕ → ℕ
next_of nodes k = (node_at nodes k).next

-- The number before a number in its order.
abbrev pub prev_of : List Node → ℕ → ℕ
prev_of nodes k = (node_at nodes k).prev

-- The row that a link leads to; the two numbers below 2 are ends, and no rows.
abbrev pub row_of : ℕ → Option ℕ
row_of link = if nat_lt link 2 then None else Some link

-- The next row with the same hash, if there is one.
abbrev pub same_of : List Node → ℕ → Option ℕ
same_of nodes k = row_of (node_at nodes k).same

-- The hash of a number.
abbrev pub hash_of : List Node → ℕ → ℕ
hash_of nodes k = (node_at nodes k).hash

-- The neighbours of each node link back to it.
pub record IsMutual (nodes : List Node) : Type 0 where
  pub forth : (k : ℕ) → prev_of nodes (next_of nodes k) ≡ k
  pub back : (k : ℕ) → next_of nodes (prev_of nodes k) ≡ k

-- The hashes, the links of hashes, the orders and the number of nodes stay the same.
pub record PreservesRest (old new : List Node) : Type 0 where
  pub same : (k : ℕ) → (node_at new k).same ≡ (node_at old k).same
  pub hash : (k : ℕ) → hash_of new k ≡ hash_of old k
  pub order : (k : ℕ) → (node_at new k).is_admitted ≡ (node_at old k).is_admitted
  pub len : length new ≡ length old

-- The nodes stay the same, and each new one is isolated.
pub record Grows (old new : List Node) : Type 0 where
  pub same : (k : ℕ) → node_at new k ≡ node_at old k
  pub more : length old ≤ length new
  pub few : length new ≤ 2 ^ 32

-- The link to the number after this one was set, and nothing else changed.
pub record SetsNext (old new : List Node) (at to : ℕ) : Type 0 where
  pub changed : next_of new at ≡ to
  pub others : (k : ℕ) → k ≢ at → next_of new k ≡ next_of old k
  pub prev : (k : ℕ) → prev_of new k ≡ prev_of old k
  pub rest : PreservesRest old new

-- The link to the number before this one was set, and nothing else changed.
pub record SetsPrev (old new : List Node) (at to : ℕ) : Type 0 where
  pub changed : prev_of new at ≡ to
  pub others : (k : ℕ) → k ≢ at → prev_of new k ≡ prev_of old k
  pub next : (k : ℕ) → next_of new k ≡ next_of old k
  pub rest : PreservesRest old new

-- The order of this number was set, and nothing else changed.
pub record SetsOrder (old new : List Node) (at : ℕ) (is_admitted : Bool) : Type 0 where
  pub changed : (node_at new at).is_admitted ≡ is_admitted
  pub others : (k : ℕ) → k ≢ at → (node_at new k).is_admitted ≡ (node_at old k).is_admitted
  pub next : (k : ℕ) → next_of new k ≡ next_of old k
  pub prev : (k : ℕ) → prev_of new k ≡ prev_of old k
  pub same : (k : ℕ) → (node_at new k).same ≡ (node_at old k).same
  pub hash : (k : ℕ) → hash_of new k ≡ hash_of old k
  pub len : length new ≡ length old

-- The hash of this number and the next number with that hash were set, and nothing else changed.
pub record SetsSame (old new : List Node) (at hash same : ℕ) : Type 0 where
  pub changed : (node_at new at).same ≡ same
  pub hashed : hash_of new at ≡ hash
  pub others : (k : ℕ) → k ≢ at → (node_at new k).same ≡ (node_at old k).same
  pub others_hashed : (k : ℕ) → k ≢ at → hash_of new k ≡ hash_of old k
  pub next : (k : ℕ) → next_of new k ≡ next_of old k
  pub prev : (k : ℕ) → prev_of new k ≡ prev_of old k
  pub order : (k : ℕ) → (node_at new k).is_admitted ≡ (node_at old k).is_admitted
  pub len : length new ≡ length old

-- A number was removed from between its neighbours, and is isolated.
pub record Unlinks (old new : List Node) (at : ℕ) : Type 0 where
  pub next : next_of new at ≡ at
  pub prev : prev_of new at ≡ at
  pub forth : (k : ℕ) → k ≢ at → next_of old k ≡ at → next_of new k ≡ next_of old at
  pub others_forth : (k : ℕ) → k ≢ at → next_of old k ≢ at → next_of new k ≡ next_of old k
  pub back : (k : ℕ) → k ≢ at → prev_of old k ≡ at → prev_of new k ≡ prev_of old at
  pub others_back : (k : ℕ) → k ≢ at → prev_of old k ≢ at → prev_of new k ≡ prev_of old k
  pub rest : PreservesRest old new

-- An isolated number was inserted before another one.
pub record LinksBefore (old new : List Node) (at before : ℕ) : Type 0 where
  pub next : next_of new at ≡ before
  pub prev : prev_of new at ≡ prev_of old before
  pub forth : (k : ℕ) → k ≢ at → next_of old k ≡ before → next_of new k ≡ at
  pub others_forth : (k : ℕ) → k ≢ at → next_of old k ≢ before → next_of new k ≡ next_of old k
  pub back : prev_of new before ≡ at
  pub others_back : (k : ℕ) → k ≢ at → k ≢ before → prev_of new k ≡ prev_of old k
  pub rest : PreservesRest old new

-- A number was moved before another one.
pub record Relinks (old new : List Node) (at before : ℕ) : Type 0 where
  pub between : List Node
  pub left : Unlinks old between at
  pub joined : LinksBefore between new at before
