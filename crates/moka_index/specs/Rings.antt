-- Two orders of numbers, as rings of nodes.
use Rattle.std.specs.Prelude.{◌≡◌, ℕ, ◌<◌, ◌≤◌, ◌^◌, Bool, true, false, List, length}
use Rattle.moka_index.specs.Paths.{IsAmong, IsAbsent, IsRing, count_of, steps}
use Rattle.moka_index.specs.Nodes.{node_at, next_of, IsMutual}
use Rattle.moka_index.specs.declared.nodes.Node.{Node}

-- The first n numbers of the order with this end.
abbrev pub order : List Node → ℕ → ℕ → List ℕ
order nodes end n = steps (next_of nodes) n (next_of nodes end)

-- The nodes form the order with this end and these numbers, without repetition, and mark each number with its order.
pub record IsOrder (nodes : List Node) (end : ℕ) (is_admitted : Bool) (numbers : List ℕ) : Type 0 where
  pub ring : IsRing (next_of nodes) end numbers
  pub apart : (k : ℕ) → count_of k numbers ≤ 1
  pub above : (k : ℕ) → IsAmong k numbers → 2 ≤ k
  pub within : (k : ℕ) → IsAmong k numbers → k < length nodes
  pub flagged : (k : ℕ) → IsAmong k numbers → (node_at nodes k).is_admitted ≡ is_admitted

-- The nodes form these two orders, and each number that is in neither is isolated.
pub record IsRinged (nodes : List Node) (admitted waiting : List ℕ) : Type 0 where
  pub neighbours : IsMutual nodes
  pub first : IsOrder nodes 0 true admitted
  pub second : IsOrder nodes 1 false waiting
  pub alone : (k : ℕ) → 2 ≤ k → IsAbsent k admitted → IsAbsent k waiting → next_of nodes k ≡ k
  pub few : length nodes ≤ 2 ^ 32
