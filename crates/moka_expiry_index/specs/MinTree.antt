-- A tree of least numbers, as a list. Node 1 is the root, and 2k and 2k + 1 are below node k.
use Rattle.std.specs.Prelude.{◌≡◌, ◌≢◌, ℕ, zero, suc, ◌+◌, ◌-◌, ◌*◌, ◌<◌, ◌^◌, min, List, slice_index}

-- A node is the least of the two below it.
abbrev pub IsLeast : List ℕ → ℕ → Type 0
IsLeast nodes k = slice_index nodes k ≡ min (slice_index nodes (2 * k)) (slice_index nodes (2 * k + 1))

-- Each inner node is the least of the two below it.
abbrev pub AreLeast : List ℕ → ℕ → Type 0
AreLeast nodes size = (k : ℕ) → 0 < k → k < size → IsLeast nodes k

-- A leaf, by its index; the leaves come after the inner nodes.
abbrev pub leaf : List ℕ → ℕ → ℕ → ℕ
leaf nodes size i = slice_index nodes (size + i)

-- The first of the nodes that are this many levels below a node.
abbrev pub leftmost : ℕ → ℕ → ℕ
leftmost zero k = k
leftmost (suc levels) k = leftmost levels (2 * k)

-- The deadline that only the last moment reaches.
abbrev pub never : ℕ
never = 2 ^ 64 - 1

-- One leaf was set.
pub record SetsLeaf (old new : List ℕ) (size index deadline : ℕ) : Type 0 where
  pub here : leaf new size index ≡ deadline
  pub others : (i : ℕ) → i < size → i ≢ index → leaf new size i ≡ leaf old size i

-- A tree has the leaves of another one, with the same indices.
abbrev pub PreservesLeaves : List ℕ → ℕ → List ℕ → ℕ → Type 0
PreservesLeaves old size new wider = (i : ℕ) → i < size → leaf new wider i ≡ leaf old size i
