-- Numbers with deadlines in slots.
use Rattle.std.specs.Prelude.{◌≡◌, ◌≢◌, ℕ, zero, suc, ◌*◌, ◌<◌, ◌≤◌, Bool, nat_le, List, [], ◌∷◌, ◌++◌, vec_len}
use Rattle.std.specs.declared.vec.Vec.{Vec}
use Rattle.std.specs.declared.alloc.Global.{Global}
use Rattle.moka_expiry_index.specs.MinTree.{AreLeast, leftmost, never}

-- Whether a deadline has come at a moment: it has from the deadline on.
abbrev pub is_due : ℕ → ℕ × ℕ → Bool
is_due now p = nat_le p.1 now

-- The contents of a slot; it is empty if its number is 0.
abbrev pub in_slot : ℕ → ℕ → List (ℕ × ℕ)
in_slot zero deadline = []
in_slot (suc n) deadline = (suc n, deadline) ∷ []

-- The contents of the first k slots, in their order.
abbrev pub listed : (ℕ → ℕ) → (ℕ → ℕ) → ℕ → List (ℕ × ℕ)
listed number deadline zero = []
listed number deadline (suc k) = listed number deadline k ++ in_slot (number k) (deadline k)

-- The invariant of the slots. Each number in the first `many` slots is known, and its slot is its place. An empty slot
-- has the deadline `never`.
pub record AreSlots (number deadline place : ℕ → ℕ) (many size known : ℕ) : Type 0 where
  pub within : (i : ℕ) → i < many → number i ≢ 0 → number i < known
  pub placed : (i : ℕ) → i < many → number i ≢ 0 → place (number i) ≡ i
  pub cleared : (i : ℕ) → i < many → number i ≡ 0 → deadline i ≡ never
  pub behind : (i : ℕ) → many ≤ i → i < size → deadline i ≡ never

-- The nodes are a tree with this many leaves and this many levels below its root, or there is no tree.
pub record IsTree (nodes : Vec ℕ Global) (size height : ℕ) : Type 0 where
  pub least : AreLeast nodes.items size
  pub long : vec_len nodes ≡ 2 * size
  pub high : 0 < size → size ≡ leftmost height 1
