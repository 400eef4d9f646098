-- The nodes below a node of a tree.
use Rattle.std.proofs.Common.{◌≡◌, ℕ, zero, suc, ◌+◌, ◌*◌, ◌<◌, ◌≤◌, ◌⊎◌, inl, inr, List, get_or, refl, subst, arith}
use Rattle.std.proofs.lemmas.Bool.{cases_lt}
use Rattle.moka_expiry_index.specs.MinTree.{AreLeast, IsLeast, leftmost}

-- the first node some levels below a node does not come before it
pub level-behind : (e k : ℕ) → k ≤ leftmost e k
level-behind zero k = omega arith
level-behind (suc e) k = let h = level-behind e (2 * k) in omega arith

-- the first node below the next node comes later
pub levels-ordered : (e k : ℕ) → leftmost e k ≤ leftmost e (k + 1)
levels-ordered zero k = omega arith
levels-ordered (suc e) k =
    let a = levels-ordered e (2 * k) in
    let b = levels-ordered e (2 * k + 1) in
    let same : 2 * k + 1 + 1 ≡ 2 * (k + 1) = omega arith in
    let c : leftmost e (2 * k + 1) ≤ leftmost e (2 * (k + 1)) = subst (λ (n : ℕ). leftmost e (2 * k + 1) ≤ leftmost e n) same b in
    omega arith

-- the first node some levels below has an index greater than the number of levels
pub level-long : (e k : ℕ) → 0 < k → e + k ≤ leftmost e k
level-long zero k some = omega arith
level-long (suc e) k some = let h = level-long e (2 * k) (omega arith) in omega (arith, h, some)

-- the first node below node 2k has twice the index of the first node below node k
pub level-doubled : (e k : ℕ) → leftmost e (2 * k) ≡ 2 * leftmost e k
level-doubled zero k = refl
level-doubled (suc e) k = level-doubled e (2 * k)

-- a node is at most each node below it
pub least-of_level : (nodes : List ℕ) (size : ℕ) → AreLeast nodes size → (e k m : ℕ) → 0 < k → leftmost e k ≤ m → m < leftmost e (k + 1) → m < 2 * size → get_or nodes k 0 ≤ get_or nodes m 0
least-of_level nodes size tree zero k m some from to within = let same : k ≡ m = omega arith in subst (λ (n : ℕ). get_or nodes k 0 ≤ get_or nodes n 0) same (omega arith)
least-of_level nodes size tree (suc e) k m some from to within =
    let grows = level-behind e (2 * k) in
    let least : IsLeast nodes k = tree k some (omega arith) in
    let same : 2 * (k + 1) ≡ 2 * k + 1 + 1 = omega arith in
    let end : m < leftmost e (2 * k + 1 + 1) = subst (λ (n : ℕ). m < leftmost e n) same to in
    side (cases_lt m (leftmost e (2 * k + 1)))
    (λ left. least-of_level nodes size tree e (2 * k) m (omega arith) from left within)
    (λ right. least-of_level nodes size tree e (2 * k + 1) m (omega arith) right end within)
    least
  where
    side : (m < leftmost e (2 * k + 1)) ⊎ (leftmost e (2 * k + 1) ≤ m)
        → (m < leftmost e (2 * k + 1) → get_or nodes (2 * k) 0 ≤ get_or nodes m 0)
        → (leftmost e (2 * k + 1) ≤ m → get_or nodes (2 * k + 1) 0 ≤ get_or nodes m 0)
        → IsLeast nodes k → get_or nodes k 0 ≤ get_or nodes m 0
    side (inl left) on_left on_right least = let h = on_left left in omega arith
    side (inr right) on_left on_right least = let h = on_right right in omega arith

-- A search for the first leaf within a bound is at a node this many levels above the leaves: the leaves before those
-- below it are over the bound.
pub record Descends (nodes : List ℕ) (size bound levels node : ℕ) : Type 0 where
  pub some : 0 < node
  pub start : size ≤ leftmost levels node
  pub end : leftmost levels (node + 1) ≤ 2 * size
  pub at_most : get_or nodes node 0 ≤ bound
  pub before : (m : ℕ) → size ≤ m → m < leftmost levels node → bound < get_or nodes m 0

module _ (nodes : List ℕ) (size bound : ℕ) (tree : AreLeast nodes size) where
  pub descent-first : (height : ℕ) → size ≡ leftmost height 1 → get_or nodes 1 0 ≤ bound → Descends nodes size bound height 1
  descent-first height high at_most = record {
    some = omega arith;
    start = omega arith;
    end = let h = level-doubled height 1 in omega arith;
    at_most = at_most;
    before = λ m from to. omega arith;
  }

  -- all leaves are over a bound that the root is over
  pub root-over : (height i : ℕ) → size ≡ leftmost height 1 → bound < get_or nodes 1 0 → i < size → bound < get_or nodes (size + i) 0
  root-over height i high over within =
      let h = level-doubled height 1 in
      let least = least-of_level nodes size tree height 1 (size + i) (omega arith) (omega arith) (omega arith) (omega arith) in
      omega arith

  module _ (e node : ℕ) (at : Descends nodes size bound (suc e) node) where
    pub descent-inner : node < size
    descent-inner = let h = level-behind e (2 * (node + 1)) in let end = at.end in omega arith

    pub descent-left : get_or nodes (2 * node) 0 ≤ bound → Descends nodes size bound e (2 * node)
    descent-left at_most = record {
      some = let some = at.some in omega arith;
      start = at.start;
      end =
          let same : 2 * (node + 1) ≡ 2 * node + 1 + 1 = omega arith in
          let end : leftmost e (2 * node + 1 + 1) ≤ 2 * size = subst (λ (n : ℕ). leftmost e n ≤ 2 * size) same at.end in
          let h = levels-ordered e (2 * node + 1) in omega arith;
      at_most = at_most;
      before = at.before;
    }

    pub descent-right : bound < get_or nodes (2 * node) 0 → Descends nodes size bound e (2 * node + 1)
    descent-right over = record {
      some = omega arith;
      start = let start = at.start in let h = levels-ordered e (2 * node) in omega arith;
      end =
          let same : 2 * (node + 1) ≡ 2 * node + 1 + 1 = omega arith in
          subst (λ (n : ℕ). leftmost e n ≤ 2 * size) same at.end;
      at_most = let least : IsLeast nodes node = tree node at.some descent-inner in let at_most = at.at_most in omega arith;
      before = λ m from to. go m from to (cases_lt m (leftmost e (2 * node)));
    }
      where
        go : (m : ℕ) → size ≤ m → m < leftmost e (2 * node + 1) → (m < leftmost e (2 * node)) ⊎ (leftmost e (2 * node) ≤ m) → bound < get_or nodes m 0
        go m from to (inl less) = at.before m from less
        go m from to (inr more) =
            let next = levels-ordered e (2 * node + 1) in
            let same : 2 * (node + 1) ≡ 2 * node + 1 + 1 = omega arith in
            let end : leftmost e (2 * node + 1 + 1) ≤ 2 * size = subst (λ (n : ℕ). leftmost e n ≤ 2 * size) same at.end in
            let some = at.some in
            let least = least-of_level nodes size tree e (2 * node) m (omega arith) more to (omega arith) in
            omega arith
