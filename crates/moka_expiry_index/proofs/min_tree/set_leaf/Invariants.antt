use Rattle.std.proofs.Common.{◌≡◌, ◌≢◌, ℕ, ◌*◌, ◌<◌, ◌/◌, vec_len}
use Rattle.moka_expiry_index.specs.MinTree.{IsLeast, SetsLeaf}
use Rattle.moka_expiry_index.proofs.min_tree.set_leaf.Given as goal

-- all inner nodes are least but the one above
abbrev pub invariant-loop-node : goal.invariant-loop-node
invariant-loop-node l = record {
  long : vec_len l.nodes ≡ 2 * l.size;
  within : l.node < 2 * l.size;
  inner : (k : ℕ) → 0 < k → k < l.size → k ≢ l.node / 2 → IsLeast l.nodes.items k;
  set : SetsLeaf l.fn.nodes.items l.nodes.items l.size l.index l.deadline;
}

abbrev pub decreases-loop-node : goal.decreases-loop-node
decreases-loop-node l = l.node
