use Rattle.std.proofs.Common.{◌≡◌, ℕ, ◌*◌, ◌<◌, ◌≤◌, vec_len}
use Rattle.moka_expiry_index.specs.MinTree.{IsLeast, leaf}
use Rattle.moka_expiry_index.proofs.min_tree.rebuild.Given as goal

-- the nodes from this one on are least, and the leaves are as they were
abbrev pub invariant-loop-node : goal.invariant-loop-node
invariant-loop-node l = record {
  long : vec_len l.nodes ≡ 2 * l.size;
  within : l.node ≤ l.size;
  inner : (k : ℕ) → 0 < k → l.node ≤ k → k < l.size → IsLeast l.nodes.items k;
  leaves : (i : ℕ) → i < l.size → leaf l.nodes.items l.size i ≡ leaf l.fn.nodes.items l.size i;
}

abbrev pub decreases-loop-node : goal.decreases-loop-node
decreases-loop-node l = l.node
