use Rattle.std.proofs.Common.{◌≡◌, ℕ, ◌*◌, ◌<◌, ◌≤◌, vec_len}
use Rattle.moka_expiry_index.specs.MinTree.{leaf, never}
use Rattle.moka_expiry_index.proofs.min_tree.clear_from.Given as goal

-- the leaves before this one are never, from the first one on
abbrev pub invariant-loop-index : goal.invariant-loop-index
invariant-loop-index l = record {
  long : vec_len l.nodes ≡ 2 * l.size;
  before : (i : ℕ) → i < l.from → leaf l.nodes.items l.size i ≡ leaf l.fn.nodes.items l.size i;
  behind : (i : ℕ) → l.from ≤ i → i < l.index → leaf l.nodes.items l.size i ≡ never;
}
