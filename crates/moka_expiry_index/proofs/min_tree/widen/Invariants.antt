use Rattle.std.proofs.Common.{◌≡◌, ℕ, ◌*◌, ◌<◌, ◌≤◌, vec_len}
use Rattle.moka_expiry_index.specs.MinTree.{leaf, never}
use Rattle.moka_expiry_index.proofs.min_tree.widen.Given as goal

-- the leaves before this one stand in both trees
abbrev pub invariant-loop-index : goal.invariant-loop-index
invariant-loop-index l = record {
  long : vec_len l.nodes ≡ 2 * l.wider;
  old : (i : ℕ) → i < l.size → leaf l.nodes.items l.size i ≡ leaf l.fn.nodes.items l.size i;
  new : (i : ℕ) → i < l.index → leaf l.nodes.items l.wider i ≡ leaf l.fn.nodes.items l.size i;
  fresh : (i : ℕ) → l.size ≤ i → i < l.wider → leaf l.nodes.items l.wider i ≡ never;
}
