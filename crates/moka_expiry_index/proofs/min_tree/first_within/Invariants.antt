use Rattle.std.proofs.Common.{◌-◌, ◌≤◌}
use Rattle.moka_expiry_index.proofs.Levels.{Descends}
use Rattle.moka_expiry_index.proofs.min_tree.first_within.Given as goal

-- the leaves before those below the node are over the bound
abbrev pub invariant-loop : goal.invariant-loop
invariant-loop l = record {
  within : l.counter ≤ l.height;
  descent : Descends l.nodes l.size l.bound (l.height - l.counter) l.node;
}
