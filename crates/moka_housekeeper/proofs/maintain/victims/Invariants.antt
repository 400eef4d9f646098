use Rattle.std.proofs.Common.{ℕ, ◌+◌, ◌≤◌, List}
use Rattle.moka_rows.specs.declared.rows.Row.{Row}
use Rattle.moka_housekeeper.proofs.Judging.{Frees}
use Rattle.moka_housekeeper.proofs.maintain.victims.Given as goal

-- So many victims are counted as were passed, each by one step.
abbrev pub invariant-loop-count : goal.invariant-loop-count
invariant-loop-count g l = record {
  visited : l.visits ≤ l.fn.visits + l.count;
  frees : (passed : List (ℕ × Row _ _)) × (rest : List (ℕ × Row _ _)) × Frees l.capacity l.more l.table.admitted l.cursor l.weight l.count passed rest;
}
