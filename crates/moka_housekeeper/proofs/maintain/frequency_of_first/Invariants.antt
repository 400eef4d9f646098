use Rattle.std.proofs.Common.{ℕ, ◌+◌, ◌≤◌, List}
use Rattle.moka_rows.specs.declared.rows.Row.{Row}
use Rattle.moka_housekeeper.proofs.Judging.{Adds}
use Rattle.moka_housekeeper.proofs.maintain.frequency_of_first.Given as goal

-- The frequencies of those passed are added up, each by one step.
abbrev pub invariant-loop : goal.invariant-loop
invariant-loop g l = record {
  within : l.counter ≤ l.count;
  visited : l.visits ≤ l.fn.visits + l.counter;
  adds : (passed : List (ℕ × Row _ _)) × (rest : List (ℕ × Row _ _)) × Adds (g.F.FrequencySource.count l.source) l.table.admitted l.cursor l.frequency l.counter passed rest;
}
