use Rattle.std.proofs.Common.{◌≡◌, ℕ, ◌+◌, ◌≤◌, Bool, List, length}
use Rattle.moka_rows.specs.declared.rows.Row.{Row}
use Rattle.moka_rows.proofs.Callers.{rows_from}
use Rattle.moka_table.proofs.HiddenWhere.{Hides}
use Rattle.moka_table.proofs.invalidation.hide_admitted.Given as goal

-- Of the rows before the cursor each is hidden of which the predicate holds, by one step, and those from the cursor on
-- are as they were.
abbrev pub invariant-loop-cursor : goal.invariant-loop-cursor
invariant-loop-cursor g l = record {
  room : l.fn.table.room ≤ l.table.room;
  waiting : l.table.waiting ≡ l.fn.table.waiting;
  notices : l.table.notices ≡ l.fn.table.notices;
  hides : (test : _ → _ → Bool) → g.P.Predicate.tests l.predicate test → (passed : List (ℕ × Row _ _)) × (rest : List (ℕ × Row _ _))
      × Hides test l.fn.table.admitted l.table.admitted l.cursor passed rest
      × (l.visits + length rest ≤ l.fn.visits + length l.fn.table.admitted);
}

abbrev pub decreases-loop-cursor : goal.decreases-loop-cursor
decreases-loop-cursor g l = length (rows_from l.cursor l.table.admitted)
