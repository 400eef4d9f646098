use Rattle.std.proofs.Common.{◌≡◌, ℕ, ◌+◌, ◌≤◌, List, [], length}
use Rattle.moka_rows.specs.declared.rows.Row.{Row}
use Rattle.moka_rows.proofs.Callers.{rows_from}
use Rattle.moka_housekeeper.specs.Maintain.{notice_dead}
use Rattle.moka_housekeeper.proofs.Resuming.{Resumes}
use Rattle.moka_housekeeper.proofs.Sweeping.{Sweeps, waiting_parts}
use Rattle.moka_housekeeper.proofs.maintain.evict_dead_waiting.Given as goal

-- The rows before the cursor are swept, each by one step, and those from the cursor on are not.
abbrev pub invariant-loop-cursor : goal.invariant-loop-cursor
invariant-loop-cursor g l = record {
  room : l.fn.table.room ≤ l.table.room;
  admitted : l.table.admitted ≡ l.fn.table.admitted;
  sweeps : (kept : List (ℕ × Row _ _)) × (rest : List (ℕ × Row _ _)) × Sweeps l.table.waiting l.cursor kept rest
      × Resumes notice_dead l.fn.limit (waiting_parts l.now l.fn.table.admitted [] l.fn.table.waiting) l.fn.table l.limit (waiting_parts l.now l.fn.table.admitted kept rest) l.table
      × (l.visits + length rest ≤ l.fn.visits + length l.fn.table.waiting);
}

abbrev pub decreases-loop-cursor : goal.decreases-loop-cursor
decreases-loop-cursor g l = length (rows_from l.cursor l.table.waiting)
