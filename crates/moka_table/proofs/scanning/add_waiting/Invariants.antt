use Rattle.std.proofs.Common.{◌≡◌, ℕ, ◌+◌, ◌≤◌, List, ◌++◌, length, map}
use Rattle.std.specs.Arc.{arc_value}
use Rattle.moka_rows.specs.declared.rows.Row.{Row}
use Rattle.moka_rows.proofs.Callers.{rows_from}
use Rattle.moka_table.specs.Table.{keys_of}
use Rattle.moka_table.proofs.KeyWalks.{Scans}
use Rattle.moka_table.proofs.scanning.add_waiting.Given as goal

-- the keys of the rows that were passed have been added, by one step each
abbrev pub invariant-loop-cursor : goal.invariant-loop-cursor
invariant-loop-cursor g l = (passed : List (ℕ × Row _ _)) × (rest : List (ℕ × Row _ _)) × Scans l.table.waiting l.cursor passed rest × (map arc_value l.keys.items ≡ map arc_value l.fn.keys.items ++ keys_of passed) × (l.visits + length rest ≤ l.fn.visits + length l.table.waiting)

abbrev pub decreases-loop-cursor : goal.decreases-loop-cursor
decreases-loop-cursor g l = length (rows_from l.cursor l.table.waiting)
