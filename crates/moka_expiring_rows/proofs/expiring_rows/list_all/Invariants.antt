use Rattle.std.proofs.Common.{ℕ, List, length}
use Rattle.moka_rows.specs.declared.rows.Row.{Row}
use Rattle.moka_rows.proofs.Callers.{rows_from}
use Rattle.moka_expiry_index.specs.ExpiryIndex.{order_of}
use Rattle.moka_expiring_rows.proofs.Listing.{Lists, FitsIn}
use Rattle.moka_expiring_rows.proofs.expiring_rows.list_all.Given as goal

-- The rows before the cursor are listed.
abbrev pub invariant-loop-cursor : goal.invariant-loop-cursor
invariant-loop-cursor g l =
    ((passed : List (ℕ × Row _ _)) × (rest : List (ℕ × Row _ _)) × Lists (g.R.RowStore.admitted l.rows) (g.R.RowStore.waiting l.rows) l.cursor l.is_whole (order_of l.deadlines) passed rest)
    × FitsIn (g.R.RowStore.admitted l.rows) l.fn.deadlines l.deadlines l.is_whole

abbrev pub decreases-loop-cursor : goal.decreases-loop-cursor
decreases-loop-cursor g l = length (rows_from l.cursor (g.R.RowStore.admitted l.rows))
