use Rattle.std.proofs.Common.{◌≡◌, None, take}
use Rattle.moka_rows.specs.Rows.{row_under}
use Rattle.moka_rows.proofs.list_rows.place_of.Given as goal

abbrev pub invariant-loop-place : goal.invariant-loop-place
invariant-loop-place g l = row_under l.number (take l.place l.rows) ≡ None
