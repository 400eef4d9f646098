use Rattle.std.proofs.Common.{◌≡◌, drop}
use Rattle.moka_rows.specs.Rows.{expired_at}
use Rattle.moka_rows.proofs.list_rows.find_expired.Given as goal

-- the rows that were passed live
abbrev pub invariant-loop-number : goal.invariant-loop-number
invariant-loop-number g l = expired_at l.now (drop l.number-index l.rows) ≡ expired_at l.now l.rows
