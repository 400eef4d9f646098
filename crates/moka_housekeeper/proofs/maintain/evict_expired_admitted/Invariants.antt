use Rattle.std.proofs.Common.{◌≡◌, ◌≤◌, [], length}
use Rattle.moka_table.specs.Table.{AreShown}
use Rattle.moka_housekeeper.specs.Maintain.{notice_dead}
use Rattle.moka_housekeeper.proofs.FirstDead.{admitted_parts}
use Rattle.moka_housekeeper.proofs.Resuming.{Resumes}
use Rattle.moka_housekeeper.proofs.maintain.evict_expired_admitted.Given as goal

-- what is left to do for the rows that stand, within what is left of the limit, is what there was to do
abbrev pub invariant-loop-expired : goal.invariant-loop-expired
invariant-loop-expired g l = record {
  room : l.fn.table.room ≤ l.table.room;
  waiting : l.table.waiting ≡ l.fn.table.waiting;
  shown : AreShown l.table.admitted;
  resumes : Resumes notice_dead l.fn.limit (admitted_parts l.now l.fn.table.waiting [] l.fn.table.admitted) l.fn.table l.limit (admitted_parts l.now l.fn.table.waiting [] l.table.admitted) l.table;
}

abbrev pub decreases-loop-expired : goal.decreases-loop-expired
decreases-loop-expired g l = length l.table.admitted
