use Rattle.std.proofs.Common.{◌≡◌, ◌≤◌, length}
use Rattle.moka_model.specs.declared.notification.RemovalCause.TheVariants.{Size}
use Rattle.moka_model.specs.Maintenance.{over}
use Rattle.moka_table.specs.Table.{weight_of}
use Rattle.moka_housekeeper.specs.Maintain.{notice_for}
use Rattle.moka_housekeeper.proofs.Resuming.{Resumes}
use Rattle.moka_housekeeper.proofs.maintain.evict_over_capacity.Given as goal

-- what is over the capacity yet, within what is left of the limit, is all that was
abbrev pub invariant-loop-capacity : goal.invariant-loop-capacity
invariant-loop-capacity g l = record {
  room : l.fn.table.room ≤ l.table.room;
  may_hide : l.table.may_hide ≡ l.fn.table.may_hide;
  waiting : l.table.waiting ≡ l.fn.table.waiting;
  resumes : Resumes (notice_for Size) l.fn.limit (over weight_of l.capacity l.fn.table.admitted l.fn.table.waiting) l.fn.table l.limit (over weight_of l.capacity l.table.admitted l.fn.table.waiting) l.table;
}

abbrev pub decreases-loop-capacity : goal.decreases-loop-capacity
decreases-loop-capacity g l = length l.table.admitted
