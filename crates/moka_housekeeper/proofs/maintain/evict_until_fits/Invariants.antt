use Rattle.std.proofs.Common.{◌≡◌, ◌≤◌, length}
use Rattle.moka_model.specs.Maintenance.{front}
use Rattle.moka_table.specs.Table.{weight_of}
use Rattle.moka_housekeeper.proofs.Maintaining.{EvictsFirst}
use Rattle.moka_housekeeper.proofs.maintain.evict_until_fits.Given as goal

-- what has to leave yet is left of what had to leave at first
abbrev pub invariant-loop-capacity : goal.invariant-loop-capacity
invariant-loop-capacity g l = record {
  may_hide : l.table.may_hide ≡ l.fn.table.may_hide;
  room : l.fn.table.room ≤ l.table.room;
  evicts : EvictsFirst (front weight_of l.capacity l.more l.fn.table.admitted) l.fn.table l.table (front weight_of l.capacity l.more l.table.admitted);
}

abbrev pub decreases-loop-capacity : goal.decreases-loop-capacity
decreases-loop-capacity g l = length l.table.admitted
