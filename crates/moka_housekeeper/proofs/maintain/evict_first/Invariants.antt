use Rattle.std.proofs.Common.{◌≡◌, ◌-◌, ◌≤◌}
use Rattle.moka_housekeeper.proofs.Maintaining.{EvictsFirst}
use Rattle.moka_housekeeper.proofs.maintain.evict_first.Given as goal

abbrev pub invariant-loop : goal.invariant-loop
invariant-loop g l = record {
  within : l.counter ≤ l.count;
  may_hide : l.table.may_hide ≡ l.fn.table.may_hide;
  room : l.fn.table.room ≤ l.table.room;
  evicts : EvictsFirst l.count l.fn.table l.table (l.count - l.counter);
}
