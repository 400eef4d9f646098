use Rattle.std.proofs.Common.{refl}
use Rattle.moka_table.proofs.Finds.{found-row}
use Rattle.moka_table.proofs.table.Table.slot_now.Goals as goal

pub returns-in-Some-clause-slot : goal.returns-in-Some-clause-slot
returns-in-Some-clause-slot g c =
    let found = found-row _ _ c.in-Some.ensures.stored (rw c.deref.ensures at c.in-Some.ensures.found) in
    rw c.in-Stored.is (refl, found.0, found.1, found.2)
