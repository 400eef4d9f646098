use Rattle.moka_table.proofs.table.Table.plan_write.Goals.{in-Ok-slot, in-Err}
use Rattle.moka_table.proofs.table.Table.plan_write.Goals as goal

-- The slot changes what the table discards, and no row.
pub returns-after-slot-clause-plan : goal.returns-after-slot-clause-plan
returns-after-slot-clause-plan g c = elim c.match-slot.branch [
  | in-Ok-slot w ↦ rw w.result-is (
    rw (c.waiting_len.ensures, ← c.self.view_is) at c.if-waiting_len-lt-FLUSH_POINT.true,
    c.in-Ok.lookup,
    rw (c.key.ensures, ← c.self.view_is) at c.in-Ok.ensures.lookup,
    w.in-Ok-slot.ensures.slot,
  )
  | in-Err w ↦ rw w.result-is tt
]
