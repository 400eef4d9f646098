use Rattle.moka_housekeeper.proofs.housekeeper.Housekeeper.slot_after_flush.Goals as goal

pub returns-clause-slot : goal.returns-clause-slot
returns-clause-slot g c dated =
    (c.maintain_up_to.result, rw c.slot_now.ensures.same (c.maintain_up_to.ensures.maintained dated), rw c.slot_now.ensures.same c.slot_now.ensures.slot)
