use Rattle.moka_turns.proofs.table.TurnTable.wait_for.Goals as goal

pub returns-in-Ok-clause-begins : goal.returns-in-Ok-clause-begins
returns-in-Ok-clause-begins g c number hash_of ts respects hashed sound keeps =
    rw c.if-not-may_wait.false (c.in-Ok.ensures.begins number hash_of ts respects hashed sound keeps)

pub returns-in-Err-clause-begins : goal.returns-in-Err-clause-begins
returns-in-Err-clause-begins g c number hash_of ts respects hashed sound keeps =
    rw c.if-not-may_wait.false (c.in-Err.ensures.begins number hash_of ts respects hashed sound keeps)
