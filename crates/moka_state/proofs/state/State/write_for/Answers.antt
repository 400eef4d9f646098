use Rattle.moka_state.proofs.state.State.write_for.Goals as goal

pub returns-in-Ok-write-clause-stands : goal.returns-in-Ok-write-clause-stands
returns-in-Ok-write-clause-stands g c given steps stands = rw c.in-Ok.ensures at (c.in-Ok-write.ensures.ends.stands given steps stands)
