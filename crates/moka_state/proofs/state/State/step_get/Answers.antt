use Rattle.moka_state.proofs.state.State.step_get.Goals as goal

pub returns-in-Ok-clause-stands : goal.returns-in-Ok-clause-stands
returns-in-Ok-clause-stands g c given steps stands = rw c.deref.ensures at (c.in-Ok.ensures.ends.stands given steps stands)
