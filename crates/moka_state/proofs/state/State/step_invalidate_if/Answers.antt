use Rattle.moka_state.proofs.state.State.step_invalidate_if.Goals as goal

pub returns-in-Ok-clause-stands : goal.returns-in-Ok-clause-stands
returns-in-Ok-clause-stands g c given steps stands = c.in-Ok.ensures.stands given steps stands
