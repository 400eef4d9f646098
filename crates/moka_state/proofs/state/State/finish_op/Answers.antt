use Rattle.moka_state.proofs.state.State.finish_op.Goals as goal

pub returns-in-Put : goal.returns-in-Put
returns-in-Put g c = rw c.in-Put.is c.finish_put.ensures

pub returns-in-Remove : goal.returns-in-Remove
returns-in-Remove g c = rw c.in-Remove.is c.finish_remove.ensures

pub returns-in-Nop : goal.returns-in-Nop
returns-in-Nop g c = rw c.in-Nop.is c.finish_nop.ensures
