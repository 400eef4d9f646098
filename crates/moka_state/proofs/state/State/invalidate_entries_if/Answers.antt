use Rattle.moka_state.proofs.state.State.invalidate_entries_if.Goals as goal

pub returns-clause-stands : goal.returns-clause-stands
returns-clause-stands g c = rw c.predicate_room.ensures.same at c.hide_where.ensures.stands
