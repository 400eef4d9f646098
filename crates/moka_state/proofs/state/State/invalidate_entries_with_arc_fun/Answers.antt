use Rattle.moka_state.proofs.state.State.invalidate_entries_with_arc_fun.Goals as goal

pub returns-clause-stands : goal.returns-clause-stands
returns-clause-stands g c = rw (c.deref.ensures, c.predicate_room.ensures.same) at c.hide_where.ensures.stands
