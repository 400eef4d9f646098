use Rattle.moka_guarded.proofs.guarded.GuardedState.hide_where.Goals as goal

-- The check that predicates are supported changed nothing.
pub returns-clause-step : goal.returns-clause-step
returns-clause-step g c = rw (← c.self.view_is) (rw (← c.predicate_room.ensures.same) c.hide_where.ensures.stands)
