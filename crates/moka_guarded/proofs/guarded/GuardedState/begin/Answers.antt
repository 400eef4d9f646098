use Rattle.moka_guarded.proofs.guarded.GuardedState.begin.Goals as goal

pub returns-clause-step : goal.returns-clause-step
returns-clause-step g c = (c.now-now.result, rw (← c.self.view_is) c.now-now.ensures, c.begin_at.ensures.step)

-- The call's moment is one of those that the closure may be called at.
pub begin_at-requires-clause-asks : goal.begin_at-requires-clause-asks
begin_at-requires-clause-asks g c = c.requires.asks c.now-now.result
