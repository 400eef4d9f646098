use Rattle.moka_guarded.proofs.guarded.GuardedState.scan_get.Goals as goal

pub returns-clause-step : goal.returns-clause-step
returns-clause-step g c = rw (← c.self.view_is) (c.now-now.result, c.now-now.ensures, c.scan_get.ensures.ends)
