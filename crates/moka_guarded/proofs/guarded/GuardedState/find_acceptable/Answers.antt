use Rattle.moka_guarded.proofs.guarded.GuardedState.find_acceptable.Goals as goal

pub returns-clause-step : goal.returns-clause-step
returns-clause-step g c = (c.now-now.result, rw (← c.self.view_is) c.now-now.ensures, c.find_acceptable_with_hash.ensures.step)
