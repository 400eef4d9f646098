use Rattle.moka_guarded.proofs.guarded.GuardedState.contains_key.Goals as goal

pub returns : goal.returns
returns g c = rw (← c.self.view_is) (c.now-now.result, c.now-now.ensures, c.contains_key.ensures.reply)
