use Rattle.moka_guarded.proofs.guarded.GuardedState.weighted_size.Goals as goal

pub returns : goal.returns
returns g c = rw (← c.self.view_is) c.weighted_size.ensures.reply
