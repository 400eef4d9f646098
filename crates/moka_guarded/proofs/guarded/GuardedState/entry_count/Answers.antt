use Rattle.moka_guarded.proofs.guarded.GuardedState.entry_count.Goals as goal

pub returns : goal.returns
returns g c = rw (← c.self.view_is) c.entry_count.ensures.reply
