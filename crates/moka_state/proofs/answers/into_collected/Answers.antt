use Rattle.moka_state.proofs.answers.into_collected.Goals as goal

pub returns-in-Ended-clause-unspent : goal.returns-in-Ended-clause-unspent
returns-in-Ended-clause-unspent g c name is = c.collected_end.ensures.spent name
