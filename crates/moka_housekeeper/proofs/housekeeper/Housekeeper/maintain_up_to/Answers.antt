use Rattle.moka_housekeeper.proofs.housekeeper.Housekeeper.maintain_up_to.Goals as goal

pub returns-clause-maintained : goal.returns-clause-maintained
returns-clause-maintained g c dated = c.maintain_up_to.ensures.maintained c.args.self.now.lives dated
