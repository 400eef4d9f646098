use Rattle.std.specs.Arc.{arc_value}
use Rattle.moka_state.proofs.Loaders.{given-fits}
use Rattle.moka_sync.proofs.cache.Cache.end_turn.Goals as goal

pub returns-in-Ok-Answer-clause-fits : goal.returns-in-Ok-Answer-clause-fits
returns-in-Ok-Answer-clause-fits g c =
    given-fits g.V.Clone.is_clone (arc_value c.args.turn.key.key) c.args.turn.key.kind c.args.outcome c.in-Ok-Answer.answer c.requires.fits (rw c.in-Ok-Answer.field-0-is at c.in-Ok-Answer.ensures.given)
