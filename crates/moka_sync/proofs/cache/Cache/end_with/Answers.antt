use Rattle.std.specs.Arc.{arc_value}
use Rattle.moka_state.proofs.Loaders.{shared-owes}
use Rattle.moka_sync.proofs.cache.Cache.end_with.Goals as goal

pub end_turn-requires-clause-kept : goal.end_turn-requires-clause-kept
end_turn-requires-clause-kept g c =
    shared-owes (g.C.CacheTypes.keeps (arc_value c.args.turn.key.key)) c.in-Ok.outcome
    (rw (c.in-Ok.ensures.shared, c.into_outcome.ensures.is) c.requires.kept)
