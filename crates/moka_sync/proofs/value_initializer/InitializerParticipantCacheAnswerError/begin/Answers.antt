use Rattle.std.specs.Arc.{arc_value}
use Rattle.moka_sync.proofs.ReplaceIf.{takes-after, takes-once}
use Rattle.moka_sync.proofs.value_initializer.InitializerParticipantCacheAnswerError.begin.Goals as goal

-- before this begin the closure may be called once,
pub begin_reusing-requires-clause-asks : goal.begin_reusing-requires-clause-asks
begin_reusing-requires-clause-asks g c =
    takes-once (g.C.CacheTypes.keeps (arc_value c.self.inside.key)) g.P.FnMut c.self.inside.replace_if (rw (← c.self.view_is) at c.requires)

-- and after it once more
pub returns-clause-still : goal.returns-clause-still
returns-clause-still g c =
    takes-after (g.C.CacheTypes.keeps (arc_value c.self.inside.key)) g.P.FnMut c.self.inside.replace_if c.begin_reusing.new.replace_if c.begin_reusing.ensures.left (rw (← c.self.view_is) at c.requires)
