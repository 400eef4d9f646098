use Rattle.moka_sync.proofs.Lent.{takes-lent}
use Rattle.moka_sync.proofs.ReplaceIf.{if-some}
use Rattle.moka_sync.proofs.cache.Cache.begin_by_ref.Goals as goal

-- The turn is for the key that was asked for or its clone, at whatever moment.
pub returns-clause-named : goal.returns-clause-named
returns-clause-named g c = let asked = c.begin_by_ref-begun.ensures.step.2 in (asked.0, asked.1, asked.4)

pub begin_by_ref-begun-requires-clause-asks : goal.begin_by_ref-begun-requires-clause-asks
begin_by_ref-begun-requires-clause-asks g c now =
    if-some c.as_mut.result (λ f takes w stored same live kept y shows. takes w.value kept y shows)
    (takes-lent (g.C.CacheTypes.keeps c.args.key.now) g.F.FnMut c.as_mut.result (rw (← c.as_mut.ensures.value) at c.requires.asks))
