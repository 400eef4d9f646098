use Rattle.std.proofs.Common.{[], ◌∷◌}
use Rattle.moka_iter.specs.Walks.{start}
use Rattle.moka_iter.proofs.Laws.{each-live, each-once, alone}
use Rattle.moka_iter.proofs.walk_laws.a_walk_yields_what_lives.Goals as goal

pub returns-clause-live : goal.returns-clause-live
returns-clause-live g c histories now pairs walk = each-live g.K.PartialEq.eq g.met.K.Eq.laws g.V.Clone.is_clone g.V.Clone.is_infallible histories now start pairs walk

pub returns-clause-each_once : goal.returns-clause-each_once
returns-clause-each_once g c home histories now pairs one_cache walk k i live = each-once g.K.PartialEq.eq g.met.K.Eq.laws g.V.Clone.is_clone g.V.Clone.is_infallible home histories now pairs one_cache walk k i live

pub returns-clause-of_one : goal.returns-clause-of_one
returns-clause-of_one g c history now pairs walk k live =
    each-once g.K.PartialEq.eq g.met.K.Eq.laws g.V.Clone.is_clone g.V.Clone.is_infallible (λ q. 0) (history ∷ []) now pairs (alone g.K.PartialEq.eq g.met.K.Eq.laws g.V.Clone.is_clone g.V.Clone.is_infallible history) walk k 0 live
