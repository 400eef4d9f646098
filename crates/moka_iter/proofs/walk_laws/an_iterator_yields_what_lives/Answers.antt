use Rattle.std.proofs.Common.{[], ◌∷◌}
use Rattle.moka_iter.specs.Walks.{start}
use Rattle.moka_iter.proofs.Laws.{each-live, each-once, alone}
use Rattle.moka_iter.proofs.Iterations.{yields-from}
use Rattle.moka_iter.proofs.walk_laws.an_iterator_yields_what_lives.Goals as goal

pub returns-clause-live : goal.returns-clause-live
returns-clause-live g c histories now iter pairs begins still just =
    each-live g.K.PartialEq.eq g.met.K.Eq.laws g.V.Clone.is_clone g.V.Clone.is_infallible histories now start pairs
    (yields-from g.K.PartialEq.eq g.V.Clone.is_clone g.V.Clone.is_infallible g.G.ScanningGet.stands g.G.ScanningGet.finds histories now start iter pairs begins still just)

pub returns-clause-each_once : goal.returns-clause-each_once
returns-clause-each_once g c home histories now iter pairs begins still just one_cache k i live =
    each-once g.K.PartialEq.eq g.met.K.Eq.laws g.V.Clone.is_clone g.V.Clone.is_infallible home histories now pairs one_cache
    (yields-from g.K.PartialEq.eq g.V.Clone.is_clone g.V.Clone.is_infallible g.G.ScanningGet.stands g.G.ScanningGet.finds histories now start iter pairs begins still just) k i live

pub returns-clause-of_one : goal.returns-clause-of_one
returns-clause-of_one g c history now iter pairs begins still just k live =
    each-once g.K.PartialEq.eq g.met.K.Eq.laws g.V.Clone.is_clone g.V.Clone.is_infallible (λ q. 0) (history ∷ []) now pairs (alone g.K.PartialEq.eq g.met.K.Eq.laws g.V.Clone.is_clone g.V.Clone.is_infallible history)
    (yields-from g.K.PartialEq.eq g.V.Clone.is_clone g.V.Clone.is_infallible g.G.ScanningGet.stands g.G.ScanningGet.finds (history ∷ []) now start iter pairs begins still just) k 0 live
