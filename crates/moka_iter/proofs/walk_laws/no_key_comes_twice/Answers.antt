use Rattle.moka_iter.proofs.Laws.{no-key-twice, stay-alone}
use Rattle.moka_iter.proofs.walk_laws.no_key_comes_twice.Goals as goal

pub returns-clause-segments : goal.returns-clause-segments
returns-clause-segments g c home calls new stay walk k = no-key-twice g.K.PartialEq.eq g.met.K.Eq.laws g.V.Clone.is_clone g.V.Clone.is_infallible home calls new stay walk k

pub returns-clause-of_one : goal.returns-clause-of_one
returns-clause-of_one g c calls new few walk k =
    no-key-twice g.K.PartialEq.eq g.met.K.Eq.laws g.V.Clone.is_clone g.V.Clone.is_infallible (λ q. 0) calls new (stay-alone g.K.PartialEq.eq g.met.K.Eq.laws g.V.Clone.is_clone g.V.Clone.is_infallible calls few) walk k
