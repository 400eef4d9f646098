use Rattle.std.proofs.Common.{Some}
use Rattle.moka_model.specs.Calls.{Insert, Get, Found, after}
use Rattle.moka_model.proofs.Callers.{IsLegal-after}
use Rattle.moka_value_invariant.proofs.KeptCalls.{said-keeps, steps-keep}
use Rattle.moka_value_invariant.proofs.keep_laws.an_inserted_value_is_found_as_kept.Goals as goal

pub returns-clause-next : goal.returns-clause-next
returns-clause-next g c k q v w at now owed settings steps legal keep says =
    said-keeps g.C.CacheTypes.keeps g.K.PartialEq.eq settings g.met.K.Eq.laws g.met.C.CacheTypes.equal_keys_keep (after g.K.PartialEq.eq settings (Insert k v at) steps) (IsLegal-after g.K.PartialEq.eq settings (Insert k v at) steps legal)
    (steps-keep g.C.CacheTypes.keeps g.K.PartialEq.eq settings g.met.K.Eq.laws g.met.C.CacheTypes.equal_keys_keep steps legal keep (Insert k v at) owed) (Get q now) (Found (Some w)) tt says
