use Rattle.std.proofs.Common.{Some}
use Rattle.moka_model.specs.Calls.{Get, Remove, OrInsert, Begin, BeginCompute, Found, Entered, Run}
use Rattle.moka_value_invariant.proofs.KeptCalls.{said-keeps}
use Rattle.moka_value_invariant.proofs.keep_laws.a_look_finds_a_kept_value.Goals as goal

pub returns-clause-get : goal.returns-clause-get
returns-clause-get g c k v at settings steps legal keep says = said-keeps g.C.CacheTypes.keeps g.K.PartialEq.eq settings g.met.K.Eq.laws g.met.C.CacheTypes.equal_keys_keep steps legal keep (Get k at) (Found (Some v)) tt says

pub returns-clause-remove : goal.returns-clause-remove
returns-clause-remove g c k v at settings steps legal keep says = said-keeps g.C.CacheTypes.keeps g.K.PartialEq.eq settings g.met.K.Eq.laws g.met.C.CacheTypes.equal_keys_keep steps legal keep (Remove k at) (Found (Some v)) tt says

pub returns-clause-or_insert : goal.returns-clause-or_insert
returns-clause-or_insert g c k v at e owed settings steps legal keep says = said-keeps g.C.CacheTypes.keeps g.K.PartialEq.eq settings g.met.K.Eq.laws g.met.C.CacheTypes.equal_keys_keep steps legal keep (OrInsert k v at) (Entered e) owed says

pub returns-clause-begin : goal.returns-clause-begin
returns-clause-begin g c k kind replace at e settings steps legal keep says = said-keeps g.C.CacheTypes.keeps g.K.PartialEq.eq settings g.met.K.Eq.laws g.met.C.CacheTypes.equal_keys_keep steps legal keep (Begin k kind replace at) (Entered e) tt says

pub returns-clause-compute : goal.returns-clause-compute
returns-clause-compute g c k keep at name e settings steps legal kept says = said-keeps g.C.CacheTypes.keeps g.K.PartialEq.eq settings g.met.K.Eq.laws g.met.C.CacheTypes.equal_keys_keep steps legal kept (BeginCompute k keep at) (Run name (Some e)) tt says
