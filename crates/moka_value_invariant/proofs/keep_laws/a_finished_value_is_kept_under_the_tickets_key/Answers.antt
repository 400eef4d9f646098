use Rattle.std.proofs.Common.{Some}
use Rattle.moka_model.specs.declared.turns.Outcome.TheVariants as outcomes
use Rattle.moka_model.specs.Calls.{Finish, Collect, Get, Entered, Found, after}
use Rattle.moka_model.proofs.Callers.{IsLegal-after}
use Rattle.moka_value_invariant.proofs.KeptCalls.{said-keeps, steps-keep}
use Rattle.moka_value_invariant.proofs.keep_laws.a_finished_value_is_kept_under_the_tickets_key.Goals as goal

pub returns-clause-collected : goal.returns-clause-collected
returns-clause-collected g c name ticket v at e owed settings steps legal keep says =
    said-keeps g.C.CacheTypes.keeps g.K.PartialEq.eq settings g.met.K.Eq.laws g.met.C.CacheTypes.equal_keys_keep (after g.K.PartialEq.eq settings (Finish name (outcomes.Value v) at) steps) (IsLegal-after g.K.PartialEq.eq settings (Finish name (outcomes.Value v) at) steps legal)
    (steps-keep g.C.CacheTypes.keeps g.K.PartialEq.eq settings g.met.K.Eq.laws g.met.C.CacheTypes.equal_keys_keep steps legal keep (Finish name (outcomes.Value v) at) owed) (Collect ticket) (Entered e) tt says

pub returns-clause-found : goal.returns-clause-found
returns-clause-found g c name k v w at now owed settings steps legal keep says =
    said-keeps g.C.CacheTypes.keeps g.K.PartialEq.eq settings g.met.K.Eq.laws g.met.C.CacheTypes.equal_keys_keep (after g.K.PartialEq.eq settings (Finish name (outcomes.Value v) at) steps) (IsLegal-after g.K.PartialEq.eq settings (Finish name (outcomes.Value v) at) steps legal)
    (steps-keep g.C.CacheTypes.keeps g.K.PartialEq.eq settings g.met.K.Eq.laws g.met.C.CacheTypes.equal_keys_keep steps legal keep (Finish name (outcomes.Value v) at) owed) (Get k now) (Found (Some w)) tt says

pub returns-clause-returned : goal.returns-clause-returned
returns-clause-returned g c name v at e owed settings steps legal keep says = said-keeps g.C.CacheTypes.keeps g.K.PartialEq.eq settings g.met.K.Eq.laws g.met.C.CacheTypes.equal_keys_keep steps legal keep (Finish name (outcomes.Value v) at) (Entered e) owed says
