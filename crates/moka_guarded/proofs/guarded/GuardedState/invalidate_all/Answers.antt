use Rattle.moka_model.specs.Calls.{InvalidateAll}
use Rattle.moka_value_invariant.proofs.Callers.{kept-after}
use Rattle.moka_guarded.proofs.guarded.GuardedState.invalidate_all.Goals as goal

pub invariant_of-self : goal.invariant_of-self
invariant_of-self g c =
    kept-after g.C.CacheTypes.keeps g.K.PartialEq.eq g.V.Clone.is_clone g.met.K.Eq.laws g.met.C.CacheTypes.equal_keys_keep _ _ (InvalidateAll) c.invalidate_all.ensures.stands tt c.self.invariant

pub returns : goal.returns
returns g c = rw (← c.self.view_is) c.invalidate_all.ensures.stands
