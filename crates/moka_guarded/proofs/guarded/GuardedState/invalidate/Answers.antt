use Rattle.moka_model.specs.Calls.{Invalidate}
use Rattle.moka_value_invariant.proofs.Callers.{kept-after}
use Rattle.moka_guarded.proofs.guarded.GuardedState.invalidate.Goals as goal

pub invariant_of-self : goal.invariant_of-self
invariant_of-self g c =
    kept-after g.C.CacheTypes.keeps g.K.PartialEq.eq g.V.Clone.is_clone g.met.K.Eq.laws g.met.C.CacheTypes.equal_keys_keep _ _ (Invalidate c.args.key.now c.now-now.result) c.invalidate.ensures.stands tt c.self.invariant

pub returns : goal.returns
returns g c = rw (← c.self.view_is) (c.now-now.result, c.now-now.ensures, c.invalidate.ensures.stands)
