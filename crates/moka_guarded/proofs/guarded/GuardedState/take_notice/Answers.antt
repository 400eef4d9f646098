use Rattle.moka_model.specs.Calls.{TakeNotice}
use Rattle.moka_value_invariant.proofs.Callers.{kept-after}
use Rattle.moka_guarded.proofs.guarded.GuardedState.take_notice.Goals as goal

pub invariant_of-self : goal.invariant_of-self
invariant_of-self g c =
    kept-after g.C.CacheTypes.keeps g.K.PartialEq.eq g.V.Clone.is_clone g.met.K.Eq.laws g.met.C.CacheTypes.equal_keys_keep _ _ (TakeNotice) c.take_notice.ensures.stands tt c.self.invariant

pub returns-clause-step : goal.returns-clause-step
returns-clause-step g c = rw (← c.self.view_is) c.take_notice.ensures.stands

pub returns-clause-reply : goal.returns-clause-reply
returns-clause-reply g c = rw (← c.self.view_is) c.take_notice.ensures.reply
