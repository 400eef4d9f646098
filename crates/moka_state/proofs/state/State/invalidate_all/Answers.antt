use Rattle.std.proofs.Common.{true, refl}
use Rattle.moka_model.specs.Events.{Hidden}
use Rattle.moka_model.specs.Calls.{InvalidateAll}
use Rattle.moka_state.proofs.Removing.{IsSound-hidden, becomes-hidden}
use Rattle.moka_state.proofs.Views.{follows-event}
use Rattle.moka_state.proofs.state.State.invalidate_all.Goals as goal

pub invariant_of-self : goal.invariant_of-self
invariant_of-self g c =
    let s = c.self.inside in
    (IsSound-hidden (λ _ _. true) s.table c.hide_all.new.self c.hide_all.ensures.admitted c.hide_all.ensures.waiting c.hide_all.ensures.notices _ _ s.housekeeper.lives c.self.invariant.0, c.self.invariant.1)

pub returns-clause-stands : goal.returns-clause-stands
returns-clause-stands g c =
    let s = c.self.inside in
    rw (← c.self.view_is) (follows-event g.K.PartialEq.eq g.met.K.Eq.laws _ _ InvalidateAll (Hidden (λ _ _. true)) (λ _ _. refl)
    (λ _. becomes-hidden (λ _ _. true) s.table c.hide_all.new.self c.hide_all.ensures.admitted c.hide_all.ensures.waiting c.hide_all.ensures.notices g.K.PartialEq.eq _ _ s.latest s.next_number))
