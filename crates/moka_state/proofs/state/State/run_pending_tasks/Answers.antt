use Rattle.std.proofs.Common.{None, false, refl}
use Rattle.moka_model.specs.Events.{Maintained}
use Rattle.moka_model.specs.Calls.{RunPendingTasks}
use Rattle.moka_state.proofs.Counts.{weighs_one, writes-within}
use Rattle.moka_housekeeper.proofs.Callers.{without-limit}
use Rattle.moka_state.proofs.Maintained.{becomes-maintained, live-after, stored-within}
use Rattle.moka_state.proofs.Sound.{IsSound-maintained}
use Rattle.moka_state.proofs.Views.{follows-event}
use Rattle.moka_state.proofs.state.State.run_pending_tasks.Goals as goal

pub invariant_of-self : goal.invariant_of-self
invariant_of-self g c =
    let s = c.self.inside in
    let whole = without-limit (c.maintain.ensures.maintained c.self.invariant.0.dated) in
    (IsSound-maintained _ _ s.housekeeper.lives s.table c.maintain.new.table c.self.invariant.0 _ _ s.housekeeper.max_capacity c.max-now.result None false whole, c.self.invariant.1)

pub returns-clause-stands : goal.returns-clause-stands
returns-clause-stands g c =
    let s = c.self.inside in
    let whole = without-limit (rw (c.policy.ensures, c.max-now.ensures) at (c.maintain.ensures.maintained c.self.invariant.0.dated)) in
    rw (← c.self.view_is, c.max-now.ensures) (follows-event g.K.PartialEq.eq g.met.K.Eq.laws _ _ (RunPendingTasks c.args.now) (Maintained None c.args.now) (λ _ _. refl)
    (λ _. becomes-maintained g.K.PartialEq.eq _ s.housekeeper.lives refl s.table _ s.latest s.next_number c.args.now None c.maintain.new.table false whole))

pub returns-clause-all_live : goal.returns-clause-all_live
returns-clause-all_live g c given steps stands =
    let s = c.self.inside in
    let same = rw (← c.self.view_is) at stands in
    live-after g.K.PartialEq.eq given steps _ s.housekeeper.lives refl s.table _ s.latest s.next_number same c.args.now c.maintain.new.table (rw (c.policy.ensures, c.max-now.ensures) at (c.maintain.ensures.maintained c.self.invariant.0.dated))

pub returns-clause-within : goal.returns-clause-within
returns-clause-within g c =
    let s = c.self.inside in
    stored-within s.housekeeper.lives s.housekeeper.max_capacity c.max-now.result s.table c.maintain.new.table (c.maintain.ensures.maintained c.self.invariant.0.dated)

pub returns-clause-count : goal.returns-clause-count
returns-clause-count g c given steps stands without =
    let ones = weighs_one g.C.CacheTypes.weight _ without in
    writes-within g.K.PartialEq.eq given _ c.args.now steps ones (returns-clause-stands g c given steps stands)
