use Rattle.std.proofs.Common.{Some, None, false, ap, refl}
use Rattle.std.proofs.lemmas.List.{length-map}
use Rattle.moka_model.specs.Events.{Maintained}
use Rattle.moka_model.specs.Calls.{RunPendingTasks, RunPendingTasksUpTo, Left}
use Rattle.moka_table.specs.Table.{removal_of}
use Rattle.moka_state.proofs.Counts.{weighs_one, writes-within, rows-counted}
use Rattle.moka_housekeeper.proofs.Callers.{without-limit, no-part-left}
use Rattle.moka_state.proofs.Maintained.{few-noticed, few-leave, becomes-maintained, cut-after, live-after, stored-within}
use Rattle.moka_state.proofs.Sound.{IsSound-maintained}
use Rattle.moka_state.proofs.Views.{follows-event}
use Rattle.moka_state.proofs.state.State.run_pending_tasks_up_to.Goals as goal

pub invariant_of-self : goal.invariant_of-self
invariant_of-self g c =
    let s = c.self.inside in
    (IsSound-maintained _ _ s.housekeeper.lives s.table c.maintain_up_to-is_cut.new.table c.self.invariant.0 _ _ s.housekeeper.max_capacity c.max-now.result (Some c.args.limit) _ (c.maintain_up_to-is_cut.ensures.maintained c.self.invariant.0.dated), c.self.invariant.1)

pub returns-clause-reply : goal.returns-clause-reply
returns-clause-reply g c given steps stands =
    let s = c.self.inside in
    let same = rw (← c.self.view_is) at stands in
    ap Left (cut-after g.K.PartialEq.eq given steps _ s.housekeeper.lives refl s.table _ s.latest s.next_number same c.args.now (Some c.args.limit) c.maintain_up_to-is_cut.new.table c.maintain_up_to-is_cut.result (rw (c.policy-policy.ensures, c.max-now.ensures) at (c.maintain_up_to-is_cut.ensures.maintained c.self.invariant.0.dated)))

pub returns-clause-stands : goal.returns-clause-stands
returns-clause-stands g c =
    let s = c.self.inside in
    rw (← c.self.view_is, c.max-now.ensures) (follows-event g.K.PartialEq.eq g.met.K.Eq.laws _ _ (RunPendingTasksUpTo c.args.limit c.args.now) (Maintained (Some c.args.limit) c.args.now) (λ _ _. refl)
    (λ _. becomes-maintained g.K.PartialEq.eq _ s.housekeeper.lives refl s.table _ s.latest s.next_number c.args.now (Some c.args.limit) c.maintain_up_to-is_cut.new.table _ (rw (c.policy-policy.ensures, c.max-now.ensures) at (c.maintain_up_to-is_cut.ensures.maintained c.self.invariant.0.dated))))

pub returns-clause-fewer : goal.returns-clause-fewer
returns-clause-fewer g c =
    let s = c.self.inside in
    let few = few-leave c.args.limit (c.maintain_up_to-is_cut.ensures.maintained c.self.invariant.0.dated) in
    rw (← c.self.view_is, rows-counted s.table, rows-counted c.maintain_up_to-is_cut.new.table) few

pub returns-clause-noticed : goal.returns-clause-noticed
returns-clause-noticed g c =
    let s = c.self.inside in
    let few = few-noticed c.args.limit (c.maintain_up_to-is_cut.ensures.maintained c.self.invariant.0.dated) in
    rw (← c.self.view_is, length-map s.table.notices removal_of, length-map c.maintain_up_to-is_cut.new.table.notices removal_of) few

pub returns-clause-whole : goal.returns-clause-whole
returns-clause-whole g c none =
    let s = c.self.inside in
    let whole = without-limit (no-part-left (rw (c.policy-policy.ensures, c.max-now.ensures) at (c.maintain_up_to-is_cut.ensures.maintained c.self.invariant.0.dated)) none) in
    rw (← c.self.view_is, c.max-now.ensures) (follows-event g.K.PartialEq.eq g.met.K.Eq.laws _ _ (RunPendingTasks c.args.now) (Maintained None c.args.now) (λ _ _. refl)
    (λ _. becomes-maintained g.K.PartialEq.eq _ s.housekeeper.lives refl s.table _ s.latest s.next_number c.args.now None c.maintain_up_to-is_cut.new.table false whole))

pub returns-clause-none_waits : goal.returns-clause-none_waits
returns-clause-none_waits g c none =
    let whole = no-part-left (c.maintain_up_to-is_cut.ensures.maintained c.self.invariant.0.dated) none in
    rw whole.waiting refl

pub returns-clause-all_live : goal.returns-clause-all_live
returns-clause-all_live g c none given steps stands =
    let s = c.self.inside in
    let same = rw (← c.self.view_is) at stands in
    live-after g.K.PartialEq.eq given steps _ s.housekeeper.lives refl s.table _ s.latest s.next_number same c.args.now c.maintain_up_to-is_cut.new.table (no-part-left (rw (c.policy-policy.ensures, c.max-now.ensures) at (c.maintain_up_to-is_cut.ensures.maintained c.self.invariant.0.dated)) none)

pub returns-clause-within : goal.returns-clause-within
returns-clause-within g c none =
    let s = c.self.inside in
    stored-within s.housekeeper.lives s.housekeeper.max_capacity c.max-now.result s.table c.maintain_up_to-is_cut.new.table (no-part-left (c.maintain_up_to-is_cut.ensures.maintained c.self.invariant.0.dated) none)

pub returns-clause-count : goal.returns-clause-count
returns-clause-count g c none given steps stands without =
    let ones = weighs_one g.C.CacheTypes.weight _ without in
    writes-within g.K.PartialEq.eq given _ c.args.now steps ones (returns-clause-whole g c none given steps stands)
