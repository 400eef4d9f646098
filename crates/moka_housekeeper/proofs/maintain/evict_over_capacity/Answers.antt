use Rattle.std.proofs.Common.{◌+◌, ◌∷◌, [], refl, sym, ap, subst, ◌∙◌, arith}
use Rattle.moka_model.specs.declared.notification.RemovalCause.TheVariants.{Size}
use Rattle.moka_model.specs.Maintenance.{fits, over}
use Rattle.moka_model.specs.MaintenanceLaws.{queues}
use Rattle.moka_table.specs.Table.{weight_of}
use Rattle.moka_housekeeper.specs.Maintain.{notice_for, is_within}
use Rattle.moka_housekeeper.proofs.Judging.{fits-within}
use Rattle.moka_housekeeper.proofs.Resuming.{Resumes, resumes-first, resumes-end, resumes-cut}
use Rattle.moka_housekeeper.proofs.Shrinking.{over-none, over-some, some-over}
use Rattle.moka_housekeeper.proofs.Sweeping.{unspent}
use Rattle.moka_housekeeper.proofs.maintain.evict_over_capacity.Goals as goal

pub loop-capacity-init : goal.loop-capacity-init
loop-capacity-init g c = record {
  room = omega arith;
  may_hide = refl;
  waiting = refl;
  resumes = resumes-first (notice_for Size) c.args.limit.now (over weight_of c.args.capacity c.args.table.now.admitted c.args.table.now.waiting) c.args.table.now;
}

pub returns-then-not-take_budget-clause-shrunk : goal.returns-then-not-take_budget-clause-shrunk
returns-then-not-take_budget-clause-shrunk g c =
    let table = c.loop-capacity.table in
    let first = c.args.table.now in
    let heavy = fits-within c.args.capacity 0 table.admitted ∙ ap (λ w. is_within c.args.capacity (0 + w)) (sym c.admitted_weight.ensures) ∙ sym c.fits.ensures ∙ c.loop-capacity-test.true in
    let some = some-over c.args.capacity first.waiting table.admitted heavy in
    let stops = unspent c.loop-capacity.limit c.take_budget.new.limit 1 c.take_budget.result c.take_budget.ensures.lets c.take_budget.ensures.rest c.if-not-take_budget.true in
    let ps0 = over weight_of c.args.capacity first.admitted first.waiting in
    let are = ap (λ l. over weight_of c.args.capacity l first.waiting) some.2 ∙ over-some c.args.capacity first.waiting some.0 some.1 (ap (fits weight_of c.args.capacity 0) (sym some.2) ∙ heavy) in
    let at_first = subst (λ ps. Resumes (notice_for Size) c.args.limit.now ps0 first c.loop-capacity.limit ps table) are c.loop-capacity.invariant.resumes in
    rw stops.1
    (resumes-cut (notice_for Size) c.args.limit.now ps0 first c.loop-capacity.limit (record { evicted = some.0 ∷ []; after = queues some.1 first.waiting }) (over weight_of c.args.capacity some.1 first.waiting) table at_first stops.0)

pub returns-clause-shrunk : goal.returns-clause-shrunk
returns-clause-shrunk g c =
    let table = c.loop-capacity.table in
    let first = c.args.table.now in
    let fit = fits-within c.args.capacity 0 table.admitted ∙ ap (λ w. is_within c.args.capacity (0 + w)) (sym c.admitted_weight.ensures) ∙ sym c.fits.ensures ∙ c.loop-capacity-test.false in
    let ps0 = over weight_of c.args.capacity first.admitted first.waiting in
    resumes-end (notice_for Size) c.args.limit.now ps0 first c.loop-capacity.limit table
    (subst (λ ps. Resumes (notice_for Size) c.args.limit.now ps0 first c.loop-capacity.limit ps table) (over-none c.args.capacity first.waiting table.admitted fit) c.loop-capacity.invariant.resumes)
