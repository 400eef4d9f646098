use Rattle.std.proofs.Common.{◌≡◌, false, cond, length, ◌∙◌, ◌++◌, ◌∷◌, [], refl, sym, ap, subst, arith}
use Rattle.moka_model.specs.declared.notification.RemovalCause.TheVariants.{Expired, Explicit}
use Rattle.moka_model.specs.MaintenanceLaws.{queues}
use Rattle.moka_rows.specs.Rows.{first_number, without_row}
use Rattle.moka_rows.proofs.Callers.{row_under-append_left, differ-front}
use Rattle.moka_table.proofs.Callers.{of-row, of-taken-admitted}
use Rattle.moka_housekeeper.specs.Maintain.{notice_for, notice_dead}
use Rattle.moka_housekeeper.proofs.Maintaining.{left-admitted}
use Rattle.moka_housekeeper.proofs.FirstDead.{admitted_parts, first-expired, none-swept, expired-shown}
use Rattle.moka_housekeeper.proofs.Resuming.{Resumes, resumes-first, resumes-end, resumes-cut, resumes-over}
use Rattle.moka_housekeeper.proofs.Sweeping.{queues-are, spent, unspent}
use Rattle.moka_housekeeper.proofs.maintain.evict_expired_admitted.Goals as goal

pub evict-requires : goal.evict-requires
evict-requires g c =
    let table = c.loop-expired.table in
    let there = first-expired c.args.now table.admitted c.in-Some.expired c.loop-expired.invariant.shown (differ-front table.admitted table.waiting c.in-Some.ensures.apart c.in-Some.expired) c.in-Some.ensures.first in
    rw (row_under-append_left c.in-Some.expired table.admitted table.waiting there.row there.stands) refl

pub loop-expired-init : goal.loop-expired-init
loop-expired-init g c = record {
  room = omega arith;
  waiting = refl;
  shown = c.requires;
  resumes = resumes-first notice_dead c.args.limit.now (admitted_parts c.args.now c.args.table.now.waiting [] c.args.table.now.admitted) c.args.table.now;
}

pub loop-expired-smaller : goal.loop-expired-smaller
loop-expired-smaller g c =
    let table = c.loop-expired.table in
    let there = first-expired c.args.now table.admitted c.in-Some.expired c.loop-expired.invariant.shown (differ-front table.admitted table.waiting c.in-Some.ensures.apart c.in-Some.expired) c.in-Some.ensures.first in
    let left = left-admitted c.in-Some.expired there.row Expired table c.evict.new.self c.evict.ensures.rows c.evict.ensures.notices there.stands in
    let same = ap length left.0 in
    omega (arith, same, there.shorter)

pub returns-then-not-take_budget-clause-swept : goal.returns-then-not-take_budget-clause-swept
returns-then-not-take_budget-clause-swept g c =
    let table = c.loop-expired.table in
    let first = c.args.table.now in
    let there = first-expired c.args.now table.admitted c.in-Some.expired c.loop-expired.invariant.shown (differ-front table.admitted table.waiting c.in-Some.ensures.apart c.in-Some.expired) c.in-Some.ensures.first in
    let stops = unspent c.loop-expired.limit c.take_budget.new.limit 1 c.take_budget.result c.take_budget.ensures.lets c.take_budget.ensures.rest c.if-not-take_budget.true in
    let ps0 = admitted_parts c.args.now first.waiting [] first.admitted in
    let at_dead = subst (λ ps. Resumes notice_dead c.args.limit.now ps0 first c.loop-expired.limit ps table) (there.parts [] first.waiting) c.loop-expired.invariant.resumes in
    rw stops.1
    (resumes-cut notice_dead c.args.limit.now ps0 first c.loop-expired.limit (record { evicted = (c.in-Some.expired, there.row) ∷ []; after = queues (without_row c.in-Some.expired table.admitted) first.waiting })
    (admitted_parts c.args.now first.waiting [] (without_row c.in-Some.expired table.admitted)) table at_dead stops.0)

pub loop-expired-preserved : goal.loop-expired-preserved
loop-expired-preserved g c =
    let table = c.loop-expired.table in
    let first = c.args.table.now in
    let new = c.evict.new.self in
    let there = first-expired c.args.now table.admitted c.in-Some.expired c.loop-expired.invariant.shown (differ-front table.admitted table.waiting c.in-Some.ensures.apart c.in-Some.expired) c.in-Some.ensures.first in
    let left = left-admitted c.in-Some.expired there.row Expired table new c.evict.ensures.rows c.evict.ensures.notices there.stands in
    let shown = of-row (λ r. r.info.is_hidden ≡ false) c.in-Some.expired table.admitted there.row c.loop-expired.invariant.shown there.stands in
    let yet = spent c.loop-expired.limit c.take_budget.new.limit 1 c.take_budget.result c.take_budget.ensures.lets c.take_budget.ensures.rest c.if-not-take_budget.false in
    let ps0 = admitted_parts c.args.now first.waiting [] first.admitted in
    let at_dead = subst (λ ps. Resumes notice_dead c.args.limit.now ps0 first c.loop-expired.limit ps table) (there.parts [] first.waiting) c.loop-expired.invariant.resumes in
    let waiting = left.1 ∙ c.loop-expired.invariant.waiting in
    let noticed = left.2 ∙ ap (λ h. table.notices ++ notice_for (cond h Explicit Expired) (c.in-Some.expired, there.row) ∷ []) (sym shown) in
    record {
      room = omega arith;
      waiting = waiting;
      shown = of-taken-admitted (λ r. r.info.is_hidden ≡ false) c.in-Some.expired there.row table new c.loop-expired.invariant.shown
          (row_under-append_left c.in-Some.expired table.admitted table.waiting there.row there.stands) c.evict.ensures.rows;
      resumes = subst (λ l. Resumes notice_dead c.args.limit.now ps0 first c.take_budget.new.limit (admitted_parts c.args.now first.waiting [] l) new) (sym left.0)
          (resumes-over notice_dead c.args.limit.now ps0 first c.loop-expired.limit (record { evicted = (c.in-Some.expired, there.row) ∷ []; after = queues (without_row c.in-Some.expired table.admitted) first.waiting })
          (admitted_parts c.args.now first.waiting [] (without_row c.in-Some.expired table.admitted)) table at_dead yet.0 new
          (queues-are new (without_row c.in-Some.expired table.admitted) first.waiting left.0 waiting) noticed c.take_budget.new.limit yet.1);
    }

pub returns-clause-swept : goal.returns-clause-swept
returns-clause-swept g c =
    let table = c.loop-expired.table in
    let first = c.args.table.now in
    let ps0 = admitted_parts c.args.now first.waiting [] first.admitted in
    let none = none-swept c.args.now table.admitted (c.in_default.ensures.first ∙ ap first_number (expired-shown c.args.now table.admitted c.loop-expired.invariant.shown)) [] first.waiting in
    resumes-end notice_dead c.args.limit.now ps0 first c.loop-expired.limit table
    (subst (λ ps. Resumes notice_dead c.args.limit.now ps0 first c.loop-expired.limit ps table) none c.loop-expired.invariant.resumes)
