use Rattle.std.proofs.Common.{◌∙◌, ◌||◌, cond, [], ◌∷◌, ◌++◌, refl, sym, ap, arith}
use Rattle.moka_model.specs.declared.notification.RemovalCause.TheVariants.{Expired, Explicit}
use Rattle.moka_model.specs.Lives.{has_come}
use Rattle.moka_rows.specs.declared.rows.EntryInfo.{EntryInfo}
use Rattle.moka_model.specs.MaintenanceLaws.{queues}
use Rattle.moka_housekeeper.specs.Maintain.{notice_for, notice_dead}
use Rattle.moka_housekeeper.proofs.FirstDead.{admitted_parts, cause-dead}
use Rattle.moka_housekeeper.proofs.Maintaining.{left-admitted}
use Rattle.moka_housekeeper.proofs.Resuming.{resumes-first}
use Rattle.moka_housekeeper.proofs.Sweeping.{sweeps-first, sweeps-over_dead, sweeps-over_alive, rest-shorter, row-left, are-admitted, resumes-alive, resumes-dead, resumes-stops, queues-are, spent, unspent}
use Rattle.moka_table.proofs.Callers.{walks-stored, at-admitted}
use Rattle.moka_table.proofs.Callers.{one_more-le}
use Rattle.moka_housekeeper.proofs.maintain.evict_dead_by_walk.Goals as goal

pub loop-cursor-init : goal.loop-cursor-init
loop-cursor-init g c = record {
  room = omega arith;
  waiting = refl;
  sweeps = (
    [],
    c.args.table.now.admitted,
    sweeps-first c.args.table.now.admitted c.first_admitted-cursor.result c.first_admitted-cursor.ensures,
    resumes-first notice_dead c.args.limit.now (admitted_parts c.args.now c.args.table.now.waiting [] c.args.table.now.admitted) c.args.table.now,
    omega arith,
  );
}

pub next-cursor-requires : goal.next-cursor-requires
next-cursor-requires g c =
    let was = rw c.in-Some.is at c.loop-cursor.invariant.sweeps in
    walks-stored c.loop-cursor.table.admitted c.in-Some.number was.0 was.1 was.2.walks [] c.loop-cursor.table.waiting

pub row-requires : goal.row-requires
row-requires g c =
    let was = rw c.in-Some.is at c.loop-cursor.invariant.sweeps in
    walks-stored c.loop-cursor.table.admitted c.in-Some.number was.0 was.1 was.2.walks [] c.loop-cursor.table.waiting

pub returns-then-not-take_budget-clause-swept : goal.returns-then-not-take_budget-clause-swept
returns-then-not-take_budget-clause-swept g c =
    let table = c.loop-cursor.table in
    let was = rw c.in-Some.is at c.loop-cursor.invariant.sweeps in
    let here = at-admitted table.admitted table.waiting c.in-Some.number was.0 was.1 c.row.result c.next-cursor.result c.next-cursor.ensures.apart c.row.ensures c.next-cursor.ensures.behind was.2.walks in
    let gone = sym (ap (λ (i : EntryInfo). i.is_hidden || has_come i.deadline c.args.now) c.info-metadata.ensures) ∙ sym c.is_dead.ensures ∙ c.if-is_dead.true in
    let stops = unspent c.loop-cursor.limit c.take_budget.new.limit 1 c.take_budget.result c.take_budget.ensures.lets c.take_budget.ensures.rest c.if-not-take_budget.true in
    resumes-stops c.args.now (admitted_parts c.args.now c.args.table.now.waiting) (λ l. queues l c.args.table.now.waiting) (are-admitted c.args.now c.args.table.now.waiting) c.args.limit.now (admitted_parts c.args.now c.args.table.now.waiting [] c.args.table.now.admitted) c.args.table.now c.loop-cursor.limit table
    was.0 was.1 here.0 (c.in-Some.number, c.row.result) here.1.rest_is was.3 gone stops.0 c.take_budget.new.limit stops.1

pub returns-then-not-take_budget-clause-visited : goal.returns-then-not-take_budget-clause-visited
returns-then-not-take_budget-clause-visited g c =
    let table = c.loop-cursor.table in
    let was = rw c.in-Some.is at c.loop-cursor.invariant.sweeps in
    let here = at-admitted table.admitted table.waiting c.in-Some.number was.0 was.1 c.row.result c.next-cursor.result c.next-cursor.ensures.apart c.row.ensures c.next-cursor.ensures.behind was.2.walks in
    omega (arith, was.4, c.next-cursor.ensures.visited, one_more-le c.loop-cursor.visits, rest-shorter table.admitted c.in-Some.number was.0 was.1 was.2 c.row.result c.next-cursor.result here.0 here.1)

pub loop-cursor-smaller-then-is_dead : goal.loop-cursor-smaller-then-is_dead
loop-cursor-smaller-then-is_dead g c =
    let table = c.loop-cursor.table in
    let was = rw c.in-Some.is at c.loop-cursor.invariant.sweeps in
    let here = at-admitted table.admitted table.waiting c.in-Some.number was.0 was.1 c.row.result c.next-cursor.result c.next-cursor.ensures.apart c.row.ensures c.next-cursor.ensures.behind was.2.walks in
    let new = c.evict.new.self in
    let left = left-admitted c.in-Some.number c.row.result c.cause.result table new c.evict.ensures.rows c.evict.ensures.notices here.1.stands in
    let on = sweeps-over_dead table.admitted c.in-Some.number was.0 was.1 was.2 c.row.result c.next-cursor.result here.0 here.1 new.admitted left.0 in
    rw (on.ahead, c.in-Some.is, was.2.ahead) (omega (arith, rest-shorter table.admitted c.in-Some.number was.0 was.1 was.2 c.row.result c.next-cursor.result here.0 here.1))

pub loop-cursor-preserved-then-is_dead : goal.loop-cursor-preserved-then-is_dead
loop-cursor-preserved-then-is_dead g c =
    let table = c.loop-cursor.table in
    let was = rw c.in-Some.is at c.loop-cursor.invariant.sweeps in
    let here = at-admitted table.admitted table.waiting c.in-Some.number was.0 was.1 c.row.result c.next-cursor.result c.next-cursor.ensures.apart c.row.ensures c.next-cursor.ensures.behind was.2.walks in
    let new = c.evict.new.self in
    let left = left-admitted c.in-Some.number c.row.result c.cause.result table new c.evict.ensures.rows c.evict.ensures.notices here.1.stands in
    let noticed = left.2 ∙ ap (λ it. table.notices ++ notice_for it (c.in-Some.number, c.row.result) ∷ []) (c.cause.ensures ∙ cause-dead c.info-metadata.result c.args.now ∙ ap (λ (i : EntryInfo). cond i.is_hidden Explicit Expired) c.info-metadata.ensures) in
    let gone = sym (ap (λ (i : EntryInfo). i.is_hidden || has_come i.deadline c.args.now) c.info-metadata.ensures) ∙ sym c.is_dead.ensures ∙ c.if-is_dead.true in
    let yet = spent c.loop-cursor.limit c.take_budget.new.limit 1 c.take_budget.result c.take_budget.ensures.lets c.take_budget.ensures.rest c.if-not-take_budget.false in
    let stands = queues-are new (was.0 ++ here.0) c.args.table.now.waiting (row-left table.admitted c.in-Some.number was.0 was.1 was.2 c.row.result c.next-cursor.result here.0 here.1 new.admitted left.0) (left.1 ∙ c.loop-cursor.invariant.waiting) in
    record {
      room = omega arith;
      waiting = left.1 ∙ c.loop-cursor.invariant.waiting;
      sweeps = (
        was.0,
        here.0,
        sweeps-over_dead table.admitted c.in-Some.number was.0 was.1 was.2 c.row.result c.next-cursor.result here.0 here.1 new.admitted left.0,
        resumes-dead c.args.now (admitted_parts c.args.now c.args.table.now.waiting) (λ l. queues l c.args.table.now.waiting) (are-admitted c.args.now c.args.table.now.waiting) c.args.limit.now (admitted_parts c.args.now c.args.table.now.waiting [] c.args.table.now.admitted) c.args.table.now c.loop-cursor.limit table
            was.0 was.1 here.0 (c.in-Some.number, c.row.result) here.1.rest_is was.3 gone yet.0 new stands noticed c.take_budget.new.limit yet.1,
        omega (arith, was.4, c.next-cursor.ensures.visited, one_more-le c.loop-cursor.visits, rest-shorter table.admitted c.in-Some.number was.0 was.1 was.2 c.row.result c.next-cursor.result here.0 here.1),
      );
    }

pub loop-cursor-smaller : goal.loop-cursor-smaller
loop-cursor-smaller g c =
    let table = c.loop-cursor.table in
    let was = rw c.in-Some.is at c.loop-cursor.invariant.sweeps in
    let here = at-admitted table.admitted table.waiting c.in-Some.number was.0 was.1 c.row.result c.next-cursor.result c.next-cursor.ensures.apart c.row.ensures c.next-cursor.ensures.behind was.2.walks in
    let on = sweeps-over_alive table.admitted c.in-Some.number was.0 was.1 was.2 c.row.result c.next-cursor.result here.0 here.1 in
    rw (on.ahead, c.in-Some.is, was.2.ahead) (omega (arith, rest-shorter table.admitted c.in-Some.number was.0 was.1 was.2 c.row.result c.next-cursor.result here.0 here.1))

pub loop-cursor-preserved : goal.loop-cursor-preserved
loop-cursor-preserved g c =
    let table = c.loop-cursor.table in
    let was = rw c.in-Some.is at c.loop-cursor.invariant.sweeps in
    let here = at-admitted table.admitted table.waiting c.in-Some.number was.0 was.1 c.row.result c.next-cursor.result c.next-cursor.ensures.apart c.row.ensures c.next-cursor.ensures.behind was.2.walks in
    let lives = sym (ap (λ (i : EntryInfo). i.is_hidden || has_come i.deadline c.args.now) c.info-metadata.ensures) ∙ sym c.is_dead.ensures ∙ c.if-is_dead.false in
    record {
      room = c.loop-cursor.invariant.room;
      waiting = c.loop-cursor.invariant.waiting;
      sweeps = (
        was.0 ++ (c.in-Some.number, c.row.result) ∷ [],
        here.0,
        sweeps-over_alive table.admitted c.in-Some.number was.0 was.1 was.2 c.row.result c.next-cursor.result here.0 here.1,
        resumes-alive c.args.now (admitted_parts c.args.now c.args.table.now.waiting) (λ l. queues l c.args.table.now.waiting) (are-admitted c.args.now c.args.table.now.waiting) c.args.limit.now (admitted_parts c.args.now c.args.table.now.waiting [] c.args.table.now.admitted) c.args.table.now c.loop-cursor.limit table
            was.0 was.1 here.0 (c.in-Some.number, c.row.result) here.1.rest_is was.3 lives,
        omega (arith, was.4, c.next-cursor.ensures.visited, one_more-le c.loop-cursor.visits, rest-shorter table.admitted c.in-Some.number was.0 was.1 was.2 c.row.result c.next-cursor.result here.0 here.1),
      );
    }

pub returns-clause-visited : goal.returns-clause-visited
returns-clause-visited g c = omega (arith, c.loop-cursor.invariant.sweeps.4)
