use Rattle.std.proofs.Common.{◌∙◌, [], ◌∷◌, ◌++◌, refl, arith}
use Rattle.std.proofs.lemmas.List.{append-nil}
use Rattle.moka_rows.specs.Rows.{hidden}
use Rattle.moka_rows.proofs.Callers.{with_row-absent}
use Rattle.moka_table.specs.Table.{hidden_where}
use Rattle.moka_table.proofs.Finds.{stored-row}
use Rattle.moka_table.proofs.HiddenWhere.{hides-first, hides-on, rest-shorter, cond-absent}
use Rattle.moka_table.proofs.Walks.{one_more-le, walks-stored, at-waiting}
use Rattle.moka_table.proofs.invalidation.hide_waiting.Goals as goal

pub loop-cursor-init : goal.loop-cursor-init
loop-cursor-init g c = record {
  room = omega arith;
  admitted = refl;
  notices = refl;
  hides = λ test tests. ([], c.args.table.now.waiting, hides-first test c.args.table.now.waiting c.first_waiting-cursor.result c.first_waiting-cursor.ensures.first, omega arith);
}

pub next-cursor-requires : goal.next-cursor-requires
next-cursor-requires g c =
    let test = c.requires.tests.0 in
    let was = rw c.in-Some.is at (c.loop-cursor.invariant.hides test c.requires.tests.1) in
    rw (append-nil c.loop-cursor.table.waiting) at (walks-stored c.loop-cursor.table.waiting c.in-Some.number (hidden_where test was.0) was.1 was.2.walks c.loop-cursor.table.admitted [])

pub hide_if-requires-clause-stored : goal.hide_if-requires-clause-stored
hide_if-requires-clause-stored g c =
    let test = c.requires.tests.0 in
    let was = rw c.in-Some.is at (c.loop-cursor.invariant.hides test c.requires.tests.1) in
    rw (append-nil c.loop-cursor.table.waiting) at (walks-stored c.loop-cursor.table.waiting c.in-Some.number (hidden_where test was.0) was.1 was.2.walks c.loop-cursor.table.admitted [])

pub loop-cursor-smaller : goal.loop-cursor-smaller
loop-cursor-smaller g c =
    let test = c.requires.tests.0 in
    let table = c.loop-cursor.table in
    let first = c.args.table.now.waiting in
    let was = rw c.in-Some.is at (c.loop-cursor.invariant.hides test c.requires.tests.1) in
    let row = stored-row _ (rw (append-nil table.waiting) at (walks-stored table.waiting c.in-Some.number (hidden_where test was.0) was.1 was.2.walks table.admitted [])) in
    let here = at-waiting table.admitted table.waiting c.in-Some.number (hidden_where test was.0) was.1 row.0 c.next-cursor.result c.next-cursor.ensures.apart row.1 c.next-cursor.ensures.behind was.2.walks in
    let on = hides-on test first table.waiting c.in-Some.number was.0 was.1 was.2 row.0 c.next-cursor.result here.1 here.2 c.hide_if.new.table.waiting (rw row.1 at (c.hide_if.ensures.waiting test c.requires.tests.1)) in
    rw (on.ahead, c.in-Some.is, was.2.ahead) (omega (arith, rest-shorter test first table.waiting c.in-Some.number was.0 was.1 was.2 row.0 c.next-cursor.result here.1 here.2))

pub loop-cursor-preserved : goal.loop-cursor-preserved
loop-cursor-preserved g c =
    let table = c.loop-cursor.table in
    let first = c.args.table.now.waiting in
    let begun = rw c.in-Some.is at (c.loop-cursor.invariant.hides c.requires.tests.0 c.requires.tests.1) in
    let row = stored-row _ (rw (append-nil table.waiting) at (walks-stored table.waiting c.in-Some.number (hidden_where c.requires.tests.0 begun.0) begun.1 begun.2.walks table.admitted [])) in
    let there = at-waiting table.admitted table.waiting c.in-Some.number (hidden_where c.requires.tests.0 begun.0) begun.1 row.0 c.next-cursor.result c.next-cursor.ensures.apart row.1 c.next-cursor.ensures.behind begun.2.walks in
    record {
      room = omega (arith, c.loop-cursor.invariant.room, c.hide_if.ensures.room);
      admitted = cond-absent _ _ _ _ (rw row.1 at (c.hide_if.ensures.admitted c.requires.tests.0 c.requires.tests.1)) (with_row-absent c.in-Some.number hidden table.admitted there.0) ∙ c.loop-cursor.invariant.admitted;
      notices = c.hide_if.ensures.notices ∙ c.loop-cursor.invariant.notices;
      hides = λ test tests.
          let was = rw c.in-Some.is at (c.loop-cursor.invariant.hides test tests) in
          let here = at-waiting table.admitted table.waiting c.in-Some.number (hidden_where test was.0) was.1 row.0 c.next-cursor.result c.next-cursor.ensures.apart row.1 c.next-cursor.ensures.behind was.2.walks in (
            was.0 ++ (c.in-Some.number, row.0) ∷ [],
            here.1,
            hides-on test first table.waiting c.in-Some.number was.0 was.1 was.2 row.0 c.next-cursor.result here.1 here.2 c.hide_if.new.table.waiting (rw row.1 at (c.hide_if.ensures.waiting test tests)),
            omega (arith, was.3, c.next-cursor.ensures.visited, one_more-le c.loop-cursor.visits, rest-shorter test first table.waiting c.in-Some.number was.0 was.1 was.2 row.0 c.next-cursor.result here.1 here.2),
          );
    }
