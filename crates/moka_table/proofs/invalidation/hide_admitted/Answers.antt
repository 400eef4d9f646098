use Rattle.std.proofs.Common.{◌∙◌, [], ◌∷◌, ◌++◌, refl, arith}
use Rattle.moka_rows.specs.Rows.{hidden}
use Rattle.moka_rows.proofs.Callers.{with_row-absent, absent-behind}
use Rattle.moka_table.specs.Table.{hidden_where}
use Rattle.moka_table.proofs.Finds.{stored-row}
use Rattle.moka_table.proofs.HiddenWhere.{hides-first, hides-on, rest-shorter, cond-absent}
use Rattle.moka_table.proofs.Walks.{one_more-le, walks-stored, at-admitted}
use Rattle.moka_table.proofs.invalidation.hide_admitted.Goals as goal

pub loop-cursor-init : goal.loop-cursor-init
loop-cursor-init g c = record {
  room = omega arith;
  waiting = refl;
  notices = refl;
  hides = λ test tests. ([], c.args.table.now.admitted, hides-first test c.args.table.now.admitted c.first_admitted-cursor.result c.first_admitted-cursor.ensures, omega arith);
}

pub next-cursor-requires : goal.next-cursor-requires
next-cursor-requires g c =
    let test = c.requires.tests.0 in
    let was = rw c.in-Some.is at (c.loop-cursor.invariant.hides test c.requires.tests.1) in
    walks-stored c.loop-cursor.table.admitted c.in-Some.number (hidden_where test was.0) was.1 was.2.walks [] c.loop-cursor.table.waiting

pub hide_if-requires-clause-stored : goal.hide_if-requires-clause-stored
hide_if-requires-clause-stored g c =
    let test = c.requires.tests.0 in
    let was = rw c.in-Some.is at (c.loop-cursor.invariant.hides test c.requires.tests.1) in
    walks-stored c.loop-cursor.table.admitted c.in-Some.number (hidden_where test was.0) was.1 was.2.walks [] c.loop-cursor.table.waiting

pub loop-cursor-smaller : goal.loop-cursor-smaller
loop-cursor-smaller g c =
    let test = c.requires.tests.0 in
    let table = c.loop-cursor.table in
    let first = c.args.table.now.admitted in
    let was = rw c.in-Some.is at (c.loop-cursor.invariant.hides test c.requires.tests.1) in
    let row = stored-row _ (walks-stored table.admitted c.in-Some.number (hidden_where test was.0) was.1 was.2.walks [] table.waiting) in
    let here = at-admitted table.admitted table.waiting c.in-Some.number (hidden_where test was.0) was.1 row.0 c.next-cursor.result c.next-cursor.ensures.apart row.1 c.next-cursor.ensures.behind was.2.walks in
    let on = hides-on test first table.admitted c.in-Some.number was.0 was.1 was.2 row.0 c.next-cursor.result here.0 here.1 c.hide_if.new.table.admitted (rw row.1 at (c.hide_if.ensures.admitted test c.requires.tests.1)) in
    rw (on.ahead, c.in-Some.is, was.2.ahead) (omega (arith, rest-shorter test first table.admitted c.in-Some.number was.0 was.1 was.2 row.0 c.next-cursor.result here.0 here.1))

pub loop-cursor-preserved : goal.loop-cursor-preserved
loop-cursor-preserved g c =
    let table = c.loop-cursor.table in
    let first = c.args.table.now.admitted in
    let begun = rw c.in-Some.is at (c.loop-cursor.invariant.hides c.requires.tests.0 c.requires.tests.1) in
    let row = stored-row _ (walks-stored table.admitted c.in-Some.number (hidden_where c.requires.tests.0 begun.0) begun.1 begun.2.walks [] table.waiting) in
    let there = at-admitted table.admitted table.waiting c.in-Some.number (hidden_where c.requires.tests.0 begun.0) begun.1 row.0 c.next-cursor.result c.next-cursor.ensures.apart row.1 c.next-cursor.ensures.behind begun.2.walks in
    record {
      room = omega (arith, c.loop-cursor.invariant.room, c.hide_if.ensures.room);
      waiting = cond-absent _ _ _ _ (rw row.1 at (c.hide_if.ensures.waiting c.requires.tests.0 c.requires.tests.1)) (with_row-absent c.in-Some.number hidden table.waiting (absent-behind c.in-Some.number table.admitted table.waiting row.0 c.next-cursor.ensures.apart there.1.stands)) ∙ c.loop-cursor.invariant.waiting;
      notices = c.hide_if.ensures.notices ∙ c.loop-cursor.invariant.notices;
      hides = λ test tests.
          let was = rw c.in-Some.is at (c.loop-cursor.invariant.hides test tests) in
          let here = at-admitted table.admitted table.waiting c.in-Some.number (hidden_where test was.0) was.1 row.0 c.next-cursor.result c.next-cursor.ensures.apart row.1 c.next-cursor.ensures.behind was.2.walks in (
            was.0 ++ (c.in-Some.number, row.0) ∷ [],
            here.0,
            hides-on test first table.admitted c.in-Some.number was.0 was.1 was.2 row.0 c.next-cursor.result here.0 here.1 c.hide_if.new.table.admitted (rw row.1 at (c.hide_if.ensures.admitted test tests)),
            omega (arith, was.3, c.next-cursor.ensures.visited, one_more-le c.loop-cursor.visits, rest-shorter test first table.admitted c.in-Some.number was.0 was.1 was.2 row.0 c.next-cursor.result here.0 here.1),
          );
    }
