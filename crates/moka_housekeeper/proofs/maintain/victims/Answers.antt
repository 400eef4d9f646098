use Rattle.std.proofs.Common.{[], ◌∷◌, ◌++◌, sym, ap, ◌∙◌, arith}
use Rattle.moka_rows.specs.declared.rows.EntryInfo.{EntryInfo}
use Rattle.moka_table.proofs.Callers.{at-admitted, walks-stored}
use Rattle.moka_housekeeper.proofs.Judging.{frees-first, frees-enough, frees-all, frees-more, frees-le, frees-on}
use Rattle.moka_table.proofs.Callers.{one_more-le}
use Rattle.moka_housekeeper.proofs.maintain.victims.Goals as goal

pub loop-count-init : goal.loop-count-init
loop-count-init g c = record {
  visited = omega arith;
  frees = ([], c.args.table.now.admitted, frees-first c.args.capacity c.args.more c.args.table.now.admitted c.first_admitted-cursor.result c.admitted_weight-weight.result c.first_admitted-cursor.ensures c.admitted_weight-weight.ensures);
}

pub returns-then-fits-clause-count : goal.returns-then-fits-clause-count
returns-then-fits-clause-count g c =
    let on = c.loop-count.invariant.frees in
    frees-enough c.args.capacity c.args.more c.args.table.now.admitted c.loop-count.weight c.loop-count.count on.0 on.1 c.loop-count.cursor on.2 (sym c.fits.ensures ∙ c.if-fits.true)

pub next-cursor-requires : goal.next-cursor-requires
next-cursor-requires g c =
    let on = rw c.in-Some.is at c.loop-count.invariant.frees in
    walks-stored c.args.table.now.admitted c.in-Some.number on.0 on.1 on.2.walks [] c.args.table.now.waiting

pub row-requires : goal.row-requires
row-requires g c =
    let on = rw c.in-Some.is at c.loop-count.invariant.frees in
    walks-stored c.args.table.now.admitted c.in-Some.number on.0 on.1 on.2.walks [] c.args.table.now.waiting

pub overflow_sub-weight : goal.overflow_sub-weight
overflow_sub-weight g c =
    let on = rw c.in-Some.is at c.loop-count.invariant.frees in
    let here = at-admitted c.args.table.now.admitted c.args.table.now.waiting c.in-Some.number on.0 on.1 c.row.result c.next-cursor.result c.next-cursor.ensures.apart c.row.ensures c.next-cursor.ensures.behind on.2.walks in
    let le = frees-le c.args.capacity c.args.more c.args.table.now.admitted c.loop-count.weight c.loop-count.count on.0 on.1 c.in-Some.number on.2 c.row.result c.next-cursor.result here.0 here.1 in
    omega (arith, le, ap (λ (i : EntryInfo). i.policy_weight) c.info.ensures, c.from-weight.ensures)

pub unreachable-requires : goal.unreachable-requires
unreachable-requires g c =
    let on = rw c.in-None.is at c.loop-count.invariant.frees in
    let all = frees-more c.args.capacity c.args.more c.args.table.now.admitted c.loop-count.weight c.loop-count.count on.0 on.1 on.2 in
    omega (arith, all, c.admitted_len-admitted.ensures, c.loop-count-test.true)

pub loop-count-preserved : goal.loop-count-preserved
loop-count-preserved g c =
    let on = rw c.in-Some.is at c.loop-count.invariant.frees in
    let here = at-admitted c.args.table.now.admitted c.args.table.now.waiting c.in-Some.number on.0 on.1 c.row.result c.next-cursor.result c.next-cursor.ensures.apart c.row.ensures c.next-cursor.ensures.behind on.2.walks in
    let le = frees-le c.args.capacity c.args.more c.args.table.now.admitted c.loop-count.weight c.loop-count.count on.0 on.1 c.in-Some.number on.2 c.row.result c.next-cursor.result here.0 here.1 in
    record {
      visited = omega (arith, c.loop-count.invariant.visited, c.next-cursor.ensures.visited, one_more-le c.loop-count.visits);
      frees = (
        on.0 ++ (c.in-Some.number, c.row.result) ∷ [],
        here.0,
        frees-on c.args.capacity c.args.more c.args.table.now.admitted c.loop-count.weight c.loop-count.count on.0 on.1 c.in-Some.number on.2 c.row.result c.next-cursor.result here.0 here.1
            _ (omega (arith, le, ap (λ (i : EntryInfo). i.policy_weight) c.info.ensures, c.from-weight.ensures)) (sym c.fits.ensures ∙ c.if-fits.false),
      );
    }

pub returns-clause-count : goal.returns-clause-count
returns-clause-count g c =
    let on = c.loop-count.invariant.frees in
    c.admitted_len-admitted.ensures
    ∙ frees-all c.args.capacity c.args.more c.args.table.now.admitted c.loop-count.weight c.loop-count.count on.0 on.1 c.loop-count.cursor on.2 (omega (arith, c.admitted_len-admitted.ensures))
