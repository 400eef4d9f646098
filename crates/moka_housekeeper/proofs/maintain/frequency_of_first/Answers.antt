use Rattle.std.proofs.Common.{[], ◌∷◌, ◌++◌, ap, ◌∙◌, arith}
use Rattle.moka_table.proofs.Callers.{found-row}
use Rattle.moka_table.proofs.Callers.{at-admitted, walks-stored}
use Rattle.moka_housekeeper.proofs.Judging.{adds-on}
use Rattle.moka_table.proofs.Callers.{one_more-le}
use Rattle.moka_housekeeper.proofs.maintain.frequency_of_first.Goals as goal

pub next-cursor-requires : goal.next-cursor-requires
next-cursor-requires g c =
    let on = rw c.in-Some.is at c.loop.invariant.adds in
    walks-stored c.args.table.now.admitted c.in-Some.number on.0 on.1 on.2.walks [] c.args.table.now.waiting

pub hash-requires : goal.hash-requires
hash-requires g c =
    let on = rw c.in-Some.is at c.loop.invariant.adds in
    walks-stored c.args.table.now.admitted c.in-Some.number on.0 on.1 on.2.walks [] c.args.table.now.waiting

pub loop-preserved : goal.loop-preserved
loop-preserved g c =
    let on = rw c.in-Some.is at c.loop.invariant.adds in
    let row = found-row _ _ (walks-stored c.args.table.now.admitted c.in-Some.number on.0 on.1 on.2.walks [] c.args.table.now.waiting) c.hash.ensures in
    let here = at-admitted c.args.table.now.admitted c.args.table.now.waiting c.in-Some.number on.0 on.1 row.0 c.next-cursor.result c.next-cursor.ensures.apart row.1 c.next-cursor.ensures.behind on.2.walks in
    record {
      within = omega (arith, c.loop-test.true);
      visited = omega (arith, c.loop.invariant.visited, c.next-cursor.ensures.visited, one_more-le c.loop.visits);
      adds = (
        on.0 ++ (c.in-Some.number, row.0) ∷ [],
        here.0,
        adds-on (g.F.FrequencySource.count c.args.source.now) c.args.table.now.admitted c.loop.frequency c.loop.counter on.0 on.1 c.in-Some.number on.2 row.0 c.next-cursor.result here.0 here.1
            c.from-frequency.result (c.from-frequency.ensures ∙ c.estimate.ensures ∙ ap (g.F.FrequencySource.count c.args.source.now) row.2) (omega (arith, c.from-frequency.ensures)),
      );
    }
