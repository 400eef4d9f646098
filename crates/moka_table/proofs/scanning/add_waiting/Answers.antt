use Rattle.std.proofs.Common.{◌∙◌, [], ◌∷◌, ◌++◌, length, map, sym, ap, arith}
use Rattle.std.specs.Arc.{arc_value}
use Rattle.std.proofs.lemmas.List.{append-nil}
use Rattle.moka_table.proofs.Finds.{same-row-key}
use Rattle.moka_table.proofs.KeyWalks.{scans-first, scans-on, scans-nearer, keys-more}
use Rattle.moka_table.proofs.Walks.{one_more-le, walks-stored, at-waiting}
use Rattle.moka_table.proofs.scanning.add_waiting.Goals as goal

pub loop-cursor-init : goal.loop-cursor-init
loop-cursor-init g c = ([], c.args.table.now.waiting, scans-first c.args.table.now.waiting c.first_waiting-cursor.result c.first_waiting-cursor.ensures.first, sym (append-nil (map arc_value c.args.keys.now.items)), omega arith)

pub row-requires : goal.row-requires
row-requires g c =
    let was = rw c.in-Some.is at c.loop-cursor.invariant in
    rw (append-nil c.args.table.now.waiting) at (walks-stored c.args.table.now.waiting c.in-Some.number was.0 was.1 was.2.walks c.args.table.now.admitted [])

pub loop-cursor-smaller : goal.loop-cursor-smaller
loop-cursor-smaller g c =
    let table = c.args.table.now in
    let was = rw c.in-Some.is at c.loop-cursor.invariant in
    let here = at-waiting table.admitted table.waiting c.in-Some.number was.0 was.1 c.row.result c.next-cursor.result c.next-cursor.ensures.apart c.row.ensures c.next-cursor.ensures.behind was.2.walks in
    rw c.in-Some.is (scans-nearer table.waiting was.0 was.1 c.in-Some.number c.row.result c.next-cursor.result here.1 was.2 here.2)

pub loop-cursor-preserved : goal.loop-cursor-preserved
loop-cursor-preserved g c =
    let table = c.args.table.now in
    let was = rw c.in-Some.is at c.loop-cursor.invariant in
    let here = at-waiting table.admitted table.waiting c.in-Some.number was.0 was.1 c.row.result c.next-cursor.result c.next-cursor.ensures.apart c.row.ensures c.next-cursor.ensures.behind was.2.walks in (
      was.0 ++ (c.in-Some.number, c.row.result) ∷ [],
      here.1,
      scans-on table.waiting was.0 was.1 c.in-Some.number c.row.result c.next-cursor.result here.1 here.2,
      keys-more arc_value c.loop-cursor.keys.items c.push.new.self.items (map arc_value c.args.keys.now.items) was.0 c.in-Some.number c.row.result c.in_ok-key.key was.3 c.in_ok-push.ensures.items (c.in_ok-key.ensures.cases ∙ same-row-key _ _ c.row-in-Some.view_is),
      (let rest = ap length here.2.rest_is in omega (arith, was.4, rest, c.next-cursor.ensures.visited, one_more-le c.loop-cursor.visits)),
    )
