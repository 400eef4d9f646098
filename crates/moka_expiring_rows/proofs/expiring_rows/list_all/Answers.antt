use Rattle.std.proofs.Common.{[], ◌∷◌, ◌++◌, refl, arith}
use Rattle.moka_expiry_index.specs.ExpiryIndex.{order_of}
use Rattle.moka_expiring_rows.proofs.Listing.{lists-first, lists-all, lists-stored, lists-on, fits-on}
use Rattle.moka_expiring_rows.proofs.expiring_rows.list_all.Goals as goal

pub loop-cursor-init : goal.loop-cursor-init
loop-cursor-init g c = (
  ([], g.R.RowStore.admitted c.args.rows.now, lists-first (g.R.RowStore.admitted c.args.rows.now) (g.R.RowStore.waiting c.args.rows.now) c.first_admitted-cursor.result (order_of c.clear.new.self) c.first_admitted-cursor.ensures c.clear.ensures.order),
  record { preserves = c.clear.ensures.preserves; whole = λ known room. refl },
)

pub row-requires : goal.row-requires
row-requires g c =
    let on = (rw c.in-Some.is at c.loop-cursor.invariant).0 in
    lists-stored (g.R.RowStore.admitted c.args.rows.now) (g.R.RowStore.waiting c.args.rows.now) c.in-Some.number c.loop-cursor.is_whole (order_of c.loop-cursor.deadlines) on.0 on.1 on.2

pub next-cursor-requires : goal.next-cursor-requires
next-cursor-requires g c =
    let on = (rw c.in-Some.is at c.loop-cursor.invariant).0 in
    lists-stored (g.R.RowStore.admitted c.args.rows.now) (g.R.RowStore.waiting c.args.rows.now) c.in-Some.number c.loop-cursor.is_whole (order_of c.loop-cursor.deadlines) on.0 on.1 on.2

pub loop-cursor-smaller : goal.loop-cursor-smaller
loop-cursor-smaller g c =
    let on = (rw c.in-Some.is at c.loop-cursor.invariant).0 in
    let next = lists-on (g.R.RowStore.admitted c.args.rows.now) (g.R.RowStore.waiting c.args.rows.now) c.in-Some.number c.loop-cursor.is_whole (order_of c.loop-cursor.deadlines) on.0 on.1 on.2 c.row.result c.next-cursor.result c.row.ensures.apart c.row.ensures.row c.next-cursor.ensures.behind c.enlist-is_whole.result (order_of c.enlist-is_whole.new.deadlines) (rw c.info-deadline.ensures at c.enlist-is_whole.ensures.listed) in
    rw (next.1.ahead, c.in-Some.is, on.2.ahead) (omega (arith, next.2))

pub loop-cursor-preserved : goal.loop-cursor-preserved
loop-cursor-preserved g c =
    let now = rw c.in-Some.is at c.loop-cursor.invariant in
    let on = now.0 in
    let next = lists-on (g.R.RowStore.admitted c.args.rows.now) (g.R.RowStore.waiting c.args.rows.now) c.in-Some.number c.loop-cursor.is_whole (order_of c.loop-cursor.deadlines) on.0 on.1 on.2 c.row.result c.next-cursor.result c.row.ensures.apart c.row.ensures.row c.next-cursor.ensures.behind c.enlist-is_whole.result (order_of c.enlist-is_whole.new.deadlines) (rw c.info-deadline.ensures at c.enlist-is_whole.ensures.listed) in (
      (on.0 ++ (c.in-Some.number, c.row.result) ∷ [], next.0, next.1),
      fits-on (g.R.RowStore.admitted c.args.rows.now) (g.R.RowStore.waiting c.args.rows.now) c.in-Some.number c.loop-cursor.is_whole c.args.deadlines.now c.loop-cursor.deadlines on.0 on.1 on.2 now.1 c.row.ensures.apart _ c.enlist-is_whole.new.deadlines c.enlist-is_whole.result c.enlist-is_whole.ensures.preserves c.enlist-is_whole.ensures.whole,
    )

pub returns-clause-listed : goal.returns-clause-listed
returns-clause-listed g c whole =
    let on = (rw c.in_default.is at c.loop-cursor.invariant).0 in
    lists-all (g.R.RowStore.admitted c.args.rows.now) (g.R.RowStore.waiting c.args.rows.now) c.loop-cursor.is_whole (order_of c.loop-cursor.deadlines) on.0 on.1 on.2 whole
