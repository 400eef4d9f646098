use Rattle.std.proofs.Common.{◌^◌, arith}
use Rattle.moka_rows.proofs.Callers.{length-taken}
use Rattle.moka_table.proofs.Weights.{weight_in-below, with-le, with-changed, consistent-taken}
use Rattle.moka_table.proofs.table.Table.evict.Goals as goal

pub with_weight-self-inside-requires-clause-before : goal.with_weight-self-inside-requires-clause-before
with_weight-self-inside-requires-clause-before g c =
    rw c.info.ensures (with-le c.args.number c.remove-row.result.0 _ _ c.remove-row.ensures.row c.self.inside.weights c.self.invariant.0.admitted_weight c.self.invariant.0.waiting_weight c.remove-row.result.1 c.remove-row.ensures.order)

pub with_weight-self-inside-requires-clause-fits : goal.with_weight-self-inside-requires-clause-fits
with_weight-self-inside-requires-clause-fits g c =
    omega (arith, weight_in-below (2 ^ 64) c.remove-row.result.1 c.self.inside.weights (omega arith) (omega arith))

pub invariant_of-self : goal.invariant_of-self
invariant_of-self g c =
    let fewer = length-taken c.args.number c.remove-row.result.0 _ _ _ _ c.remove-row.ensures.row c.remove-row.ensures.rest in (
      consistent-taken (g.R.RowStore.admitted c.self.inside.rows) (g.R.RowStore.waiting c.self.inside.rows) c.self.inside.weights _ _ _ c.self.invariant.0
          (g.R.RowStore.admitted c.remove-row.new.self) (g.R.RowStore.waiting c.remove-row.new.self) c.with_weight-self-inside.result _ _ (omega (arith, fewer, c.self.invariant.0.few, c.in-Ok.ensures.len, c.in-Ok.ensures.in_place))
          c.args.number c.remove-row.result.0 c.remove-row.ensures.row c.remove-row.ensures.rest
          (with-changed c.args.number c.remove-row.result.0 _ _ c.remove-row.ensures.row c.self.inside.weights c.self.invariant.0.admitted_weight c.self.invariant.0.waiting_weight c.remove-row.result.1 c.remove-row.ensures.order
          0 c.with_weight-self-inside.result (rw c.info.ensures at c.with_weight-self-inside.ensures.changed) c.with_weight-self-inside.ensures.others),
      omega (arith, c.self.invariant.1, c.remove-row.ensures.room),
    )

pub returns-clause-room : goal.returns-clause-room
returns-clause-room g c =
    let fewer = length-taken c.args.number c.remove-row.result.0 _ _ _ _ c.remove-row.ensures.row c.remove-row.ensures.rest in
    rw (← c.self.view_is) (omega (arith, fewer, c.self.invariant.0, c.self.invariant.1, c.remove-row.ensures.room, c.in-Ok.ensures.len, c.in-Ok.ensures.in_place))
