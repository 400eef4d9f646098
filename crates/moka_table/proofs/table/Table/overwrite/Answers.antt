use Rattle.std.proofs.Common.{refl, arith}
use Rattle.moka_rows.specs.Rows.{overwritten}
use Rattle.moka_model.proofs.Callers.{total-append}
use Rattle.moka_table.specs.Table.{weight_of}
use Rattle.moka_table.proofs.Finds.{found-row}
use Rattle.moka_rows.proofs.Callers.{length-used}
use Rattle.moka_table.proofs.Weights.{total-light, weight_in-le, with-le, with-changed, consistent-used}
use Rattle.moka_table.proofs.table.Table.overwrite.Goals as goal

pub with_weight-self-inside-requires-clause-before : goal.with_weight-self-inside-requires-clause-before
with_weight-self-inside-requires-clause-before g c =
    let row = found-row _ _ (rw (← c.self.view_is) at c.requires.stored) c.overwrite-before.ensures.before in
    rw row.2.1 (with-le c.args.number row.0 _ _ row.1 c.self.inside.weights c.self.invariant.0.admitted_weight c.self.invariant.0.waiting_weight c.overwrite-before.result.order c.overwrite-before.ensures.order)

pub with_weight-self-inside-requires-clause-fits : goal.with_weight-self-inside-requires-clause-fits
with_weight-self-inside-requires-clause-fits g c =
    omega (arith, weight_in-le c.overwrite-before.result.order c.self.inside.weights, c.self.invariant.0, c.self.invariant.1, total-light _ c.self.invariant.0.light, total-append weight_of (g.R.RowStore.admitted c.self.inside.rows) (g.R.RowStore.waiting c.self.inside.rows))

pub invariant_of-self : goal.invariant_of-self
invariant_of-self g c =
    let room = rw (← c.self.view_is) at c.requires.room in
    let row = found-row _ _ (rw (← c.self.view_is) at c.requires.stored) c.overwrite-before.ensures.before in
    let same = length-used c.args.number (overwritten c.args.value c.args.info) _ _ _ _ c.overwrite-before.ensures.after in (
      consistent-used (g.R.RowStore.admitted c.self.inside.rows) (g.R.RowStore.waiting c.self.inside.rows) c.self.inside.weights _ _ _ c.self.invariant.0
          (g.R.RowStore.admitted c.overwrite-before.new.self) (g.R.RowStore.waiting c.overwrite-before.new.self) c.with_weight-self-inside.result _ _ (omega (arith, room, same, c.self.invariant.0.few, c.in-Ok.ensures.len, c.in-Ok.ensures.in_place))
          c.args.number (overwritten c.args.value c.args.info) row.0 c.args.info.policy_weight row.1 refl (omega arith) (λ _. c.requires.shown) c.overwrite-before.ensures.after
          (with-changed c.args.number row.0 _ _ row.1 c.self.inside.weights c.self.invariant.0.admitted_weight c.self.invariant.0.waiting_weight c.overwrite-before.result.order c.overwrite-before.ensures.order
          c.args.info.policy_weight c.with_weight-self-inside.result (rw row.2.1 at c.with_weight-self-inside.ensures.changed) c.with_weight-self-inside.ensures.others),
      omega (arith, c.self.invariant.1, c.overwrite-before.ensures.room),
    )
