use Rattle.std.proofs.Common.{refl, ◌<◌, ◌^◌, arith}
use Rattle.moka_rows.specs.Rows.{touched}
use Rattle.moka_table.proofs.Each.{of-row}
use Rattle.moka_table.proofs.Finds.{stored-row}
use Rattle.moka_rows.proofs.Callers.{length-used}
use Rattle.moka_table.proofs.Weights.{consistent-used, with-same}
use Rattle.moka_table.proofs.table.Table.touch.Goals as goal

pub invariant_of-self : goal.invariant_of-self
invariant_of-self g c =
    let row = stored-row _ (rw (← c.self.view_is) at c.requires) in
    let same = length-used c.args.number (touched c.args.touch) _ _ _ _ c.touch.ensures.after in (
      consistent-used (g.R.RowStore.admitted c.self.inside.rows) (g.R.RowStore.waiting c.self.inside.rows) c.self.inside.weights _ _ _ c.self.invariant.0
          (g.R.RowStore.admitted c.touch.new.self) (g.R.RowStore.waiting c.touch.new.self) c.self.inside.weights _ _ (omega (arith, same, c.self.invariant.0.few))
          c.args.number (touched c.args.touch) row.0 row.0.info.policy_weight row.1 refl (of-row (λ r. r.info.policy_weight < 2 ^ 32) c.args.number _ row.0 c.self.invariant.0.light row.1) (λ is. is) c.touch.ensures.after
          (with-same c.args.number row.0 _ _ row.1 c.self.inside.weights c.self.invariant.0.admitted_weight c.self.invariant.0.waiting_weight),
      omega (arith, c.self.invariant.1, c.touch.ensures.room),
    )
