use Rattle.moka_table.proofs.Weights.{consistent-shown}
use Rattle.moka_table.proofs.table.Table.clear_may_hide.Goals as goal

pub invariant_of-self : goal.invariant_of-self
invariant_of-self g c = (
  consistent-shown (g.R.RowStore.admitted c.self.inside.rows) (g.R.RowStore.waiting c.self.inside.rows) c.self.inside.weights _ _ _ c.self.invariant.0 (rw (← c.self.view_is) at c.requires),
  c.self.invariant.1,
)
