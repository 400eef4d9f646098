use Rattle.std.proofs.Common.{arith}
use Rattle.moka_model.proofs.Callers.{total-append}
use Rattle.moka_table.specs.Table.{weight_of}
use Rattle.moka_table.proofs.Weights.{total-light}
use Rattle.moka_table.proofs.table.Table.weight.Goals as goal

pub overflow_add-result : goal.overflow_add-result
overflow_add-result g c = omega (arith, c.self.invariant.0, c.self.invariant.1, total-light _ c.self.invariant.0.light, total-append weight_of (g.R.RowStore.admitted c.self.inside.rows) (g.R.RowStore.waiting c.self.inside.rows))

pub returns : goal.returns
returns g c = rw (← c.self.view_is) (omega (arith, c.self.invariant.0.admitted_weight, c.self.invariant.0.waiting_weight, total-append weight_of (g.R.RowStore.admitted c.self.inside.rows) (g.R.RowStore.waiting c.self.inside.rows)))
