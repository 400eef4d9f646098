use Rattle.std.proofs.Common.{arith}
use Rattle.moka_rows.specs.Rows.{hidden}
use Rattle.moka_rows.proofs.Callers.{length-changed}
use Rattle.moka_table.proofs.Weights.{consistent-hidden}
use Rattle.moka_table.proofs.table.Table.hide.Goals as goal

pub invariant_of-self : goal.invariant_of-self
invariant_of-self g c = (
  consistent-hidden c.args.number (g.R.RowStore.admitted c.self.inside.rows) (g.R.RowStore.waiting c.self.inside.rows) (g.R.RowStore.admitted c.hide.new.self) (g.R.RowStore.waiting c.hide.new.self)
      c.self.inside.weights _ _ _ c.self.invariant.0 c.hide.ensures.admitted c.hide.ensures.waiting,
  omega (arith, c.self.invariant.1, c.hide.ensures.room),
)

pub returns-clause-room : goal.returns-clause-room
returns-clause-room g c =
    let same = length-changed c.args.number hidden _ _ _ _ c.hide.ensures.admitted c.hide.ensures.waiting in
    rw (← c.self.view_is) (omega (arith, same, c.hide.ensures.room))
