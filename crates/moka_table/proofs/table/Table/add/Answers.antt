use Rattle.std.proofs.Common.{refl, ◌+◌, ap, arith}
use Rattle.moka_model.proofs.Callers.{total-append}
use Rattle.moka_rows.specs.declared.rows.EntryInfo.{EntryInfo}
use Rattle.moka_table.specs.Table.{weight_of}
use Rattle.moka_rows.proofs.Callers.{length-added}
use Rattle.moka_table.proofs.Weights.{total-light, consistent-added}
use Rattle.moka_table.proofs.table.Table.add.Goals as goal

pub overflow_add-self : goal.overflow_add-self
overflow_add-self g c = omega (arith, c.self.invariant.0, c.self.invariant.1, c.from.ensures, total-light _ c.self.invariant.0.light, total-append weight_of (g.R.RowStore.admitted c.self.inside.rows) (g.R.RowStore.waiting c.self.inside.rows))

pub invariant_of-self : goal.invariant_of-self
invariant_of-self g c =
    let room = rw (← c.self.view_is) at c.requires.room in
    let more = length-added c.add.result c.args.row _ _ _ _ c.add.ensures.admitted c.add.ensures.waiting in
    let weighs = ap (λ (i : EntryInfo). i.policy_weight) c.info.ensures in (
      consistent-added (g.R.RowStore.admitted c.self.inside.rows) (g.R.RowStore.waiting c.self.inside.rows) c.self.inside.weights _ _ _ c.self.invariant.0
          (g.R.RowStore.admitted c.add.new.self) (g.R.RowStore.waiting c.add.new.self) (record { admitted = c.self.inside.weights.admitted; waiting = c.self.inside.weights.waiting + c.from.result }) _ _ (omega (arith, room, more, c.self.invariant.0.few))
          c.add.result c.args.row (omega (arith, weighs)) c.requires.shown c.add.ensures.admitted c.add.ensures.waiting refl (omega (arith, weighs, c.from.ensures)),
      omega (arith, c.self.invariant.1, c.add.ensures.room),
    )

pub returns-clause-room : goal.returns-clause-room
returns-clause-room g c =
    let more = length-added c.add.result c.args.row _ _ _ _ c.add.ensures.admitted c.add.ensures.waiting in
    rw (← c.self.view_is) (omega (arith, more, c.add.ensures.room, c.self.invariant.0.few))
