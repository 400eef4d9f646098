use Rattle.std.proofs.Common.{◌+◌, ◌-◌, ap, arith}
use Rattle.moka_model.proofs.Callers.{total-append}
use Rattle.moka_rows.specs.declared.rows.EntryInfo.{EntryInfo}
use Rattle.moka_table.specs.Table.{weight_of}
use Rattle.moka_rows.proofs.Callers.{length-admitted}
use Rattle.moka_table.proofs.Weights.{total-light, consistent-admitted, stored-waiting, under-waiting, row-le}
use Rattle.moka_table.proofs.table.Table.admit.Goals as goal

pub row-requires : goal.row-requires
row-requires g c = stored-waiting c.args.number (g.R.RowStore.admitted c.self.inside.rows) (g.R.RowStore.waiting c.self.inside.rows) (rw (← c.self.view_is) at c.requires)

pub overflow_sub-self : goal.overflow_sub-self
overflow_sub-self g c =
    let there = rw (← c.self.view_is) at c.requires in
    let waits = under-waiting c.args.number c.row.result _ _ c.row.ensures.apart there c.row.ensures.row in
    omega (arith, row-le c.args.number _ _ waits, c.self.invariant.0.waiting_weight, c.from-weight.ensures, ap (λ (i : EntryInfo). i.policy_weight) c.info.ensures)

pub overflow_add-self : goal.overflow_add-self
overflow_add-self g c = omega (arith, c.self.invariant.0, c.self.invariant.1, c.from-weight.ensures, total-light _ c.self.invariant.0.light, total-append weight_of (g.R.RowStore.admitted c.self.inside.rows) (g.R.RowStore.waiting c.self.inside.rows))

pub invariant_of-self : goal.invariant_of-self
invariant_of-self g c =
    let there = rw (← c.self.view_is) at c.requires in
    let waits = under-waiting c.args.number c.row.result _ _ c.row.ensures.apart there c.row.ensures.row in
    let le = row-le c.args.number _ _ waits in
    let weighs = ap (λ (i : EntryInfo). i.policy_weight) c.info.ensures in
    let same = length-admitted c.args.number _ _ _ _ there c.admit.ensures.admitted c.admit.ensures.waiting in (
      consistent-admitted (g.R.RowStore.admitted c.self.inside.rows) (g.R.RowStore.waiting c.self.inside.rows) c.self.inside.weights _ _ _ c.self.invariant.0
          (g.R.RowStore.admitted c.admit.new.self) (g.R.RowStore.waiting c.admit.new.self) (record { admitted = c.self.inside.weights.admitted + c.from-weight.result; waiting = c.self.inside.weights.waiting - c.from-weight.result }) _ _ (omega (arith, same, c.self.invariant.0.few))
          c.args.number c.row.result waits (rw waits at c.admit.ensures.admitted) c.admit.ensures.waiting (omega (arith, weighs, c.from-weight.ensures)) (omega (arith, le, weighs, c.self.invariant.0.waiting_weight, c.from-weight.ensures)),
      omega (arith, c.self.invariant.1, c.admit.ensures.room),
    )

pub returns-clause-admitted : goal.returns-clause-admitted
returns-clause-admitted g c = rw (← c.self.view_is) c.admit.ensures.admitted

pub returns-clause-room : goal.returns-clause-room
returns-clause-room g c =
    let there = rw (← c.self.view_is) at c.requires in
    let same = length-admitted c.args.number _ _ _ _ there c.admit.ensures.admitted c.admit.ensures.waiting in
    rw (← c.self.view_is) (omega (arith, same, c.admit.ensures.room))
