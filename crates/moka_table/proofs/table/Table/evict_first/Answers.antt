use Rattle.std.proofs.Common.{◌≡◌, ◌+◌, arith}
use Rattle.moka_model.proofs.Callers.{total-append}
use Rattle.moka_table.specs.Table.{weight_of}
use Rattle.moka_rows.proofs.Callers.{length-first}
use Rattle.moka_table.proofs.Weights.{total-light, first-le, consistent-first}
use Rattle.moka_table.proofs.table.Table.evict_first.Goals as goal

pub with_weight-self-inside-requires-clause-before : goal.with_weight-self-inside-requires-clause-before
with_weight-self-inside-requires-clause-before g c =
    let first = c.in-Some.ensures.admitted in
    rw c.info-weight.ensures (first-le first.0 c.in-Some.row _ _ c.self.inside.weights.admitted first.1 c.self.invariant.0.admitted_weight)

pub with_weight-self-inside-requires-clause-fits : goal.with_weight-self-inside-requires-clause-fits
with_weight-self-inside-requires-clause-fits g c =
    omega (arith, c.self.invariant.0, c.self.invariant.1, total-light _ c.self.invariant.0.light, total-append weight_of (g.R.RowStore.admitted c.self.inside.rows) (g.R.RowStore.waiting c.self.inside.rows))

pub invariant_of-self : goal.invariant_of-self
invariant_of-self g c =
    let first = c.in-Some.ensures.admitted in
    let fewer = length-first first.0 c.in-Some.row _ _ _ _ first.1 c.in-Some.ensures.waiting in
    let less : c.with_weight-self-inside.result.admitted + c.in-Some.row.info.policy_weight ≡ c.self.inside.weights.admitted + 0 = rw c.info-weight.ensures at c.with_weight-self-inside.ensures.changed in (
      consistent-first (g.R.RowStore.admitted c.self.inside.rows) (g.R.RowStore.waiting c.self.inside.rows) c.self.inside.weights _ _ _ c.self.invariant.0
          (g.R.RowStore.admitted c.take_first_admitted.new.self) (g.R.RowStore.waiting c.take_first_admitted.new.self) c.with_weight-self-inside.result _ _ (omega (arith, fewer, c.self.invariant.0.few, c.in-Ok.ensures.len, c.in-Ok.ensures.in_place))
          first.0 c.in-Some.row first.1 c.in-Some.ensures.waiting (omega (arith, less)) c.with_weight-self-inside.ensures.others,
      omega (arith, c.self.invariant.1, c.in-Some.ensures.room),
    )

pub returns-clause-evicted : goal.returns-clause-evicted
returns-clause-evicted g c =
    let first = c.in-Some.ensures.admitted in
    rw (← c.self.view_is) ((first.0, c.in-Some.row), record { admitted = first.1; waiting = c.in-Some.ensures.waiting; notices = c.in-Ok.ensures.items })

pub returns-clause-room : goal.returns-clause-room
returns-clause-room g c =
    let first = c.in-Some.ensures.admitted in
    let fewer = length-first first.0 c.in-Some.row _ _ _ _ first.1 c.in-Some.ensures.waiting in
    rw (← c.self.view_is) (omega (arith, fewer, c.self.invariant.0, c.self.invariant.1, c.in-Some.ensures.room, c.in-Ok.ensures.len, c.in-Ok.ensures.in_place))
