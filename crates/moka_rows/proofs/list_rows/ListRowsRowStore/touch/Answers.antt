use Rattle.std.proofs.Common.{refl}
use Rattle.moka_rows.specs.Rows.{touched}
use Rattle.moka_rows.proofs.RowLemmas.{row_under-append_left, row_under-append_right}
use Rattle.moka_rows.proofs.NumberLemmas.{IsNumbered-moved, IsNumbered-changed}
use Rattle.moka_rows.proofs.list_rows.ListRowsRowStore.touch.Goals as goal

pub invariant_of-self-clause-numbered : goal.invariant_of-self-clause-numbered
invariant_of-self-clause-numbered g c =
    rw (c.push_reserved.ensures.items, c.remove-used.ensures.items)
    (IsNumbered-moved c.args.self.now.next c.args.number c.in-Admitted.place c.args.self.now.admitted.items c.args.self.now.waiting.items
    c.remove-used.result _ c.in-Admitted.ensures c.remove-used.ensures.value c.args.self.now.numbered)

pub invariant_of-self-in-Waiting-clause-numbered : goal.invariant_of-self-in-Waiting-clause-numbered
invariant_of-self-in-Waiting-clause-numbered g c =
    rw c.touch-before-in-Waiting.ensures.after
    (IsNumbered-changed c.args.self.now.next c.args.number c.in-Waiting.place c.args.self.now.admitted.items c.args.self.now.waiting.items
    c.index_mut.result.now (touched c.args.touch) c.in-Waiting.ensures.1 c.index_mut.ensures.value c.args.self.now.numbered)

pub returns-in-Admitted-clause-before : goal.returns-in-Admitted-clause-before
returns-in-Admitted-clause-before g c =
    rw (row_under-append_left c.args.number c.args.self.now.admitted.items c.args.self.now.waiting.items _ (c.in-Admitted.ensures.row c.remove-used.result c.remove-used.ensures.value)) c.touch-before.ensures.before

pub returns-in-Waiting-clause-before : goal.returns-in-Waiting-clause-before
returns-in-Waiting-clause-before g c =
    rw (
      row_under-append_right c.args.number c.args.self.now.admitted.items c.args.self.now.waiting.items c.in-Waiting.ensures.0,
      c.in-Waiting.ensures.1.row c.index_mut.result.now c.index_mut.ensures.value,
    ) c.touch-before-in-Waiting.ensures.before

pub returns-in-Waiting-clause-after : goal.returns-in-Waiting-clause-after
returns-in-Waiting-clause-after g c =
    rw (c.in-Waiting.ensures.0, c.touch-before-in-Waiting.ensures.after)
    (refl, c.in-Waiting.ensures.1.changed c.index_mut.result.now (touched c.args.touch) c.index_mut.ensures.value)
