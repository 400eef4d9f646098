use Rattle.std.proofs.Common.{◌∙◌}
use Rattle.moka_rows.proofs.RowLemmas.{row_under-append_left, row_under-append_right}
use Rattle.moka_rows.proofs.NumberLemmas.{IsNumbered-remove_front, IsNumbered-remove_back}
use Rattle.moka_rows.proofs.list_rows.ListRowsRowStore.remove.Goals as goal

pub invariant_of-self-clause-numbered : goal.invariant_of-self-clause-numbered
invariant_of-self-clause-numbered g c =
    rw c.remove-row.ensures.items
    (IsNumbered-remove_front c.args.self.now.next c.args.number c.in-Admitted.place c.args.self.now.admitted.items c.args.self.now.waiting.items
    c.remove-row.result c.in-Admitted.ensures c.remove-row.ensures.value c.args.self.now.numbered)

pub invariant_of-self-in-Waiting-clause-numbered : goal.invariant_of-self-in-Waiting-clause-numbered
invariant_of-self-in-Waiting-clause-numbered g c =
    rw c.remove-row-in-Waiting.ensures.items
    (IsNumbered-remove_back c.args.self.now.next c.args.number c.in-Waiting.place c.args.self.now.admitted.items c.args.self.now.waiting.items
    c.remove-row-in-Waiting.result c.in-Waiting.ensures.1 c.remove-row-in-Waiting.ensures.value c.args.self.now.numbered)

pub returns-in-Admitted-clause-row : goal.returns-in-Admitted-clause-row
returns-in-Admitted-clause-row g c =
    rw c.into_row.ensures
    (row_under-append_left c.args.number c.args.self.now.admitted.items c.args.self.now.waiting.items _ (c.in-Admitted.ensures.row c.remove-row.result c.remove-row.ensures.value))

pub returns-in-Waiting-clause-row : goal.returns-in-Waiting-clause-row
returns-in-Waiting-clause-row g c =
    rw c.into_row-in-Waiting.ensures
    (row_under-append_right c.args.number c.args.self.now.admitted.items c.args.self.now.waiting.items c.in-Waiting.ensures.0
    ∙ c.in-Waiting.ensures.1.row c.remove-row-in-Waiting.result c.remove-row-in-Waiting.ensures.value)
