use Rattle.std.proofs.Common.{◌∙◌, sym}
use Rattle.moka_rows.proofs.NumberLemmas.{row_under-place}
use Rattle.moka_rows.proofs.list_rows.ListRowsRowStore.next.Goals as goal

pub returns-in-Admitted-clause-behind : goal.returns-in-Admitted-clause-behind
returns-in-Admitted-clause-behind g c =
    rw (row_under-place c.args.number c.args.self.now.admitted.items c.in-Admitted.place c.in-Admitted.ensures).1
    ((rw c.deref.ensures.value at c.number_at.ensures) ∙ sym c.in-Admitted.ensures.next)

pub returns-in-Waiting-clause-behind : goal.returns-in-Waiting-clause-behind
returns-in-Waiting-clause-behind g c =
    rw c.in-Waiting.ensures.0
    ((rw c.deref-in-Waiting.ensures.value at c.number_at-in-Waiting.ensures) ∙ sym c.in-Waiting.ensures.1.next)
