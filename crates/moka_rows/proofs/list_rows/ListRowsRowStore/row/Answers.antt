use Rattle.std.proofs.Common.{◌∙◌}
use Rattle.moka_rows.proofs.RowLemmas.{row_under-append_left, row_under-append_right}
use Rattle.moka_rows.proofs.list_rows.ListRowsRowStore.row.Goals as goal

pub returns-in-Admitted-clause-row : goal.returns-in-Admitted-clause-row
returns-in-Admitted-clause-row g c =
    rw (c.lend.ensures, c.row.ensures) (row_under-append_left c.args.number c.args.self.now.admitted.items c.args.self.now.waiting.items _ (c.in-Admitted.ensures.row c.index.result.now c.index.ensures))

pub returns-in-Waiting-clause-row : goal.returns-in-Waiting-clause-row
returns-in-Waiting-clause-row g c =
    rw (c.lend-in-Waiting.ensures, c.row-in-Waiting.ensures)
    (row_under-append_right c.args.number c.args.self.now.admitted.items c.args.self.now.waiting.items c.in-Waiting.ensures.0
    ∙ c.in-Waiting.ensures.1.row c.index-in-Waiting.result.now c.index-in-Waiting.ensures)
