use Rattle.std.proofs.Common.{◌∙◌}
use Rattle.moka_table.proofs.Callers.{one-found, same-row-value}
use Rattle.moka_state.proofs.compute.find_live.Goals as goal

pub returns-in-Ok : goal.returns-in-Ok
returns-in-Ok g c =
    let found = c.in-Some.ensures in
    let copied = rw (same-row-value _ _ (c.row-2.view_is ∙ one-found _ c.row.result found.0 c.row.ensures found.1)) at c.in-Ok.ensures in
    (found.0, found.1, found.2, found.3, rw found.1 at c.in_ok-entry.ensures, copied)
