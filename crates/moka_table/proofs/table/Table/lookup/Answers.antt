use Rattle.std.proofs.Common.{◌∙◌}
use Rattle.moka_table.proofs.Finds.{same-row-key}
use Rattle.moka_table.proofs.table.Table.lookup.Goals as goal

pub returns-in_ok-key-in-Some-clause-lookup : goal.returns-in_ok-key-in-Some-clause-lookup
returns-in_ok-key-in-Some-clause-lookup g c =
    (c.row.result, c.row.ensures, rw c.row.ensures at c.in-Some.ensures.found, c.in_ok-key-in-Some.ensures.cases ∙ same-row-key _ _ c.row-in-Some.view_is)
