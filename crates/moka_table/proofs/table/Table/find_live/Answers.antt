use Rattle.std.proofs.Common.{inr, not, ◌||◌, sym, ap, ◌∙◌}
use Rattle.moka_model.specs.Lives.{has_come}
use Rattle.moka_rows.specs.declared.rows.EntryInfo.{EntryInfo}
use Rattle.moka_table.proofs.table.Table.find_live.Goals as goal

pub returns-then-is_dead : goal.returns-then-is_dead
returns-then-is_dead g c =
    let dead = c.is_dead.ensures ∙ ap (λ (i : EntryInfo). i.is_hidden || has_come i.deadline c.args.now) c.info.ensures in
    inr (c.in_ok-number.number, c.row-row.result, c.row-row.ensures, rw c.row-row.ensures at c.in_ok-number.ensures.found, ap not (sym dead ∙ c.if-is_dead.true))

pub returns : goal.returns
returns g c =
    let dead = c.is_dead.ensures ∙ ap (λ (i : EntryInfo). i.is_hidden || has_come i.deadline c.args.now) c.info.ensures in
    (c.row-row.result, c.row-row.ensures, rw c.row-row.ensures at c.in_ok-number.ensures.found, ap not (sym dead ∙ c.if-is_dead.false))
