use Rattle.std.proofs.Common.{ℕ, Bool, List, inl, inr, None, Option, refl, sym, ◌∙◌}
use denote.Ref.{Bor}
use Rattle.std.specs.Fn.{Mut}
use Rattle.moka_rows.specs.declared.rows.Row.{Row}
use Rattle.moka_table.specs.LiveEntry.{Accepts, FindsLive}
use Rattle.moka_table.proofs.Finds.{one-found, same-row-value}
use Rattle.moka_table.proofs.table.Table.find_acceptable.Goals as goal

-- where no live value is found, none is accepted, and the closure said nothing
accepts-none : {K V F : Type 0} (eq : K → K → Bool) (call : Mut F (Bor V × Unit {0}) Bool) (replace_if : Option F) (key : K) (hash at : ℕ) (rows : List (ℕ × Row K V)) → FindsLive eq key hash at rows None → Accepts eq call replace_if key hash at rows None None
accepts-none eq call replace_if key hash at rows (inl none) = inl (refl, none)
accepts-none eq call replace_if key hash at rows (inr (n, row, there, of_key, dead)) = inr (n, row, there, of_key, inl (dead, refl))

pub returns-in_err-number-clause-accepts : goal.returns-in_err-number-clause-accepts
returns-in_err-number-clause-accepts g c = rw c.from_residual.ensures (None, accepts-none g.K.PartialEq.eq g.F.FnMut c.args.replace_if.now c.args.key.now c.args.hash c.args.now _ c.in_err-number.ensures)

pub returns-then-asks_to_replace-clause-accepts : goal.returns-then-asks_to_replace-clause-accepts
returns-then-asks_to_replace-clause-accepts g c =
    let found = c.in_ok-number.ensures in
    let same = same-row-value _ _ (c.row-2.view_is ∙ one-found _ c.row.result found.0 c.row.ensures found.1) in
    let said = rw same at c.asks_to_replace.ensures.says in
    (said.0, inr (c.in_ok-number.number, found.0, found.1, found.2, inr (found.3, said.1, sym said.2 ∙ c.if-asks_to_replace.true)))

pub returns-clause-accepts : goal.returns-clause-accepts
returns-clause-accepts g c =
    let found = c.in_ok-number.ensures in
    let same = same-row-value _ _ (c.row-2.view_is ∙ one-found _ c.row.result found.0 c.row.ensures found.1) in
    let said = rw same at c.asks_to_replace.ensures.says in
    (said.0, (found.0, found.1, found.2, found.3, said.1, sym said.2 ∙ c.if-asks_to_replace.false))

pub returns-then-asks_to_replace-clause-left : goal.returns-then-asks_to_replace-clause-left
returns-then-asks_to_replace-clause-left g c =
    let found = c.in_ok-number.ensures in
    let same = same-row-value _ _ (c.row-2.view_is ∙ one-found _ c.row.result found.0 c.row.ensures found.1) in
    inr (c.in_ok-number.number, found.0, found.1, found.2, found.3, rw same at c.asks_to_replace.ensures.left)

pub returns-clause-left : goal.returns-clause-left
returns-clause-left g c =
    let found = c.in_ok-number.ensures in
    let same = same-row-value _ _ (c.row-2.view_is ∙ one-found _ c.row.result found.0 c.row.ensures found.1) in
    inr (c.in_ok-number.number, found.0, found.1, found.2, found.3, rw same at c.asks_to_replace.ensures.left)
