-- The lookup's answer is right since the numbers differ.
use Rattle.std.proofs.Common.{◌≡◌, ◌∙◌, ◌++◌, ap}
use Rattle.moka_rows.specs.Rows.{is_row_of}
use Rattle.moka_rows.specs.Numbers.{number_where}
use Rattle.moka_rows.proofs.NumberLemmas.{IfSome-number_where, IsSome-number_where, IfNone-number_where}
use Rattle.moka_rows.proofs.list_rows.ListRowsRowStore.find.Given.{Over}
use Rattle.moka_rows.proofs.list_rows.ListRowsRowStore.find.Goals as goal

number : (g : Over) (c : goal.After-find_row g) → c.find_row.result ≡ number_where (is_row_of g.K.PartialEq.eq c.args.key.now c.args.hash) (c.args.self.now.admitted.items ++ c.args.self.now.waiting.items)
number g c =
    let test = is_row_of g.K.PartialEq.eq c.args.key.now c.args.hash in
    c.find_row.ensures.number
    ∙ ap (λ rows. number_where test (rows ++ c.new-waiting.result.rows.now)) (c.new-admitted.ensures ∙ c.deref.ensures.value)
    ∙ ap (λ rows. number_where test (c.args.self.now.admitted.items ++ rows)) (c.new-waiting.ensures ∙ c.deref-2.ensures.value)

pub returns-clause-found : goal.returns-clause-found
returns-clause-found g c = IfSome-number_where _ c.args.self.now.next _ c.find_row.result c.args.self.now.numbered (number g c)

pub returns-clause-stored : goal.returns-clause-stored
returns-clause-stored g c = IsSome-number_where _ c.args.self.now.next _ c.find_row.result c.args.self.now.numbered (number g c)

pub returns-clause-absent : goal.returns-clause-absent
returns-clause-absent g c =
    IfNone-number_where (is_row_of g.K.PartialEq.eq c.args.key.now c.args.hash) (c.args.self.now.admitted.items ++ c.args.self.now.waiting.items) c.find_row.result (number g c)
