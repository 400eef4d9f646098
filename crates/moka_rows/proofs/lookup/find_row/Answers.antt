-- The two searches are one search of both lists.
use Rattle.std.proofs.Common.{◌∙◌, sym}
use Rattle.moka_rows.proofs.NumberLemmas.{number_where-append_left, number_where-append_right}
use Rattle.moka_rows.proofs.lookup.find_row.Goals as goal

pub returns-in-Some-clause-number : goal.returns-in-Some-clause-number
returns-in-Some-clause-number g c =
    number_where-append_left _ c.args.admitted.rows.now c.args.waiting.rows.now c.in-Some.number
    (sym c.in-Some.is ∙ c.number_of.ensures.number)

pub returns-clause-number : goal.returns-clause-number
returns-clause-number g c =
    number_where-append_right _ c.args.admitted.rows.now c.args.waiting.rows.now c.number_of-2.result
    (sym c.in_default.is ∙ c.number_of.ensures.number) c.number_of-2.ensures.number
