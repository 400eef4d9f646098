use Rattle.std.proofs.Common.{sym, ap, ◌∙◌, arith}
use Rattle.moka_rows.proofs.NumberLemmas.{IsPlaceOf-first, row_under-take_more}
use Rattle.moka_rows.proofs.list_rows.place_of.Goals as goal

pub returns-then-entry-number : goal.returns-then-entry-number
returns-then-entry-number g c =
    IsPlaceOf-first c.args.number c.args.rows.now c.loop-place.place c.index-rows-place.result (omega arith)
    (ap (λ p. p.0) (sym c.index-rows-place.is) ∙ c.if-entry-number.true) c.loop-place.invariant

pub loop-place-preserved : goal.loop-place-preserved
loop-place-preserved g c =
    row_under-take_more c.args.number c.args.rows.now c.loop-place.place c.index-rows-place.result (omega arith)
    (λ same. c.if-entry-number.false (ap (λ p. p.0) c.index-rows-place.is ∙ same)) c.loop-place.invariant
