use Rattle.std.proofs.Common.{◌≡◌, ◌-◌, unwrap_or, sym, ap, ◌∙◌, arith}
use Rattle.moka_segment_model.specs.Segments.{first_from}
use Rattle.moka_segment_model.proofs.Callers.{enough, is-enough, not-enough, first-found, first-on}
use Rattle.moka_segmented.proofs.opening.bits_for.Goals as goal

pub returns-then-segments-count_of-clause-bits : goal.returns-then-segments-count_of-clause-bits
returns-then-segments-count_of-clause-bits c =
    let it = c.loop-bits.bits in
    ap (λ o. unwrap_or o 63) (first-found (enough c.args.segments) 63 it (omega (arith, c.loop-bits-test.true)) (is-enough c.args.segments it (omega (arith, c.if-segments-count_of.true, c.count_of.ensures))) c.loop-bits.invariant)

pub loop-bits-preserved : goal.loop-bits-preserved
loop-bits-preserved c =
    let it = c.loop-bits.bits in
    first-on (enough c.args.segments) 63 it (omega (arith, c.loop-bits-test.true)) (not-enough c.args.segments it (omega (arith, c.if-segments-count_of.false, c.count_of.ensures))) c.loop-bits.invariant

pub returns-clause-bits : goal.returns-clause-bits
returns-clause-bits c =
    let last : c.loop-bits.bits ≡ 63 = omega (arith, c.loop-bits-test.false, c.loop-bits.auto.bits-end) in
    sym (ap (λ o. unwrap_or o 63) (c.loop-bits.invariant ∙ ap (λ n. first_from (enough c.args.segments) n (63 - n)) last))
