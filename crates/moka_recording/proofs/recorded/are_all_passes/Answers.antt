use Rattle.std.proofs.Common.{◌≡◌, length, refl, rules}
use Rattle.moka_recording.proofs.Places.{in_order, upto}
use Rattle.moka_recording.specs.Receipts.{HasNumber}
use Rattle.moka_recording.proofs.recorded.are_all_passes.Goals as goal

pub loop-number-preserved : goal.loop-number-preserved
loop-number-preserved g c = (c.loop-number.invariant.0, upto (HasNumber c.args.passes.now) c.loop-number.number c.loop-number.invariant.1 (c.has_number.ensures.0 (search rules)))

pub returns-then-are_in_order : goal.returns-then-are_in_order
returns-then-are_in_order g c =
    let size : length c.args.passes.now ≡ c.args.count = search rules in
    (λ _. in_order c.args.passes.now c.args.count (c.are_in_order.ensures.0 (search rules)) size, λ _. refl)
