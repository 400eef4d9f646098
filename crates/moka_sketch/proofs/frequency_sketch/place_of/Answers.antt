use Rattle.std.proofs.Common.{◌≡◌, ◌-◌, ◌*◌, ◌/◌, ◌%◌, ◌^◌, ◌∙◌, ap, refl, min, arith, mod-eq_of_lt, bit_and}
use Rattle.std.proofs.lemmas.Nat.{and_mask}
use Rattle.moka_policy.specs.Frequency.{counter_count}
use Rattle.moka_sketch.proofs.Places.{counter_count-le, rows-le, place-lt}
use Rattle.moka_sketch.proofs.frequency_sketch.place_of.Goals as goal

-- the mask takes what a division by the number of counters leaves
pub returns : goal.returns
returns c =
    let count = counter_count c.args.bits in
    let shifted = c.args.hash / 2 ^ (14 * c.args.row) in
    let few = counter_count-le c.args.bits in
    let rows = rows-le c.args.bits c.args.row c.requires in
    let whole : 1 * count % 18446744073709551616 - 1 ≡ count - 1 = omega arith in
    let masked : bit_and shifted (1 * count % 18446744073709551616 - 1) ≡ shifted % count = ap (bit_and shifted) whole ∙ and_mask shifted (min c.args.bits 20) in
    let behind : c.args.row * count % 18446744073709551616 ≡ c.args.row * count = mod-eq_of_lt (omega arith) in
    rw (c.min-bits.ensures, masked, behind) (record { place = refl; within = place-lt c.args.bits c.args.row c.args.hash c.requires })
