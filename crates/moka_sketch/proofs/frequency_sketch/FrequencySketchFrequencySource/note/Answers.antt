use Rattle.std.proofs.Common.{rules, ◌≡◌, ◌+◌, ◌*◌, ◌/◌, ◌%◌, ◌^◌, ℕ, arith, ap, ◌∙◌, nat_eq, true, map, length, List, mod-eq_of_lt}
use Rattle.std.specs.Vec.{with_items}
use Rattle.std.proofs.lemmas.Bool.{eq-eqb}
use Rattle.std.proofs.lemmas.List.{with_items_is, length-map}
use Rattle.moka_policy.specs.Frequency.{counter_count}
use Rattle.moka_sketch.specs.Sketch.{counted_in_each_row}
use Rattle.moka_sketch.proofs.Places.{counter_count-le}
use Rattle.moka_sketch.proofs.frequency_sketch.FrequencySketchFrequencySource.note.Goals as goal

-- the counters were halved
pub returns-then-self-min : goal.returns-then-self-min
returns-then-self-min g c =
    let few = counter_count-le g.row.BITS in
    let before = c.self.inside.counters in
    let after = c.count_in_each_row.new.counters in
    let halves = c.halve.new.counters in
    let as_many : length after ≡ before.len = search rules in
    let after_is : (with_items before after).items ≡ after = with_items_is before after as_many in
    let halves_are : halves ≡ map (λ count. count / 2) after = c.halve.ensures ∙ ap (map (λ count. count / 2)) (c.deref_mut-then-self-min.ensures.value ∙ after_is) in
    let halves_as_many : length halves ≡ before.len = ap length halves_are ∙ length-map after (λ (count : ℕ). count / 2) ∙ as_many in
    let items : (with_items (with_items before after) halves).items ≡ map (λ count. count / 2) after = with_items_is (with_items before after) halves halves_as_many ∙ halves_are in
    let all : 10 * counter_count g.row.BITS % 18446744073709551616 ≡ 10 * counter_count g.row.BITS = mod-eq_of_lt (omega arith) in
    let bits : 10 * 2 ^ c.min.result % 18446744073709551616 ≡ 10 * counter_count g.row.BITS % 18446744073709551616 = ap (λ k. 10 * 2 ^ k % 18446744073709551616) c.min.ensures in
    let due : nat_eq (c.self.inside.notes + 1) (10 * counter_count g.row.BITS) ≡ true = eq-eqb _ _ (c.if-self-min.true ∙ bits ∙ all) in
    let counted : after ≡ counted_in_each_row g.row.BITS before.items c.args.hash = c.count_in_each_row.ensures ∙ ap (λ (counters : List ℕ). counted_in_each_row g.row.BITS counters c.args.hash) c.deref_mut.ensures.value in
    let halved_is : record { counters = map (λ count. count / 2) after; notes = 0 } ≡ record { counters = map (λ count. count / 2) (counted_in_each_row g.row.BITS before.items c.args.hash); notes = 0 } = ap (λ (counters : List ℕ). record { counters = map (λ count. count / 2) counters; notes = 0 }) counted in
    rw (← c.self.view_is) (rw (due, items) halved_is)
