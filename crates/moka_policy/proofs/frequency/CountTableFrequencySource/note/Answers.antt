use Rattle.std.proofs.Common.{rules, ◌≡◌, ◌/◌, ◌≤◌, ℕ, map, min, set, arith, sym, ap, ◌∙◌, length, length-set}
use Rattle.std.proofs.lemmas.List.{length-map}
use Rattle.std.proofs.lemmas.List.Elements.{All-set}
use Rattle.moka_policy.specs.Frequency.{counter_count}
use Rattle.moka_policy.proofs.CounterTables.{halved_is_table, written_over}
use Rattle.moka_policy.proofs.frequency.CountTableFrequencySource.note.Goals as goal

pub place_of-place-requires : goal.place_of-place-requires
place_of-place-requires g c =
    let same : length c.self.inside.counters.items ≡ c.self.inside.counters.len = search rules in
    (min g.row.BITS 20, c.len.ensures ∙ sym same ∙ c.self.invariant.length_is)

-- the counters were halved
pub invariant_of-self : goal.invariant_of-self
invariant_of-self g c =
    let before = c.self.inside.counters.items in
    let after = set before c.place_of-place.result c.min.result in
    let halves : c.halve.new.counters ≡ map (λ count. count / 2) after = c.halve.ensures ∙ ap (map (λ count. count / 2)) c.deref_mut.ensures.value in
    let length_before : length before ≡ counter_count g.row.BITS = c.self.invariant.length_is in
    let length_after : length after ≡ counter_count g.row.BITS = length-set before c.place_of-place.result c.min.result ∙ length_before in
    let length_halves : length c.halve.new.counters ≡ counter_count g.row.BITS = ap length halves ∙ length-map after (λ (count : ℕ). count / 2) ∙ length_after in
    let at_most : c.min.result ≤ 15 = omega arith in
    let length_is : length before ≡ c.self.inside.counters.len = search rules in
    let items = written_over c.self.inside.counters.len c.halve.new.counters after (omega arith) (omega arith) ∙ halves in
    rw items (halved_is_table g.row.BITS after length_after (All-set (λ count. count ≤ 15) before _ c.min.result at_most c.self.invariant.at_most_15))
