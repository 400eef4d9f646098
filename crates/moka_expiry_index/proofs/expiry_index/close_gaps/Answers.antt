use Rattle.std.proofs.Common.{rules, ◌≡◌, ◌≢◌, ℕ, ◌+◌, ◌<◌, length, set, vec_len, slice_index, get_or, get_or-set_same, get_or-set_other, sym, ap, subst, ◌∙◌, arith}
use Rattle.std.proofs.lemmas.List.{get_or_default}
use Rattle.moka_expiry_index.specs.MinTree.{leaf}
use Rattle.moka_expiry_index.proofs.Closing.{closes-empty, closes-moved}
use Rattle.moka_expiry_index.proofs.expiry_index.close_gaps.Goals as goal
use Rattle.moka_expiry_index.proofs.expiry_index.close_gaps.Goals.{then-number-ne0, else-number-ne0}

pub loop-place-preserved : goal.loop-place-preserved
loop-place-preserved c =
    let inv = c.loop-place.invariant in
    let many : vec_len c.loop-place.numbers ≡ length c.loop-place.numbers.items = search rules in
    let nodes : vec_len c.loop-place.nodes ≡ length c.loop-place.nodes.items = search rules in
    let places : vec_len c.loop-place.places ≡ length c.loop-place.places.items = search rules in
    let less : c.loop-place.place < vec_len c.args.numbers.now = omega (arith, c.loop-place-test.true, inv.numbers) in
    let is : c.index-number.result.now ≡ get_or c.args.numbers.now.items c.loop-place.place 0 =
    c.index-number.ensures ∙ get_or_default c.loop-place.numbers.items c.loop-place.place c.index-number.result.now 0 (omega (arith, less, many, inv.numbers))
    ∙ inv.closes.numbers c.loop-place.place (omega arith) in
    let few = inv.closes.few in
    elim c.if-number-ne0.branch [
      | then-number-ne0 w ↦
          let some : c.index-number.result.now ≢ 0 = w.if-number-ne0.true in
          let known : c.index-number.result.now < vec_len c.args.places.now =
          subst (λ (n : ℕ). n < vec_len c.args.places.now) (sym is) (c.requires.slots.within c.loop-place.place less (λ none. some (is ∙ none))) in
          rw (w.numbers-is, w.nodes-is, w.places-is, w.retained-is) (record {
            long = inv.long;
            numbers = inv.numbers;
            capacity = inv.capacity;
            places = inv.places;
            closes = closes-moved (slice_index c.args.numbers.now.items) (leaf c.args.nodes.now.items c.args.size) (slice_index c.args.places.now.items)
                (slice_index c.loop-place.numbers.items) (leaf c.loop-place.nodes.items c.args.size) (slice_index c.loop-place.places.items)
                (vec_len c.args.places.now) c.loop-place.retained c.loop-place.place inv.closes
                (slice_index (set c.loop-place.numbers.items c.loop-place.retained c.index-number.result.now))
                (leaf (set c.loop-place.nodes.items (c.args.size + c.loop-place.retained) w.index.result.now) c.args.size)
                (slice_index (set c.loop-place.places.items c.index-number.result.now c.loop-place.retained))
                c.index-number.result.now is some known
                (ap (λ (n : ℕ). get_or c.args.places.now.items n 0) is ∙ c.requires.slots.placed c.loop-place.place less (λ none. some (is ∙ none)))
                (get_or-set_same c.loop-place.numbers.items c.loop-place.retained c.index-number.result.now 0 (omega (arith, few, less, many, inv.numbers)))
                (λ i other. get_or-set_other c.loop-place.numbers.items c.loop-place.retained i c.index-number.result.now 0 other)
                (get_or-set_same c.loop-place.nodes.items (c.args.size + c.loop-place.retained) w.index.result.now 0 (omega (arith, few, less, nodes, inv.long, c.requires.few))
                ∙ w.index.ensures
                ∙ get_or_default c.loop-place.nodes.items (c.args.size + c.loop-place.place) w.index.result.now 0 (omega (arith, less, nodes, inv.long, c.requires.few))
                ∙ inv.closes.deadlines c.loop-place.place (omega arith))
                (λ i other. get_or-set_other c.loop-place.nodes.items (c.args.size + c.loop-place.retained) (c.args.size + i) w.index.result.now 0 (λ same. other (omega (arith, same))))
                (get_or-set_same c.loop-place.places.items c.index-number.result.now c.loop-place.retained 0 (omega (arith, known, places, inv.places)))
                (λ m other. get_or-set_other c.loop-place.places.items c.index-number.result.now m c.loop-place.retained 0 other);
          })
      | else-number-ne0 w ↦
          let none : c.index-number.result.now ≡ 0 = omega (arith, w.if-number-ne0.false) in
          rw (w.numbers-is, w.nodes-is, w.places-is, w.retained-is) (record {
            long = inv.long;
            numbers = inv.numbers;
            capacity = inv.capacity;
            places = inv.places;
            closes = closes-empty (slice_index c.args.numbers.now.items) (leaf c.args.nodes.now.items c.args.size) (slice_index c.args.places.now.items)
                (slice_index c.loop-place.numbers.items) (leaf c.loop-place.nodes.items c.args.size) (slice_index c.loop-place.places.items)
                (vec_len c.args.places.now) c.loop-place.retained c.loop-place.place inv.closes (sym is ∙ none);
          })
    ]
