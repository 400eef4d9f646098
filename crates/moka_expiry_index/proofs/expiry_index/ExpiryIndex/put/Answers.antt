use Rattle.std.proofs.Common.{rules, ◌≡◌, ◌≢◌, ℕ, suc, ◌-◌, ◌<◌, ◌≤◌, List, [], ◌∷◌, ◌++◌, length, set, vec_len, vec_capacity, slice_index, get_or-set_same, get_or-set_other, refl, sym, ap, subst, ◌∙◌, arith}
use Rattle.std.proofs.lemmas.List.{get_or_append_left, get_or-append_right}
use Rattle.moka_expiry_index.specs.MinTree.{leaf}
use Rattle.moka_expiry_index.specs.Slots.{in_slot, listed, AreSlots}
use Rattle.moka_expiry_index.proofs.SlotLemmas.{listed-same, slot-one, not-listed, slots-put}
use Rattle.moka_expiry_index.proofs.expiry_index.ExpiryIndex.put.Goals as goal

-- a list with one more at its end: what stands there, and before it
here-behind : (xs : List ℕ) (n many : ℕ) → many ≡ length xs → slice_index (xs ++ n ∷ []) many ≡ n
here-behind xs n many long = get_or-append_right xs (n ∷ []) many many 0 (sym long) (omega arith) ∙ (let first : many - many ≡ 0 = omega arith in rw first refl)

before-same : (xs : List ℕ) (n i many : ℕ) → many ≡ length xs → i < many → slice_index (xs ++ n ∷ []) i ≡ slice_index xs i
before-same xs n i many long less = get_or_append_left xs (n ∷ []) 0 i (omega (arith, long, less))

pub invariant_of-self : goal.invariant_of-self
invariant_of-self c =
    let long : vec_len c.args.self.now.numbers ≡ length c.args.self.now.numbers.items = search rules in
    let places : vec_len c.args.self.now.places ≡ length c.args.self.now.places.items = search rules in
    let some : c.args.number ≢ 0 = λ none. omega (arith, none, c.requires.some) in
    let absent = not-listed (slice_index c.args.self.now.numbers.items) (leaf c.args.self.now.nodes.items c.args.self.now.size) c.args.number (vec_len c.args.self.now.numbers) c.requires.absent some in
    record {
      tree = record { least = c.set_leaf.ensures.least; long = c.set_leaf.ensures.long; high = c.args.self.now.tree.high };
      slots = subst (λ (m : ℕ). AreSlots (slice_index c.push_reserved.new.self.items) (leaf c.set_leaf.new.nodes.items c.args.self.now.size)
          (slice_index (set c.args.self.now.places.items c.args.number c.len-place.result)) m c.args.self.now.size (vec_len c.args.self.now.places)) (sym c.push_reserved.ensures.len)
          (slots-put (slice_index c.args.self.now.numbers.items) (leaf c.args.self.now.nodes.items c.args.self.now.size) (slice_index c.args.self.now.places.items)
          (vec_len c.args.self.now.numbers) c.args.self.now.size (vec_len c.args.self.now.places) c.args.self.now.slots
          (slice_index c.push_reserved.new.self.items) (leaf c.set_leaf.new.nodes.items c.args.self.now.size) (slice_index (set c.args.self.now.places.items c.args.number c.len-place.result))
          c.args.number c.requires.known absent
          (ap (λ (l : List ℕ). slice_index l (vec_len c.args.self.now.numbers)) c.push_reserved.ensures.items ∙ here-behind c.args.self.now.numbers.items c.args.number (vec_len c.args.self.now.numbers) long)
          (λ i less. ap (λ (l : List ℕ). slice_index l i) c.push_reserved.ensures.items ∙ before-same c.args.self.now.numbers.items c.args.number i (vec_len c.args.self.now.numbers) long less)
          (λ i less other. c.set_leaf.ensures.leaves.others i less (λ same. other (same ∙ c.len-place.ensures)))
          some
          (get_or-set_same c.args.self.now.places.items c.args.number c.len-place.result 0 (omega (arith, places, c.requires.known)) ∙ c.len-place.ensures)
          (λ m other. get_or-set_other c.args.self.now.places.items c.args.number m c.len-place.result 0 other)
          c.requires.space);
      few = omega (arith, c.push_reserved.ensures.len, c.requires.space);
      space = let space : c.args.self.now.size ≤ vec_capacity c.args.self.now.numbers = c.args.self.now.space in omega (arith, space, c.push_reserved.ensures.capacity);
      narrow = c.args.self.now.narrow;
      short = c.args.self.now.short;
    }

pub returns-clause-order : goal.returns-clause-order
returns-clause-order c =
    let long : vec_len c.args.self.now.numbers ≡ length c.args.self.now.numbers.items = search rules in
    let next : vec_len c.push_reserved.new.self ≡ suc (vec_len c.args.self.now.numbers) = omega (arith, c.push_reserved.ensures.len) in
    let some : c.args.number ≢ 0 = λ none. omega (arith, none, c.requires.some) in
    let number : slice_index c.push_reserved.new.self.items (vec_len c.args.self.now.numbers) ≡ c.args.number =
    ap (λ (l : List ℕ). slice_index l (vec_len c.args.self.now.numbers)) c.push_reserved.ensures.items ∙ here-behind c.args.self.now.numbers.items c.args.number (vec_len c.args.self.now.numbers) long in
    let deadline : leaf c.set_leaf.new.nodes.items c.args.self.now.size (vec_len c.args.self.now.numbers) ≡ c.args.deadline =
    ap (leaf c.set_leaf.new.nodes.items c.args.self.now.size) (sym c.len-place.ensures) ∙ c.set_leaf.ensures.leaves.here in
    let few : vec_len c.args.self.now.numbers ≤ c.args.self.now.size = c.args.self.now.few in
    ap (listed (slice_index c.push_reserved.new.self.items) (leaf c.set_leaf.new.nodes.items c.args.self.now.size)) next
    ∙ ap (λ l. l ++ in_slot (slice_index c.push_reserved.new.self.items (vec_len c.args.self.now.numbers)) (leaf c.set_leaf.new.nodes.items c.args.self.now.size (vec_len c.args.self.now.numbers)))
    (listed-same (slice_index c.args.self.now.numbers.items) (slice_index c.push_reserved.new.self.items) (leaf c.args.self.now.nodes.items c.args.self.now.size) (leaf c.set_leaf.new.nodes.items c.args.self.now.size) (vec_len c.args.self.now.numbers)
    (λ i less. ap (λ (l : List ℕ). slice_index l i) c.push_reserved.ensures.items ∙ before-same c.args.self.now.numbers.items c.args.number i (vec_len c.args.self.now.numbers) long less)
    (λ i less. c.set_leaf.ensures.leaves.others i (omega (arith, less, few)) (λ same. omega (arith, less, same, c.len-place.ensures))))
    ∙ ap (λ l. listed (slice_index c.args.self.now.numbers.items) (leaf c.args.self.now.nodes.items c.args.self.now.size) (vec_len c.args.self.now.numbers) ++ l)
    (ap (λ (n : ℕ). in_slot n (leaf c.set_leaf.new.nodes.items c.args.self.now.size (vec_len c.args.self.now.numbers))) number ∙ ap (in_slot c.args.number) deadline ∙ slot-one c.args.number c.args.deadline some)
