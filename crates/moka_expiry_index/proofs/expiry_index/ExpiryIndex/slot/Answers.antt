use Rattle.std.proofs.Common.{rules, ◌≡◌, length, vec_len, slice_index, get_or, sym, ap, ◌∙◌, arith}
use Rattle.std.proofs.lemmas.List.{get_or_default}
use Rattle.moka_expiry_index.specs.MinTree.{leaf}
use Rattle.moka_expiry_index.proofs.SlotLemmas.{listed-absent, unknown, no-slot}
use Rattle.moka_expiry_index.proofs.expiry_index.ExpiryIndex.slot.Goals as goal
use Rattle.moka_expiry_index.proofs.expiry_index.ExpiryIndex.slot.Goals.{then-number-eq0-via-then-number-eq0, then-number-eq0-via-else-number-eq0+then-number-len}

pub returns-then-number-eq0 : goal.returns-then-number-eq0
returns-then-number-eq0 c = elim c.then-number-eq0.branch [
  | then-number-eq0-via-then-number-eq0 w ↦
      listed-absent (slice_index c.args.self.now.numbers.items) (leaf c.args.self.now.nodes.items c.args.self.now.size) c.args.number (vec_len c.args.self.now.numbers) (λ i less some same. some (same ∙ (let none : c.args.number ≡ 0 = omega (arith, w.if-number-eq0.true) in none)))
  | then-number-eq0-via-else-number-eq0+then-number-len w ↦
      unknown (slice_index c.args.self.now.numbers.items) (leaf c.args.self.now.nodes.items c.args.self.now.size) c.args.self.now.places.items c.args.number (vec_len c.args.self.now.numbers) c.args.self.now.size (vec_len c.args.self.now.places) c.args.self.now.slots (omega (arith, w.if-number-len.true, w.len.ensures))
]

pub returns-then-place-len : goal.returns-then-place-len
returns-then-place-len c =
    let long : vec_len c.args.self.now.places ≡ length c.args.self.now.places.items = search rules in
    let read : c.index.result.now ≡ get_or c.args.self.now.places.items c.args.number 0 =
    c.index.ensures ∙ get_or_default c.args.self.now.places.items c.args.number c.index.result.now 0 (omega (arith, long, c.len.ensures, c.if-number-len.false)) in
    no-slot (slice_index c.args.self.now.numbers.items) (leaf c.args.self.now.nodes.items c.args.self.now.size) c.args.self.now.places.items c.args.number (vec_len c.args.self.now.numbers) c.args.self.now.size (vec_len c.args.self.now.places) c.args.self.now.slots
    (λ place is within same. omega (arith, is, read, within, c.len-2.ensures, c.if-place-len.true))

pub returns-else-index-number : goal.returns-else-index-number
returns-else-index-number c =
    let long : vec_len c.args.self.now.places ≡ length c.args.self.now.places.items = search rules in
    let read : c.index.result.now ≡ get_or c.args.self.now.places.items c.args.number 0 =
    c.index.ensures ∙ get_or_default c.args.self.now.places.items c.args.number c.index.result.now 0 (omega (arith, long, c.len.ensures, c.if-number-len.false)) in
    let many : vec_len c.args.self.now.numbers ≡ length c.args.self.now.numbers.items = search rules in
    let held : c.index-2.result.now ≡ get_or c.args.self.now.numbers.items c.index.result.now 0 =
    c.index-2.ensures ∙ get_or_default c.args.self.now.numbers.items c.index.result.now c.index-2.result.now 0 (omega (arith, many, c.len-2.ensures, c.if-place-len.false)) in
    no-slot (slice_index c.args.self.now.numbers.items) (leaf c.args.self.now.nodes.items c.args.self.now.size) c.args.self.now.places.items c.args.number (vec_len c.args.self.now.numbers) c.args.self.now.size (vec_len c.args.self.now.places) c.args.self.now.slots
    (λ place is within same. c.if-index-number.false (held ∙ ap (slice_index c.args.self.now.numbers.items) (read ∙ sym is) ∙ same))
