use Rattle.std.proofs.Common.{◌≡◌, ℕ, suc, ◌+◌, ◌*◌, ◌^◌, ◌<◌, ◌≤◌, List, vec_len, slice_index, refl, sym, subst, arith}
use Rattle.moka_expiry_index.specs.MinTree.{leaf, leftmost}
use Rattle.moka_expiry_index.proofs.Levels.{level-long, level-doubled}
use Rattle.moka_expiry_index.specs.Slots.{AreSlots}
use Rattle.moka_expiry_index.proofs.SlotLemmas.{slots-widened}
use Rattle.moka_expiry_index.proofs.expiry_index.ExpiryIndex.widen.Goals as goal
use Rattle.moka_expiry_index.proofs.expiry_index.ExpiryIndex.widen.Goals.{then-self-eq0, else-self-eq0}

pub overflow_add-wider : goal.overflow_add-wider
overflow_add-wider c =
    let high : 0 < c.args.self.now.size → c.args.self.now.size ≡ leftmost c.args.self.now.height 1 = c.args.self.now.tree.high in
    let is = high (omega arith) in
    let long = level-long c.args.self.now.height 1 (omega arith) in
    let narrow : c.args.self.now.size ≤ 2 ^ 32 = c.args.self.now.narrow in
    omega (arith, is, long, narrow)

pub invariant_of-self-2 : goal.invariant_of-self-2
invariant_of-self-2 c =
    let high : 0 < c.args.self.now.size → c.args.self.now.size ≡ leftmost c.args.self.now.height 1 = c.args.self.now.tree.high in
    let wide : (c.if-self-eq0.wider.0 ≡ leftmost c.if-self-eq0.wider.1 1) × (2 * c.args.self.now.size ≤ c.if-self-eq0.wider.0) × (c.if-self-eq0.wider.0 ≤ 2 ^ 32) = elim c.if-self-eq0.branch [
      | then-self-eq0 w ↦ rw w.wider-is (refl, let none : c.args.self.now.size ≡ 0 = omega (arith, w.if-self-eq0.true) in omega (arith, none), omega arith)
      | else-self-eq0 w ↦ rw w.wider-is (
        (let is = high (omega (arith, w.if-self-eq0.false)) in
            let more : c.args.self.now.height + 1 ≡ suc c.args.self.now.height = omega arith in
            let twice = level-doubled c.args.self.now.height 1 in
            rw more (omega (arith, is, twice))),
        omega arith,
        omega (arith, c.if-self.false),
      )
    ] in
    let ensures = c.in_ok-widen.ensures in
    let few : vec_len c.args.self.now.numbers ≤ c.args.self.now.size = c.args.self.now.few in
    record {
      tree = record { least = ensures.least; long = ensures.long; high = λ _. wide.0 };
      slots = subst (λ (m : ℕ). AreSlots (slice_index c.reserve.new.self.items) (leaf c.widen.new.nodes.items c.if-self-eq0.wider.0) (slice_index c.args.self.now.places.items)
          m c.if-self-eq0.wider.0 (vec_len c.args.self.now.places)) (sym c.reserve.ensures.len)
          (subst (λ (l : List ℕ). AreSlots (slice_index l) (leaf c.widen.new.nodes.items c.if-self-eq0.wider.0) (slice_index c.args.self.now.places.items)
          (vec_len c.args.self.now.numbers) c.if-self-eq0.wider.0 (vec_len c.args.self.now.places)) (sym c.reserve.ensures.items)
          (slots-widened (slice_index c.args.self.now.numbers.items) (leaf c.args.self.now.nodes.items c.args.self.now.size) (slice_index c.args.self.now.places.items)
          (vec_len c.args.self.now.numbers) c.args.self.now.size (vec_len c.args.self.now.places) c.args.self.now.slots
          (leaf c.widen.new.nodes.items c.if-self-eq0.wider.0) c.if-self-eq0.wider.0 few ensures.leaves ensures.fresh));
      few = omega (arith, few, wide.1, c.reserve.ensures.len);
      space = let room = (c.in_ok-reserve.ensures).ok in omega (arith, few, wide.1, c.reserve.ensures.len, c.len.ensures, room);
      narrow = wide.2;
      short = c.args.self.now.short;
    }
