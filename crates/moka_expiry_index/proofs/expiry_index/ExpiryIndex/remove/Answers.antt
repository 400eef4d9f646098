use Rattle.std.proofs.Common.{rules, ◌≡◌, ◌≤◌, length, set, vec_len, slice_index, get_or-set_same, get_or-set_other, sym, arith}
use Rattle.moka_rows.proofs.Callers.{without_row-absent}
use Rattle.moka_expiry_index.specs.MinTree.{leaf}
use Rattle.moka_expiry_index.specs.ExpiryIndex.{order_of}
use Rattle.moka_expiry_index.proofs.SlotLemmas.{listed-emptied}
use Rattle.moka_expiry_index.proofs.expiry_index.ExpiryIndex.remove.Goals as goal

pub returns-in-Some-clause-order : goal.returns-in-Some-clause-order
returns-in-Some-clause-order c =
    let many : vec_len c.args.self.now.numbers ≡ length c.args.self.now.numbers.items = search rules in
    let at = c.in-Some.ensures in
    let few : vec_len c.args.self.now.numbers ≤ c.args.self.now.size = c.args.self.now.few in
    listed-emptied (slice_index c.args.self.now.numbers.items) (leaf c.args.self.now.nodes.items c.args.self.now.size)
    (slice_index (set c.args.self.now.numbers.items c.in-Some.place 0)) (leaf c.set_leaf.new.nodes.items c.args.self.now.size)
    c.args.number (vec_len c.args.self.now.numbers) c.in-Some.place at.within at.here at.some at.only
    (get_or-set_same c.args.self.now.numbers.items c.in-Some.place 0 0 (omega (arith, at.within, many)))
    (λ i other. get_or-set_other c.args.self.now.numbers.items c.in-Some.place i 0 0 other)
    (λ i less other. c.set_leaf.ensures.leaves.others i (omega (arith, less, few)) other)

pub returns-in_default-clause-order : goal.returns-in_default-clause-order
returns-in_default-clause-order c = sym (without_row-absent c.args.number (order_of c.args.self.now) c.in_default.ensures)
