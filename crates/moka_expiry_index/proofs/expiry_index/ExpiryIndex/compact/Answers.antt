use Rattle.std.proofs.Common.{◌≡◌, ℕ, ◌≤◌, List, length, vec_len, slice_index, get_or, sym, ap, ◌∙◌, arith}
use Rattle.std.proofs.lemmas.List.{get_or-take}
use Rattle.moka_expiry_index.specs.MinTree.{leaf}
use Rattle.moka_expiry_index.proofs.SlotLemmas.{listed-same, listed-full}
use Rattle.moka_expiry_index.specs.Slots.{listed}
use Rattle.moka_expiry_index.proofs.expiry_index.ExpiryIndex.compact.Goals as goal

pub returns-clause-order : goal.returns-clause-order
returns-clause-order c =
    let retained : vec_len c.truncate.new.self ≡ c.close_gaps-retained.result = omega (arith, c.truncate.ensures.len, c.close_gaps-retained.ensures.few, c.close_gaps-retained.ensures.numbers) in
    ap (listed (slice_index c.truncate.new.self.items) (leaf c.rebuild.new.nodes.items c.args.self.now.size)) retained
    ∙ listed-same (slice_index c.close_gaps-retained.new.numbers.items) (slice_index c.truncate.new.self.items) (leaf c.close_gaps-retained.new.nodes.items c.args.self.now.size) (leaf c.rebuild.new.nodes.items c.args.self.now.size) c.close_gaps-retained.result
    (λ i less. ap (λ (l : List ℕ). get_or l i 0) c.truncate.ensures.items ∙ get_or-take c.close_gaps-retained.result c.close_gaps-retained.new.numbers.items i 0 less)
    (λ i less. c.rebuild.ensures.leaves i (let few : vec_len c.args.self.now.numbers ≤ c.args.self.now.size = c.args.self.now.few in omega (arith, less, few, c.close_gaps-retained.ensures.few)) ∙ c.clear_from.ensures.before i less)
    ∙ c.close_gaps-retained.ensures.same

pub returns-clause-full : goal.returns-clause-full
returns-clause-full c =
    let retained : vec_len c.truncate.new.self ≡ c.close_gaps-retained.result = omega (arith, c.truncate.ensures.len, c.close_gaps-retained.ensures.few, c.close_gaps-retained.ensures.numbers) in
    retained ∙ sym (listed-full (slice_index c.close_gaps-retained.new.numbers.items) (leaf c.close_gaps-retained.new.nodes.items c.args.self.now.size) c.close_gaps-retained.result c.close_gaps-retained.ensures.full)
    ∙ ap length c.close_gaps-retained.ensures.same
