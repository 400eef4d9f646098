use Rattle.std.proofs.Common.{◌≡◌, ℕ, suc, ◌+◌, ◌-◌, ◌*◌, ◌<◌, ◌≤◌, get_or, length, subst, arith, rules}
use Rattle.moka_expiry_index.proofs.Levels.{Descends, descent-first, descent-inner, descent-left, descent-right, root-over, level-behind}
use Rattle.moka_expiry_index.proofs.min_tree.first_within.Goals as goal
use Rattle.moka_expiry_index.proofs.min_tree.first_within.Goals.{then-nodes-node, else-nodes-node}

pub bounds-nodes-1 : goal.bounds-nodes-1
bounds-nodes-1 c = let h = level-behind c.args.height 1 in omega arith

pub returns-then-nodes-bound-clause-none : goal.returns-then-nodes-bound-clause-none
returns-then-nodes-bound-clause-none c = λ i within. root-over c.args.nodes.now c.args.size c.args.bound c.requires.least c.args.height i c.requires.high c.if-nodes-bound.true within

pub loop-init : goal.loop-init
loop-init c = record {
  within = omega arith;
  descent = let all : c.args.height ≡ c.args.height - 0 = omega arith in subst (λ (e : ℕ). Descends c.args.nodes.now c.args.size c.args.bound e 1) all (descent-first c.args.nodes.now c.args.size c.args.bound c.requires.least c.args.height c.requires.high c.if-nodes-bound.false);
}

pub bounds-nodes-node : goal.bounds-nodes-node
bounds-nodes-node c =
    let one_more : c.args.height - c.loop.counter ≡ suc (c.args.height - (c.loop.counter + 1)) = omega (arith, c.loop-test.true) in
    let at = subst (λ (e : ℕ). Descends c.args.nodes.now c.args.size c.args.bound e c.loop.node) one_more c.loop.invariant.descent in
    let inner = descent-inner c.args.nodes.now c.args.size c.args.bound c.requires.least (c.args.height - (c.loop.counter + 1)) c.loop.node at in
    omega arith

pub loop-preserved : goal.loop-preserved
loop-preserved c =
    let one_more : c.args.height - c.loop.counter ≡ suc (c.args.height - (c.loop.counter + 1)) = omega (arith, c.loop-test.true) in
    let at = subst (λ (e : ℕ). Descends c.args.nodes.now c.args.size c.args.bound e c.loop.node) one_more c.loop.invariant.descent in
    record {
      within = omega (arith, c.loop-test.true);
      descent = elim c.if-nodes-node.branch [
        | then-nodes-node w ↦ rw w.node-is (descent-right c.args.nodes.now c.args.size c.args.bound c.requires.least (c.args.height - (c.loop.counter + 1)) c.loop.node at w.if-nodes-node.true)
        | else-nodes-node w ↦ rw w.node-is (descent-left c.args.nodes.now c.args.size c.args.bound c.requires.least (c.args.height - (c.loop.counter + 1)) c.loop.node at w.if-nodes-node.false)
      ];
    }

pub overflow_mul-node : goal.overflow_mul-node
overflow_mul-node c =
    let one_more : c.args.height - c.loop.counter ≡ suc (c.args.height - (c.loop.counter + 1)) = omega (arith, c.loop-test.true) in
    let at = subst (λ (e : ℕ). Descends c.args.nodes.now c.args.size c.args.bound e c.loop.node) one_more c.loop.invariant.descent in
    let inner : c.loop.node < c.args.size = descent-inner c.args.nodes.now c.args.size c.args.bound c.requires.least (c.args.height - (c.loop.counter + 1)) c.loop.node at in
    let within : 2 * c.loop.node < length c.args.nodes.now = omega arith in
    search rules

pub offset_bounds-nodes-node : goal.offset_bounds-nodes-node
offset_bounds-nodes-node c =
    let one_more : c.args.height - c.loop.counter ≡ suc (c.args.height - (c.loop.counter + 1)) = omega (arith, c.loop-test.true) in
    let at = subst (λ (e : ℕ). Descends c.args.nodes.now c.args.size c.args.bound e c.loop.node) one_more c.loop.invariant.descent in
    let inner : c.loop.node < c.args.size = descent-inner c.args.nodes.now c.args.size c.args.bound c.requires.least (c.args.height - (c.loop.counter + 1)) c.loop.node at in
    let within : 2 * c.loop.node < length c.args.nodes.now = omega arith in
    search rules

pub returns-clause-at_most : goal.returns-clause-at_most
returns-clause-at_most c =
    let last : c.args.height - c.loop.counter ≡ 0 = omega (arith, c.loop-test.false) in
    let at = subst (λ (e : ℕ). Descends c.args.nodes.now c.args.size c.args.bound e c.loop.node) last c.loop.invariant.descent in
    let here : c.loop.node ≡ c.args.size + (c.loop.node - c.args.size) = let start = at.start in omega arith in
    subst (λ (n : ℕ). get_or c.args.nodes.now n 0 ≤ c.args.bound) here at.at_most
