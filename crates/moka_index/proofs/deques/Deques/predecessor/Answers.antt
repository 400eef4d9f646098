use Rattle.std.proofs.Common.{◌≡◌, Some, [], ◌∷◌, ◌++◌, length, suc, sym, ap, ◌∙◌, subst, refl, arith, append_assoc, inl, inr}
use Rattle.moka_index.specs.Paths.{IsAmong}
use Rattle.moka_index.specs.Deques.{same_in, chain_from, places_in}
use Rattle.moka_index.proofs.ChainLemmas.{behind, onward}
use Rattle.moka_index.proofs.PathLemmas.{among-back}
use Rattle.moka_index.proofs.deques.Deques.predecessor.Goals as goal

pub chain_link-next-requires : goal.chain_link-next-requires
chain_link-next-requires c =
    let b = behind (same_in c.args.self.now) (places_in c.args.self.now) c.args.first c.requires.linked in
    c.requires.places c.args.first (subst (IsAmong c.args.first) (sym b.is) (inl refl))

pub chain_link-next-requires-in-loop-next : goal.chain_link-next-requires-in-loop-next
chain_link-next-requires-in-loop-next c =
    let same = same_in c.args.self.now in
    let inv = c.loop-next.invariant in
    let o = onward same (places_in c.args.self.now) c.loop-next.at c.loop-next.next c.args.number inv.linked inv.within inv.later inv.same in
    let b = behind same (places_in c.args.self.now) c.loop-next.next o.linked in
    let is : chain_from c.args.self.now (Some c.args.first) ≡ inv.split.0 ++ c.loop-next.at ∷ c.loop-next.next ∷ b.rest =
    inv.split.1 ∙ ap (λ t. inv.split.0 ++ t) (o.is ∙ ap (λ t. c.loop-next.at ∷ t) b.is) in
    c.requires.places c.loop-next.next (subst (IsAmong c.loop-next.next) (sym is) (among-back c.loop-next.next inv.split.0 _ (inr (inl refl))))

pub loop-next-init : goal.loop-next-init
loop-next-init c = record {
  split = ([], refl);
  linked = c.requires.linked;
  within = c.requires.within;
  later = c.requires.later;
  same = c.chain_link-next.ensures;
}

pub loop-next-preserved : goal.loop-next-preserved
loop-next-preserved c =
    let same = same_in c.args.self.now in
    let inv = c.loop-next.invariant in
    let o = onward same (places_in c.args.self.now) c.loop-next.at c.loop-next.next c.args.number inv.linked inv.within inv.later inv.same in
    record {
      split = (inv.split.0 ++ c.loop-next.at ∷ [], inv.split.1 ∙ ap (λ t. inv.split.0 ++ t) o.is ∙ sym (append_assoc inv.split.0 (c.loop-next.at ∷ []) _));
      linked = o.linked;
      within = o.within;
      later = c.loop-next-test.true;
      same = c.chain_link-next-in-loop-next.ensures;
    }

pub loop-next-smaller : goal.loop-next-smaller
loop-next-smaller c =
    let same = same_in c.args.self.now in
    let inv = c.loop-next.invariant in
    let o = onward same (places_in c.args.self.now) c.loop-next.at c.loop-next.next c.args.number inv.linked inv.within inv.later inv.same in
    let less : length (chain_from c.args.self.now (Some c.loop-next.at)) ≡ suc (length (chain_from c.args.self.now (Some c.loop-next.next))) = ap length o.is in
    omega (arith, less)

pub returns : goal.returns
returns c =
    let same = same_in c.args.self.now in
    let inv = c.loop-next.invariant in
    let o = onward same (places_in c.args.self.now) c.loop-next.at c.loop-next.next c.args.number inv.linked inv.within inv.later inv.same in
    let b = behind same (places_in c.args.self.now) c.loop-next.next o.linked in
    record {
      front = inv.split.0;
      back = b.rest;
      is = inv.split.1 ∙ ap (λ t. inv.split.0 ++ t) (o.is ∙ ap (λ t. c.loop-next.at ∷ t) (b.is ∙ ap (λ t. t ∷ b.rest) c.loop-next-test.false));
    }
