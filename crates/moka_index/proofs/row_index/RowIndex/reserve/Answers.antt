use Rattle.std.proofs.Common.{refl, ap, nat_eq, ◌∙◌}
use Rattle.std.specs.Map.{lookup}
use Rattle.moka_index.proofs.LinkLemmas.{indexed-grown}
use Rattle.moka_index.proofs.row_index.RowIndex.reserve.Goals as goal

pub invariant_of-self : goal.invariant_of-self
invariant_of-self c = record {
  indexed = indexed-grown c.args.self.now.orders c.args.self.now.orders c.args.self.now.bucket_heads c.reserve_twice.new.bucket_heads
      refl refl (λ k. refl) (λ k. refl) (λ h. ap (lookup (nat_eq h)) c.reserve_twice.ensures.same) c.args.self.now.indexed;
}

pub invariant_of-self-in-Break-branch-2 : goal.invariant_of-self-in-Break-branch-2
invariant_of-self-in-Break-branch-2 c = record {
  indexed = indexed-grown c.args.self.now.orders c.reserve.new.self c.args.self.now.bucket_heads c.reserve_twice.new.bucket_heads
      c.reserve.ensures.admitted c.reserve.ensures.waiting c.reserve.ensures.same c.reserve.ensures.hash
      (λ h. ap (lookup (nat_eq h)) c.reserve_twice.ensures.same) c.args.self.now.indexed;
}

pub invariant_of-self-2 : goal.invariant_of-self-2
invariant_of-self-2 c = record {
  indexed = indexed-grown c.args.self.now.orders c.reserve.new.self c.args.self.now.bucket_heads c.reserve-2.new.self
      c.reserve.ensures.admitted c.reserve.ensures.waiting c.reserve.ensures.same c.reserve.ensures.hash
      (λ h. ap (lookup (nat_eq h)) (c.reserve-2.ensures.entries ∙ c.reserve_twice.ensures.same)) c.args.self.now.indexed;
}
