use Rattle.std.proofs.Common.{refl, ap, arith}
use Rattle.std.specs.Prelude.{vec_capacity}
use Rattle.slab.specs.Slab.{get}
use Rattle.moka_slab.proofs.TiedLemmas.{tied-grown}
use Rattle.moka_slab.proofs.LivedLemmas.{lived-kept}
use Rattle.moka_slab.proofs.slab_rows.SlabRowsRowStore.reserve.Goals as goal

pub invariant_of-self : goal.invariant_of-self
invariant_of-self g c = record {
  tied = tied-grown c.args.self.now.rows c.reserve.new.self c.args.self.now.links c.args.self.now.links c.args.self.now.tied (λ key. ap (λ s. get s key) c.reserve.ensures.rest_kept) refl refl (λ k. refl);
  lived = lived-kept c.args.self.now.rows c.reserve.new.self c.args.self.now.lives.items (vec_capacity c.args.self.now.lives) (vec_capacity c.args.self.now.lives)
      (λ key. ap (λ s. get s key) c.reserve.ensures.rest_kept) (omega arith) c.args.self.now.lived;
}

pub invariant_of-self-in-Break-branch-2 : goal.invariant_of-self-in-Break-branch-2
invariant_of-self-in-Break-branch-2 g c = record {
  tied = tied-grown c.args.self.now.rows c.reserve.new.self c.args.self.now.links c.args.self.now.links c.args.self.now.tied (λ key. ap (λ s. get s key) c.reserve.ensures.rest_kept) refl refl (λ k. refl);
  lived = rw c.reserve_lives.ensures.items (lived-kept c.args.self.now.rows c.reserve.new.self c.args.self.now.lives.items (vec_capacity c.args.self.now.lives) (vec_capacity c.reserve_lives.new.lives)
      (λ key. ap (λ s. get s key) c.reserve.ensures.rest_kept) c.reserve_lives.ensures.capacity c.args.self.now.lived);
}

pub invariant_of-self-in-Some : goal.invariant_of-self-in-Some
invariant_of-self-in-Some g c = record {
  tied = tied-grown c.args.self.now.rows c.reserve.new.self c.args.self.now.links c.reserve-in-Some.new.self c.args.self.now.tied (λ key. ap (λ s. get s key) c.reserve.ensures.rest_kept)
      c.reserve-in-Some.ensures.admitted c.reserve-in-Some.ensures.waiting c.reserve-in-Some.ensures.preserves.hash;
  lived = rw c.reserve_lives.ensures.items (lived-kept c.args.self.now.rows c.reserve.new.self c.args.self.now.lives.items (vec_capacity c.args.self.now.lives) (vec_capacity c.reserve_lives.new.lives)
      (λ key. ap (λ s. get s key) c.reserve.ensures.rest_kept) c.reserve_lives.ensures.capacity c.args.self.now.lived);
}
