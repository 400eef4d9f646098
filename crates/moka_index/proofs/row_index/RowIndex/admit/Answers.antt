use Rattle.std.proofs.Common.{◌++◌, ◌∷◌, [], ap, ◌∙◌}
use Rattle.moka_index.proofs.IndexLemmas.{number-within, number-above}
use Rattle.moka_index.proofs.LinkLemmas.{absent-left, indexed-admitted}
use Rattle.moka_index.proofs.row_index.RowIndex.admit.Goals as goal

pub push_back-requires-clause-above : goal.push_back-requires-clause-above
push_back-requires-clause-above c = number-above c.args.self.now.orders c.args.number c.requires

pub push_back-requires-clause-within : goal.push_back-requires-clause-within
push_back-requires-clause-within c = rw c.unlink.ensures.preserves.places (number-within c.args.self.now.orders c.args.number c.requires)

pub push_back-requires-clause-absent : goal.push_back-requires-clause-absent
push_back-requires-clause-absent c = absent-left c.args.self.now.orders c.unlink.new.self c.args.number c.unlink.ensures.admitted c.unlink.ensures.waiting

pub invariant_of-self : goal.invariant_of-self
invariant_of-self c = record {
  indexed = indexed-admitted c.args.self.now.orders c.push_back.new.self c.args.self.now.bucket_heads c.args.number c.requires
      (c.push_back.ensures.pushed ∙ ap (λ t. t ++ c.args.number ∷ []) c.unlink.ensures.admitted) (c.push_back.ensures.other ∙ c.unlink.ensures.waiting)
      (λ k. c.push_back.ensures.preserves.same k ∙ c.unlink.ensures.preserves.same k) (λ k. c.push_back.ensures.preserves.hash k ∙ c.unlink.ensures.preserves.hash k) c.args.self.now.indexed;
}
