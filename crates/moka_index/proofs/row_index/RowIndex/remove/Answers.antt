use Rattle.moka_index.proofs.LinkLemmas.{indexed-removed}
use Rattle.moka_index.proofs.row_index.RowIndex.remove.Goals as goal

pub invariant_of-self : goal.invariant_of-self
invariant_of-self c = record {
  indexed = indexed-removed c.args.self.now.orders c.unchain.new.orders c.unlink-was_admitted.new.self c.args.self.now.bucket_heads c.unchain.new.bucket_heads c.args.number
      c.unchain.ensures.preserves c.unchain.ensures.hash c.unchain.ensures.linked c.unlink-was_admitted.ensures.admitted c.unlink-was_admitted.ensures.waiting c.unlink-was_admitted.ensures.preserves c.args.self.now.indexed;
}
