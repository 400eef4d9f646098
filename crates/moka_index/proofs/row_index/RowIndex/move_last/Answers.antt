use Rattle.std.proofs.Common.{inl}
use Rattle.moka_index.proofs.LinkLemmas.{indexed-admitted}
use Rattle.moka_index.proofs.row_index.RowIndex.move_last.Goals as goal

pub invariant_of-self : goal.invariant_of-self
invariant_of-self c = record {
  indexed = indexed-admitted c.args.self.now.orders c.move_last.new.self c.args.self.now.bucket_heads c.args.number (inl c.requires)
      c.move_last.ensures.admitted c.move_last.ensures.waiting c.move_last.ensures.preserves.same c.move_last.ensures.preserves.hash c.args.self.now.indexed;
}
