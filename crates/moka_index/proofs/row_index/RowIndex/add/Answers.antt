use Rattle.moka_index.proofs.LinkLemmas.{indexed-added, link-first}
use Rattle.moka_index.proofs.row_index.RowIndex.add.Goals as goal

pub invariant_of-self : goal.invariant_of-self
invariant_of-self c = record {
  indexed = indexed-added c.args.self.now.orders c.set_same.new.self c.push_back.new.self c.args.self.now.bucket_heads c.put_first-same.new.bucket_heads c.args.number c.args.hash c.put_first-same.result
      c.requires.absent c.set_same.ensures.preserves
      (link-first c.args.self.now.orders c.args.self.now.bucket_heads c.args.hash c.put_first-same.result c.args.self.now.indexed c.put_first-same.ensures.before)
      c.set_same.ensures.changed c.set_same.ensures.others c.set_same.ensures.hashed c.set_same.ensures.others_hashed
      c.put_first-same.ensures.changed c.put_first-same.ensures.others c.push_back.ensures.other c.push_back.ensures.pushed c.push_back.ensures.preserves c.args.self.now.indexed;
}
