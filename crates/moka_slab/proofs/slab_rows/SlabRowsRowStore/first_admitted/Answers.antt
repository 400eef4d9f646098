use Rattle.std.proofs.Common.{inl, rules}
use Rattle.moka_index.specs.RowIndex.{admitted_of}
use Rattle.moka_slab.specs.NumberedRows.{row_at}
use Rattle.moka_slab.proofs.NumberedLemmas.{first-numbered}
use Rattle.moka_slab.proofs.slab_rows.SlabRowsRowStore.first_admitted.Goals as goal

pub returns : goal.returns
returns g c = rw (first-numbered (row_at c.args.self.now.rows) (admitted_of c.args.self.now.links) (λ k q. c.args.self.now.tied.stored k (inl q))) (search rules)
