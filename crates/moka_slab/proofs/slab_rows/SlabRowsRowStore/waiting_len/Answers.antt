use Rattle.std.proofs.Common.{inr, sym, ◌∙◌}
use Rattle.moka_index.specs.RowIndex.{waiting_of}
use Rattle.moka_slab.specs.NumberedRows.{row_at}
use Rattle.moka_slab.proofs.NumberedLemmas.{length-numbered}
use Rattle.moka_slab.proofs.slab_rows.SlabRowsRowStore.waiting_len.Goals as goal

pub returns : goal.returns
returns g c = c.waiting_len.ensures ∙ sym (length-numbered (row_at c.args.self.now.rows) (waiting_of c.args.self.now.links) (λ k q. c.args.self.now.tied.stored k (inr q)))
