use Rattle.std.proofs.Common.{inr, rules}
use Rattle.moka_index.specs.RowIndex.{waiting_of}
use Rattle.moka_slab.specs.NumberedRows.{row_at}
use Rattle.moka_slab.proofs.NumberedLemmas.{first-numbered}
use Rattle.moka_slab.proofs.TiedLemmas.{numbers-differ}
use Rattle.moka_slab.proofs.slab_rows.SlabRowsRowStore.first_waiting.Goals as goal

pub returns-clause-first : goal.returns-clause-first
returns-clause-first g c =
    rw (first-numbered (row_at c.args.self.now.rows) (waiting_of c.args.self.now.links) (λ k q. c.args.self.now.tied.stored k (inr q))) (search rules)

pub returns-clause-apart : goal.returns-clause-apart
returns-clause-apart g c = numbers-differ c.args.self.now.rows c.args.self.now.links
