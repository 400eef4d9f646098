use Rattle.std.proofs.Common.{◌≡◌, ◌+◌, length, length-append, inl, inr, arith}
use Rattle.moka_index.specs.RowIndex.{admitted_of, waiting_of}
use Rattle.moka_index.proofs.Callers.{few-linked}
use Rattle.moka_slab.specs.NumberedRows.{row_at}
use Rattle.moka_slab.specs.Tied.{admitted_rows, waiting_rows, all_rows}
use Rattle.moka_slab.proofs.NumberedLemmas.{length-numbered}
use Rattle.moka_slab.proofs.slab_rows.SlabRowsRowStore.len.Goals as goal

pub overflow_add-result : goal.overflow_add-result
overflow_add-result g c = let few = few-linked c.args.self.now.links in omega (arith, few.0, few.1, c.admitted_len.ensures, c.waiting_len.ensures)

pub returns : goal.returns
returns g c =
    let first = length-numbered (row_at c.args.self.now.rows) (admitted_of c.args.self.now.links) (λ k q. c.args.self.now.tied.stored k (inl q)) in
    let second = length-numbered (row_at c.args.self.now.rows) (waiting_of c.args.self.now.links) (λ k q. c.args.self.now.tied.stored k (inr q)) in
    let both : length (all_rows c.args.self.now.rows c.args.self.now.links) ≡ length (admitted_rows c.args.self.now.rows c.args.self.now.links) + length (waiting_rows c.args.self.now.rows c.args.self.now.links) =
    length-append (admitted_rows c.args.self.now.rows c.args.self.now.links) (waiting_rows c.args.self.now.rows c.args.self.now.links) in
    omega (arith, first, second, both, c.admitted_len.ensures, c.waiting_len.ensures)
