use Rattle.std.proofs.Common.{inl, inr, sym, ◌∙◌}
use Rattle.moka_index.specs.RowIndex.{admitted_of, waiting_of}
use Rattle.moka_slab.proofs.NumberedLemmas.{some-of, after-numbered}
use Rattle.moka_slab.specs.NumberedRows.{row_at}
use Rattle.moka_slab.proofs.TiedLemmas.{linked-found, by-order, numbers-differ}
use Rattle.moka_slab.proofs.slab_rows.SlabRowsRowStore.next.Goals as goal

pub next-requires : goal.next-requires
next-requires g c = linked-found c.args.self.now.rows c.args.self.now.links c.args.number c.requires

pub returns-clause-behind : goal.returns-clause-behind
returns-clause-behind g c =
    let there = linked-found c.args.self.now.rows c.args.self.now.links c.args.number c.requires in
    let r = some-of (row_at c.args.self.now.rows c.args.number) (c.args.self.now.tied.stored c.args.number there) in
    by-order c.args.self.now.rows c.args.self.now.links c.args.number r.0 _ _ there r.1
    (λ q. c.next.ensures.waiting q ∙ sym (after-numbered (row_at c.args.self.now.rows) c.args.number (waiting_of c.args.self.now.links) (λ k t. c.args.self.now.tied.stored k (inr t))))
    (λ q. c.next.ensures.admitted q ∙ sym (after-numbered (row_at c.args.self.now.rows) c.args.number (admitted_of c.args.self.now.links) (λ k t. c.args.self.now.tied.stored k (inl t))))

pub returns-clause-apart : goal.returns-clause-apart
returns-clause-apart g c = numbers-differ c.args.self.now.rows c.args.self.now.links
