use Rattle.moka_slab.proofs.NumberedLemmas.{some-of}
use Rattle.moka_slab.specs.NumberedRows.{row_at}
use Rattle.moka_slab.proofs.TiedLemmas.{linked-found, by-order}
use Rattle.moka_slab.proofs.slab_rows.SlabRowsRowStore.is_admitted.Goals as goal

pub is_admitted-requires : goal.is_admitted-requires
is_admitted-requires g c = linked-found c.args.self.now.rows c.args.self.now.links c.args.number c.requires

pub returns : goal.returns
returns g c =
    let there = linked-found c.args.self.now.rows c.args.self.now.links c.args.number c.requires in
    let r = some-of (row_at c.args.self.now.rows c.args.number) (c.args.self.now.tied.stored c.args.number there) in
    by-order c.args.self.now.rows c.args.self.now.links c.args.number r.0 _ _ there r.1 c.is_admitted.ensures.waiting c.is_admitted.ensures.admitted
