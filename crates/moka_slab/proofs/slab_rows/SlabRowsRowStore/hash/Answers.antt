use Rattle.std.proofs.Common.{◌∙◌, sym}
use Rattle.moka_slab.specs.NumberedRows.{row_at}
use Rattle.moka_slab.proofs.NumberedLemmas.{some-of}
use Rattle.moka_slab.proofs.TiedLemmas.{linked-found, under-all}
use Rattle.moka_slab.proofs.slab_rows.SlabRowsRowStore.hash.Goals as goal

pub hash-requires : goal.hash-requires
hash-requires g c = linked-found c.args.self.now.rows c.args.self.now.links c.args.number c.requires

pub returns : goal.returns
returns g c =
    let there = linked-found c.args.self.now.rows c.args.self.now.links c.args.number c.requires in
    let r = some-of (row_at c.args.self.now.rows c.args.number) (c.args.self.now.tied.stored c.args.number there) in
    rw (under-all c.args.self.now.rows c.args.self.now.links c.args.number r.0 there r.1) (c.hash.ensures ∙ sym (c.args.self.now.tied.hashed c.args.number r.0 there r.1))
