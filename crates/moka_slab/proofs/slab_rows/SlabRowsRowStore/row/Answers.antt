use Rattle.std.proofs.Common.{◌≡◌}
use Rattle.moka_slab.proofs.TiedLemmas.{linked-found, under-all, numbers-differ}
use Rattle.moka_slab.proofs.slab_rows.SlabRowsRowStore.row.Goals as goal

pub slab_row-row-requires : goal.slab_row-row-requires
slab_row-row-requires g c = linked-found c.args.self.now.rows c.args.self.now.links c.args.number c.requires

pub hash-requires : goal.hash-requires
hash-requires g c = c.requires

pub info-requires : goal.info-requires
info-requires g c = linked-found c.args.self.now.rows c.args.self.now.links c.args.number c.requires

pub returns-clause-row : goal.returns-clause-row
returns-clause-row g c =
    let there = linked-found c.args.self.now.rows c.args.self.now.links c.args.number c.requires in
    let row = c.slab_row-row.result.now in
    let info : c.info.result ≡ row.info = rw c.slab_row-row.ensures at c.info.ensures in
    let under = under-all c.args.self.now.rows c.args.self.now.links c.args.number row there c.slab_row-row.ensures in
    let hash : c.hash.result ≡ row.hash = rw under at c.hash.ensures in
    rw (c.key.ensures, c.value.ensures, info, hash) under

pub returns-clause-apart : goal.returns-clause-apart
returns-clause-apart g c = numbers-differ c.args.self.now.rows c.args.self.now.links
