use Rattle.std.proofs.Common.{◌-◌}
use Rattle.moka_index.proofs.Callers.{linked-above}
use Rattle.moka_slab.proofs.slab_rows.SlabRows.info.Goals as goal

pub key_of-requires : goal.key_of-requires
key_of-requires g c = linked-above c.args.self.now.links c.args.number c.requires

pub info-requires : goal.info-requires
info-requires g c = rw (c.deref.ensures.value, c.key_of.ensures) (c.args.self.now.lived (c.args.number - 2) c.slab_row.result.now c.slab_row.ensures).1

pub returns : goal.returns
returns g c = rw c.slab_row.ensures c.info.ensures
