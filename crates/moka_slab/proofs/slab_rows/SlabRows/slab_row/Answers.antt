use Rattle.moka_index.proofs.Callers.{linked-above}
use Rattle.moka_slab.proofs.slab_rows.SlabRows.slab_row.Goals as goal

pub key_of-requires : goal.key_of-requires
key_of-requires g c = linked-above c.args.self.now.links c.args.number c.requires
