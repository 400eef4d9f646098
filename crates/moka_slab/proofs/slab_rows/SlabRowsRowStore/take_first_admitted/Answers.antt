use Rattle.std.proofs.Common.{◌∙◌, sym}
use Rattle.moka_rows.proofs.Callers.{first-stored}
use Rattle.moka_slab.specs.Tied.{admitted_rows, waiting_rows}
use Rattle.moka_slab.proofs.slab_rows.SlabRowsRowStore.take_first_admitted.Goals as goal

pub remove-row-requires : goal.remove-row-requires
remove-row-requires g c =
    first-stored c.in_ok-number.number (admitted_rows c.args.self.now.rows c.args.self.now.links) (waiting_rows c.args.self.now.rows c.args.self.now.links) (sym c.in_ok-number.was ∙ c.first_admitted.ensures)
