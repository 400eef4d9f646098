use Rattle.std.proofs.Common.{◌∙◌, sym}
use Rattle.moka_rows.proofs.Cursors.{first-stored}
use Rattle.moka_rows.proofs.list_rows.ListRowsRowStore.take_first_admitted.Goals as goal

pub remove-row-requires : goal.remove-row-requires
remove-row-requires g c =
    first-stored c.in_ok-number.number c.args.self.now.admitted.items c.args.self.now.waiting.items (sym c.in_ok-number.was ∙ c.first_admitted.ensures)
