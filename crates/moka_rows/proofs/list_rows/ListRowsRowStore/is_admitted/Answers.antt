use Rattle.std.proofs.Common.{refl}
use Rattle.moka_rows.proofs.NumberLemmas.{row_under-place}
use Rattle.moka_rows.proofs.list_rows.ListRowsRowStore.is_admitted.Goals as goal

pub returns-in-Admitted : goal.returns-in-Admitted
returns-in-Admitted g c = rw (row_under-place c.args.number c.args.self.now.admitted.items c.in-Admitted.field-0 c.in-Admitted.ensures).1 refl
