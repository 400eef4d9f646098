use Rattle.std.proofs.Common.{◌∙◌, sym}
use Rattle.moka_rows.proofs.Callers.{takes-first}
use Rattle.moka_slab.specs.Store.{admitted_in, waiting_in}
use Rattle.moka_expiring_rows.proofs.expiring_rows.ExpiringRowsRowStore.take_first_admitted.Goals as goal

pub returns-clause-admitted : goal.returns-clause-admitted
returns-clause-admitted g c =
    (takes-first c.in_ok-number.number (admitted_in c.args.self.now.rows) (waiting_in c.args.self.now.rows) (sym c.in_ok-number.was ∙ c.first_admitted.ensures)
    c.remove-row.result.0 (admitted_in c.remove-row.new.self.rows) (waiting_in c.remove-row.new.self.rows) c.remove-row.ensures.row c.remove-row.ensures.rest).0

pub returns-clause-waiting : goal.returns-clause-waiting
returns-clause-waiting g c =
    (takes-first c.in_ok-number.number (admitted_in c.args.self.now.rows) (waiting_in c.args.self.now.rows) (sym c.in_ok-number.was ∙ c.first_admitted.ensures)
    c.remove-row.result.0 (admitted_in c.remove-row.new.self.rows) (waiting_in c.remove-row.new.self.rows) c.remove-row.ensures.row c.remove-row.ensures.rest).1
