use Rattle.std.proofs.Common.{◌≡◌, suc, Some, option_map, filter, sym, ap, ◌∙◌}
use Rattle.moka_rows.specs.Rows.{first_number, expired_at}
use Rattle.moka_expiry_index.specs.Slots.{is_due}
use Rattle.moka_expiring_rows.proofs.RowDeadlineLemmas.{first-listed, first-below, none-below}
use Rattle.moka_slab.specs.Store.{admitted_in}
use Rattle.moka_expiring_rows.proofs.expiring_rows.ExpiringRowsRowStore.first_expired.Goals as goal

pub overflow_sub-result : goal.overflow_sub-result
overflow_sub-result g c =
    let is : Some c.in-Some.place ≡ option_map suc (first_number (expired_at c.args.now (admitted_in c.args.self.now.rows))) =
    sym c.in-Some.is ∙ c.first_due.ensures ∙ ap (λ l. first_number (filter (is_due c.args.now) l)) (c.args.self.now.listed c.if-self.true) ∙ first-listed c.args.now (admitted_in c.args.self.now.rows) in
    (first-below c.in-Some.place (first_number (expired_at c.args.now (admitted_in c.args.self.now.rows))) is).1

pub returns-in-Some : goal.returns-in-Some
returns-in-Some g c =
    let is : Some c.in-Some.place ≡ option_map suc (first_number (expired_at c.args.now (admitted_in c.args.self.now.rows))) =
    sym c.in-Some.is ∙ c.first_due.ensures ∙ ap (λ l. first_number (filter (is_due c.args.now) l)) (c.args.self.now.listed c.if-self.true) ∙ first-listed c.args.now (admitted_in c.args.self.now.rows) in
    (first-below c.in-Some.place (first_number (expired_at c.args.now (admitted_in c.args.self.now.rows))) is).0

pub returns-in-None : goal.returns-in-None
returns-in-None g c =
    none-below (first_number (expired_at c.args.now (admitted_in c.args.self.now.rows)))
    (sym c.in-None.is ∙ c.first_due.ensures ∙ ap (λ l. first_number (filter (is_due c.args.now) l)) (c.args.self.now.listed c.if-self.true) ∙ first-listed c.args.now (admitted_in c.args.self.now.rows))
