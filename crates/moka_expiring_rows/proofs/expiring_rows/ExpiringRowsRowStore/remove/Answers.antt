use Rattle.std.proofs.Common.{◌++◌, ◌∙◌, sym, ap}
use Rattle.moka_expiry_index.specs.ExpiryIndex.{order_of}
use Rattle.moka_expiring_rows.specs.RowDeadlines.{is_of_admitted, without_deadline, IsNoted}
use Rattle.moka_expiring_rows.proofs.RowDeadlineLemmas.{listed-taken, by-order, without-none}
use Rattle.moka_rows.proofs.Callers.{each-at, each-taken}
use Rattle.moka_expiring_rows.proofs.Noted.{placed-none, none-of}
use Rattle.moka_slab.specs.Store.{admitted_in, waiting_in}
use Rattle.moka_expiring_rows.proofs.expiring_rows.ExpiringRowsRowStore.remove.Goals as goal

pub invariant_of-self : goal.invariant_of-self
invariant_of-self g c =
    let n = c.args.number in
    let admitted = admitted_in c.args.self.now.rows in
    let waiting = waiting_in c.args.self.now.rows in
    let P = IsNoted c.args.self.now.has_deadlines c.args.self.now.top in
    let row = c.remove-row.result.0 in
    record {
      listed = λ whole.
          let none = c.is_unused.ensures c.if-is_unused.true in
          listed-taken n admitted waiting row c.remove-row.ensures.row (is_of_admitted c.remove-row.result.1)
          (by-order n admitted waiting c.remove-row.result.1 c.remove-row.ensures.order)
          (order_of c.args.self.now.deadlines) (order_of c.args.self.now.deadlines) (c.args.self.now.listed whole) (admitted_in c.remove-row.new.self) _ _ c.remove-row.ensures.rest
          (none ∙ sym (ap (without_deadline n _) none ∙ without-none n _));
      noted = each-taken P n admitted waiting (admitted_in c.remove-row.new.self) (waiting_in c.remove-row.new.self) c.args.self.now.noted c.remove-row.ensures.rest;
      whole = c.args.self.now.whole;
      begun = c.args.self.now.begun;
    }

pub invariant_of-self-2 : goal.invariant_of-self-2
invariant_of-self-2 g c =
    let n = c.args.number in
    let admitted = admitted_in c.args.self.now.rows in
    let waiting = waiting_in c.args.self.now.rows in
    let P = IsNoted c.args.self.now.has_deadlines c.args.self.now.top in
    let row = c.remove-row.result.0 in
    record {
      listed = λ whole.
          let done = c.delist-self.ensures.listed whole in
          listed-taken n admitted waiting row c.remove-row.ensures.row (is_of_admitted c.remove-row.result.1)
          (by-order n admitted waiting c.remove-row.result.1 c.remove-row.ensures.order)
          (order_of c.args.self.now.deadlines) (order_of c.delist-self.new.deadlines) (c.args.self.now.listed done.0) (admitted_in c.remove-row.new.self) _ _ c.remove-row.ensures.rest
          (rw (c.deadline_if_admitted-before.ensures, c.info.ensures) at done.1);
      noted = each-taken P n admitted waiting (admitted_in c.remove-row.new.self) (waiting_in c.remove-row.new.self) c.args.self.now.noted c.remove-row.ensures.rest;
      whole = λ none.
          let read = each-at P n row (admitted ++ waiting) c.args.self.now.noted c.remove-row.ensures.row in
          c.delist-self.ensures.whole (c.args.self.now.whole none)
          (placed-none n _ _ (c.deadline_if_admitted-before.ensures ∙ none-of (is_of_admitted c.remove-row.result.1) _ (ap (λ info. info.deadline) c.info.ensures ∙ read.0 none)));
      begun = c.args.self.now.begun;
    }
