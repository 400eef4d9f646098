use Rattle.std.proofs.Common.{◌≡◌, ◌++◌, rules, None, ◌∙◌, ap, sym}
use Rattle.moka_rows.specs.Rows.{overwritten}
use Rattle.moka_expiry_index.specs.ExpiryIndex.{order_of}
use Rattle.moka_expiring_rows.specs.RowDeadlines.{is_of_admitted, IsNoted}
use Rattle.moka_rows.proofs.Callers.{each-at, each-used}
use Rattle.moka_expiring_rows.proofs.RowDeadlineLemmas.{listed-used, used-undated, by-order, some-row}
use Rattle.moka_expiring_rows.proofs.Noted.{noted-used, neither, none-there, none-of, placed-none, stands-none}
use Rattle.moka_slab.specs.Store.{admitted_in, waiting_in}
use Rattle.moka_expiring_rows.proofs.expiring_rows.ExpiringRowsRowStore.overwrite.Goals as goal

pub invariant_of-self : goal.invariant_of-self
invariant_of-self g c =
    let n = c.args.number in
    let admitted = admitted_in c.args.self.now.rows in
    let waiting = waiting_in c.args.self.now.rows in
    let P = IsNoted c.args.self.now.has_deadlines c.args.self.now.top in
    let undated : c.args.info.deadline ≡ None = none-there c.args.info.deadline (search (rules, c.is_none.ensures, c.if-is_none.true)) in
    record {
      listed = λ whole.
          let none = c.is_unused.ensures c.if-is_unused.true in
          none ∙ sym (used-undated n admitted (admitted_in c.overwrite-taken.new.self) _ _ (overwritten c.args.value c.args.info) (λ _. undated) (sym (c.args.self.now.listed whole) ∙ none) c.overwrite-taken.ensures.after);
      noted = each-used P n (overwritten c.args.value c.args.info) admitted waiting (admitted_in c.overwrite-taken.new.self) (waiting_in c.overwrite-taken.new.self)
          (λ r found. (λ none. undated, (each-at P n r (admitted ++ waiting) c.args.self.now.noted found).1)) c.args.self.now.noted c.overwrite-taken.ensures.after;
      whole = c.args.self.now.whole;
      begun = c.args.self.now.begun;
    }

pub invariant_of-self-2 : goal.invariant_of-self-2
invariant_of-self-2 g c =
    let n = c.args.number in
    let admitted = admitted_in c.args.self.now.rows in
    let waiting = waiting_in c.args.self.now.rows in
    let had = c.args.self.now.has_deadlines in
    let given = c.is_some.result in
    let row = some-row n (admitted ++ waiting) c.requires in
    let before = rw row.1 at c.overwrite-taken.ensures.before in
    record {
      listed = λ whole.
          let done = c.relist-self.ensures.listed whole in
          listed-used n admitted waiting row.0 row.1 (is_of_admitted c.overwrite-taken.result.order)
          (by-order n admitted waiting c.overwrite-taken.result.order c.overwrite-taken.ensures.order)
          (order_of c.args.self.now.deadlines) (order_of c.relist-self.new.deadlines) (c.args.self.now.listed done.0) (admitted_in c.overwrite-taken.new.self) _ _ (overwritten c.args.value c.args.info) c.overwrite-taken.ensures.after
          (rw (c.deadline_if_admitted-before.ensures, c.deadline_if_admitted-after.ensures, before.1) at done.1);
      noted = noted-used had given c.args.self.now.top n (overwritten c.args.value c.args.info) admitted waiting (admitted_in c.overwrite-taken.new.self) (waiting_in c.overwrite-taken.new.self)
          (λ r none. none-there c.args.info.deadline (sym c.is_some.ensures ∙ none)) c.args.self.now.noted c.overwrite-taken.ensures.after;
      whole = λ none.
          let neither_is = neither had given none in
          let read = each-at (IsNoted had c.args.self.now.top) n row.0 (admitted ++ waiting) c.args.self.now.noted row.1 in
          let was : c.overwrite-taken.result.info.deadline ≡ None = ap (λ info. info.deadline) before.1 ∙ read.0 neither_is.0 in
          let is : c.args.info.deadline ≡ None = none-there c.args.info.deadline (sym c.is_some.ensures ∙ neither_is.1) in
          c.relist-self.ensures.whole (c.args.self.now.whole neither_is.0)
          (placed-none n _ _ (c.deadline_if_admitted-before.ensures ∙ none-of (is_of_admitted c.overwrite-taken.result.order) _ was))
          (stands-none n _ _ _ _ (c.deadline_if_admitted-after.ensures ∙ none-of (is_of_admitted c.overwrite-taken.result.order) _ is));
      begun = c.args.self.now.begun;
    }
