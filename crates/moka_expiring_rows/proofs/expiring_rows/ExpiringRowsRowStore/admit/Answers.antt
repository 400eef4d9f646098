use Rattle.std.proofs.Common.{◌≡◌, None, ◌++◌, ◌∷◌, [], ap, ◌∙◌, sym, append-nil, append_assoc}
use Rattle.moka_rows.specs.declared.rows.Row.{Row}
use Rattle.moka_rows.proofs.Callers.{all-back, stored-at, each-at, each-admitted}
use Rattle.moka_expiring_rows.specs.RowDeadlines.{deadline_in, deadlines_in, IsNoted}
use Rattle.moka_expiring_rows.proofs.RowDeadlineLemmas.{deadlines-push, admitted-read, some-row}
use Rattle.moka_expiring_rows.proofs.Noted.{stands-none}
use Rattle.moka_slab.specs.Store.{admitted_in, waiting_in}
use Rattle.moka_expiring_rows.proofs.expiring_rows.ExpiringRowsRowStore.admit.Goals as goal

pub row-requires : goal.row-requires
row-requires g c =
    let row = some-row c.args.number (waiting_in c.args.self.now.rows) c.requires in
    let is = rw row.1 at c.admit.ensures.admitted in
    rw (ap (λ l. l ++ waiting_in c.admit.new.self) is ∙ append_assoc (admitted_in c.args.self.now.rows) ((c.args.number, row.0) ∷ []) (waiting_in c.admit.new.self))
    (stored-at c.args.number row.0 (admitted_in c.args.self.now.rows) (waiting_in c.admit.new.self))

pub invariant_of-self : goal.invariant_of-self
invariant_of-self g c =
    let n = c.args.number in
    let admitted = admitted_in c.args.self.now.rows in
    let waiting = waiting_in c.args.self.now.rows in
    let row = some-row n waiting c.requires in
    let is = rw row.1 at c.admit.ensures.admitted in
    let P = IsNoted c.args.self.now.has_deadlines c.args.self.now.top in
    let noted = each-admitted P n admitted waiting (admitted_in c.admit.new.self) (waiting_in c.admit.new.self) c.args.self.now.noted row.0 row.1 is c.admit.ensures.waiting in
    record {
      listed = λ whole.
          let done = c.enlist-self.ensures.listed whole in
          let same = admitted-read n admitted waiting row.0 c.row.result (admitted_in c.admit.new.self) (waiting_in c.admit.new.self) is c.row.ensures.apart c.row.ensures.row in
          (rw c.info-deadline.ensures at done.1) ∙ ap (λ l. l ++ deadline_in n c.row.result.info.deadline) (c.args.self.now.listed done.0)
          ∙ ap (λ (r : Row _ _). deadlines_in admitted ++ deadline_in n r.info.deadline) same
          ∙ sym (deadlines-push admitted n row.0) ∙ ap deadlines_in (sym is);
      noted = noted;
      whole = λ none.
          let read = each-at P n c.row.result (admitted_in c.admit.new.self ++ waiting_in c.admit.new.self) noted c.row.ensures.row in
          c.enlist-self.ensures.whole (c.args.self.now.whole none) (stands-none n _ _ _ _ (ap (λ info. info.deadline) c.info-deadline.ensures ∙ read.0 none));
      begun = c.args.self.now.begun;
    }

-- where no row has had a deadline, the one that is admitted has none
pub invariant_of-self-else-self : goal.invariant_of-self-else-self
invariant_of-self-else-self g c =
    let n = c.args.number in
    let admitted = admitted_in c.args.self.now.rows in
    let waiting = waiting_in c.args.self.now.rows in
    let row = some-row n waiting c.requires in
    let is = rw row.1 at c.admit.ensures.admitted in
    let P = IsNoted c.args.self.now.has_deadlines c.args.self.now.top in
    let none : row.0.info.deadline ≡ None = (each-at P n row.0 waiting (all-back P admitted waiting c.args.self.now.noted) row.1).0 c.if-self.false in
    record {
      listed = λ whole.
          c.args.self.now.listed whole ∙ sym (append-nil (deadlines_in admitted)) ∙ ap (λ o. deadlines_in admitted ++ deadline_in n o) (sym none)
          ∙ sym (deadlines-push admitted n row.0) ∙ ap deadlines_in (sym is);
      noted = each-admitted P n admitted waiting (admitted_in c.admit.new.self) (waiting_in c.admit.new.self) c.args.self.now.noted row.0 row.1 is c.admit.ensures.waiting;
      whole = c.args.self.now.whole;
      begun = c.args.self.now.begun;
    }
