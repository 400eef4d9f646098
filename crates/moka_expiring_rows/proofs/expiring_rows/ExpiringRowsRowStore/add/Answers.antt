use Rattle.std.proofs.Common.{◌||◌, ◌<◌, ◌≤◌, ◌++◌, sym, ap, ◌∙◌, arith}
use Rattle.moka_expiring_rows.specs.RowDeadlines.{deadlines_in, IsNoted}
use Rattle.moka_rows.proofs.Callers.{each-added}
use Rattle.moka_expiring_rows.proofs.Noted.{noted-more, neither, none-there}
use Rattle.moka_slab.specs.Store.{admitted_in, waiting_in}
use Rattle.moka_expiring_rows.proofs.expiring_rows.ExpiringRowsRowStore.add.Goals as goal

pub invariant_of-self : goal.invariant_of-self
invariant_of-self g c =
    let had = c.args.self.now.has_deadlines in
    let has = had || c.is_some.result in
    let higher : c.args.self.now.top ≤ c.max-self.result = rw c.max-self.ensures (omega arith) in
    let below : c.add-number.result < c.max-self.result = omega (arith, c.max-self.ensures) in
    let before = noted-more had has c.args.self.now.top c.max-self.result (admitted_in c.args.self.now.rows ++ waiting_in c.args.self.now.rows) (λ none. (neither had c.is_some.result none).0) higher c.args.self.now.noted in
    record {
      listed = λ whole. c.args.self.now.listed whole ∙ ap deadlines_in (sym c.add-number.ensures.admitted);
      noted = each-added (IsNoted has c.max-self.result) 0 (admitted_in c.args.self.now.rows) (waiting_in c.args.self.now.rows) (admitted_in c.add-number.new.self) (waiting_in c.add-number.new.self) before (c.add-number.result, c.args.row)
          (λ none. none-there c.args.row.info.deadline (rw (c.is_some.ensures, c.info.ensures) at (neither had c.is_some.result none).1), below)
          c.add-number.ensures.admitted c.add-number.ensures.waiting;
      whole = λ none. c.args.self.now.whole (neither had c.is_some.result none).0;
      begun = omega (arith, c.args.self.now.begun, higher);
    }
