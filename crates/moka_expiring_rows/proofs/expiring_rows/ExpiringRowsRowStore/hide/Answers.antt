use Rattle.std.proofs.Common.{refl, sym, ap, ◌∙◌}
use Rattle.moka_rows.specs.Rows.{with_row, hidden}
use Rattle.moka_rows.proofs.Callers.{all-append, all-front, all-back, each-at, each-changed}
use Rattle.moka_expiring_rows.specs.RowDeadlines.{deadlines_in, IsNoted}
use Rattle.moka_expiring_rows.proofs.RowDeadlineLemmas.{deadlines-changed}
use Rattle.moka_slab.specs.Store.{admitted_in, waiting_in}
use Rattle.moka_expiring_rows.proofs.expiring_rows.ExpiringRowsRowStore.hide.Goals as goal

pub invariant_of-self : goal.invariant_of-self
invariant_of-self g c =
    let n = c.args.number in
    let admitted = admitted_in c.args.self.now.rows in
    let waiting = waiting_in c.args.self.now.rows in
    let P = IsNoted c.args.self.now.has_deadlines c.args.self.now.top in
    let front = all-front P admitted waiting c.args.self.now.noted in
    let back = all-back P admitted waiting c.args.self.now.noted in
    record {
      listed = λ whole.
          c.args.self.now.listed whole ∙ sym (deadlines-changed n hidden admitted (λ row. refl)) ∙ ap deadlines_in (sym c.hide.ensures.admitted);
      noted = rw (c.hide.ensures.admitted, c.hide.ensures.waiting)
          (all-append P (with_row n hidden admitted) (with_row n hidden waiting)
          (each-changed P n hidden admitted (λ r found. each-at P n r admitted front found) front)
          (each-changed P n hidden waiting (λ r found. each-at P n r waiting back found) back));
      whole = c.args.self.now.whole;
      begun = c.args.self.now.begun;
    }
