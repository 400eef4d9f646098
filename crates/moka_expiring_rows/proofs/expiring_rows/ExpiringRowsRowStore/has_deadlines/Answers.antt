use Rattle.std.proofs.Common.{◌≡◌, None, ◌++◌}
use Rattle.moka_rows.proofs.Callers.{each-more}
use Rattle.moka_expiring_rows.specs.RowDeadlines.{IsNoted}
use Rattle.moka_slab.specs.Store.{admitted_in, waiting_in}
use Rattle.moka_expiring_rows.proofs.expiring_rows.ExpiringRowsRowStore.has_deadlines.Goals as goal

pub returns : goal.returns
returns g c none =
    let store = c.args.self.now in
    each-more (IsNoted store.has_deadlines store.top) (λ p. p.1.info.deadline ≡ None) (admitted_in store.rows ++ waiting_in store.rows) (λ p noted. noted.0 none) store.noted
