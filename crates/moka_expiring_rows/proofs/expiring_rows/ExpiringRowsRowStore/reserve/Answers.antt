use Rattle.std.proofs.Common.{◌≡◌, suc, ◌+◌, ◌<◌, ◌≤◌, ◌++◌, length, rules, arith}
use Rattle.std.proofs.lemmas.List.{length-append}
use Rattle.moka_rows.proofs.Callers.{all-front, each-more}
use Rattle.moka_expiry_index.specs.ExpiryIndex.{known_of, room_of}
use Rattle.moka_slab.specs.Store.{admitted_in, waiting_in}
use Rattle.moka_expiring_rows.specs.RowDeadlines.{IsNoted}
use Rattle.moka_expiring_rows.proofs.expiring_rows.ExpiringRowsRowStore.reserve.Goals as goal

pub returns-then-not-self-clause-whole : goal.returns-then-not-self-clause-whole
returns-then-not-self-clause-whole g c =
    let admitted = admitted_in c.args.self.now.rows in
    let waiting = waiting_in c.args.self.now.rows in
    let d = c.reserve-then-self.new.self in
    let top : c.args.self.now.top + c.args.more ≡ c.in_ok-top.top = search rules in
    let below : c.in_ok-top.top < known_of d = search rules in
    let count : c.len-count.result + c.args.more ≡ c.in_ok-count.count = search rules in
    let enough : c.in_ok-count.count ≤ room_of d = search rules in
    let many : c.len-count.result ≡ length (admitted ++ waiting) = rw (c.reserve.ensures.admitted, c.reserve.ensures.waiting) at c.len-count.ensures in
    let known = each-more (IsNoted c.args.self.now.has_deadlines c.args.self.now.top) (λ p. suc p.0 < known_of d) admitted
    (λ p noted. omega (arith, noted.1, top, below, d.short)) (all-front (IsNoted c.args.self.now.has_deadlines c.args.self.now.top) admitted waiting c.args.self.now.noted) in
    c.list_all-self.ensures.whole (rw c.reserve.ensures.admitted known) (rw c.reserve.ensures.admitted (omega (arith, enough, count, many, length-append admitted waiting)))
