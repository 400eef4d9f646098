use Rattle.std.proofs.Common.{ap}
use Rattle.moka_rows.specs.Rows.{plain_access}
use Rattle.moka_expiration.specs.Behaviour.{lifetimes_by}
use Rattle.moka_housekeeper.proofs.Plain.{plain-touch}
use Rattle.moka_housekeeper.proofs.housekeeper.Housekeeper.hit.Goals as goal

pub returns-then-is_plain-clause-used : goal.returns-then-is_plain-clause-used
returns-then-is_plain-clause-used g c =
    let row = c.row.result in
    let plain = rw c.info.ensures at (c.is_plain.ensures c.if-is_plain.true) in
    rw c.row.ensures (
      plain_access c.args.now row,
      plain-touch _ c.args.self.now.lives row c.args.now (ap (lifetimes_by g.C.CacheTypes.lifetimes) plain.no_expiry) plain.no_time_to_live plain.no_time_to_idle plain.no_own_life,
      rw c.row.ensures at c.touch_plain.ensures.used,
    )
