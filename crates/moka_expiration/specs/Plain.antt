-- Values whose life nothing limits.
use Rattle.std.specs.Prelude.{◌≡◌, None}
use Rattle.moka_rows.specs.declared.rows.EntryInfo.{EntryInfo}
use Rattle.moka_expiration.specs.declared.expiration_policy.ExpirationPolicy.{ExpirationPolicy}
use Rattle.moka_expiration.specs.Behaviour.{BehaviourData}

-- Nothing limits the life of a value: there is no expiry, no time to live and no time to idle, and the entry has no
-- lifetime of its own.
pub record IsPlain {H W X : Type 0} (behaviour : BehaviourData H W X) (lives : ExpirationPolicy) (info : EntryInfo) : Type 0 where
  pub no_expiry : behaviour.expiry ≡ None
  pub no_time_to_live : lives.time_to_live ≡ None
  pub no_time_to_idle : lives.time_to_idle ≡ None
  pub no_own_life : info.own_life ≡ None
