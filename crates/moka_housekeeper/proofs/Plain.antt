-- An access to a row whose life nothing limits.
use Rattle.std.proofs.Common.{◌≡◌, ℕ, None, refl}
use Rattle.moka_model.specs.Lives.{Behaviour, no_lifetimes}
use Rattle.moka_rows.specs.declared.rows.Row.{Row}
use Rattle.moka_rows.specs.Rows.{plain_access}
use Rattle.moka_expiration.specs.declared.expiration_policy.ExpirationPolicy.{ExpirationPolicy}
use Rattle.moka_housekeeper.specs.Hit.{IsTouchOf}

-- it gives the entry neither a lifetime of its own nor a deadline
pub plain-touch : {K V : Type 0} (behaviour : Behaviour K V) (lives : ExpirationPolicy) (row : Row K V) (at : ℕ)
    → behaviour.lifetimes ≡ no_lifetimes → lives.time_to_live ≡ None → lives.time_to_idle ≡ None → row.info.own_life ≡ None
    → IsTouchOf behaviour lives row at (plain_access at row)
plain-touch behaviour lives row at none no_time_to_live no_time_to_idle no_own_life = record {
  accessed = refl;
  own = rw (none, no_own_life) refl;
  dated = rw (no_time_to_live, no_time_to_idle) refl;
}
