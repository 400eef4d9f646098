-- What an access to a row changes.
use Rattle.std.specs.Prelude.{◌≡◌, ℕ, max, option_map}
use Rattle.std.specs.Arc.{arc_value}
use Rattle.moka_model.specs.Lives.{Behaviour, rest, given}
use Rattle.moka_rows.specs.declared.rows.Row.{Row}
use Rattle.moka_rows.specs.declared.rows.Access.{Access}
use Rattle.moka_rows.specs.Rows.{used_at, touched}
use Rattle.moka_expiration.specs.declared.expiration_policy.ExpirationPolicy.{ExpirationPolicy}
use Rattle.moka_expiration.specs.ExpirationPolicy.{own_life, own_of, IsDated}
use Rattle.moka_table.specs.Table.{Contents, UsesRow}

-- What an access to a row at a moment changes in its metadata.
pub record IsTouchOf {K V : Type 0} (behaviour : Behaviour K V) (lives : ExpirationPolicy) (row : Row K V) (at : ℕ)
    (touch : Access) : Type 0 where
  pub accessed : touch.last_accessed ≡ max row.info.last_accessed at
  pub own : option_map own_life touch.own_life
      ≡ given (behaviour.lifetimes.read (arc_value row.key) row.value at (rest (own_of row.info) at) row.info.last_modified) at
  pub dated : IsDated lives (used_at touch row.info)

-- A row was accessed at a moment.
abbrev pub UsesAt : {K V : Type 0} → Behaviour K V → ExpirationPolicy → ℕ → Row K V → ℕ → Contents K V → Contents K V → Type 0
UsesAt behaviour lives number row at old new =
    (touch : Access) × IsTouchOf behaviour lives row at touch × UsesRow number (touched touch) old new
