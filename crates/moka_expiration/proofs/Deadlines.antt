-- When the value of a row ends: a deadline that is past the last moment never comes, so that to keep none in its place changes nothing.
use Rattle.std.proofs.Common.{◌≡◌, ℕ, ◌-◌, ◌<◌, ◌^◌, nat_le, Bool, true, false, not, cond, ◌&&◌, ◌||◌, Option, Some, None, refl, sym, ap, ◌∙◌, arith}
use Rattle.std.proofs.lemmas.Bool.{lt-leb, leb-false}
use Rattle.moka_model.specs.declared.notification.RemovalCause.{RemovalCause}
use Rattle.moka_model.specs.declared.notification.RemovalCause.TheVariants.{Expired, Explicit}
use Rattle.moka_model.specs.Lives.{has_come}
use Rattle.moka_rows.specs.declared.rows.EntryInfo.{EntryInfo}
use Rattle.moka_rows.specs.Rows.{cause_at}
use Rattle.moka_expiration.specs.declared.expiration_policy.ExpirationPolicy.{ExpirationPolicy}
use Rattle.moka_expiration.specs.ExpirationPolicy.{deadline_of, within_moments, IsDated}

-- at each moment the deadline that is kept has come where the one that it is kept for has
pub comes-within : (deadline : Option ℕ) (at : ℕ) → at < 2 ^ 64 → has_come (within_moments deadline) at ≡ has_come deadline at
comes-within None at is_moment = refl
comes-within (Some deadline) at is_moment = go (nat_le deadline (2 ^ 64 - 1)) refl
  where
    go : (b : Bool) → nat_le deadline (2 ^ 64 - 1) ≡ b → has_come (cond b (Some deadline) None) at ≡ nat_le deadline at
    go true is = refl
    go false is = sym (lt-leb deadline at (let past = leb-false deadline (2 ^ 64 - 1) is in omega arith))

neither : (h c : Bool) → not (h || c) ≡ (not h && not c)
neither true c = refl
neither false c = refl

module _ (lives : ExpirationPolicy) (info : EntryInfo) (dated : IsDated lives info) (at : ℕ) (is_moment : at < 2 ^ 64) where
  -- its deadline has come where the one that is kept has,
  pub come-kept : has_come (deadline_of lives info) at ≡ has_come info.deadline at
  come-kept = sym (comes-within (deadline_of lives info) at is_moment) ∙ ap (λ d. has_come d at) (sym dated)

  -- it is live unless it is hidden or that has come,
  pub alive-kept : (not info.is_hidden && not (has_come (deadline_of lives info) at)) ≡ not (info.is_hidden || has_come info.deadline at)
  alive-kept = ap (λ c. not info.is_hidden && not c) come-kept ∙ sym (neither info.is_hidden (has_come info.deadline at))

  -- and it leaves for this cause
  pub cause-kept : (own : RemovalCause) → cond info.is_hidden Explicit (cond (has_come (deadline_of lives info) at) Expired own) ≡ cause_at own info at
  cause-kept own = ap (λ c. cond info.is_hidden Explicit (cond c Expired own)) come-kept
