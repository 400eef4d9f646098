-- What a lookup of byte strings has found, from what it stored for the caller or kept.
use Rattle.std.proofs.Common.{◌≡◌, ◌≢◌, ℕ, Option, Some, refl, subst, sym}
use Rattle.std.specs.Prelude.{◌↔◌, Result, Ok, Err, IsErr, IsSomeAnd, OnOk}
use Rattle.moka_policy.specs.declared.policy.Refused.{Refused}

-- With another number than 2 the lookup did not fail, so what was stored or kept is its result.
pub given_is : {V : Type 0} (P : Result V Refused → Type 0) (found : Result V Refused) (number : ℕ) (seen : Option (Result V Refused))
    → OnOk found (seen ≡ Some found) → (IsErr found ↔ (number ≡ 2)) → P found → number ≢ 2 → IsSomeAnd seen P
given_is P (Ok v) number seen is failed holds not_two = subst (λ s. IsSomeAnd s P) (sym is) holds
given_is P (Err e) number seen is failed holds not_two = absurd (not_two (failed.0 refl))
