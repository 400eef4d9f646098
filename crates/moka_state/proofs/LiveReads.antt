-- How a read of a live value ends.
use Rattle.std.proofs.Common.{◌≡◌, Option, Some, None, IfSome, sym, subst}
use Rattle.moka_model.specs.Lives.{Write}

-- what holds in any case holds if the clones of the live value cannot fail
pub in-any-case : {K V : Type 0} (is_infallible : V → Type 0) (live : Option (Write K V)) (P : Type 0) → P → IfSome live (λ w. is_infallible w.value → P)
in-any-case is_infallible None P holds = tt
in-any-case is_infallible (Some w) P holds = λ fine. holds

-- what holds of the value that is there by one equation
pub if-some-at : {A : Type 0} (P : A → Type 0) (o p : Option A) → o ≡ p → IfSome p P → IfSome o P
if-some-at P o p same holds = subst (λ q. IfSome q P) (sym same) holds
