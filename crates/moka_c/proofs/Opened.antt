-- What a call does with the cache of an open handle, from what it does with the cache that it took out of the handle.
use Rattle.std.proofs.Common.{◌≡◌, Option, Some, subst, sym}
use Rattle.std.specs.Prelude.{IfSome, IsSomeAnd}
use Rattle.moka_c.specs.Handles.{OnOpen}

-- What holds of the cache that was taken holds of that of the handle.
pub if_open : {X : Type 0} (says : X → Type 0) (old : Option X) (value before : X) → Some value ≡ old → before ≡ value → says before
    → IfSome old says
if_open says old value before was is holds = subst (λ o. IfSome o says) was (subst says is holds)

-- The same between that cache and the one that is put back.
pub on_open : {X : Type 0} (ends : X → X → Type 0) (old new : Option X) (value before after : X) → Some value ≡ old → before ≡ value
    → new ≡ Some after → ends before after → OnOpen ends old new
on_open ends old new value before after was is put holds =
    subst (λ o. OnOpen ends o new) was
    (subst (λ n. IsSomeAnd n (λ x. ends value x)) (sym put) (subst (λ x. ends x after) is holds))
