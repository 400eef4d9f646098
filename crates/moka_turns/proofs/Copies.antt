-- Clones of ends.
use Rattle.std.proofs.Common.{◌≡◌, true, Option, Some, None, refl, ◌∙◌, subst, is_none}
use Rattle.moka_model.specs.Turns.{End, Value, Nothing, Failed, Computed, Abandoned}
use Rattle.moka_model.specs.Calls.{ClonesAreInfallible, IsCopyOf, IsCopiedEnd}
use Rattle.moka_turns.specs.CollectState.{TakesCopy}

-- an open turn has no end
pub none-there : {A : Type 0} (o : Option A) → is_none o ≡ true → o ≡ None
none-there None is = refl
none-there (Some a) is = cc

-- a clone of a clone is a clone
pub copied-twice : {V E : Type 0} (is_clone : V → V → Type 0) → ((u v w : V) → is_clone u v → is_clone v w → is_clone u w) → (a b c : Option (End V E)) → IsCopiedEnd is_clone a b → IsCopiedEnd is_clone b c → IsCopiedEnd is_clone a c
copied-twice is_clone compose (Some (Value u m)) (Some (Value v n)) (Some (Value w r)) is more = (compose u v w is.0 more.0, more.1 ∙ is.1)
copied-twice is_clone compose (Some (Value u m)) (Some (Value v n)) None is more = cc
copied-twice is_clone compose (Some (Value u m)) (Some (Value v n)) (Some Nothing) is more = cc
copied-twice is_clone compose (Some (Value u m)) (Some (Value v n)) (Some (Failed e)) is more = cc
copied-twice is_clone compose (Some (Value u m)) (Some (Value v n)) (Some Computed) is more = cc
copied-twice is_clone compose (Some (Value u m)) (Some (Value v n)) (Some Abandoned) is more = cc
copied-twice is_clone compose (Some (Value u m)) None c is more = cc
copied-twice is_clone compose (Some (Value u m)) (Some Nothing) c is more = cc
copied-twice is_clone compose (Some (Value u m)) (Some (Failed e)) c is more = cc
copied-twice is_clone compose (Some (Value u m)) (Some Computed) c is more = cc
copied-twice is_clone compose (Some (Value u m)) (Some Abandoned) c is more = cc
copied-twice is_clone compose None b c is more = subst (λ x. IsCopiedEnd is_clone x c) is more
copied-twice is_clone compose (Some Nothing) b c is more = subst (λ x. IsCopiedEnd is_clone x c) is more
copied-twice is_clone compose (Some (Failed e)) b c is more = subst (λ x. IsCopiedEnd is_clone x c) is more
copied-twice is_clone compose (Some Computed) b c is more = subst (λ x. IsCopiedEnd is_clone x c) is more
copied-twice is_clone compose (Some Abandoned) b c is more = subst (λ x. IsCopiedEnd is_clone x c) is more

-- if cloning the clone of an end can fail, so can cloning the end
pub takes-alike : {V E : Type 0} (is_clone : V → V → Type 0) (is_infallible : V → Type 0) (a b : Option (End V E)) → IsCopiedEnd is_clone a b → TakesCopy is_infallible b → TakesCopy (ClonesAreInfallible is_clone is_infallible) a
takes-alike is_clone is_infallible (Some (Value v m)) (Some (Value w n)) is takes = λ never. takes (never w is.0)
takes-alike is_clone is_infallible (Some (Value v m)) None is takes = cc
takes-alike is_clone is_infallible (Some (Value v m)) (Some Nothing) is takes = cc
takes-alike is_clone is_infallible (Some (Value v m)) (Some (Failed e)) is takes = cc
takes-alike is_clone is_infallible (Some (Value v m)) (Some Computed) is takes = cc
takes-alike is_clone is_infallible (Some (Value v m)) (Some Abandoned) is takes = cc
takes-alike is_clone is_infallible (Some (Failed e)) b is takes = tt
takes-alike is_clone is_infallible None b is takes = subst (TakesCopy is_infallible) is takes
takes-alike is_clone is_infallible (Some Nothing) b is takes = subst (TakesCopy is_infallible) is takes
takes-alike is_clone is_infallible (Some Computed) b is takes = subst (TakesCopy is_infallible) is takes
takes-alike is_clone is_infallible (Some Abandoned) b is takes = subst (TakesCopy is_infallible) is takes

pub value-twice : {V : Type 0} (is_clone : V → V → Type 0) → ((u v w : V) → is_clone u v → is_clone v w → is_clone u w) → (a b c : Option V) → IsCopyOf is_clone a b → IsCopyOf is_clone b c → IsCopyOf is_clone a c
value-twice is_clone compose None None None is more = tt
value-twice is_clone compose (Some u) (Some v) (Some w) is more = compose u v w is more
value-twice is_clone compose None (Some v) c is more = absurd is
value-twice is_clone compose (Some u) None c is more = absurd is
value-twice is_clone compose None None (Some w) is more = absurd more
value-twice is_clone compose (Some u) (Some v) None is more = absurd more
