-- Elements of a list, and the lists that a filter, a change of each or one more element make of it.
use Rattle.std.proofs.Common.{◌≡◌, ◌⊎◌, inl, inr, ⊎_elim, Bool, true, false, cond, List, [], ◌∷◌, ◌++◌, map, Option, Some, None, refl, sym, ap, ◌∙◌, length, ◌≤◌, arith}
use Rattle.std.specs.List.{filter}
use Rattle.moka_model.specs.Turns.{IsIn}

abbrev pub OnSome : {A : Type 0} → (A → Type 0) → Option A → Type 0
OnSome P None = Unit {0}
OnSome P (Some x) = P x

pub in_append : {A : Type 0} (x : A) (xs ys : List A) → IsIn x (xs ++ ys) → IsIn x xs ⊎ IsIn x ys
in_append x [] ys is = inr is
in_append x (z ∷ zs) ys (inl e) = inl (inl e)
in_append x (z ∷ zs) ys (inr is) = ⊎_elim (λ here. inl (inr here)) (λ there. inr there) (in_append x zs ys is)

pub in_place : {A : Type 0} (x : A) (before after : List A) → IsIn x (before ++ x ∷ after)
in_place x [] after = inl refl
in_place x (y ∷ ys) after = inr (in_place x ys after)

pub in_map : {A B : Type 0} (f : A → B) (y : B) (xs : List A) → IsIn y (map f xs) → (x : A) × IsIn x xs × (f x ≡ y)
in_map f y [] is = absurd is
in_map f y (x ∷ xs) (inl e) = (x, inl refl, e)
in_map f y (x ∷ xs) (inr is) = let it = in_map f y xs is in (it.0, inr it.1, it.2)

pub in_filter : {A : Type 0} (p : A → Bool) (x : A) (xs : List A) → IsIn x (filter p xs) → IsIn x xs × (p x ≡ true)
in_filter p x [] is = absurd is
in_filter p x (y ∷ ys) is = go (p y) refl is (in_filter p x ys)
  where
    go : (t : Bool) → p y ≡ t → IsIn x (cond t (y ∷ filter p ys) (filter p ys)) → (IsIn x (filter p ys) → IsIn x ys × (p x ≡ true)) → IsIn x (y ∷ ys) × (p x ≡ true)
    go true h (inl e) more = (inl e, ap p (sym e) ∙ h)
    go true h (inr is) more = let it = more is in (inr it.0, it.1)
    go false h is more = let it = more is in (inr it.0, it.1)

-- where each that passes after a change has passed before, no more pass
pub length-filter-map : {A : Type 0} (p : A → Bool) (f : A → A) → ((x : A) → p (f x) ≡ true → p x ≡ true) → (xs : List A) → length (filter p (map f xs)) ≤ length (filter p xs)
length-filter-map p f kept [] = omega arith
length-filter-map p f kept (x ∷ xs) = go (p (f x)) refl (p x) refl (length-filter-map p f kept xs)
  where
    go : (s : Bool) → p (f x) ≡ s → (t : Bool) → p x ≡ t → length (filter p (map f xs)) ≤ length (filter p xs) → length (cond s (f x ∷ filter p (map f xs)) (filter p (map f xs))) ≤ length (cond t (x ∷ filter p xs) (filter p xs))
    go true h true e more = omega (arith, more)
    go true h false e more = let no = sym e ∙ kept x h in cc
    go false h true e more = omega (arith, more)
    go false h false e more = more

-- a test that passes none but those of a wider test finds the same among the wider ones
pub filter-wider : {A : Type 0} (p q : A → Bool) (xs : List A) → ((x : A) → p x ≡ true → q x ≡ true) → filter p (filter q xs) ≡ filter p xs
filter-wider p q [] wider = refl
filter-wider p q (x ∷ xs) wider = go (q x) refl (p x) refl (filter-wider p q xs wider)
  where
    go : (s : Bool) → q x ≡ s → (t : Bool) → p x ≡ t → filter p (filter q xs) ≡ filter p xs → filter p (cond s (x ∷ filter q xs) (filter q xs)) ≡ cond t (x ∷ filter p xs) (filter p xs)
    go true h true e more = rw e (ap (λ l. x ∷ l) more)
    go true h false e more = rw e more
    go false h true e more = let no = sym h ∙ wider x e in cc
    go false h false e more = more
