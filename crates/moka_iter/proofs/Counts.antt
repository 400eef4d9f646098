-- Counts of lists in another order, of the keys of segments, and of the segments that are still to be reached.
use Rattle.std.proofs.Common.{◌≡◌, ◌⊎◌, inl, inr, ℕ, ◌+◌, ◌-◌, min, Bool, true, false, cond, nat_eq, List, [], ◌∷◌, ◌++◌, length, length-append, map, refl, sym, ap, ◌∙◌, arith, eqb-true, eq-eqb}
use Rattle.std.specs.List.{AllByRecursion, filter}
use Rattle.std.specs.List.Sorted.{IsPermutation}
use Rattle.std.proofs.lemmas.List.Elements.{filter-append}
use Rattle.std.proofs.lemmas.List.Sums.{length-filter}
use Rattle.std.proofs.lemmas.List.Sorted.{sum_by-IsPermutation}
use Rattle.moka_model.specs.MaintenanceLaws.{count}

pub count-permutation : {A : Type 0} (p : A → Bool) (xs ys : List A) → IsPermutation xs ys → count p xs ≡ count p ys
count-permutation p xs ys is = length-filter p xs ∙ sym (sum_by-IsPermutation (λ x. cond (p x) 1 0) xs ys is) ∙ sym (length-filter p ys)

pub count-append : {A : Type 0} (p : A → Bool) (xs ys : List A) → count p (xs ++ ys) ≡ count p xs + count p ys
count-append p xs ys = ap length (filter-append p xs ys) ∙ length-append (filter p xs) (filter p ys)

-- one more
pub count-one : {A : Type 0} (p : A → Bool) (x : A) (xs : List A) → count p (x ∷ xs) ≡ cond (p x) 1 0 + count p xs
count-one p x xs = go (p x)
  where
    go : (t : Bool) → length (cond t (x ∷ filter p xs) (filter p xs)) ≡ cond t 1 0 + length (filter p xs)
    go true = omega arith
    go false = omega arith

pub count-map : {A B : Type 0} (p : B → Bool) (f : A → B) (xs : List A) → count p (map f xs) ≡ count (λ x. p (f x)) xs
count-map p f [] = refl
count-map p f (x ∷ xs) = count-one p (f x) (map f xs) ∙ ap (λ n. cond (p (f x)) 1 0 + n) (count-map p f xs) ∙ sym (count-one (λ y. p (f y)) x xs)

-- what passes no test is not counted
pub count-none : {A : Type 0} (p : A → Bool) (xs : List A) → AllByRecursion (λ x. p x ≡ false) xs → count p xs ≡ 0
count-none p [] none = refl
count-none p (x ∷ xs) none = count-one p x xs ∙ ap (λ b. cond b 1 0 + count p xs) none.0 ∙ (let rest = count-none p xs none.1 in omega (arith, rest))

pub same-or-not : (a b : ℕ) → (a ≡ b) ⊎ ((a ≡ b) → ⊥)
same-or-not a b = go (nat_eq a b) refl
  where
    go : (t : Bool) → nat_eq a b ≡ t → (a ≡ b) ⊎ ((a ≡ b) → ⊥)
    go true e = inl (eqb-true a b e)
    go false e = inr (λ same. let no : true ≡ false = sym (eq-eqb a b same) ∙ e in cc)

-- whether a segment is still to be reached: 1, and 0 where it was reached
abbrev pub unreached : ℕ → ℕ → ℕ
unreached reached i = min 1 ((i + 1) - reached)
