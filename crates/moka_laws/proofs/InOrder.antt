-- Lists of which a fact holds of each element, and lists in which a number grows from each to the next.
use Rattle.std.proofs.Common.{◌≡◌, ℕ, ◌<◌, Bool, true, false, cond, List, [], ◌∷◌, ◌++◌, refl, arith}
use Rattle.std.specs.List.{filter}

module _ {A : Type 0} where
  -- a fact holds of each
  abbrev pub Each : (A → Type 0) → List A → Type 0
  Each P [] = Unit {0}
  Each P (x ∷ xs) = P x × Each P xs

  -- each is below all that stand behind it
  abbrev pub InOrder : (A → ℕ) → List A → Type 0
  InOrder f [] = Unit {0}
  InOrder f (x ∷ xs) = Each (λ y. f x < f y) xs × InOrder f xs

  pub Each-from : (P Q R : A → Type 0) → ((x : A) → P x → Q x → R x) → (xs : List A) → Each P xs → Each Q xs → Each R xs
  Each-from P Q R then [] p q = tt
  Each-from P Q R then (x ∷ xs) p q = (then x p.0 q.0, Each-from P Q R then xs p.1 q.1)

  pub Each-filter : (P : A → Type 0) (t : A → Bool) (xs : List A) → Each P xs → Each P (filter t xs)
  Each-filter P t [] p = tt
  Each-filter P t (x ∷ xs) p = go (t x) (Each-filter P t xs p.1)
    where
      go : (s : Bool) → Each P (filter t xs) → Each P (cond s (x ∷ filter t xs) (filter t xs))
      go true more = (p.0, more)
      go false more = more

  pub Each-filtered : (t : A → Bool) (xs : List A) → Each (λ x. t x ≡ true) (filter t xs)
  Each-filtered t [] = tt
  Each-filtered t (x ∷ xs) = go (t x) refl (Each-filtered t xs)
    where
      go : (s : Bool) → t x ≡ s → Each (λ y. t y ≡ true) (filter t xs) → Each (λ y. t y ≡ true) (cond s (x ∷ filter t xs) (filter t xs))
      go true e more = (e, more)
      go false e more = more

  pub Each-push : (P : A → Type 0) (xs : List A) (x : A) → Each P xs → P x → Each P (xs ++ x ∷ [])
  Each-push P [] x p here = (here, tt)
  Each-push P (y ∷ xs) x p here = (p.0, Each-push P xs x p.1 here)

  pub Each-at : (P : A → Type 0) (xs ys : List A) (x : A) → Each P (xs ++ x ∷ ys) → P x
  Each-at P [] ys x p = p.0
  Each-at P (y ∷ xs) ys x p = Each-at P xs ys x p.1

  pub InOrder-filter : (f : A → ℕ) (t : A → Bool) (xs : List A) → InOrder f xs → InOrder f (filter t xs)
  InOrder-filter f t [] o = tt
  InOrder-filter f t (x ∷ xs) o = go (t x) (InOrder-filter f t xs o.1)
    where
      go : (s : Bool) → InOrder f (filter t xs) → InOrder f (cond s (x ∷ filter t xs) (filter t xs))
      go true more = (Each-filter (λ y. f x < f y) t xs o.0, more)
      go false more = more

  pub InOrder-same : (f g : A → ℕ) (xs : List A) → Each (λ x. g x ≡ f x) xs → InOrder f xs → InOrder g xs
  InOrder-same f g [] same o = tt
  InOrder-same f g (x ∷ xs) same o = (Each-from (λ y. g y ≡ f y) (λ y. f x < f y) (λ y. g x < g y) below xs same.1 o.0, InOrder-same f g xs same.1 o.1)
    where
      below : (y : A) → g y ≡ f y → f x < f y → g x < g y
      below y e l = let d = same.0 in omega arith

  pub InOrder-push : (f : A → ℕ) (xs : List A) (x : A) → Each (λ y. f y < f x) xs → InOrder f xs → InOrder f (xs ++ x ∷ [])
  InOrder-push f [] x below o = (tt, tt)
  InOrder-push f (y ∷ xs) x below o = (Each-push (λ z. f y < f z) xs x o.0 below.0, InOrder-push f xs x below.1 o.1)

  pub InOrder-at : (f : A → ℕ) (xs ys zs : List A) (x y : A) → InOrder f (xs ++ x ∷ (ys ++ y ∷ zs)) → f x < f y
  InOrder-at f [] ys zs x y o = Each-at (λ z. f x < f z) ys zs y o.0
  InOrder-at f (w ∷ xs) ys zs x y o = InOrder-at f xs ys zs x y o.1
