-- Texts that do not have the form of an id.
use Rattle.std.proofs.Common.{◌≡◌, ℕ, zero, suc, ◌==◌, ◌||◌, Bool, true, false, List, [], ◌∷◌, drop, refl, arith}
use Rattle.std.specs.Prelude.{Contains}
use Rattle.std.specs.List.{AllZip, list_any}
use Rattle.std.proofs.lemmas.Bool.Decides.{nat_tests}

neither : (a b : Bool) → (a || b) ≡ false → (a ≡ false) × (b ≡ false)
neither true b is = cc
neither false b is = (refl, is)

-- a number that equals none of a list is not in it
pub absent : (xs : List ℕ) (x : ℕ) → list_any (λ y. y == x) xs ≡ false → ¬ (Contains xs x)
absent [] x none (k, less, is) = omega arith
absent (y ∷ xs) x none (zero, less, is) = let here = (neither (y == x) _ none).0 in absurd (grind (arith, nat_tests))
absent (y ∷ xs) x none (suc k, less, is) = absent xs x (neither (y == x) _ none).1 (k, omega arith, is)

-- if two lists are related at each place, so are the rests of them from a place on
pub AllZip-drop : {A B : Type 0} (R : A → B → Type 0) (n : ℕ) (xs : List A) (ys : List B) → AllZip R xs ys → AllZip R (drop n xs) (drop n ys)
AllZip-drop R zero xs ys all = all
AllZip-drop R (suc n) [] [] all = tt
AllZip-drop R (suc n) [] (y ∷ ys) all = absurd all
AllZip-drop R (suc n) (x ∷ xs) [] all = absurd all
AllZip-drop R (suc n) (x ∷ xs) (y ∷ ys) all = AllZip-drop R n xs ys all.1
