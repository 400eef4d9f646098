use Rattle.std.proofs.Common.{◌≡◌, Bool, true, false, Option, Some, None, option_map, refl}

-- no test is both
pub untrue : false ≡ true → ⊥
untrue e = cc

-- a test that isn't passed is failed
pub ne_true-false : (b : Bool) → (b ≡ true → ⊥) → b ≡ false
ne_true-false true h = absurd (h refl)
ne_true-false false h = refl

-- what a function of a value gave, and the value
pub mapped : {A B : Type 0} (f : A → B) (o : Option A) (y : B) → option_map f o ≡ Some y → (x : A) × (o ≡ Some x) × (f x ≡ y)
mapped f None y h = cc
mapped f (Some x) y h = (x, refl, cc)
