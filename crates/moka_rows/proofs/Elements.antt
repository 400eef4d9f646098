-- What holds of each element of a list.
use Rattle.std.proofs.Common.{List, [], ◌∷◌, ◌++◌}
use Rattle.std.specs.List.{AllByRecursion}

module _ {A : Type 0} (P : A → Type 0) where
  pub all-append : (xs ys : List A) → AllByRecursion P xs → AllByRecursion P ys → AllByRecursion P (xs ++ ys)
  all-append [] ys a b = b
  all-append (x ∷ xs) ys a b = (a.0, all-append xs ys a.1 b)

  pub all-front : (xs ys : List A) → AllByRecursion P (xs ++ ys) → AllByRecursion P xs
  all-front [] ys a = tt
  all-front (x ∷ xs) ys a = (a.0, all-front xs ys a.1)

  pub all-back : (xs ys : List A) → AllByRecursion P (xs ++ ys) → AllByRecursion P ys
  all-back [] ys a = a
  all-back (x ∷ xs) ys a = all-back xs ys a.1
