-- Places of a list that grows.
use Rattle.std.proofs.Common.{◌≡◌, ℕ, zero, suc, ◌+◌, ◌<◌, List, [], ◌∷◌, ◌++◌, length, Some, refl, sym, subst, arith}
use mathlib.Core.Logic.{dite}
use native.Mathlib.Decide.{ℕ_discrete}
use Rattle.std.specs.Prelude.{slice_get}
use Rattle.moka_recording.specs.History.{Each}
use Rattle.moka_recording.specs.Receipts.{PassData, AreInOrder, IsWhole}

module _ {A : Type 0} where
  pub get_front : (xs ys : List A) (k : ℕ) (p : A) → slice_get xs k ≡ Some p → slice_get (xs ++ ys) k ≡ Some p
  get_front [] ys k p e = absurd (cc)
  get_front (x ∷ xs) ys zero p e = e
  get_front (x ∷ xs) ys (suc k) p e = get_front xs ys k p e

  pub get_last : (xs : List A) (x : A) → slice_get (xs ++ x ∷ []) (length xs) ≡ Some x
  get_last [] x = refl
  get_last (y ∷ xs) x = get_last xs x

  pub get_below : (xs : List A) (k : ℕ) (p : A) → slice_get xs k ≡ Some p → k < length xs
  get_below [] k p e = absurd (cc)
  get_below (x ∷ xs) zero p e = omega arith
  get_below (x ∷ xs) (suc k) p e = let h = get_below xs k p e in omega arith

  get_there : (xs : List A) (k : ℕ) → k < length xs → (x : A) × (slice_get xs k ≡ Some x)
  get_there [] k h = absurd (omega arith)
  get_there (x ∷ xs) zero h = (x, refl)
  get_there (x ∷ xs) (suc k) h = get_there xs k (omega arith)

  pub each_nil : (P : A → Type 0) → Each P []
  each_nil P k x e = absurd (cc)

  pub each_snoc : (P : A → Type 0) (xs : List A) (x : A) → Each P xs → P x → Each P (xs ++ x ∷ [])
  each_snoc P [] x h p zero y e = subst P (cc) p
  each_snoc P [] x h p (suc k) y e = absurd (cc)
  each_snoc P (z ∷ xs) x h p zero y e = h zero y e
  each_snoc P (z ∷ xs) x h p (suc k) y e = each_snoc P xs x (λ j u d. h (suc j) u d) p k y e

  pub each_more : (P Q : A → Type 0) (xs : List A) → ((x : A) → P x → Q x) → Each P xs → Each Q xs
  each_more P Q xs f h k x e = f x (h k x e)

pub upto : (P : ℕ → Type 0) (k : ℕ) → ((n : ℕ) → n < k → P n) → P k → (n : ℕ) → n < k + 1 → P n
upto P k h p n less = dite (ℕ_discrete n k) (λ e. subst P (sym e) p) (λ ne. h n (omega arith))

module _ {S R : Type 0} where
  pub in_order : (passes : List (PassData S R)) (count : ℕ) → AreInOrder passes → length passes ≡ count → IsWhole count passes
  in_order passes count order size =
      (size, λ number below. let p = get_there passes number (omega arith) in (number, p.0, p.1, order number p.0 p.1))
