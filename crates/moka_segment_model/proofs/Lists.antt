-- What is at a place of a list, and the number of a hash's segment.
use Rattle.std.proofs.Common.{◌≡◌, ◌≢◌, ℕ, zero, suc, ◌+◌, ◌-◌, ◌*◌, ◌/◌, ◌<◌, ◌^◌, ◌==◌, true, ⊎_elim, Option, Some, None, List, [], ◌∷◌, length, refl, sym, ap, ◌∙◌, arith, set, option_map}
use Rattle.std.specs.List.{slice_get}
use Rattle.std.proofs.Math.Nat.{div-lt_iff_lt-mul}
use Rattle.std.proofs.lemmas.Nat.{pow-add, pow_pos}
use Rattle.std.proofs.lemmas.Bool.Decides.{eqb_tells}

-- a hash has a segment
pub segment-within : (bits hash : ℕ) → bits < 64 → hash < 2 ^ 64 → hash / 2 ^ (64 - bits) < 2 ^ bits
segment-within bits hash few fits =
    let both : bits + (64 - bits) ≡ 64 = omega arith in
    let whole : 2 ^ bits * 2 ^ (64 - bits) ≡ 2 ^ 64 = sym (pow-add 2 bits (64 - bits)) ∙ ap (λ n. 2 ^ n) both in
    (div-lt_iff_lt-mul {k = 2 ^ (64 - bits)} {x = hash} {y = 2 ^ bits} (pow_pos (64 - bits))).1 (rw whole fits)

-- what is at a place of a list, or something else
abbrev pub at_or : {X Y : Type 0} → (X → Y) → Y → Option X → Y
at_or f other None = other
at_or f other (Some x) = f x

pub at_or-map : {X Y Z : Type 0} (view : X → Y) (f : Y → Z) (other : Z) (o : Option X) → at_or f other (option_map view o) ≡ at_or (λ x. f (view x)) other o
at_or-map view f other None = refl
at_or-map view f other (Some x) = refl

module _ {X : Type 0} where
  pub slice_get-set_same : (xs : List X) (i : ℕ) (x y : X) → slice_get xs i ≡ Some y → slice_get (set xs i x) i ≡ Some x
  slice_get-set_same [] i x y e = cc
  slice_get-set_same (z ∷ zs) zero x y e = refl
  slice_get-set_same (z ∷ zs) (suc i) x y e = slice_get-set_same zs i x y e

  pub slice_get-set_other : (xs : List X) (i j : ℕ) (x : X) → j ≢ i → slice_get (set xs i x) j ≡ slice_get xs j
  slice_get-set_other [] i j x ne = refl
  slice_get-set_other (z ∷ zs) zero zero x ne = absurd (ne refl)
  slice_get-set_other (z ∷ zs) zero (suc j) x ne = refl
  slice_get-set_other (z ∷ zs) (suc i) zero x ne = refl
  slice_get-set_other (z ∷ zs) (suc i) (suc j) x ne = slice_get-set_other zs i j x (λ e. ne (ap suc e))

  pub length-set : (xs : List X) (i : ℕ) (x : X) → length (set xs i x) ≡ length xs
  length-set [] i x = refl
  length-set (z ∷ zs) zero x = refl
  length-set (z ∷ zs) (suc i) x = ap suc (length-set zs i x)

-- what is there below the length
pub there : {X : Type 0} (xs : List X) (i : ℕ) → i < length xs → (x : X) × (slice_get xs i ≡ Some x)
there [] i lt = absurd (let no : ⊥ = omega (arith, lt) in no)
there (x ∷ xs) zero lt = (x, refl)
there (x ∷ xs) (suc i) lt = there xs i (omega (arith, lt))

-- a number is itself
pub eqb_refl : (n : ℕ) → (n == n) ≡ true
eqb_refl n = ⊎_elim (λ same. same.0) (λ other. absurd (other.1 refl)) (eqb_tells n n)
