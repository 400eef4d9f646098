-- How many bits name so many segments.
use Rattle.std.proofs.Common.{◌≡◌, ℕ, ◌<◌, ◌≤◌, ◌^◌, nat_le, Bool, true, false, ◌⊎◌, inl, inr, Option, Some, None, unwrap_or, refl, sym, ◌∙◌, subst, ⊎_elim, arith}
use Rattle.moka_segment_model.specs.Segments.{first_from, bits_for}
use Rattle.moka_segment_model.proofs.Counts.{first_from-passes, first_from-least}
use Rattle.std.proofs.lemmas.Bool.Decides.{eqb_tells, leb_tells}

-- so many bits are enough
abbrev pub enough : ℕ → ℕ → Bool
enough segments bits = nat_le segments (2 ^ bits)

-- what the test says
pub is-enough : (segments bits : ℕ) → segments ≤ 2 ^ bits → enough segments bits ≡ true
is-enough segments bits le = ⊎_elim (λ it. it.0) (λ gt. absurd (let no : ⊥ = omega (arith, le, gt.1) in no)) (leb_tells segments (2 ^ bits))

pub not-enough : (segments bits : ℕ) → 2 ^ bits < segments → enough segments bits ≡ false
not-enough segments bits lt = ⊎_elim (λ it. absurd (let no : ⊥ = omega (arith, lt, it.1) in no)) (λ gt. gt.0) (leb_tells segments (2 ^ bits))

module _ (segments : ℕ) where
  by-first : (P : ℕ → Type 0) → ((k : ℕ) → first_from (enough segments) 0 63 ≡ Some k → P k) → (first_from (enough segments) 0 63 ≡ None → P 63) → P (bits_for segments)
  by-first P some none = go (first_from (enough segments) 0 63) refl
    where
      go : (o : Option ℕ) → first_from (enough segments) 0 63 ≡ o → P (unwrap_or o 63)
      go None e = none e
      go (Some k) e = some k e

  pub bits_for-few : bits_for segments < 64
  bits_for-few = by-first (λ bits. bits < 64) (λ k e. let it = first_from-passes (enough segments) 0 63 k e in omega (arith, it.0)) (λ e. omega arith)

  pub bits_for-enough : segments ≤ 2 ^ 63 → segments ≤ 2 ^ bits_for segments
  bits_for-enough most = by-first (λ bits. segments ≤ 2 ^ bits) (λ k e. told (segments) (2 ^ k) (first_from-passes (enough segments) 0 63 k e).1) (λ e. most)
    where
      told : (a b : ℕ) → nat_le a b ≡ true → a ≤ b
      told a b e = ⊎_elim (λ le. le.1) (λ gt. let no : true ≡ false = sym e ∙ gt.0 in cc) (leb_tells a b)

  pub bits_for-least : (bits : ℕ) → bits < 64 → segments ≤ 2 ^ bits → bits_for segments ≤ bits
  bits_for-least bits few le = ⊎_elim (λ same. subst (λ b. bits_for segments ≤ b) (sym same) (let it = bits_for-few in omega (arith, it))) below (last bits few)
    where
      last : (bits : ℕ) → bits < 64 → (bits ≡ 63) ⊎ (bits < 63)
      last bits few = ⊎_elim (λ same. inl same.1) (λ other. inr (omega (arith, few, other.1))) (eqb_tells bits 63)

      below : bits < 63 → bits_for segments ≤ bits
      below lt =
          let it = first_from-least (enough segments) 0 63 bits (omega arith) (omega (arith, lt)) (is-enough segments bits le) in
          subst (λ o. unwrap_or o 63 ≤ bits) (sym it.1) it.2
