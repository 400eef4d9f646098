-- Relations that compose, such as that of a value to its clones: a clone of a clone is a clone.
use Rattle.std.specs.Prelude.{◌≡◌, ℕ, zero, suc, ◌+◌, ◌⊎◌, List, [], ◌∷◌}
use Rattle.std.proofs.Common.{inl, inr, sym, subst, rules, ◌∙◌}
use Rattle.std.specs.List.{AllZip}
use Rattle.std.specs.Array.{AllZipBelow, AllZipFrom}

-- A relation composes if u is related to w whenever u is related to v, and v to w.
abbrev pub Composes : {A : Type 0} → (A → A → Type 0) → Type 0
Composes {A} R = (u v w : A) → R u v → R v w → R u w

-- If R composes, so does R place by place on lists.
pub each-composes : {A : Type 0} (R : A → A → Type 0) → Composes R → (us vs ws : List A) → AllZip R us vs → AllZip R vs ws → AllZip R us ws
each-composes R compose [] [] ws a b = b
each-composes R compose [] (v ∷ vs) ws a b = absurd a
each-composes R compose (u ∷ us) [] ws a b = absurd a
each-composes R compose (u ∷ us) (v ∷ vs) [] a b = absurd b
each-composes R compose (u ∷ us) (v ∷ vs) (w ∷ ws) a b = (compose u v w a.0 b.0, each-composes R compose us vs ws a.1 b.1)

-- If R and S compose, so do both together on pairs.
pub both-compose : {A B : Type 0} (R : A → A → Type 0) (S : B → B → Type 0) → Composes R → Composes S →
    Composes {A = A × B} (λ p q. R p.0 q.0 × S p.1 q.1)
both-compose R S r s u v w a b = (r u.0 v.0 w.0 a.0 b.0, s u.1 v.1 w.1 a.1 b.1)

-- If R composes, so does being equal or related by R.
pub same-or-composes : {A : Type 0} (R : A → A → Type 0) → Composes R → (u v w : A) → (v ≡ u) ⊎ R u v → (w ≡ v) ⊎ R v w → (w ≡ u) ⊎ R u w
same-or-composes R compose u v w (inl a) (inl b) = inl (b ∙ a)
same-or-composes R compose u v w (inl a) (inr b) = inr (subst (λ x. R x w) a b)
same-or-composes R compose u v w (inr a) (inl b) = inr (subst (λ x. R u x) (sym b) a)
same-or-composes R compose u v w (inr a) (inr b) = inr (compose u v w a b)

-- If R composes, so does R on each of n elements, from the i-th on.
pub from-composes : {A : Type 0} (R : A → A → Type 0) → Composes R → (us vs ws : List A) (i n : ℕ) →
    AllZipFrom R us vs i n → AllZipFrom R vs ws i n → AllZipFrom R us ws i n
from-composes R compose us vs ws i zero a b = tt
from-composes R compose us vs ws i (suc n) (u, v, at_u, at_v, first, rest) (x, w, at_x, at_w, second, others) =
    let same : x ≡ v = sym (at_x.1 v) ∙ at_v.1 v in
    (u, w, at_u, at_w, compose u v w first (subst (λ y. R y w) same second), from-composes R compose us vs ws (i + 1) n rest others)

-- If R composes, so does R on each of the first n elements.
pub below-composes : {A : Type 0} (R : A → A → Type 0) → Composes R → (n : ℕ) → (us vs ws : List A) →
    AllZipBelow R us vs n → AllZipBelow R vs ws n → AllZipBelow R us ws n
below-composes R compose n us vs ws a b = record {
  long = b.long;
  each = from-composes R compose us vs ws 0 n a.each b.each;
  at = λ i d e below. compose _ _ _ (a.at i d d below) (b.at i d e below);
  whole = each-composes R compose us vs ws a.whole b.whole;
}

-- The rules that prove that the clones of a struct or an enum compose, field by field.
pub ruleset composing = (rules, each-composes, below-composes, both-compose, same-or-composes)
