-- Residents are evicted as a prefix of the access order, whatever the admission rule.
use Rattle.std.proofs.Common.{◌≡◌, ℕ, ◌+◌, Bool, Option, List, [], ◌∷◌, ◌++◌, drop, filter, sym, ap, ◌∙◌, inl, inr, refl, append_assoc, append-nil, drop-drop}
use Rattle.std.proofs.lemmas.List.{drop-append-le}
use Rattle.moka_model.specs.Maintenance.{Queues, front, parts, after_parts}
use Rattle.moka_model.specs.MaintenanceLaws.{AreAmong}
use Rattle.moka_model.proofs.Callers.{front-le, judge_both, admitted_after, after-parts}

-- some of a list are some of a longer one
among_more : {X : Type 0} (xs ys : List X) (y : X) → AreAmong xs ys → AreAmong xs (y ∷ ys)
among_more [] ys y are = tt
among_more (x ∷ xs) ys y are = inr are

module _ {X : Type 0} (weight : X → ℕ) (capacity : Option ℕ) (wins : X → List X → Bool) where
  -- what stays of some that are admitted and others that wait
  abbrev pub Stays : List X → List X → List X → Type 0
  Stays admitted waiting stay = (n : ℕ) × (joined : List X) × AreAmong joined waiting × (stay ≡ drop n (admitted ++ joined))

  -- a shorter front
  stays_after : (admitted waiting stay : List X) (v : ℕ) → ((joined : List X) → drop v admitted ++ joined ≡ drop v (admitted ++ joined)) → Stays (drop v admitted) waiting stay → Stays admitted waiting stay
  stays_after admitted waiting stay v seam (n, joined, among, is) = (v + n, joined, among, is ∙ ap (drop n) (seam joined) ∙ drop-drop n v (admitted ++ joined))

  -- one more joined
  stays_joined : (admitted : List X) (x : X) (waiting stay : List X) → Stays (admitted ++ x ∷ []) waiting stay → Stays admitted (x ∷ waiting) stay
  stays_joined admitted x waiting stay (n, joined, among, is) = (n, x ∷ joined, inl (refl, among), is ∙ ap (drop n) (append_assoc admitted (x ∷ []) joined))

  stays_dropped : (admitted : List X) (x : X) (waiting stay : List X) → Stays admitted waiting stay → Stays admitted (x ∷ waiting) stay
  stays_dropped admitted x waiting stay (n, joined, among, is) = (n, joined, among_more joined waiting x among, is)

  pub admitted_after-stays : (admitted waiting : List X) → Stays admitted waiting (admitted_after weight capacity wins admitted waiting)
  admitted_after-stays admitted [] = (0, [], tt, sym (append-nil admitted))
  admitted_after-stays admitted (x ∷ xs) =
      let victims : ℕ = front weight capacity (weight x) admitted in
      judge_both weight capacity wins admitted x xs (λ p. Stays admitted (x ∷ xs) (admitted_after weight capacity wins p.after.admitted xs))
      (λ _. stays_after admitted (x ∷ xs) (admitted_after weight capacity wins (drop victims admitted ++ x ∷ []) xs) victims (λ joined. sym (drop-append-le victims admitted joined (front-le weight capacity (weight x) admitted)))
      (stays_joined (drop victims admitted) x xs (admitted_after weight capacity wins (drop victims admitted ++ x ∷ []) xs) (admitted_after-stays (drop victims admitted ++ x ∷ []) xs)))
      (stays_dropped admitted x xs (admitted_after weight capacity wins admitted xs) (admitted_after-stays admitted xs))

module _ {X : Type 0} (weight : X → ℕ) (capacity : Option ℕ) (is_live : X → Bool) (wins : X → List X → Bool) (q : Queues X) where
  pub maintenance-stays : Stays weight capacity wins (filter is_live q.admitted) (filter is_live q.waiting) (after_parts q (parts weight capacity is_live wins q)).admitted
  maintenance-stays =
      let admitted : List X = filter is_live q.admitted in
      let waiting : List X = filter is_live q.waiting in
      let n : ℕ = front weight capacity 0 admitted in
      rw (after-parts weight capacity is_live wins q)
      (stays_after weight capacity wins admitted waiting (admitted_after weight capacity wins (drop n admitted) waiting) n (λ joined. sym (drop-append-le n admitted joined (front-le weight capacity 0 admitted)))
      (admitted_after-stays weight capacity wins (drop n admitted) waiting))
