-- A maintenance depends on its admission rule only by what the rule says: equal rules give equal maintenance.
use Rattle.std.proofs.Common.{◌≡◌, ℕ, ◌||◌, ◌==◌, Bool, cond, Option, List, [], ◌∷◌, ◌++◌, take, drop, filter, refl, ap, ◌∙◌}
use Rattle.moka_model.specs.Maintenance.{Queues, Part, fits, front, dead_admitted, dead_waiting, over, judge, judged, parts}
use Rattle.moka_model.proofs.Maintenance.{admitting, dropping}

module _ {X : Type 0} (a b : X → List X → Bool) (same : (x : X) (victims : List X) → a x victims ≡ b x victims) (weight : X → ℕ) (capacity : Option ℕ) where
  judge-same : (admitted : List X) (x : X) (waiting : List X) → judge weight capacity a admitted x waiting ≡ judge weight capacity b admitted x waiting
  judge-same admitted x waiting =
      let n : ℕ = front weight capacity (weight x) admitted in
      ap (λ t. cond (fits weight capacity (weight x) []) (cond (n == 0 || t) (admitting n admitted x waiting) (dropping admitted x waiting)) (dropping admitted x waiting)) (same x (take n admitted))

  judged-same : (admitted waiting : List X) → judged weight capacity a admitted waiting ≡ judged weight capacity b admitted waiting
  judged-same admitted [] = refl
  judged-same admitted (x ∷ xs) =
      ap (λ (p : Part X). p ∷ judged weight capacity a p.after.admitted xs) (judge-same admitted x xs)
      ∙ ap (λ ps. judge weight capacity b admitted x xs ∷ ps) (judged-same (judge weight capacity b admitted x xs).after.admitted xs)

  pub parts-same : (is_live : X → Bool) (q : Queues X) → parts weight capacity is_live a q ≡ parts weight capacity is_live b q
  parts-same is_live q =
      let admitted : List X = filter is_live q.admitted in
      let waiting : List X = filter is_live q.waiting in
      ap (λ ps. dead_admitted is_live [] q.admitted q.waiting ++ (dead_waiting is_live admitted [] q.waiting ++ (over weight capacity admitted waiting ++ ps))) (judged-same (drop (front weight capacity 0 admitted) admitted) waiting)
