-- What is left of a list once some of it are taken out, in the same order; a maintenance leaves such a rest.
use Rattle.std.proofs.Common.{◌≡◌, ◌⊎◌, inl, inr, ℕ, zero, suc, Bool, true, false, cond, Option, List, [], ◌∷◌, ◌++◌, drop, filter, refl, sym, ◌∙◌, subst, append_assoc, append-nil}
use Rattle.std.specs.List.{All}
use Rattle.std.proofs.lemmas.Bool.{cond_both}
use Rattle.std.proofs.lemmas.List.Elements.{All-nil, All-cons, All-head, All-tail}
use Rattle.moka_model.specs.Maintenance.{Queues, Part, fits, front, dead_admitted, dead_waiting, over, judge, judged, parts, done, after_parts}
use Rattle.moka_model.specs.MaintenanceLaws.{queues}
use Rattle.moka_model.proofs.Callers.{within, judge_both, AllAfter, AllAfter-append, AllAfter-done, AllAfter-last}

module _ {A : Type 0} where
  abbrev pub IsRestOf : List A → List A → Type 0
  IsRestOf [] ys = Unit {0}
  IsRestOf (x ∷ xs) [] = ⊥
  IsRestOf (x ∷ xs) (y ∷ ys) = ((x ≡ y) × IsRestOf xs ys) ⊎ IsRestOf (x ∷ xs) ys

  rest_less : (xs ys : List A) (y : A) → IsRestOf xs ys → IsRestOf xs (y ∷ ys)
  rest_less [] ys y rest = tt
  rest_less (x ∷ xs) ys y rest = inr rest

  rest_whole : (xs : List A) → IsRestOf xs xs
  rest_whole [] = tt
  rest_whole (x ∷ xs) = inl (refl, rest_whole xs)

  rest-trans : (xs ys zs : List A) → IsRestOf xs ys → IsRestOf ys zs → IsRestOf xs zs
  rest-trans [] ys zs a b = tt
  rest-trans (x ∷ xs) [] zs a b = absurd a
  rest-trans (x ∷ xs) (y ∷ ys) [] a b = absurd b
  rest-trans (x ∷ xs) (y ∷ ys) (z ∷ zs) a (inr b) = inr (rest-trans (x ∷ xs) (y ∷ ys) zs a b)
  rest-trans (x ∷ xs) (y ∷ ys) (z ∷ zs) (inl a) (inl b) = inl (a.0 ∙ b.0, rest-trans xs ys zs a.1 b.1)
  rest-trans (x ∷ xs) (y ∷ ys) (z ∷ zs) (inr a) (inl b) = inr (rest-trans (x ∷ xs) ys zs a b.1)

  rest-filter : (t : A → Bool) (xs : List A) → IsRestOf (filter t xs) xs
  rest-filter t [] = tt
  rest-filter t (x ∷ xs) = go (t x) (rest-filter t xs)
    where
      go : (s : Bool) → IsRestOf (filter t xs) xs → IsRestOf (cond s (x ∷ filter t xs) (filter t xs)) (x ∷ xs)
      go true rest = inl (refl, rest)
      go false rest = rest_less (filter t xs) xs x rest

  rest-drop : (n : ℕ) (xs : List A) → IsRestOf (drop n xs) xs
  rest-drop zero xs = rest_whole xs
  rest-drop (suc n) [] = tt
  rest-drop (suc n) (x ∷ xs) = rest_less (drop n xs) xs x (rest-drop n xs)

  rest-append : (xs ys us vs : List A) → IsRestOf xs ys → IsRestOf us vs → IsRestOf (xs ++ us) (ys ++ vs)
  rest-append [] [] us vs a b = b
  rest-append [] (y ∷ ys) us vs a b = rest_less us (ys ++ vs) y (rest-append [] ys us vs tt b)
  rest-append (x ∷ xs) [] us vs a b = absurd a
  rest-append (x ∷ xs) (y ∷ ys) us vs (inl a) b = inl (a.0, rest-append xs ys us vs a.1 b)
  rest-append (x ∷ xs) (y ∷ ys) us vs (inr a) b = inr (rest-append (x ∷ xs) ys us vs a b)

  -- what is true of each of a list is true of each of a rest
  pub All-rest : (P : A → Type 0) (xs ys : List A) → IsRestOf xs ys → All P ys → All P xs
  All-rest P [] ys rest all = All-nil P
  All-rest P (x ∷ xs) [] rest all = absurd rest
  All-rest P (x ∷ xs) (y ∷ ys) (inl rest) all = All-cons P x xs (subst P (sym rest.0) (All-head P y ys all)) (All-rest P xs ys rest.1 (All-tail P y ys all))
  All-rest P (x ∷ xs) (y ∷ ys) (inr rest) all = All-rest P (x ∷ xs) ys rest (All-tail P y ys all)

  -- the first of two joined lists is a rest of both
  rest-front : (xs ys : List A) → IsRestOf xs (xs ++ ys)
  rest-front xs ys = subst (λ zs. IsRestOf zs (xs ++ ys)) (append-nil xs) (rest-append xs xs [] ys (rest_whole xs) tt)

module _ {X : Type 0} (all wait : List X) where
  -- both orders together are a rest of all, and what waits is one of what waited
  abbrev IsLeft : Queues X → Type 0
  IsLeft q = IsRestOf (q.admitted ++ q.waiting) all × IsRestOf q.waiting wait

  left-dead_admitted : (is_live : X → Bool) (kept xs waiting : List X) → IsRestOf ((kept ++ xs) ++ waiting) all → IsRestOf waiting wait → AllAfter IsLeft (dead_admitted is_live kept xs waiting)
  left-dead_admitted is_live kept [] waiting a w = tt
  left-dead_admitted is_live kept (x ∷ xs) waiting a w =
      let one_less : IsRestOf (kept ++ xs) (kept ++ x ∷ xs) = rest-append kept kept xs (x ∷ xs) (rest_whole kept) (rest_less xs xs x (rest_whole xs)) in
      let fewer : IsRestOf ((kept ++ xs) ++ waiting) all = rest-trans ((kept ++ xs) ++ waiting) ((kept ++ x ∷ xs) ++ waiting) all (rest-append (kept ++ xs) (kept ++ x ∷ xs) waiting waiting one_less (rest_whole waiting)) a in
      let same : IsRestOf (((kept ++ x ∷ []) ++ xs) ++ waiting) all = subst (λ l. IsRestOf (l ++ waiting) all) (sym (append_assoc kept (x ∷ []) xs)) a in
      cond_both (is_live x) (dead_admitted is_live (kept ++ x ∷ []) xs waiting) (record { evicted = x ∷ []; after = queues (kept ++ xs) waiting } ∷ dead_admitted is_live kept xs waiting) (AllAfter IsLeft)
      (λ _. left-dead_admitted is_live (kept ++ x ∷ []) xs waiting same w)
      (λ _. ((fewer, w), left-dead_admitted is_live kept xs waiting fewer w))

  left-dead_waiting : (is_live : X → Bool) (admitted kept xs : List X) → IsRestOf (admitted ++ (kept ++ xs)) all → IsRestOf (kept ++ xs) wait → AllAfter IsLeft (dead_waiting is_live admitted kept xs)
  left-dead_waiting is_live admitted kept [] a w = tt
  left-dead_waiting is_live admitted kept (x ∷ xs) a w =
      let one_less : IsRestOf (kept ++ xs) (kept ++ x ∷ xs) = rest-append kept kept xs (x ∷ xs) (rest_whole kept) (rest_less xs xs x (rest_whole xs)) in
      let fewer : IsRestOf (admitted ++ (kept ++ xs)) all = rest-trans (admitted ++ (kept ++ xs)) (admitted ++ (kept ++ x ∷ xs)) all (rest-append admitted admitted (kept ++ xs) (kept ++ x ∷ xs) (rest_whole admitted) one_less) a in
      let less : IsRestOf (kept ++ xs) wait = rest-trans (kept ++ xs) (kept ++ x ∷ xs) wait one_less w in
      cond_both (is_live x) (dead_waiting is_live admitted (kept ++ x ∷ []) xs) (record { evicted = x ∷ []; after = queues admitted (kept ++ xs) } ∷ dead_waiting is_live admitted kept xs) (AllAfter IsLeft)
      (λ _. left-dead_waiting is_live admitted (kept ++ x ∷ []) xs (subst (λ l. IsRestOf (admitted ++ l) all) (sym (append_assoc kept (x ∷ []) xs)) a) (subst (λ l. IsRestOf l wait) (sym (append_assoc kept (x ∷ []) xs)) w))
      (λ _. ((fewer, less), left-dead_waiting is_live admitted kept xs fewer less))

  module _ (weight : X → ℕ) (capacity : Option ℕ) where
    left-over : (xs waiting : List X) → IsRestOf (xs ++ waiting) all → IsRestOf waiting wait → AllAfter IsLeft (over weight capacity xs waiting)
    left-over [] waiting a w = tt
    left-over (x ∷ xs) waiting a w =
        let fewer : IsRestOf (xs ++ waiting) all = rest-trans (xs ++ waiting) (x ∷ (xs ++ waiting)) all (rest_less (xs ++ waiting) (xs ++ waiting) x (rest_whole (xs ++ waiting))) a in
        cond_both (fits weight capacity 0 (x ∷ xs)) [] (record { evicted = x ∷ []; after = queues xs waiting } ∷ over weight capacity xs waiting) (AllAfter IsLeft)
        (λ _. tt)
        (λ _. ((fewer, w), left-over xs waiting fewer w))

    left-judged : (wins : X → List X → Bool) (admitted waiting : List X) → IsRestOf (admitted ++ waiting) all → IsRestOf waiting wait → AllAfter IsLeft (judged weight capacity wins admitted waiting)
    left-judged wins admitted [] a w = tt
    left-judged wins admitted (x ∷ xs) a w =
        let n : ℕ = front weight capacity (weight x) admitted in
        let less : IsRestOf xs wait = rest-trans xs (x ∷ xs) wait (rest_less xs xs x (rest_whole xs)) w in
        let enters : IsRestOf ((drop n admitted ++ x ∷ []) ++ xs) all =
        subst (λ l. IsRestOf l all) (sym (append_assoc (drop n admitted) (x ∷ []) xs)) (rest-trans (drop n admitted ++ x ∷ xs) (admitted ++ x ∷ xs) all (rest-append (drop n admitted) admitted (x ∷ xs) (x ∷ xs) (rest-drop n admitted) (rest_whole (x ∷ xs))) a) in
        let leaves : IsRestOf (admitted ++ xs) all = rest-trans (admitted ++ xs) (admitted ++ x ∷ xs) all (rest-append admitted admitted xs (x ∷ xs) (rest_whole admitted) (rest_less xs xs x (rest_whole xs))) a in
        let here : IsLeft (judge weight capacity wins admitted x xs).after = judge_both weight capacity wins admitted x xs (λ p. IsLeft p.after) (λ _. (enters, less)) (leaves, less) in
        let next : IsRestOf ((judge weight capacity wins admitted x xs).after.admitted ++ xs) all = judge_both weight capacity wins admitted x xs (λ p. IsRestOf (p.after.admitted ++ xs) all) (λ _. enters) leaves in
        (here, left-judged wins (judge weight capacity wins admitted x xs).after.admitted xs next less)

-- within any limit both orders after a maintenance are a rest of those before it, and what waits is one of what waited
module _ {X : Type 0} (weight : X → ℕ) (capacity : Option ℕ) (wins : X → List X → Bool) (is_live : X → Bool) (limit : Option ℕ) (q : Queues X) where
  left-parts : AllAfter (IsLeft (q.admitted ++ q.waiting) q.waiting) (parts weight capacity is_live wins q)
  left-parts =
      let all : List X = q.admitted ++ q.waiting in
      let admitted : List X = filter is_live q.admitted in
      let waiting : List X = filter is_live q.waiting in
      let stay : List X = within weight capacity is_live wins q in
      let P : Queues X → Type 0 = IsLeft all q.waiting in
      let d : List (Part X) = judged weight capacity wins stay waiting in
      let c : List (Part X) = over weight capacity admitted waiting in
      let b : List (Part X) = dead_waiting is_live admitted [] q.waiting in
      let alive : IsRestOf waiting q.waiting = rest-filter is_live q.waiting in
      let both : IsRestOf (admitted ++ waiting) all = rest-append admitted q.admitted waiting q.waiting (rest-filter is_live q.admitted) alive in
      let kept : IsRestOf stay q.admitted = rest-trans stay admitted q.admitted (rest-drop (front weight capacity 0 admitted) admitted) (rest-filter is_live q.admitted) in
      AllAfter-append P (dead_admitted is_live [] q.admitted q.waiting) (b ++ (c ++ d)) (left-dead_admitted all q.waiting is_live [] q.admitted q.waiting (rest_whole all) (rest_whole q.waiting))
      (AllAfter-append P b (c ++ d) (left-dead_waiting all q.waiting is_live admitted [] q.waiting (rest-append admitted q.admitted q.waiting q.waiting (rest-filter is_live q.admitted) (rest_whole q.waiting)) (rest_whole q.waiting))
      (AllAfter-append P c d (left-over all q.waiting weight capacity admitted waiting both alive)
      (left-judged all q.waiting weight capacity wins stay waiting (rest-append stay q.admitted waiting q.waiting kept alive) alive)))

  abbrev after : Queues X
  after = after_parts q (done limit (parts weight capacity is_live wins q))

  left-after : IsLeft (q.admitted ++ q.waiting) q.waiting after
  left-after =
      let P : Queues X → Type 0 = IsLeft (q.admitted ++ q.waiting) q.waiting in
      AllAfter-last P q (done limit (parts weight capacity is_live wins q)) (rest_whole (q.admitted ++ q.waiting), rest_whole q.waiting) (AllAfter-done P limit (parts weight capacity is_live wins q) left-parts)

  -- what is admitted after it is left of both orders
  pub rest-after : IsRestOf after.admitted (q.admitted ++ q.waiting)
  rest-after = rest-trans after.admitted (after.admitted ++ after.waiting) (q.admitted ++ q.waiting) (rest-front after.admitted after.waiting) left-after.0

  -- and what waits is left of what waited
  pub rest-waiting : IsRestOf after.waiting q.waiting
  rest-waiting = left-after.1
