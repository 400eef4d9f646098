-- Within any limit, a maintenance makes neither what waits longer, nor the admitted heavier than the capacity.
use Rattle.std.proofs.Common.{◌≡◌, ℕ, ◌+◌, ◌-◌, ◌≤◌, Bool, not, nat_le, Option, Some, None, List, [], ◌∷◌, ◌++◌, length, drop, filter, refl, length-append, arith}
use Rattle.std.proofs.lemmas.Bool.{cond_both, leb-true}
use Rattle.std.proofs.lemmas.List.Filters.{length-filter_both}
use Rattle.moka_model.specs.Maintenance.{Queues, Part, total, fits, front, dead_admitted, dead_waiting, over, judge, judged, parts, done, after_parts}
use Rattle.moka_model.specs.MaintenanceLaws.{queues}
use Rattle.moka_model.proofs.Maintenance.{total-append, fits-none, fits-drop_front, fits-admitted, judge_both, within}

-- no more pass a test than there are
pub length-filter-le : {A : Type 0} (p : A → Bool) (xs : List A) → length (filter p xs) ≤ length xs
length-filter-le p xs = let both = length-filter_both p (λ x. not (p x)) (λ x. refl) xs in omega arith

total-filter-le : {X : Type 0} (weight : X → ℕ) (p : X → Bool) (xs : List X) → total weight (filter p xs) ≤ total weight xs
total-filter-le weight p [] = omega arith
total-filter-le weight p (x ∷ xs) = let rest = total-filter-le weight p xs in cond_both (p x) (x ∷ filter p xs) (filter p xs) (λ ys. total weight ys ≤ weight x + total weight xs) (λ _. omega arith) (λ _. omega arith)

module _ {X : Type 0} (P : Queues X → Type 0) where
  -- it is true of the queues after each part
  abbrev pub AllAfter : List (Part X) → Type 0
  AllAfter [] = Unit {0}
  AllAfter (p ∷ ps) = P p.after × AllAfter ps

  pub AllAfter-append : (ps rs : List (Part X)) → AllAfter ps → AllAfter rs → AllAfter (ps ++ rs)
  AllAfter-append [] rs a b = b
  AllAfter-append (p ∷ ps) rs a b = (a.0, AllAfter-append ps rs a.1 b)

  pub AllAfter-done : (limit : Option ℕ) (ps : List (Part X)) → AllAfter ps → AllAfter (done limit ps)
  AllAfter-done None ps a = a
  AllAfter-done (Some limit) [] a = tt
  AllAfter-done (Some limit) (p ∷ ps) a = cond_both (nat_le (length p.evicted) limit) (p ∷ done (Some (limit - length p.evicted)) ps) [] AllAfter (λ _. (a.0, AllAfter-done (Some (limit - length p.evicted)) ps a.1)) (λ _. tt)

  -- so it is after all of them
  pub AllAfter-last : (q : Queues X) (ps : List (Part X)) → P q → AllAfter ps → P (after_parts q ps)
  AllAfter-last q [] here all = here
  AllAfter-last q (p ∷ ps) here all = AllAfter-last p.after ps all.0 all.1

module _ {X : Type 0} (n : ℕ) where
  abbrev WaitAtMost : Queues X → Type 0
  WaitAtMost q = length q.waiting ≤ n

  wait-dead_admitted : (is_live : X → Bool) (kept xs waiting : List X) → length waiting ≤ n → AllAfter WaitAtMost (dead_admitted is_live kept xs waiting)
  wait-dead_admitted is_live kept [] waiting le = tt
  wait-dead_admitted is_live kept (x ∷ xs) waiting le =
      cond_both (is_live x) (dead_admitted is_live (kept ++ x ∷ []) xs waiting) (record { evicted = x ∷ []; after = queues (kept ++ xs) waiting } ∷ dead_admitted is_live kept xs waiting) (AllAfter WaitAtMost)
      (λ _. wait-dead_admitted is_live (kept ++ x ∷ []) xs waiting le)
      (λ _. (le, wait-dead_admitted is_live kept xs waiting le))

  wait-dead_waiting : (is_live : X → Bool) (admitted kept xs : List X) → length kept + length xs ≤ n → AllAfter WaitAtMost (dead_waiting is_live admitted kept xs)
  wait-dead_waiting is_live admitted kept [] le = tt
  wait-dead_waiting is_live admitted kept (x ∷ xs) le =
      let longer : length (kept ++ x ∷ []) ≡ length kept + length (x ∷ []) = length-append kept (x ∷ []) in
      let rest : length (kept ++ xs) ≡ length kept + length xs = length-append kept xs in
      let shorter : length (kept ++ xs) ≤ n = omega arith in
      let next : length (kept ++ x ∷ []) + length xs ≤ n = omega arith in
      cond_both (is_live x) (dead_waiting is_live admitted (kept ++ x ∷ []) xs) (record { evicted = x ∷ []; after = queues admitted (kept ++ xs) } ∷ dead_waiting is_live admitted kept xs) (AllAfter WaitAtMost)
      (λ _. wait-dead_waiting is_live admitted (kept ++ x ∷ []) xs next)
      (λ _. (shorter, wait-dead_waiting is_live admitted kept xs (omega arith)))

  module _ (weight : X → ℕ) (capacity : Option ℕ) where
    wait-over : (xs waiting : List X) → length waiting ≤ n → AllAfter WaitAtMost (over weight capacity xs waiting)
    wait-over [] waiting le = tt
    wait-over (x ∷ xs) waiting le =
        cond_both (fits weight capacity 0 (x ∷ xs)) [] (record { evicted = x ∷ []; after = queues xs waiting } ∷ over weight capacity xs waiting) (AllAfter WaitAtMost)
        (λ _. tt)
        (λ _. (le, wait-over xs waiting le))

    wait-judged : (wins : X → List X → Bool) (admitted waiting : List X) → length waiting ≤ n → AllAfter WaitAtMost (judged weight capacity wins admitted waiting)
    wait-judged wins admitted [] le = tt
    wait-judged wins admitted (x ∷ xs) le =
        let shorter : length xs ≤ n = omega arith in
        (judge_both weight capacity wins admitted x xs (λ p. length p.after.waiting ≤ n) (λ _. shorter) shorter, wait-judged wins (judge weight capacity wins admitted x xs).after.admitted xs shorter)

    wait-parts : (is_live : X → Bool) (wins : X → List X → Bool) (q : Queues X) → length q.waiting ≤ n → AllAfter WaitAtMost (parts weight capacity is_live wins q)
    wait-parts is_live wins q le =
        let admitted : List X = filter is_live q.admitted in
        let waiting : List X = filter is_live q.waiting in
        let fewer = length-filter-le is_live q.waiting in
        let here : length waiting ≤ n = omega arith in
        let d : List (Part X) = judged weight capacity wins (within weight capacity is_live wins q) waiting in
        let c : List (Part X) = over weight capacity admitted waiting in
        let b : List (Part X) = dead_waiting is_live admitted [] q.waiting in
        AllAfter-append WaitAtMost (dead_admitted is_live [] q.admitted q.waiting) (b ++ (c ++ d)) (wait-dead_admitted is_live [] q.admitted q.waiting le)
        (AllAfter-append WaitAtMost b (c ++ d) (wait-dead_waiting is_live admitted [] q.waiting (omega arith))
        (AllAfter-append WaitAtMost c d (wait-over admitted waiting here) (wait-judged wins (within weight capacity is_live wins q) waiting here)))

-- no more wait than before
pub waiting-within-le : {X : Type 0} (weight : X → ℕ) (capacity : Option ℕ) (is_live : X → Bool) (wins : X → List X → Bool) (limit : Option ℕ) (q : Queues X) → length (after_parts q (done limit (parts weight capacity is_live wins q))).waiting ≤ length q.waiting
waiting-within-le weight capacity is_live wins limit q =
    let n : ℕ = length q.waiting in
    AllAfter-last (WaitAtMost n) q (done limit (parts weight capacity is_live wins q)) (omega arith) (AllAfter-done (WaitAtMost n) limit (parts weight capacity is_live wins q) (wait-parts n weight capacity is_live wins q (omega arith)))

module _ {X : Type 0} (weight : X → ℕ) (capacity : ℕ) where
  abbrev IsLight : Queues X → Type 0
  IsLight q = total weight q.admitted ≤ capacity

  light-dead_admitted : (is_live : X → Bool) (kept xs waiting : List X) → total weight kept + total weight xs ≤ capacity → AllAfter IsLight (dead_admitted is_live kept xs waiting)
  light-dead_admitted is_live kept [] waiting le = tt
  light-dead_admitted is_live kept (x ∷ xs) waiting le =
      let longer = total-append weight kept (x ∷ []) in
      let rest = total-append weight kept xs in
      let lighter : total weight (kept ++ xs) ≤ capacity = omega arith in
      let next : total weight (kept ++ x ∷ []) + total weight xs ≤ capacity = omega arith in
      cond_both (is_live x) (dead_admitted is_live (kept ++ x ∷ []) xs waiting) (record { evicted = x ∷ []; after = queues (kept ++ xs) waiting } ∷ dead_admitted is_live kept xs waiting) (AllAfter IsLight)
      (λ _. light-dead_admitted is_live (kept ++ x ∷ []) xs waiting next)
      (λ _. (lighter, light-dead_admitted is_live kept xs waiting (omega arith)))

  light-dead_waiting : (is_live : X → Bool) (admitted kept xs : List X) → total weight admitted ≤ capacity → AllAfter IsLight (dead_waiting is_live admitted kept xs)
  light-dead_waiting is_live admitted kept [] le = tt
  light-dead_waiting is_live admitted kept (x ∷ xs) le =
      cond_both (is_live x) (dead_waiting is_live admitted (kept ++ x ∷ []) xs) (record { evicted = x ∷ []; after = queues admitted (kept ++ xs) } ∷ dead_waiting is_live admitted kept xs) (AllAfter IsLight)
      (λ _. light-dead_waiting is_live admitted (kept ++ x ∷ []) xs le)
      (λ _. (le, light-dead_waiting is_live admitted kept xs le))

  light-over : (xs waiting : List X) → total weight xs ≤ capacity → AllAfter IsLight (over weight (Some capacity) xs waiting)
  light-over [] waiting le = tt
  light-over (x ∷ xs) waiting le =
      let lighter : total weight xs ≤ capacity = omega arith in
      cond_both (fits weight (Some capacity) 0 (x ∷ xs)) [] (record { evicted = x ∷ []; after = queues xs waiting } ∷ over weight (Some capacity) xs waiting) (AllAfter IsLight)
      (λ _. tt)
      (λ _. (lighter, light-over xs waiting lighter))

  light-judged : (wins : X → List X → Bool) (admitted waiting : List X) → total weight admitted ≤ capacity → AllAfter IsLight (judged weight (Some capacity) wins admitted waiting)
  light-judged wins admitted [] le = tt
  light-judged wins admitted (x ∷ xs) le =
      let kept : List X = drop (front weight (Some capacity) (weight x) admitted) admitted in
      let here : total weight (judge weight (Some capacity) wins admitted x xs).after.admitted ≤ capacity =
      judge_both weight (Some capacity) wins admitted x xs (λ p. total weight p.after.admitted ≤ capacity)
      (λ alone. let within = leb-true (0 + total weight (kept ++ x ∷ [])) capacity (fits-admitted weight (Some capacity) admitted x alone) in omega arith)
      le in
      (here, light-judged wins (judge weight (Some capacity) wins admitted x xs).after.admitted xs here)

  light-parts : (is_live : X → Bool) (wins : X → List X → Bool) (q : Queues X) → total weight q.admitted ≤ capacity → AllAfter IsLight (parts weight (Some capacity) is_live wins q)
  light-parts is_live wins q le =
      let admitted : List X = filter is_live q.admitted in
      let waiting : List X = filter is_live q.waiting in
      let lighter = total-filter-le weight is_live q.admitted in
      let here : total weight admitted ≤ capacity = omega arith in
      let stay : List X = within weight (Some capacity) is_live wins q in
      let fit = leb-true (0 + total weight stay) capacity (fits-drop_front weight (Some capacity) 0 admitted (fits-none weight (Some capacity))) in
      let d : List (Part X) = judged weight (Some capacity) wins stay waiting in
      let c : List (Part X) = over weight (Some capacity) admitted waiting in
      let b : List (Part X) = dead_waiting is_live admitted [] q.waiting in
      AllAfter-append IsLight (dead_admitted is_live [] q.admitted q.waiting) (b ++ (c ++ d)) (light-dead_admitted is_live [] q.admitted q.waiting (omega arith))
      (AllAfter-append IsLight b (c ++ d) (light-dead_waiting is_live admitted [] q.waiting here)
      (AllAfter-append IsLight c d (light-over admitted waiting here) (light-judged wins stay waiting (omega arith))))

  -- where the admitted were within the capacity, they stay so
  pub admitted-within-le : (is_live : X → Bool) (wins : X → List X → Bool) (limit : Option ℕ) (q : Queues X) → total weight q.admitted ≤ capacity → total weight (after_parts q (done limit (parts weight (Some capacity) is_live wins q))).admitted ≤ capacity
  admitted-within-le is_live wins limit q le =
      AllAfter-last IsLight q (done limit (parts weight (Some capacity) is_live wins q)) le (AllAfter-done IsLight limit (parts weight (Some capacity) is_live wins q) (light-parts is_live wins q le))
