-- What leaves in each stage of a maintenance, and how the queues stand after it.
use Rattle.std.proofs.Common.{◌≡◌, ℕ, zero, suc, ◌+◌, ◌<◌, ◌≤◌, ◌||◌, ◌==◌, Bool, true, false, not, if◌then◌else◌, nat_le, Option, Some, None, List, [], ◌∷◌, ◌++◌, length, take, drop, filter, refl, sym, ap, ◌∙◌, ⊎_elim, append_assoc, add-one, arith}
use Rattle.std.specs.List.{All}
use Rattle.std.proofs.lemmas.Bool.{cond_both, cases_Bool, cond-true, leb-true, le-leb}
use Rattle.std.proofs.lemmas.List.Elements.{All-drop, All-push, filter_passes, All-head, All-tail}
use Rattle.moka_model.specs.Maintenance.{Queues, Part, total, fits, front, dead_admitted, dead_waiting, over, judge, judged, parts, evicted_in, after_parts}
use Rattle.moka_model.specs.MaintenanceLaws.{queues}

module _ {X : Type 0} where
  pub evicted_in-append : (ps rs : List (Part X)) → evicted_in (ps ++ rs) ≡ evicted_in ps ++ evicted_in rs
  evicted_in-append [] rs = refl
  evicted_in-append (p ∷ ps) rs = rw (evicted_in-append ps rs) (sym (append_assoc p.evicted (evicted_in ps) (evicted_in rs)))

  pub after_parts-append : (q : Queues X) (ps rs : List (Part X)) → after_parts q (ps ++ rs) ≡ after_parts (after_parts q ps) rs
  after_parts-append q [] rs = refl
  after_parts-append q (p ∷ ps) rs = after_parts-append p.after ps rs

module _ {X : Type 0} (weight : X → ℕ) where
  pub total-append : (xs ys : List X) → total weight (xs ++ ys) ≡ total weight xs + total weight ys
  total-append [] ys = omega arith
  total-append (x ∷ xs) ys = let step = total-append xs ys in omega arith

  -- equal weights fit alike
  pub fits-same : (capacity : Option ℕ) (m n : ℕ) (xs ys : List X) → m + total weight xs ≡ n + total weight ys → fits weight capacity m xs ≡ fits weight capacity n ys
  fits-same None m n xs ys e = refl
  fits-same (Some c) m n xs ys e = ap (λ k. nat_le k c) e

  -- what is no heavier fits too
  pub lighter-fits : (capacity : Option ℕ) (m n : ℕ) (xs ys : List X) → n + total weight ys ≤ m + total weight xs → fits weight capacity m xs ≡ true → fits weight capacity n ys ≡ true
  lighter-fits None m n xs ys le fit = refl
  lighter-fits (Some c) m n xs ys le fit = let within = leb-true (m + total weight xs) c fit in le-leb (n + total weight ys) c (omega arith)

  -- nothing fits beside nothing
  pub fits-none : (capacity : Option ℕ) → fits weight capacity 0 [] ≡ true
  fits-none None = refl
  fits-none (Some c) = le-leb (0 + 0) c (omega arith)

module _ {X : Type 0} (weight : X → ℕ) (capacity : Option ℕ) (more : ℕ) where
  -- the front is enough
  pub fits-drop_front : (xs : List X) → fits weight capacity more [] ≡ true → fits weight capacity more (drop (front weight capacity more xs) xs) ≡ true
  fits-drop_front [] alone = alone
  fits-drop_front (x ∷ xs) alone = cond_both (fits weight capacity more (x ∷ xs)) 0 (front weight capacity more xs + 1) (λ n. fits weight capacity more (drop n (x ∷ xs)) ≡ true) (λ e. e) (λ _. rw add-one (fits-drop_front xs alone))

  -- no shorter one is
  pub fits-drop_shorter : (xs : List X) (m : ℕ) → m < front weight capacity more xs → fits weight capacity more (drop m xs) ≡ false
  fits-drop_shorter [] m less = absurd (omega arith)
  fits-drop_shorter (x ∷ xs) zero less = cond_both (fits weight capacity more (x ∷ xs)) 0 (front weight capacity more xs + 1) (λ n. 0 < n → fits weight capacity more (x ∷ xs) ≡ false) (λ _ none. absurd (omega arith)) (λ e _. e) less
  fits-drop_shorter (x ∷ xs) (suc m) less = cond_both (fits weight capacity more (x ∷ xs)) 0 (front weight capacity more xs + 1) (λ n. suc m < n → fits weight capacity more (drop m xs) ≡ false) (λ _ none. absurd (omega arith)) (λ _ below. fits-drop_shorter xs m (omega arith)) less

  -- where all fits, no front has to leave
  pub front-fits : (xs : List X) → fits weight capacity more xs ≡ true → front weight capacity more xs ≡ 0
  front-fits [] fit = refl
  front-fits (x ∷ xs) fit = cond-true (fits weight capacity more (x ∷ xs)) 0 (front weight capacity more xs + 1) fit

  pub front-le : (xs : List X) → front weight capacity more xs ≤ length xs
  front-le [] = omega arith
  front-le (x ∷ xs) = let rest = front-le xs in cond_both (fits weight capacity more (x ∷ xs)) 0 (front weight capacity more xs + 1) (λ n. n ≤ suc (length xs)) (λ _. omega arith) (λ _. omega arith)

module _ {X : Type 0} (is_live : X → Bool) where
  pub evicted-dead_admitted : (kept xs waiting : List X) → evicted_in (dead_admitted is_live kept xs waiting) ≡ filter (λ x. not (is_live x)) xs
  evicted-dead_admitted kept [] waiting = refl
  evicted-dead_admitted kept (x ∷ xs) waiting = ⊎_elim (λ e. rw e (evicted-dead_admitted (kept ++ x ∷ []) xs waiting)) (λ e. rw e (ap (λ ys. x ∷ ys) (evicted-dead_admitted kept xs waiting))) (cases_Bool (is_live x))

  pub after-dead_admitted : (kept xs waiting : List X) → after_parts (queues (kept ++ xs) waiting) (dead_admitted is_live kept xs waiting) ≡ queues (kept ++ filter is_live xs) waiting
  after-dead_admitted kept [] waiting = refl
  after-dead_admitted kept (x ∷ xs) waiting =
      ⊎_elim
      (λ e. rw e (rw (append_assoc kept (x ∷ []) xs, append_assoc kept (x ∷ []) (filter is_live xs)) at (after-dead_admitted (kept ++ x ∷ []) xs waiting)))
      (λ e. rw e (after-dead_admitted kept xs waiting))
      (cases_Bool (is_live x))

  pub evicted-dead_waiting : (admitted kept xs : List X) → evicted_in (dead_waiting is_live admitted kept xs) ≡ filter (λ x. not (is_live x)) xs
  evicted-dead_waiting admitted kept [] = refl
  evicted-dead_waiting admitted kept (x ∷ xs) = ⊎_elim (λ e. rw e (evicted-dead_waiting admitted (kept ++ x ∷ []) xs)) (λ e. rw e (ap (λ ys. x ∷ ys) (evicted-dead_waiting admitted kept xs))) (cases_Bool (is_live x))

  pub after-dead_waiting : (admitted kept xs : List X) → after_parts (queues admitted (kept ++ xs)) (dead_waiting is_live admitted kept xs) ≡ queues admitted (kept ++ filter is_live xs)
  after-dead_waiting admitted kept [] = refl
  after-dead_waiting admitted kept (x ∷ xs) =
      ⊎_elim
      (λ e. rw e (rw (append_assoc kept (x ∷ []) xs, append_assoc kept (x ∷ []) (filter is_live xs)) at (after-dead_waiting admitted (kept ++ x ∷ []) xs)))
      (λ e. rw e (after-dead_waiting admitted kept xs))
      (cases_Bool (is_live x))

module _ {X : Type 0} (weight : X → ℕ) (capacity : Option ℕ) where
  pub evicted-over : (xs waiting : List X) → evicted_in (over weight capacity xs waiting) ≡ take (front weight capacity 0 xs) xs
  evicted-over [] waiting = refl
  evicted-over (x ∷ xs) waiting = ⊎_elim (λ e. rw e refl) (λ e. rw e (rw add-one (ap (λ ys. x ∷ ys) (evicted-over xs waiting)))) (cases_Bool (fits weight capacity 0 (x ∷ xs)))

  pub after-over : (xs waiting : List X) → after_parts (queues xs waiting) (over weight capacity xs waiting) ≡ queues (drop (front weight capacity 0 xs) xs) waiting
  after-over [] waiting = refl
  after-over (x ∷ xs) waiting = ⊎_elim (λ e. rw e refl) (λ e. rw e (rw add-one (after-over xs waiting))) (cases_Bool (fits weight capacity 0 (x ∷ xs)))

-- one that fits alone fits beside what the front leaves behind
pub fits-admitted : {X : Type 0} (weight : X → ℕ) (capacity : Option ℕ) (admitted : List X) (x : X) → fits weight capacity (weight x) [] ≡ true → fits weight capacity 0 (drop (front weight capacity (weight x) admitted) admitted ++ x ∷ []) ≡ true
fits-admitted weight capacity admitted x alone =
    let kept = drop (front weight capacity (weight x) admitted) admitted in
    let same : 0 + total weight (kept ++ x ∷ []) ≡ weight x + total weight kept = let parts_of = total-append weight kept (x ∷ []) in omega arith in
    fits-same weight capacity 0 (weight x) (kept ++ x ∷ []) kept same ∙ fits-drop_front weight capacity (weight x) admitted alone

-- the first that waits is admitted after a number of victims
abbrev pub admitting : {X : Type 0} → ℕ → List X → X → List X → Part X
admitting victims admitted x waiting = record { evicted = take victims admitted; after = queues (drop victims admitted ++ x ∷ []) waiting }

-- it is dropped
abbrev pub dropping : {X : Type 0} → List X → X → List X → Part X
dropping admitted x waiting = record { evicted = x ∷ []; after = queues admitted waiting }

module _ {X : Type 0} (weight : X → ℕ) (capacity : Option ℕ) (wins : X → List X → Bool) where
  -- what is true of an admission after the front that makes room, and of a drop, is true of a judgement
  pub judge_both : (admitted : List X) (x : X) (waiting : List X) (P : Part X → Type 0) → (fits weight capacity (weight x) [] ≡ true → P (admitting (front weight capacity (weight x) admitted) admitted x waiting)) → P (dropping admitted x waiting) → P (judge weight capacity wins admitted x waiting)
  judge_both admitted x waiting P admits drops =
      let victims : ℕ = front weight capacity (weight x) admitted in
      let wins_here : Bool = victims == 0 || wins x (take victims admitted) in
      cond_both (fits weight capacity (weight x) []) (if wins_here then admitting victims admitted x waiting else dropping admitted x waiting) (dropping admitted x waiting) P
      (λ alone. cond_both wins_here (admitting victims admitted x waiting) (dropping admitted x waiting) P (λ _. admits alone) (λ _. drops))
      (λ _. drops)

  -- the admitted after each that waits was judged
  abbrev pub admitted_after : List X → List X → List X
  admitted_after admitted [] = admitted
  admitted_after admitted (x ∷ xs) = admitted_after (judge weight capacity wins admitted x xs).after.admitted xs

  pub after-judged : (admitted waiting : List X) → after_parts (queues admitted waiting) (judged weight capacity wins admitted waiting) ≡ queues (admitted_after admitted waiting) []
  after-judged admitted [] = refl
  after-judged admitted (x ∷ xs) =
      let now : List X = (judge weight capacity wins admitted x xs).after.admitted in
      let still : (judge weight capacity wins admitted x xs).after ≡ queues now xs = judge_both admitted x xs (λ p. p.after ≡ queues p.after.admitted xs) (λ _. refl) refl in
      ap (λ q. after_parts q (judged weight capacity wins now xs)) still ∙ after-judged now xs

  -- the admitted weight stays within the capacity
  pub admitted_after-fits : (admitted waiting : List X) → fits weight capacity 0 admitted ≡ true → fits weight capacity 0 (admitted_after admitted waiting) ≡ true
  admitted_after-fits admitted [] fit = fit
  admitted_after-fits admitted (x ∷ xs) fit =
      admitted_after-fits (judge weight capacity wins admitted x xs).after.admitted xs
      (judge_both admitted x xs (λ p. fits weight capacity 0 p.after.admitted ≡ true) (fits-admitted weight capacity admitted x) fit)

  -- what is true of all that was admitted or waited is true of all that is admitted
  pub All-admitted_after : (P : X → Type 0) (admitted waiting : List X) → All P admitted → All P waiting → All P (admitted_after admitted waiting)
  All-admitted_after P admitted [] a w = a
  All-admitted_after P admitted (x ∷ xs) a w =
      let victims : ℕ = front weight capacity (weight x) admitted in
      All-admitted_after P (judge weight capacity wins admitted x xs).after.admitted xs
      (judge_both admitted x xs (λ p. All P p.after.admitted) (λ _. All-push P (drop victims admitted) x (All-drop P victims admitted a) (All-head P x xs w)) a)
      (All-tail P x xs w)

module _ {X : Type 0} (weight : X → ℕ) (capacity : Option ℕ) (is_live : X → Bool) (wins : X → List X → Bool) where
  -- what of the live admitted leaves as over the capacity
  abbrev pub too_much : Queues X → List X
  too_much q = take (front weight capacity 0 (filter is_live q.admitted)) (filter is_live q.admitted)

  -- what of them stays
  abbrev pub within : Queues X → List X
  within q = drop (front weight capacity 0 (filter is_live q.admitted)) (filter is_live q.admitted)

  -- the dead leave, then what is too much, and then what leaves as the waiting are judged
  pub evicted-parts : (q : Queues X) → evicted_in (parts weight capacity is_live wins q) ≡ filter (λ x. not (is_live x)) q.admitted ++ (filter (λ x. not (is_live x)) q.waiting ++ (too_much q ++ evicted_in (judged weight capacity wins (within q) (filter is_live q.waiting))))
  evicted-parts q =
      let admitted : List X = filter is_live q.admitted in
      let waiting : List X = filter is_live q.waiting in
      let a : List (Part X) = dead_admitted is_live [] q.admitted q.waiting in
      let b : List (Part X) = dead_waiting is_live admitted [] q.waiting in
      let c : List (Part X) = over weight capacity admitted waiting in
      let d : List (Part X) = judged weight capacity wins (within q) waiting in
      rw (evicted_in-append a (b ++ (c ++ d)), evicted_in-append b (c ++ d), evicted_in-append c d, evicted-dead_admitted is_live [] q.admitted q.waiting, evicted-dead_waiting is_live admitted [] q.waiting, evicted-over weight capacity admitted waiting)

  -- all that waited was judged, beside the live admitted within the capacity
  pub after-parts : (q : Queues X) → after_parts q (parts weight capacity is_live wins q) ≡ queues (admitted_after weight capacity wins (within q) (filter is_live q.waiting)) []
  after-parts q =
      let admitted : List X = filter is_live q.admitted in
      let waiting : List X = filter is_live q.waiting in
      let a : List (Part X) = dead_admitted is_live [] q.admitted q.waiting in
      let b : List (Part X) = dead_waiting is_live admitted [] q.waiting in
      let c : List (Part X) = over weight capacity admitted waiting in
      let d : List (Part X) = judged weight capacity wins (within q) waiting in
      after_parts-append q a (b ++ (c ++ d))
      ∙ ap (λ r. after_parts r (b ++ (c ++ d))) (after-dead_admitted is_live [] q.admitted q.waiting)
      ∙ after_parts-append (queues admitted q.waiting) b (c ++ d)
      ∙ ap (λ r. after_parts r (c ++ d)) (after-dead_waiting is_live admitted [] q.waiting)
      ∙ after_parts-append (queues admitted waiting) c d
      ∙ ap (λ r. after_parts r d) (after-over weight capacity admitted waiting)
      ∙ after-judged weight capacity wins (within q) waiting

  -- all that stands is live
  pub All-live-after : (q : Queues X) → All (λ x. is_live x ≡ true) (after_parts q (parts weight capacity is_live wins q)).admitted
  All-live-after q =
      rw (after-parts q)
      (All-admitted_after weight capacity wins (λ x. is_live x ≡ true) (within q) (filter is_live q.waiting)
      (All-drop (λ x. is_live x ≡ true) (front weight capacity 0 (filter is_live q.admitted)) (filter is_live q.admitted) (filter_passes is_live q.admitted))
      (filter_passes is_live q.waiting))

  -- its weight is within the capacity
  pub fits-after : (q : Queues X) → fits weight capacity 0 (after_parts q (parts weight capacity is_live wins q)).admitted ≡ true
  fits-after q =
      rw (after-parts q)
      (admitted_after-fits weight capacity wins (within q) (filter is_live q.waiting) (fits-drop_front weight capacity 0 (filter is_live q.admitted) (fits-none weight capacity)))

module _ {X : Type 0} (weight : X → ℕ) (capacity : ℕ) (is_live : X → Bool) (wins : X → List X → Bool) where
  pub total-after-le : (q : Queues X) → total weight (after_parts q (parts weight (Some capacity) is_live wins q)).admitted ≤ capacity
  total-after-le q =
      let kept : List X = (after_parts q (parts weight (Some capacity) is_live wins q)).admitted in
      let below : 0 + total weight kept ≤ capacity = leb-true (0 + total weight kept) capacity (fits-after weight (Some capacity) is_live wins q) in
      omega arith
