-- Where each weighs one, and the admitted are within the capacity, each part of a maintenance lets one leave at most.
use Rattle.std.proofs.Common.{◌≡◌, ◌⊎◌, inl, inr, ℕ, zero, suc, ◌+◌, ◌<◌, ◌≤◌, Bool, true, Option, Some, None, List, [], ◌∷◌, ◌++◌, length, take, drop, filter, subst, ⊎_elim, arith}
use Rattle.std.specs.List.{All}
use Rattle.std.proofs.lemmas.Bool.{cond_both, leb-true, le-leb}
use Rattle.std.proofs.lemmas.List.Elements.{All-drop, All-push, All-head, All-tail, All-filter}
use Rattle.moka_model.specs.Maintenance.{Queues, Part, total, fits, front, dead_admitted, dead_waiting, over, judge, judged, parts, done, evicted_in}
use Rattle.moka_model.proofs.Maintenance.{fits-none, fits-drop_front, front-fits, fits-admitted, judge_both}
use Rattle.moka_model.proofs.MaintenanceLimits.{done_next}

take-le : {A : Type 0} (n : ℕ) (xs : List A) → length (take n xs) ≤ n
take-le zero xs = omega arith
take-le (suc n) [] = omega arith
take-le (suc n) (x ∷ xs) = let rest = take-le n xs in omega arith

module _ {X : Type 0} where
  abbrev pub AllFew : List (Part X) → Type 0  -- one at most leaves in each of these parts
  AllFew [] = Unit {0}
  AllFew (p ∷ ps) = (length p.evicted ≤ 1) × AllFew ps

  AllFew-append : (ps rs : List (Part X)) → AllFew ps → AllFew rs → AllFew (ps ++ rs)
  AllFew-append [] rs a b = b
  AllFew-append (p ∷ ps) rs a b = (a.0, AllFew-append ps rs a.1 b)

  few-here : (ds : List (Part X)) (p : Part X) (rest : List (Part X)) → AllFew (ds ++ p ∷ rest) → length p.evicted ≤ 1
  few-here [] p rest a = a.0
  few-here (d ∷ ds) p rest a = few-here ds p rest a.1

module _ {X : Type 0} (is_live : X → Bool) where
  few-dead_admitted : (kept xs waiting : List X) → AllFew (dead_admitted is_live kept xs waiting)
  few-dead_admitted kept [] waiting = tt
  few-dead_admitted kept (x ∷ xs) waiting =
      cond_both (is_live x) (dead_admitted is_live (kept ++ x ∷ []) xs waiting) (record { evicted = x ∷ []; after = record { admitted = kept ++ xs; waiting = waiting } } ∷ dead_admitted is_live kept xs waiting) AllFew
      (λ _. few-dead_admitted (kept ++ x ∷ []) xs waiting) (λ _. (omega arith, few-dead_admitted kept xs waiting))

  few-dead_waiting : (admitted kept xs : List X) → AllFew (dead_waiting is_live admitted kept xs)
  few-dead_waiting admitted kept [] = tt
  few-dead_waiting admitted kept (x ∷ xs) =
      cond_both (is_live x) (dead_waiting is_live admitted (kept ++ x ∷ []) xs) (record { evicted = x ∷ []; after = record { admitted = admitted; waiting = kept ++ xs } } ∷ dead_waiting is_live admitted kept xs) AllFew
      (λ _. few-dead_waiting admitted (kept ++ x ∷ []) xs) (λ _. (omega arith, few-dead_waiting admitted kept xs))

module _ {X : Type 0} (weight : X → ℕ) (capacity : Option ℕ) where
  few-over : (xs waiting : List X) → AllFew (over weight capacity xs waiting)
  few-over [] waiting = tt
  few-over (x ∷ xs) waiting =
      cond_both (fits weight capacity 0 (x ∷ xs)) [] (record { evicted = x ∷ []; after = record { admitted = xs; waiting = waiting } } ∷ over weight capacity xs waiting) AllFew
      (λ _. tt) (λ _. (omega arith, few-over xs waiting))

-- one that weighs one takes the place of one at most
few-front : {X : Type 0} (weight : X → ℕ) (capacity : Option ℕ) (more : ℕ) (xs : List X) → more ≤ 1 → All (λ x. weight x ≡ 1) xs → fits weight capacity 0 xs ≡ true → front weight capacity more xs ≤ 1
few-front weight capacity more [] one ones fit = omega arith
few-front weight None more (x ∷ xs) one ones fit = omega arith
few-front weight (Some c) more (x ∷ xs) one ones fit =
    let first : weight x ≡ 1 = All-head (λ x. weight x ≡ 1) x xs ones in
    let within = leb-true (0 + total weight (x ∷ xs)) c fit in
    let none = front-fits weight (Some c) more xs (le-leb (more + total weight xs) c (omega (arith, one, first, within))) in
    cond_both (fits weight (Some c) more (x ∷ xs)) 0 (front weight (Some c) more xs + 1) (λ n. n ≤ 1) (λ _. omega arith) (λ _. omega (arith, none))

module _ {X : Type 0} (weight : X → ℕ) (capacity : Option ℕ) (wins : X → List X → Bool) where
  few-judged : (admitted waiting : List X) → All (λ x. weight x ≡ 1) admitted → All (λ x. weight x ≡ 1) waiting → fits weight capacity 0 admitted ≡ true → AllFew (judged weight capacity wins admitted waiting)
  few-judged admitted [] a w fit = tt
  few-judged admitted (x ∷ xs) a w fit =
      let one : weight x ≡ 1 = All-head (λ x. weight x ≡ 1) x xs w in
      let victims : ℕ = front weight capacity (weight x) admitted in
      let few : victims ≤ 1 = few-front weight capacity (weight x) admitted (omega (arith, one)) a fit in
      let taken = take-le victims admitted in (
        judge_both weight capacity wins admitted x xs (λ p. length p.evicted ≤ 1) (λ _. omega (arith, few, taken)) (omega arith),
        few-judged (judge weight capacity wins admitted x xs).after.admitted xs
            (judge_both weight capacity wins admitted x xs (λ p. All (λ y. weight y ≡ 1) p.after.admitted) (λ _. All-push (λ y. weight y ≡ 1) (drop victims admitted) x (All-drop (λ y. weight y ≡ 1) victims admitted a) one) a)
            (All-tail (λ y. weight y ≡ 1) x xs w)
            (judge_both weight capacity wins admitted x xs (λ p. fits weight capacity 0 p.after.admitted ≡ true) (fits-admitted weight capacity admitted x) fit),
      )

module _ {X : Type 0} (weight : X → ℕ) (capacity : Option ℕ) (is_live : X → Bool) (wins : X → List X → Bool) (q : Queues X) (admitted_ones : All (λ x. weight x ≡ 1) q.admitted) (waiting_ones : All (λ x. weight x ≡ 1) q.waiting) where
  few-parts : AllFew (parts weight capacity is_live wins q)
  few-parts =
      let admitted : List X = filter is_live q.admitted in
      let waiting : List X = filter is_live q.waiting in
      let stay : List X = drop (front weight capacity 0 admitted) admitted in
      let ones : All (λ x. weight x ≡ 1) admitted = All-filter is_live (λ x. weight x ≡ 1) q.admitted admitted_ones in
      AllFew-append (dead_admitted is_live [] q.admitted q.waiting) (dead_waiting is_live admitted [] q.waiting ++ (over weight capacity admitted waiting ++ judged weight capacity wins stay waiting)) (few-dead_admitted is_live [] q.admitted q.waiting)
      (AllFew-append (dead_waiting is_live admitted [] q.waiting) (over weight capacity admitted waiting ++ judged weight capacity wins stay waiting) (few-dead_waiting is_live admitted [] q.waiting)
      (AllFew-append (over weight capacity admitted waiting) (judged weight capacity wins stay waiting) (few-over weight capacity admitted waiting)
      (few-judged weight capacity wins stay waiting (All-drop (λ x. weight x ≡ 1) (front weight capacity 0 admitted) admitted ones) (All-filter is_live (λ x. weight x ≡ 1) q.waiting waiting_ones) (fits-drop_front weight capacity 0 admitted (fits-none weight capacity)))))

  -- so within a limit that is not 0 all is done, or one leaves at least
  pub one-leaves : (limit : ℕ) → 0 < limit → (done (Some limit) (parts weight capacity is_live wins q) ≡ parts weight capacity is_live wins q) ⊎ (0 < length (evicted_in (done (Some limit) (parts weight capacity is_live wins q))))
  one-leaves limit some =
      ⊎_elim (λ whole. inl whole)
      (λ next. let one = few-here (done (Some limit) (parts weight capacity is_live wins q)) next.0 next.1 (subst AllFew next.2 few-parts) in inr (omega (arith, some, one, next.3)))
      (done_next (parts weight capacity is_live wins q) limit)
