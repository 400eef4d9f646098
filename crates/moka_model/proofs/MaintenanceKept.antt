-- What leaves in a maintenance, and what stays, was in the queues before it.
use Rattle.std.proofs.Common.{◌≡◌, ℕ, zero, suc, ◌+◌, ◌-◌, Bool, true, false, if◌then◌else◌, nat_le, Option, Some, None, List, [], ◌∷◌, ◌++◌, length, drop, filter, refl, ap, ⊎_elim, arith}
use Rattle.std.specs.Option.{option_to_list}
use Rattle.std.specs.List.{All, list_any}
use Rattle.std.proofs.lemmas.Bool.{cond_both, cases_Bool, both_ways}
use Rattle.std.proofs.lemmas.List.Elements.{All-nil, All-cons, All-head, All-tail, All-append, All-push, All-take, All-drop, All-filter}
use Rattle.moka_model.specs.Maintenance.{Queues, Part, fits, front, dead_admitted, dead_waiting, over, judge, judged, parts, done, evicted_in, after_parts}
use Rattle.moka_model.specs.MaintenanceLaws.{queues, everything, count}
use Rattle.moka_model.proofs.Maintenance.{judge_both, within}
use Rattle.moka_model.proofs.MaintenanceCounted.{count-maintenance}

module _ {X : Type 0} (P : X → Type 0) where
  -- what is true of all that a part has
  abbrev pub InPart : Part X → Type 0
  InPart p = All P p.evicted × All P p.after.admitted × All P p.after.waiting

  -- and of all that some parts have
  abbrev pub InParts : List (Part X) → Type 0
  InParts [] = Unit {0}
  InParts (p ∷ ps) = InPart p × InParts ps

  InParts-append : (ps rs : List (Part X)) → InParts ps → InParts rs → InParts (ps ++ rs)
  InParts-append [] rs a b = b
  InParts-append (p ∷ ps) rs a b = (a.0, InParts-append ps rs a.1 b)

  one : (x : X) → P x → All P (x ∷ [])
  one x p = All-cons P x [] p (All-nil P)

  InParts-dead_admitted : (is_live : X → Bool) (kept xs waiting : List X) → All P kept → All P xs → All P waiting → InParts (dead_admitted is_live kept xs waiting)
  InParts-dead_admitted is_live kept [] waiting k a w = tt
  InParts-dead_admitted is_live kept (x ∷ xs) waiting k a w =
      let here = All-head P x xs a in
      let more = All-tail P x xs a in
      cond_both (is_live x) (dead_admitted is_live (kept ++ x ∷ []) xs waiting) (record { evicted = x ∷ []; after = queues (kept ++ xs) waiting } ∷ dead_admitted is_live kept xs waiting) InParts
      (λ _. InParts-dead_admitted is_live (kept ++ x ∷ []) xs waiting (All-push P kept x k here) more w)
      (λ _. ((one x here, All-append P kept xs k more, w), InParts-dead_admitted is_live kept xs waiting k more w))

  InParts-dead_waiting : (is_live : X → Bool) (admitted kept xs : List X) → All P admitted → All P kept → All P xs → InParts (dead_waiting is_live admitted kept xs)
  InParts-dead_waiting is_live admitted kept [] a k w = tt
  InParts-dead_waiting is_live admitted kept (x ∷ xs) a k w =
      let here = All-head P x xs w in
      let more = All-tail P x xs w in
      cond_both (is_live x) (dead_waiting is_live admitted (kept ++ x ∷ []) xs) (record { evicted = x ∷ []; after = queues admitted (kept ++ xs) } ∷ dead_waiting is_live admitted kept xs) InParts
      (λ _. InParts-dead_waiting is_live admitted (kept ++ x ∷ []) xs a (All-push P kept x k here) more)
      (λ _. ((one x here, a, All-append P kept xs k more), InParts-dead_waiting is_live admitted kept xs a k more))

  module _ (weight : X → ℕ) (capacity : Option ℕ) where
    InParts-over : (xs waiting : List X) → All P xs → All P waiting → InParts (over weight capacity xs waiting)
    InParts-over [] waiting a w = tt
    InParts-over (x ∷ xs) waiting a w =
        let more = All-tail P x xs a in
        cond_both (fits weight capacity 0 (x ∷ xs)) [] (record { evicted = x ∷ []; after = queues xs waiting } ∷ over weight capacity xs waiting) InParts
        (λ _. tt)
        (λ _. ((one x (All-head P x xs a), more, w), InParts-over xs waiting more w))

    module _ (wins : X → List X → Bool) where
      InPart-judge : (admitted : List X) (x : X) (waiting : List X) → All P admitted → P x → All P waiting → InPart (judge weight capacity wins admitted x waiting)
      InPart-judge admitted x waiting a here w =
          let victims : ℕ = front weight capacity (weight x) admitted in
          judge_both weight capacity wins admitted x waiting InPart
          (λ _. (All-take P victims admitted a, All-push P (drop victims admitted) x (All-drop P victims admitted a) here, w))
          (one x here, a, w)

      InParts-judged : (admitted waiting : List X) → All P admitted → All P waiting → InParts (judged weight capacity wins admitted waiting)
      InParts-judged admitted [] a w = tt
      InParts-judged admitted (x ∷ xs) a w =
          let first = InPart-judge admitted x xs a (All-head P x xs w) (All-tail P x xs w) in
          (first, InParts-judged (judge weight capacity wins admitted x xs).after.admitted xs first.1 (All-tail P x xs w))

      pub InParts-parts : (is_live : X → Bool) (q : Queues X) → All P q.admitted → All P q.waiting → InParts (parts weight capacity is_live wins q)
      InParts-parts is_live q a w =
          let admitted : List X = filter is_live q.admitted in
          let waiting : List X = filter is_live q.waiting in
          let alive = All-filter is_live P q.admitted a in
          let come = All-filter is_live P q.waiting w in
          let d : List (Part X) = judged weight capacity wins (within weight capacity is_live wins q) waiting in
          let c : List (Part X) = over weight capacity admitted waiting in
          let b : List (Part X) = dead_waiting is_live admitted [] q.waiting in
          InParts-append (dead_admitted is_live [] q.admitted q.waiting) (b ++ (c ++ d)) (InParts-dead_admitted is_live [] q.admitted q.waiting (All-nil P) a w)
          (InParts-append b (c ++ d) (InParts-dead_waiting is_live admitted [] q.waiting alive (All-nil P) w)
          (InParts-append c d (InParts-over admitted waiting alive come)
          (InParts-judged (within weight capacity is_live wins q) waiting (All-drop P (front weight capacity 0 admitted) admitted alive) come)))

  pub InParts-done : (limit : Option ℕ) (ps : List (Part X)) → InParts ps → InParts (done limit ps)
  InParts-done None ps a = a
  InParts-done (Some limit) [] a = tt
  InParts-done (Some limit) (p ∷ ps) a = cond_both (nat_le (length p.evicted) limit) (p ∷ done (Some (limit - length p.evicted)) ps) [] InParts (λ _. (a.0, InParts-done (Some (limit - length p.evicted)) ps a.1)) (λ _. tt)

  pub All-evicted_in : (ps : List (Part X)) → InParts ps → All P (evicted_in ps)
  All-evicted_in [] a = All-nil P
  All-evicted_in (p ∷ ps) a = All-append P p.evicted (evicted_in ps) (a.0).0 (All-evicted_in ps a.1)

  pub All-after_parts : (q : Queues X) (ps : List (Part X)) → All P q.admitted → All P q.waiting → InParts ps → All P (everything (after_parts q ps))
  All-after_parts q [] a w all = All-append P q.admitted q.waiting a w
  All-after_parts q (p ∷ ps) a w all = All-after_parts p.after ps (all.0).1 (all.0).2 all.1

  -- what is true of all before a maintenance within a limit is true of all that stays, in each order
  abbrev HoldsIn : Queues X → Type 0
  HoldsIn q = All P q.admitted × All P q.waiting

  after_parts-holds : (q : Queues X) (ps : List (Part X)) → HoldsIn q → InParts ps → HoldsIn (after_parts q ps)
  after_parts-holds q [] here all = here
  after_parts-holds q (p ∷ ps) here all = after_parts-holds p.after ps ((all.0).1, (all.0).2) all.1

  pub kept_within : (weight : X → ℕ) (capacity : Option ℕ) (is_live : X → Bool) (wins : X → List X → Bool) (limit : Option ℕ) (q : Queues X) → All P q.admitted → All P q.waiting
      → All P (after_parts q (done limit (parts weight capacity is_live wins q))).admitted × All P (after_parts q (done limit (parts weight capacity is_live wins q))).waiting
  kept_within weight capacity is_live wins limit q a w = after_parts-holds q (done limit (parts weight capacity is_live wins q)) (a, w) (InParts-done limit (parts weight capacity is_live wins q) (InParts-parts weight capacity wins is_live q a w))

-- Where one alone passes a test before a maintenance, it leaves in it, or it stays.
module _ {X : Type 0} (test : X → Bool) where
  -- of those that pass each is this one
  abbrev IsOnly : X → X → Type 0
  IsOnly w x = test x ≡ true → x ≡ w

  only-none : (w : X) (xs : List X) → filter test xs ≡ [] → All (IsOnly w) xs
  only-none w [] none = All-nil (IsOnly w)
  only-none w (x ∷ xs) none =
      ⊎_elim
      (λ is. let some = rw is at none in cc)
      (λ is. All-cons (IsOnly w) x xs (λ passes. absurd (both_ways (test x) is passes)) (only-none w xs (rw is at none)))
      (cases_Bool (test x))

  only-filtered : (w : X) (xs : List X) → filter test xs ≡ w ∷ [] → All (IsOnly w) xs
  only-filtered w [] e = All-nil (IsOnly w)
  only-filtered w (x ∷ xs) e =
      ⊎_elim
      (λ is. let found : (x ∷ filter test xs) ≡ w ∷ [] = rw is at e in All-cons (IsOnly w) x xs (λ _. cc) (only-none w xs (cc)))
      (λ is. All-cons (IsOnly w) x xs (λ passes. absurd (both_ways (test x) is passes)) (only-filtered w xs (rw is at e)))
      (cases_Bool (test x))

  -- none passes where as many as none do
  none-counted : (xs : List X) → count test xs ≡ 0 → (filter test xs ≡ []) × (list_any test xs ≡ false)
  none-counted [] e = (refl, refl)
  none-counted (x ∷ xs) e =
      ⊎_elim
      (λ is. let some = rw is at e in cc)
      (λ is. let rest = none-counted xs (rw is at e) in rw is rest)
      (cases_Bool (test x))

  -- the one passes where one does
  one-counted : (w : X) (xs : List X) → All (IsOnly w) xs → count test xs ≡ 1 → (filter test xs ≡ w ∷ []) × (list_any test xs ≡ true)
  one-counted w [] only e = cc
  one-counted w (x ∷ xs) only e =
      ⊎_elim
      (λ is.
      let rest = none-counted xs (let some : suc (count test xs) ≡ 1 = rw is at e in omega arith) in
      let same : x ≡ w = All-head (IsOnly w) x xs only is in
      rw (is, rest.0, same) (refl, refl))
      (λ is. let rest = one-counted w xs (All-tail (IsOnly w) x xs only) (rw is at e) in rw is rest)
      (cases_Bool (test x))

  module _ (weight : X → ℕ) (capacity : Option ℕ) (is_live : X → Bool) (wins : X → List X → Bool) (limit : Option ℕ) (q : Queues X) where
    abbrev gone : List X
    gone = evicted_in (done limit (parts weight capacity is_live wins q))

    abbrev stays : List X
    stays = everything (after_parts q (done limit (parts weight capacity is_live wins q)))

    -- what it is, where one leaves or stays
    pub one_leaves_or_stays : (o : Option X) → filter test (everything q) ≡ option_to_list o
        → (filter test gone ≡ option_to_list (if list_any test gone then o else None)) × (filter test stays ≡ option_to_list (if list_any test gone then None else o))
    one_leaves_or_stays None e =
        let all : count test gone + count test stays ≡ count test (everything q) = count-maintenance test weight capacity is_live wins limit q in
        let nothing : count test (everything q) ≡ 0 = ap length e in
        let left = none-counted gone (omega arith) in
        let kept = none-counted stays (omega arith) in
        rw (left.1) (left.0, kept.0)
    one_leaves_or_stays (Some w) e =
        let all : count test gone + count test stays ≡ count test (everything q) = count-maintenance test weight capacity is_live wins limit q in
        let once : count test (everything q) ≡ 1 = ap length e in
        let only = only-filtered w (everything q) e in
        let admitted = All-front q.admitted q.waiting only in
        let waiting = All-back q.admitted q.waiting only in
        let ps = InParts-done (IsOnly w) limit (parts weight capacity is_live wins q) (InParts-parts (IsOnly w) weight capacity wins is_live q admitted waiting) in
        split (count test gone) refl (count test stays) refl (rw once at all) (All-evicted_in (IsOnly w) (done limit (parts weight capacity is_live wins q)) ps) (All-after_parts (IsOnly w) q (done limit (parts weight capacity is_live wins q)) admitted waiting ps)
      where
        All-front : (xs ys : List X) → All (IsOnly w) (xs ++ ys) → All (IsOnly w) xs
        All-front [] ys a = All-nil (IsOnly w)
        All-front (x ∷ xs) ys a = All-cons (IsOnly w) x xs (All-head (IsOnly w) x (xs ++ ys) a) (All-front xs ys (All-tail (IsOnly w) x (xs ++ ys) a))

        All-back : (xs ys : List X) → All (IsOnly w) (xs ++ ys) → All (IsOnly w) ys
        All-back [] ys a = a
        All-back (x ∷ xs) ys a = All-back xs ys (All-tail (IsOnly w) x (xs ++ ys) a)

        split : (m : ℕ) → count test gone ≡ m → (n : ℕ) → count test stays ≡ n → count test gone + count test stays ≡ 1 → All (IsOnly w) gone → All (IsOnly w) stays
            → (filter test gone ≡ option_to_list (if list_any test gone then Some w else None)) × (filter test stays ≡ option_to_list (if list_any test gone then None else Some w))
        split zero is_m n is_n sum a b =
            let left = none-counted gone is_m in
            let kept = one-counted w stays b (omega arith) in
            rw (left.1) (left.0, kept.0)
        split (suc m) is_m n is_n sum a b =
            let left = one-counted w gone a (omega arith) in
            let kept = none-counted stays (omega arith) in
            rw (left.1) (left.0, kept.0)
