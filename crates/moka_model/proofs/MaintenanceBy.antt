-- A maintenance of the images of what waits and what is admitted is the image of the maintenance.
use Rattle.std.proofs.Common.{◌≡◌, ◌+◌, ◌-◌, ◌==◌, ◌||◌, ℕ, Bool, true, false, cond, nat_le, Option, Some, None, List, [], ◌∷◌, ◌++◌, length, map, take, drop, filter, not, refl, sym, ap, ◌∙◌}
use Rattle.std.proofs.lemmas.List.{length-map, map-append, take-map, drop-map}
use Rattle.moka_model.proofs.ListLemmas.{map-filter}
use Rattle.moka_model.specs.Orders.{changed_where, moved_last}
use Rattle.moka_model.specs.Maintenance.{Queues, Part, total, fits, front, dead_admitted, dead_waiting, over, judge, judged, parts, done, is_left, evicted_in, after_parts}

-- a choice has the image of what was chosen
pub chosen-by : {A B : Type 0} (f : A → B) (b : Bool) (x y : A) → cond b (f x) (f y) ≡ f (cond b x y)
chosen-by f true x y = refl
chosen-by f false x y = refl

module _ {X Y : Type 0} (g : X → Y) where
  abbrev pub queues_by : Queues X → Queues Y
  queues_by q = record { admitted = map g q.admitted; waiting = map g q.waiting }

  abbrev pub part_by : Part X → Part Y
  part_by p = record { evicted = map g p.evicted; after = queues_by p.after }

  pub evicted_in-by : (ps : List (Part X)) → evicted_in (map part_by ps) ≡ map g (evicted_in ps)
  evicted_in-by [] = refl
  evicted_in-by (p ∷ ps) = rw (evicted_in-by ps) (sym (map-append g p.evicted (evicted_in ps)))

  pub after_parts-by : (q : Queues X) (ps : List (Part X)) → after_parts (queues_by q) (map part_by ps) ≡ queues_by (after_parts q ps)
  after_parts-by q [] = refl
  after_parts-by q (p ∷ ps) = after_parts-by p.after ps

  -- a limit does the same of them
  pub done-by : (limit : Option ℕ) (ps : List (Part X)) → done limit (map part_by ps) ≡ map part_by (done limit ps)
  done-by None ps = refl
  done-by (Some limit) [] = refl
  done-by (Some limit) (p ∷ ps) =
      rw (length-map p.evicted g, done-by (Some (limit - length p.evicted)) ps)
      (chosen-by (map part_by) (nat_le (length p.evicted) limit) (p ∷ done (Some (limit - length p.evicted)) ps) [])

  pub is_left-by : (limit : Option ℕ) (ps : List (Part X)) → is_left limit (map part_by ps) ≡ is_left limit ps
  is_left-by None ps = refl
  is_left-by (Some limit) [] = refl
  is_left-by (Some limit) (p ∷ ps) = rw (length-map p.evicted g, is_left-by (Some (limit - length p.evicted)) ps) refl

  -- one more at the end
  pushed-by : (xs : List X) (x : X) → map g xs ++ g x ∷ [] ≡ map g (xs ++ x ∷ [])
  pushed-by xs x = sym (map-append g xs (x ∷ []))

  -- those that pass a test change, or go behind all others
  module _ (p : Y → Bool) (change : Y → Y) (change_before : X → X) (same : (x : X) → change (g x) ≡ g (change_before x)) where
    pub changed_where-by : (xs : List X) → changed_where p change (map g xs) ≡ map g (changed_where (λ x. p (g x)) change_before xs)
    changed_where-by [] = refl
    changed_where-by (x ∷ xs) = rw (changed_where-by xs, same x) (ap (λ y. y ∷ map g (changed_where (λ z. p (g z)) change_before xs)) (chosen-by g (p (g x)) (change_before x) x))

    changed-by : (xs : List X) → map change (map g xs) ≡ map g (map change_before xs)
    changed-by [] = refl
    changed-by (x ∷ xs) = rw (changed-by xs, same x) refl

    pub moved_last-by : (xs : List X) → moved_last p change (map g xs) ≡ map g (moved_last (λ x. p (g x)) change_before xs)
    moved_last-by xs =
        ap (λ ys. ys ++ map change (filter p (map g xs))) (sym (map-filter g (λ y. not (p y)) xs))
        ∙ ap (λ ys. map g (filter (λ x. not (p (g x))) xs) ++ map change ys) (sym (map-filter g p xs))
        ∙ ap (λ ys. map g (filter (λ x. not (p (g x))) xs) ++ ys) (changed-by (filter (λ x. p (g x)) xs))
        ∙ sym (map-append g (filter (λ x. not (p (g x))) xs) (map change_before (filter (λ x. p (g x)) xs)))

  module _ (weight : Y → ℕ) (capacity : Option ℕ) where
    abbrev weight_before : X → ℕ
    weight_before x = weight (g x)

    pub total-by : (xs : List X) → total weight (map g xs) ≡ total weight_before xs
    total-by [] = refl
    total-by (x ∷ xs) = ap (λ n. weight (g x) + n) (total-by xs)

    fits-by : (most : Option ℕ) (more : ℕ) (xs : List X) → fits weight most more (map g xs) ≡ fits weight_before most more xs
    fits-by None more xs = refl
    fits-by (Some most) more xs = ap (λ n. nat_le (more + n) most) (total-by xs)

    front-by : (more : ℕ) (xs : List X) → front weight capacity more (map g xs) ≡ front weight_before capacity more xs
    front-by more [] = refl
    front-by more (x ∷ xs) = ap (λ b. cond b 0 (front weight capacity more (map g xs) + 1)) (fits-by capacity more (x ∷ xs)) ∙ ap (λ n. cond (fits weight_before capacity more (x ∷ xs)) 0 (n + 1)) (front-by more xs)

    over-by : (xs waiting : List X) → over weight capacity (map g xs) (map g waiting) ≡ map part_by (over weight_before capacity xs waiting)
    over-by [] waiting = refl
    over-by (x ∷ xs) waiting =
        let leave : Part X = record { evicted = x ∷ []; after = record { admitted = xs; waiting = waiting } } in
        ap (λ b. cond b [] (part_by leave ∷ over weight capacity (map g xs) (map g waiting))) (fits-by capacity 0 (x ∷ xs))
        ∙ ap (λ ps. cond (fits weight_before capacity 0 (x ∷ xs)) [] (part_by leave ∷ ps)) (over-by xs waiting)
        ∙ chosen-by (map part_by) (fits weight_before capacity 0 (x ∷ xs)) [] (leave ∷ over weight_before capacity xs waiting)

    module _ (wins : Y → List Y → Bool) where
      abbrev wins_before : X → List X → Bool
      wins_before x victims = wins (g x) (map g victims)

      admitting-by : (admitted : List X) (x : X) (waiting : List X) (n : ℕ) → record { evicted = take n (map g admitted); after = record { admitted = drop n (map g admitted) ++ g x ∷ []; waiting = map g waiting } } ≡ part_by (record { evicted = take n admitted; after = record { admitted = drop n admitted ++ x ∷ []; waiting = waiting } })
      admitting-by admitted x waiting n =
          let rest : drop n (map g admitted) ++ g x ∷ [] ≡ map g (drop n admitted ++ x ∷ []) = ap (λ ys. ys ++ g x ∷ []) (drop-map g n admitted) ∙ pushed-by (drop n admitted) x in
          rw (take-map g n admitted, rest) refl

      judge-by : (admitted : List X) (x : X) (waiting : List X) → judge weight capacity wins (map g admitted) (g x) (map g waiting) ≡ part_by (judge weight_before capacity wins_before admitted x waiting)
      judge-by admitted x waiting =
          let n : ℕ = front weight_before capacity (weight (g x)) admitted in
          let admits : Part X = record { evicted = take n admitted; after = record { admitted = drop n admitted ++ x ∷ []; waiting = waiting } } in
          let drops : Part X = record { evicted = x ∷ []; after = record { admitted = admitted; waiting = waiting } } in
          let wins_here : Bool = n == 0 || wins (g x) (map g (take n admitted)) in
          rw (front-by (weight (g x)) admitted, admitting-by admitted x waiting n, take-map g n admitted)
          (ap (λ b. cond b (cond wins_here (part_by admits) (part_by drops)) (part_by drops)) (fits-by capacity (weight (g x)) [])
          ∙ ap (λ p. cond (fits weight_before capacity (weight (g x)) []) p (part_by drops)) (chosen-by part_by wins_here admits drops)
          ∙ chosen-by part_by (fits weight_before capacity (weight (g x)) []) (cond wins_here admits drops) drops)

      judged-by : (admitted waiting : List X) → judged weight capacity wins (map g admitted) (map g waiting) ≡ map part_by (judged weight_before capacity wins_before admitted waiting)
      judged-by admitted [] = refl
      judged-by admitted (x ∷ xs) =
          ap (λ (p : Part Y). p ∷ judged weight capacity wins p.after.admitted (map g xs)) (judge-by admitted x xs)
          ∙ ap (λ ps. part_by (judge weight_before capacity wins_before admitted x xs) ∷ ps) (judged-by (judge weight_before capacity wins_before admitted x xs).after.admitted xs)

  module _ (is_live : Y → Bool) where
    abbrev live_before : X → Bool
    live_before x = is_live (g x)

    dead_admitted-by : (kept xs waiting : List X) → dead_admitted is_live (map g kept) (map g xs) (map g waiting) ≡ map part_by (dead_admitted live_before kept xs waiting)
    dead_admitted-by kept [] waiting = refl
    dead_admitted-by kept (x ∷ xs) waiting =
        let leave : Part X = record { evicted = x ∷ []; after = record { admitted = kept ++ xs; waiting = waiting } } in
        rw (pushed-by kept x, dead_admitted-by (kept ++ x ∷ []) xs waiting, dead_admitted-by kept xs waiting, ← map-append g kept xs)
        (chosen-by (map part_by) (is_live (g x)) (dead_admitted live_before (kept ++ x ∷ []) xs waiting) (leave ∷ dead_admitted live_before kept xs waiting))

    dead_waiting-by : (admitted kept xs : List X) → dead_waiting is_live (map g admitted) (map g kept) (map g xs) ≡ map part_by (dead_waiting live_before admitted kept xs)
    dead_waiting-by admitted kept [] = refl
    dead_waiting-by admitted kept (x ∷ xs) =
        let leave : Part X = record { evicted = x ∷ []; after = record { admitted = admitted; waiting = kept ++ xs } } in
        rw (pushed-by kept x, dead_waiting-by admitted (kept ++ x ∷ []) xs, dead_waiting-by admitted kept xs, ← map-append g kept xs)
        (chosen-by (map part_by) (is_live (g x)) (dead_waiting live_before admitted (kept ++ x ∷ []) xs) (leave ∷ dead_waiting live_before admitted kept xs))

    pub parts-by : (weight : Y → ℕ) (capacity : Option ℕ) (wins : Y → List Y → Bool) (q : Queues X) → parts weight capacity is_live wins (queues_by q) ≡ map part_by (parts (λ x. weight (g x)) capacity live_before (λ x victims. wins (g x) (map g victims)) q)
    parts-by weight capacity wins q =
        let admitted : List X = filter live_before q.admitted in
        let waiting : List X = filter live_before q.waiting in
        let n : ℕ = front (λ x. weight (g x)) capacity 0 admitted in
        let first = dead_admitted live_before [] q.admitted q.waiting in
        let second = dead_waiting live_before admitted [] q.waiting in
        let third = over (λ x. weight (g x)) capacity admitted waiting in
        let last = judged (λ x. weight (g x)) capacity (λ x victims. wins (g x) (map g victims)) (drop n admitted) waiting in
        rw (
          ← map-filter g is_live q.admitted,
          ← map-filter g is_live q.waiting,
          front-by weight capacity 0 admitted,
          drop-map g n admitted,
          judged-by weight capacity wins (drop n admitted) waiting,
          over-by weight capacity admitted waiting,
          dead_waiting-by admitted [] q.waiting,
          dead_admitted-by [] q.admitted q.waiting,
          map-append part_by first (second ++ (third ++ last)),
          map-append part_by second (third ++ last),
          map-append part_by third last,
        )
        refl
