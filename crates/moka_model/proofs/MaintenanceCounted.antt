-- A maintenance loses nothing, and doubles nothing.
use Rattle.std.proofs.Common.{◌≡◌, ℕ, ◌+◌, ◌-◌, Bool, nat_le, Option, Some, None, List, [], ◌∷◌, ◌++◌, length, take, drop, filter, refl, sym, ap, ◌∙◌, append_assoc, length-append, take-append-drop, arith}
use Rattle.std.proofs.lemmas.Bool.{cond_both}
use Rattle.std.proofs.lemmas.List.Elements.{filter-append}
use Rattle.moka_model.specs.Maintenance.{Queues, Part, fits, front, dead_admitted, dead_waiting, over, judge, judged, parts, done, evicted_in, after_parts}
use Rattle.moka_model.specs.MaintenanceLaws.{queues, everything, count}
use Rattle.moka_model.proofs.Maintenance.{admitting, dropping, judge_both, within, after-dead_admitted, after-dead_waiting, after-over}

module _ {X : Type 0} (test : X → Bool) where
  count-append : (xs ys : List X) → count test (xs ++ ys) ≡ count test xs + count test ys
  count-append xs ys = ap length (filter-append test xs ys) ∙ length-append (filter test xs) (filter test ys)

  -- one more, wherever it stands
  count-cons : (x : X) (xs : List X) → count test (x ∷ xs) ≡ count test (x ∷ []) + count test xs
  count-cons x xs = count-append (x ∷ []) xs

  count_split : (n : ℕ) (xs : List X) → count test (take n xs) + count test (drop n xs) ≡ count test xs
  count_split n xs = sym (count-append (take n xs) (drop n xs)) ∙ ap (count test) (take-append-drop n xs)

  -- a part moves what it has from the queues into what leaves
  abbrev Moves : Queues X → Part X → Type 0
  Moves q p = count test p.evicted + (count test p.after.admitted + count test p.after.waiting) ≡ count test q.admitted + count test q.waiting

  -- so does each part, from the queues after those before it
  abbrev AllMove : Queues X → List (Part X) → Type 0
  AllMove q [] = Unit {0}
  AllMove q (p ∷ ps) = Moves q p × AllMove p.after ps

  AllMove-append : (q : Queues X) (ps rs : List (Part X)) → AllMove q ps → AllMove (after_parts q ps) rs → AllMove q (ps ++ rs)
  AllMove-append q [] rs a b = b
  AllMove-append q (p ∷ ps) rs a b = (a.0, AllMove-append p.after ps rs a.1 b)

  AllMove-dead_admitted : (is_live : X → Bool) (kept xs waiting : List X) → AllMove (queues (kept ++ xs) waiting) (dead_admitted is_live kept xs waiting)
  AllMove-dead_admitted is_live kept [] waiting = tt
  AllMove-dead_admitted is_live kept (x ∷ xs) waiting =
      let rest : List X = kept ++ xs in
      let before = count-append kept (x ∷ xs) in
      let between = count-append kept xs in
      let first = count-cons x xs in
      let moves : count test (x ∷ []) + (count test rest + count test waiting) ≡ count test (kept ++ x ∷ xs) + count test waiting = omega arith in
      cond_both (is_live x) (dead_admitted is_live (kept ++ x ∷ []) xs waiting) (record { evicted = x ∷ []; after = queues rest waiting } ∷ dead_admitted is_live kept xs waiting)
      (AllMove (queues (kept ++ x ∷ xs) waiting))
      (λ _. rw (append_assoc kept (x ∷ []) xs) at (AllMove-dead_admitted is_live (kept ++ x ∷ []) xs waiting))
      (λ _. (moves, AllMove-dead_admitted is_live kept xs waiting))

  AllMove-dead_waiting : (is_live : X → Bool) (admitted kept xs : List X) → AllMove (queues admitted (kept ++ xs)) (dead_waiting is_live admitted kept xs)
  AllMove-dead_waiting is_live admitted kept [] = tt
  AllMove-dead_waiting is_live admitted kept (x ∷ xs) =
      let rest : List X = kept ++ xs in
      let before = count-append kept (x ∷ xs) in
      let between = count-append kept xs in
      let first = count-cons x xs in
      let moves : count test (x ∷ []) + (count test admitted + count test rest) ≡ count test admitted + count test (kept ++ x ∷ xs) = omega arith in
      cond_both (is_live x) (dead_waiting is_live admitted (kept ++ x ∷ []) xs) (record { evicted = x ∷ []; after = queues admitted rest } ∷ dead_waiting is_live admitted kept xs)
      (AllMove (queues admitted (kept ++ x ∷ xs)))
      (λ _. rw (append_assoc kept (x ∷ []) xs) at (AllMove-dead_waiting is_live admitted (kept ++ x ∷ []) xs))
      (λ _. (moves, AllMove-dead_waiting is_live admitted kept xs))

  AllMove-over : (weight : X → ℕ) (capacity : Option ℕ) (xs waiting : List X) → AllMove (queues xs waiting) (over weight capacity xs waiting)
  AllMove-over weight capacity [] waiting = tt
  AllMove-over weight capacity (x ∷ xs) waiting =
      let first = count-cons x xs in
      let moves : count test (x ∷ []) + (count test xs + count test waiting) ≡ count test (x ∷ xs) + count test waiting = omega arith in
      cond_both (fits weight capacity 0 (x ∷ xs)) [] (record { evicted = x ∷ []; after = queues xs waiting } ∷ over weight capacity xs waiting)
      (AllMove (queues (x ∷ xs) waiting))
      (λ _. tt)
      (λ _. (moves, AllMove-over weight capacity xs waiting))

  AllMove-judged : (weight : X → ℕ) (capacity : Option ℕ) (wins : X → List X → Bool) (admitted waiting : List X) → AllMove (queues admitted waiting) (judged weight capacity wins admitted waiting)
  AllMove-judged weight capacity wins admitted [] = tt
  AllMove-judged weight capacity wins admitted (x ∷ xs) =
      let victims : ℕ = front weight capacity (weight x) admitted in
      let first = count-cons x xs in
      let split = count_split victims admitted in
      let pushed = count-append (drop victims admitted) (x ∷ []) in
      let admits : Moves (queues admitted (x ∷ xs)) (admitting victims admitted x xs) = omega arith in
      let drops : Moves (queues admitted (x ∷ xs)) (dropping admitted x xs) = omega arith in
      let now : List X = (judge weight capacity wins admitted x xs).after.admitted in
      let still : (judge weight capacity wins admitted x xs).after ≡ queues now xs = judge_both weight capacity wins admitted x xs (λ p. p.after ≡ queues p.after.admitted xs) (λ _. refl) refl in (
        judge_both weight capacity wins admitted x xs (Moves (queues admitted (x ∷ xs))) (λ _. admits) drops,
        rw still (AllMove-judged weight capacity wins now xs),
      )

  AllMove-parts : (weight : X → ℕ) (capacity : Option ℕ) (is_live : X → Bool) (wins : X → List X → Bool) (q : Queues X) → AllMove q (parts weight capacity is_live wins q)
  AllMove-parts weight capacity is_live wins q =
      let admitted : List X = filter is_live q.admitted in
      let waiting : List X = filter is_live q.waiting in
      let a : List (Part X) = dead_admitted is_live [] q.admitted q.waiting in
      let b : List (Part X) = dead_waiting is_live admitted [] q.waiting in
      let c : List (Part X) = over weight capacity admitted waiting in
      let d : List (Part X) = judged weight capacity wins (within weight capacity is_live wins q) waiting in
      AllMove-append q a (b ++ (c ++ d)) (AllMove-dead_admitted is_live [] q.admitted q.waiting)
      (rw (after-dead_admitted is_live [] q.admitted q.waiting)
      (AllMove-append (queues admitted q.waiting) b (c ++ d) (AllMove-dead_waiting is_live admitted [] q.waiting)
      (rw (after-dead_waiting is_live admitted [] q.waiting)
      (AllMove-append (queues admitted waiting) c d (AllMove-over weight capacity admitted waiting)
      (rw (after-over weight capacity admitted waiting) (AllMove-judged weight capacity wins (within weight capacity is_live wins q) waiting))))))

  -- what all parts move is still there
  counted_parts : (q : Queues X) (ps : List (Part X)) → AllMove q ps → count test (evicted_in ps) + (count test (after_parts q ps).admitted + count test (after_parts q ps).waiting) ≡ count test q.admitted + count test q.waiting
  counted_parts q [] moves = omega arith
  counted_parts q (p ∷ ps) moves =
      let left = count-append p.evicted (evicted_in ps) in
      let here : Moves q p = moves.0 in
      let rest = counted_parts p.after ps moves.1 in
      omega arith

  AllMove-done : (limit : Option ℕ) (q : Queues X) (ps : List (Part X)) → AllMove q ps → AllMove q (done limit ps)
  AllMove-done None q ps moves = moves
  AllMove-done (Some limit) q [] moves = tt
  AllMove-done (Some limit) q (p ∷ ps) moves = cond_both (nat_le (length p.evicted) limit) (p ∷ done (Some (limit - length p.evicted)) ps) [] (AllMove q) (λ _. (moves.0, AllMove-done (Some (limit - length p.evicted)) p.after ps moves.1)) (λ _. tt)

  pub count-maintenance : (weight : X → ℕ) (capacity : Option ℕ) (is_live : X → Bool) (wins : X → List X → Bool) (limit : Option ℕ) (q : Queues X) → count test (evicted_in (done limit (parts weight capacity is_live wins q))) + count test (everything (after_parts q (done limit (parts weight capacity is_live wins q)))) ≡ count test (everything q)
  count-maintenance weight capacity is_live wins limit q =
      let ps : List (Part X) = done limit (parts weight capacity is_live wins q) in
      let after : Queues X = after_parts q ps in
      let all_left : count test (everything after) ≡ count test after.admitted + count test after.waiting = count-append after.admitted after.waiting in
      let all_before : count test (everything q) ≡ count test q.admitted + count test q.waiting = count-append q.admitted q.waiting in
      let moved : count test (evicted_in ps) + (count test after.admitted + count test after.waiting) ≡ count test q.admitted + count test q.waiting = counted_parts q ps (AllMove-done limit q (parts weight capacity is_live wins q) (AllMove-parts weight capacity is_live wins q)) in
      rw (all_left, all_before) moved
