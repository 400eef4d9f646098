-- In which order a maintenance keeps what stays.
use Rattle.std.proofs.Common.{◌≡◌, ℕ, ◌+◌, ◌≤◌, ◌||◌, ◌==◌, Bool, true, not, if◌then◌else◌, Option, Some, List, [], ◌∷◌, ◌++◌, length, take, drop, filter, refl, sym, ap, ◌∙◌, append_assoc, append-nil, take-append-drop, arith}
use Rattle.std.specs.List.{All, AllByRecursion}
use Rattle.std.proofs.lemmas.Bool.{cond-true, le-leb, or_left, or_right}
use Rattle.std.proofs.lemmas.List.{take_at, drop_at}
use Rattle.std.proofs.lemmas.List.Elements.{All-nil, All-cons, All-head, All-tail, All-append, All-take, All-drop, All-push, filter_passes}
use Rattle.moka_model.specs.Maintenance.{Queues, Part, fits, front, judge, judged, parts, evicted_in, after_parts}
use Rattle.moka_model.specs.MaintenanceLaws.{the_dead, the_living, behind_the_dead}
use Rattle.moka_model.proofs.Maintenance.{total-append, lighter-fits, front-fits, admitting, dropping, judge_both, admitted_after, too_much, within, evicted-parts, after-parts}

module _ {X : Type 0} (weight : X → ℕ) (capacity : Option ℕ) (wins : X → List X → Bool) where
  -- one for which there is room is admitted, and has no victim
  pub judge-room : (admitted : List X) (x : X) (waiting : List X) → fits weight capacity (weight x) admitted ≡ true → judge weight capacity wins admitted x waiting ≡ admitting 0 admitted x waiting
  judge-room admitted x waiting room =
      let victims : ℕ = front weight capacity (weight x) admitted in
      let none : victims ≡ 0 = front-fits weight capacity (weight x) admitted room in
      let wins_here : Bool = victims == 0 || wins x (take victims admitted) in
      cond-true (fits weight capacity (weight x) []) (if wins_here then admitting victims admitted x waiting else dropping admitted x waiting) (dropping admitted x waiting) (lighter-fits weight capacity (weight x) (weight x) admitted [] (omega arith) room)
      ∙ cond-true wins_here (admitting victims admitted x waiting) (dropping admitted x waiting) (or_left (victims == 0) (wins x (take victims admitted)) (ap (λ n. n == 0) none))
      ∙ ap (λ n. admitting n admitted x waiting) none

  -- where all fit there is room for the first that waits
  room_for_first : (admitted : List X) (x : X) (xs : List X) → fits weight capacity 0 (admitted ++ x ∷ xs) ≡ true → fits weight capacity (weight x) admitted ≡ true
  room_for_first admitted x xs room = let all = total-append weight admitted (x ∷ xs) in lighter-fits weight capacity 0 (weight x) (admitted ++ x ∷ xs) admitted (omega arith) room

  evicted-judged-room : (admitted waiting : List X) → fits weight capacity 0 (admitted ++ waiting) ≡ true → evicted_in (judged weight capacity wins admitted waiting) ≡ []
  evicted-judged-room admitted [] room = refl
  evicted-judged-room admitted (x ∷ xs) room =
      ap (λ (p : Part X). p.evicted ++ evicted_in (judged weight capacity wins p.after.admitted xs)) (judge-room admitted x xs (room_for_first admitted x xs room))
      ∙ evicted-judged-room (admitted ++ x ∷ []) xs (ap (fits weight capacity 0) (append_assoc admitted (x ∷ []) xs) ∙ room)

  admitted_after-room : (admitted waiting : List X) → fits weight capacity 0 (admitted ++ waiting) ≡ true → admitted_after weight capacity wins admitted waiting ≡ admitted ++ waiting
  admitted_after-room admitted [] room = sym (append-nil admitted)
  admitted_after-room admitted (x ∷ xs) room =
      ap (λ (p : Part X). admitted_after weight capacity wins p.after.admitted xs) (judge-room admitted x xs (room_for_first admitted x xs room))
      ∙ admitted_after-room (admitted ++ x ∷ []) xs (ap (fits weight capacity 0) (append_assoc admitted (x ∷ []) xs) ∙ room)
      ∙ append_assoc admitted (x ∷ []) xs

module _ {X : Type 0} (weight : X → ℕ) (capacity : Option ℕ) (is_live : X → Bool) (wins : X → List X → Bool) (q : Queues X) (room : fits weight capacity 0 (the_living is_live q) ≡ true) where
  front-room : front weight capacity 0 (filter is_live q.admitted) ≡ 0
  front-room =
      let admitted : List X = filter is_live q.admitted in
      let all = total-append weight admitted (filter is_live q.waiting) in
      front-fits weight capacity 0 admitted (lighter-fits weight capacity 0 0 (the_living is_live q) admitted (omega arith) room)

  too_much-room : too_much weight capacity is_live wins q ≡ []
  too_much-room = ap (λ n. take n (filter is_live q.admitted)) front-room

  within-room : within weight capacity is_live wins q ≡ filter is_live q.admitted
  within-room = ap (λ n. drop n (filter is_live q.admitted)) front-room

  -- where all that live fit, just the dead leave
  pub evicted-room : evicted_in (parts weight capacity is_live wins q) ≡ the_dead is_live q
  evicted-room =
      let dead : List X = filter (λ x. not (is_live x)) q.admitted in
      let dead_waiting : List X = filter (λ x. not (is_live x)) q.waiting in
      let waiting : List X = filter is_live q.waiting in
      evicted-parts weight capacity is_live wins q
      ∙ ap (λ ys. dead ++ (dead_waiting ++ (ys ++ evicted_in (judged weight capacity wins (within weight capacity is_live wins q) waiting)))) too_much-room
      ∙ ap (λ ys. dead ++ (dead_waiting ++ evicted_in (judged weight capacity wins ys waiting))) within-room
      ∙ ap (λ ys. dead ++ (dead_waiting ++ ys)) (evicted-judged-room weight capacity wins (filter is_live q.admitted) waiting room)
      ∙ ap (λ ys. dead ++ ys) (append-nil dead_waiting)

  -- and all that live are admitted
  pub admitted-room : (after_parts q (parts weight capacity is_live wins q)).admitted ≡ the_living is_live q
  admitted-room =
      let waiting : List X = filter is_live q.waiting in
      ap (λ (after : Queues X). after.admitted) (after-parts weight capacity is_live wins q)
      ∙ ap (λ ys. admitted_after weight capacity wins ys waiting) within-room
      ∙ admitted_after-room weight capacity wins (filter is_live q.admitted) waiting room

module _ {X : Type 0} (weight : X → ℕ) (capacity : Option ℕ) (is_live : X → Bool) (wins : X → List X → Bool) (q : Queues X) where
  -- what leaves behind the dead: what is too much, and then what leaves as the waiting are judged
  abbrev pub behind : List X
  behind = too_much weight capacity is_live wins q ++ evicted_in (judged weight capacity wins (within weight capacity is_live wins q) (filter is_live q.waiting))

  evicted-dead_first : evicted_in (parts weight capacity is_live wins q) ≡ the_dead is_live q ++ behind
  evicted-dead_first = evicted-parts weight capacity is_live wins q ∙ sym (append_assoc (filter (λ x. not (is_live x)) q.admitted) (filter (λ x. not (is_live x)) q.waiting) behind)

  pub take-evicted : take (length (the_dead is_live q)) (evicted_in (parts weight capacity is_live wins q)) ≡ the_dead is_live q
  take-evicted = ap (take (length (the_dead is_live q))) evicted-dead_first ∙ take_at (the_dead is_live q) behind (length (the_dead is_live q)) refl

  pub behind_the_dead-evicted : behind_the_dead is_live q (evicted_in (parts weight capacity is_live wins q)) ≡ behind
  behind_the_dead-evicted = ap (drop (length (the_dead is_live q))) evicted-dead_first ∙ drop_at (the_dead is_live q) behind (length (the_dead is_live q)) refl

module _ {X : Type 0} (weight : X → ℕ) (capacity : Option ℕ) (wins : X → List X → Bool) where
  -- what is true of all that was admitted or waited is true of all that leaves
  pub All-evicted-judged : (P : X → Type 0) (admitted waiting : List X) → All P admitted → All P waiting → All P (evicted_in (judged weight capacity wins admitted waiting))
  All-evicted-judged P admitted [] a w = All-nil P
  All-evicted-judged P admitted (x ∷ xs) a w =
      let victims : ℕ = front weight capacity (weight x) admitted in
      let p : Part X = judge weight capacity wins admitted x xs in
      let x_alone : All P (x ∷ []) = All-cons P x [] (All-head P x xs w) (All-nil P) in
      let here : All P p.evicted × All P p.after.admitted =
      judge_both weight capacity wins admitted x xs (λ r. All P r.evicted × All P r.after.admitted)
      (λ _. (All-take P victims admitted a, All-push P (drop victims admitted) x (All-drop P victims admitted a) (All-head P x xs w)))
      (x_alone, a) in
      All-append P p.evicted (evicted_in (judged weight capacity wins p.after.admitted xs)) here.0 (All-evicted-judged P p.after.admitted xs here.1 (All-tail P x xs w))

module _ {X : Type 0} (weight : X → ℕ) (capacity : Option ℕ) (is_live : X → Bool) (wins : X → List X → Bool) (q : Queues X) where
  -- all that leaves behind the dead is live
  pub All-live-behind : All (λ x. is_live x ≡ true) (behind_the_dead is_live q (evicted_in (parts weight capacity is_live wins q)))
  All-live-behind =
      let live : X → Type 0 = λ x. is_live x ≡ true in
      let admitted : List X = filter is_live q.admitted in
      let n : ℕ = front weight capacity 0 admitted in
      rw (behind_the_dead-evicted weight capacity is_live wins q)
      (All-append live (take n admitted) (evicted_in (judged weight capacity wins (drop n admitted) (filter is_live q.waiting)))
      (All-take live n admitted (filter_passes is_live q.admitted))
      (All-evicted-judged weight capacity wins live (drop n admitted) (filter is_live q.waiting) (All-drop live n admitted (filter_passes is_live q.admitted)) (filter_passes is_live q.waiting)))

module _ {X : Type 0} (weight : X → ℕ) (capacity : Option ℕ) (wins : X → List X → Bool) (always : (x : X) (victims : List X) → wins x victims ≡ true) where
  -- what is not too heavy is admitted after the front that makes room
  pub judge-wins : (admitted : List X) (x : X) (waiting : List X) → fits weight capacity (weight x) [] ≡ true → judge weight capacity wins admitted x waiting ≡ admitting (front weight capacity (weight x) admitted) admitted x waiting
  judge-wins admitted x waiting alone =
      let victims : ℕ = front weight capacity (weight x) admitted in
      let wins_here : Bool = victims == 0 || wins x (take victims admitted) in
      cond-true (fits weight capacity (weight x) []) (if wins_here then admitting victims admitted x waiting else dropping admitted x waiting) (dropping admitted x waiting) alone
      ∙ cond-true wins_here (admitting victims admitted x waiting) (dropping admitted x waiting) (or_right (victims == 0) (wins x (take victims admitted)) (always x (take victims admitted)))

  -- what leaves, and then what stays, is all in its order
  evicted-append-admitted_after : (admitted waiting : List X) → AllByRecursion (λ x. fits weight capacity (weight x) [] ≡ true) waiting → evicted_in (judged weight capacity wins admitted waiting) ++ admitted_after weight capacity wins admitted waiting ≡ admitted ++ waiting
  evicted-append-admitted_after admitted [] light = sym (append-nil admitted)
  evicted-append-admitted_after admitted (x ∷ xs) light =
      let victims : ℕ = front weight capacity (weight x) admitted in
      let leave : List X = take victims admitted in
      let kept : List X = drop victims admitted in
      let now : List X = kept ++ x ∷ [] in
      ap (λ (p : Part X). (p.evicted ++ evicted_in (judged weight capacity wins p.after.admitted xs)) ++ admitted_after weight capacity wins p.after.admitted xs) (judge-wins admitted x xs light.0)
      ∙ append_assoc leave (evicted_in (judged weight capacity wins now xs)) (admitted_after weight capacity wins now xs)
      ∙ ap (λ ys. leave ++ ys) (evicted-append-admitted_after now xs light.1 ∙ append_assoc kept (x ∷ []) xs)
      ∙ sym (append_assoc leave kept (x ∷ xs))
      ∙ ap (λ ys. ys ++ x ∷ xs) (take-append-drop victims admitted)

  pub behind-append-admitted : (is_live : X → Bool) (q : Queues X) → AllByRecursion (λ x. fits weight capacity (weight x) [] ≡ true) (filter is_live q.waiting) → behind weight capacity is_live wins q ++ (after_parts q (parts weight capacity is_live wins q)).admitted ≡ the_living is_live q
  behind-append-admitted is_live q light =
      let admitted : List X = filter is_live q.admitted in
      let waiting : List X = filter is_live q.waiting in
      let n : ℕ = front weight capacity 0 admitted in
      ap (λ (after : Queues X). behind weight capacity is_live wins q ++ after.admitted) (after-parts weight capacity is_live wins q)
      ∙ append_assoc (take n admitted) (evicted_in (judged weight capacity wins (drop n admitted) waiting)) (admitted_after weight capacity wins (drop n admitted) waiting)
      ∙ ap (λ ys. take n admitted ++ ys) (evicted-append-admitted_after (drop n admitted) waiting light)
      ∙ sym (append_assoc (take n admitted) (drop n admitted) waiting)
      ∙ ap (λ ys. ys ++ waiting) (take-append-drop n admitted)

module _ {X : Type 0} (weight : X → ℕ) (capacity : ℕ) where
  -- what is no heavier than the capacity fits alone
  pub all_fit_alone : (xs : List X) → AllByRecursion (λ x. weight x ≤ capacity) xs → AllByRecursion (λ x. fits weight (Some capacity) (weight x) [] ≡ true) xs
  all_fit_alone [] light = tt
  all_fit_alone (x ∷ xs) light = let here : weight x ≤ capacity = light.0 in (le-leb (weight x + 0) capacity (omega arith), all_fit_alone xs light.1)

  -- the order of use alone says what leaves behind the dead
  pub behind_the_dead-append-admitted : (is_live : X → Bool) (wins : X → List X → Bool) (q : Queues X) → ((x : X) (victims : List X) → wins x victims ≡ true) → AllByRecursion (λ x. weight x ≤ capacity) (filter is_live q.waiting) → behind_the_dead is_live q (evicted_in (parts weight (Some capacity) is_live wins q)) ++ (after_parts q (parts weight (Some capacity) is_live wins q)).admitted ≡ the_living is_live q
  behind_the_dead-append-admitted is_live wins q always light =
      ap (λ ys. ys ++ (after_parts q (parts weight (Some capacity) is_live wins q)).admitted) (behind_the_dead-evicted weight (Some capacity) is_live wins q)
      ∙ behind-append-admitted weight (Some capacity) wins always is_live q (all_fit_alone (filter is_live q.waiting) light)
