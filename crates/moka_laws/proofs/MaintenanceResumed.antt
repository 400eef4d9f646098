-- A maintenance that ended early goes on where it ended.
use Rattle.std.proofs.Common.{◌≡◌, ℕ, zero, suc, Bool, true, Option, Some, None, List, [], ◌∷◌, ◌++◌, length, take, drop, filter, refl, sym, ap, ◌∙◌, ⊎_elim, append_assoc, append-nil, take-append-drop, add-one, arith}
use Rattle.std.specs.List.{All}
use Rattle.std.proofs.lemmas.Bool.{cond-true, cases_Bool}
use Rattle.std.proofs.lemmas.List.{take_all, drop_all}
use Rattle.std.proofs.lemmas.List.Elements.{All-nil, All-head, All-tail, All-drop, All-push}
use Rattle.moka_model.specs.Maintenance.{Queues, Part, fits, front, dead_admitted, dead_waiting, over, judge, judged, parts, done, evicted_in, after_parts}
use Rattle.moka_model.specs.MaintenanceLaws.{queues}
use Rattle.moka_model.proofs.Callers.{judge_both, evicted_in-append, after_parts-append, front-fits, fits-none, fits-admitted}
use Rattle.moka_model.proofs.Callers.{done_front}

module _ {X : Type 0} (is_live : X → Bool) where
  -- all are live
  abbrev pub AllLive : List X → Type 0
  AllLive xs = All (λ x. is_live x ≡ true) xs

  -- a filter keeps the live
  filter-live : (xs : List X) → AllLive xs → filter is_live xs ≡ xs
  filter-live [] live = refl
  filter-live (x ∷ xs) live = rw (All-head (λ y. is_live y ≡ true) x xs live) (ap (λ ys. x ∷ ys) (filter-live xs (All-tail (λ y. is_live y ≡ true) x xs live)))

  filter-append-live : (kept xs : List X) → AllLive kept → filter is_live (kept ++ xs) ≡ kept ++ filter is_live xs
  filter-append-live [] xs live = refl
  filter-append-live (y ∷ ys) xs live = rw (All-head (λ z. is_live z ≡ true) y ys live) (ap (λ zs. y ∷ zs) (filter-append-live ys xs (All-tail (λ z. is_live z ≡ true) y ys live)))

  -- what is live is passed over
  dead_admitted-live : (before kept xs waiting : List X) → AllLive kept → dead_admitted is_live before (kept ++ xs) waiting ≡ dead_admitted is_live (before ++ kept) xs waiting
  dead_admitted-live before [] xs waiting live = ap (λ ys. dead_admitted is_live ys xs waiting) (sym (append-nil before))
  dead_admitted-live before (y ∷ ys) xs waiting live =
      rw (All-head (λ z. is_live z ≡ true) y ys live)
      (dead_admitted-live (before ++ y ∷ []) ys xs waiting (All-tail (λ z. is_live z ≡ true) y ys live)
      ∙ ap (λ zs. dead_admitted is_live zs xs waiting) (append_assoc before (y ∷ []) ys))

  dead_waiting-live : (admitted before kept xs : List X) → AllLive kept → dead_waiting is_live admitted before (kept ++ xs) ≡ dead_waiting is_live admitted (before ++ kept) xs
  dead_waiting-live admitted before [] xs live = ap (λ ys. dead_waiting is_live admitted ys xs) (sym (append-nil before))
  dead_waiting-live admitted before (y ∷ ys) xs live =
      rw (All-head (λ z. is_live z ≡ true) y ys live)
      (dead_waiting-live admitted (before ++ y ∷ []) ys xs (All-tail (λ z. is_live z ≡ true) y ys live)
      ∙ ap (λ zs. dead_waiting is_live admitted zs xs) (append_assoc before (y ∷ []) ys))

  dead_admitted-none : (xs waiting : List X) → AllLive xs → dead_admitted is_live [] xs waiting ≡ []
  dead_admitted-none xs waiting live = ap (λ ys. dead_admitted is_live [] ys waiting) (sym (append-nil xs)) ∙ dead_admitted-live [] xs [] waiting live

  dead_waiting-none : (admitted xs : List X) → AllLive xs → dead_waiting is_live admitted [] xs ≡ []
  dead_waiting-none admitted xs live = ap (λ ys. dead_waiting is_live admitted [] ys) (sym (append-nil xs)) ∙ dead_waiting-live admitted [] xs [] live

module _ {X : Type 0} (weight : X → ℕ) (capacity : Option ℕ) where
  -- where the admitted fit, none of them leaves
  over-fit : (xs waiting : List X) → fits weight capacity 0 xs ≡ true → over weight capacity xs waiting ≡ []
  over-fit [] waiting fit = refl
  over-fit (x ∷ xs) waiting fit = cond-true (fits weight capacity 0 (x ∷ xs)) [] (record { evicted = x ∷ []; after = queues xs waiting } ∷ over weight capacity xs waiting) fit

module _ {X : Type 0} (weight : X → ℕ) (capacity : Option ℕ) (is_live : X → Bool) (wins : X → List X → Bool) where
  -- what a maintenance does once the dead are gone
  abbrev pub by_weight : List X → List X → List (Part X)
  by_weight admitted waiting = over weight capacity admitted waiting ++ judged weight capacity wins (drop (front weight capacity 0 admitted) admitted) waiting

  -- these are the parts, and after each the rest are the parts
  abbrev Resumes : Queues X → List (Part X) → Type 0
  Resumes q [] = parts weight capacity is_live wins q ≡ []
  Resumes q (p ∷ ps) = (parts weight capacity is_live wins q ≡ p ∷ ps) × Resumes p.after ps

  parts-live_admitted : (admitted kept xs : List X) → AllLive is_live admitted → AllLive is_live kept → parts weight capacity is_live wins (queues admitted (kept ++ xs)) ≡ dead_waiting is_live admitted kept xs ++ by_weight admitted (kept ++ filter is_live xs)
  parts-live_admitted admitted kept xs live_a live_k =
      rw (dead_admitted-none is_live admitted (kept ++ xs) live_a, filter-live is_live admitted live_a, filter-append-live is_live kept xs live_k, dead_waiting-live is_live admitted [] kept xs live_k)

  pub parts-live : (admitted waiting : List X) → AllLive is_live admitted → AllLive is_live waiting → parts weight capacity is_live wins (queues admitted waiting) ≡ by_weight admitted waiting
  parts-live admitted waiting live_a live_w =
      rw (dead_admitted-none is_live admitted waiting live_a, filter-live is_live admitted live_a, filter-live is_live waiting live_w, dead_waiting-none is_live admitted waiting live_w)

  pub by_weight-fit : (admitted waiting : List X) → fits weight capacity 0 admitted ≡ true → by_weight admitted waiting ≡ judged weight capacity wins admitted waiting
  by_weight-fit admitted waiting fit = rw (over-fit weight capacity admitted waiting fit, front-fits weight capacity 0 admitted fit)

  Resumes-judged : (admitted waiting : List X) → AllLive is_live admitted → AllLive is_live waiting → fits weight capacity 0 admitted ≡ true → Resumes (queues admitted waiting) (judged weight capacity wins admitted waiting)
  Resumes-judged admitted [] live_a live_w fit = parts-live admitted [] live_a live_w ∙ by_weight-fit admitted [] fit
  Resumes-judged admitted (x ∷ xs) live_a live_w fit =
      let live : X → Type 0 = λ y. is_live y ≡ true in
      let p : Part X = judge weight capacity wins admitted x xs in
      let n : ℕ = front weight capacity (weight x) admitted in
      let still : p.after ≡ queues p.after.admitted xs = judge_both weight capacity wins admitted x xs (λ r. r.after ≡ queues r.after.admitted xs) (λ _. refl) refl in
      let live_now : All live p.after.admitted = judge_both weight capacity wins admitted x xs (λ r. All live r.after.admitted) (λ _. All-push live (drop n admitted) x (All-drop live n admitted live_a) (All-head live x xs live_w)) live_a in
      let fit_now : fits weight capacity 0 p.after.admitted ≡ true = judge_both weight capacity wins admitted x xs (λ r. fits weight capacity 0 r.after.admitted ≡ true) (fits-admitted weight capacity admitted x) fit in (
        parts-live admitted (x ∷ xs) live_a live_w ∙ by_weight-fit admitted (x ∷ xs) fit,
        rw still (Resumes-judged p.after.admitted xs live_now (All-tail live x xs live_w) fit_now),
      )

  Resumes-by_weight : (admitted waiting : List X) → AllLive is_live admitted → AllLive is_live waiting → Resumes (queues admitted waiting) (by_weight admitted waiting)
  Resumes-by_weight [] waiting live_a live_w = Resumes-judged [] waiting live_a live_w (fits-none weight capacity)
  Resumes-by_weight (x ∷ xs) waiting live_a live_w =
      let test : Bool = fits weight capacity 0 (x ∷ xs) in
      let live : X → Type 0 = λ y. is_live y ≡ true in
      ⊎_elim
      (λ fit. rw (by_weight-fit (x ∷ xs) waiting fit) (Resumes-judged (x ∷ xs) waiting live_a live_w fit))
      (λ past.
      let all : parts weight capacity is_live wins (queues (x ∷ xs) waiting) ≡ by_weight (x ∷ xs) waiting = parts-live (x ∷ xs) waiting live_a live_w in
      let step : by_weight (x ∷ xs) waiting ≡ record { evicted = x ∷ []; after = queues xs waiting } ∷ by_weight xs waiting = rw past (rw add-one refl) in
      rw step (all ∙ step, Resumes-by_weight xs waiting (All-tail live x xs live_a) live_w))
      (cases_Bool test)

  Resumes-waiting : (admitted kept xs : List X) → AllLive is_live admitted → AllLive is_live kept → Resumes (queues admitted (kept ++ xs)) (dead_waiting is_live admitted kept xs ++ by_weight admitted (kept ++ filter is_live xs))
  Resumes-waiting admitted kept [] live_a live_k = rw (append-nil kept) (Resumes-by_weight admitted kept live_a live_k)
  Resumes-waiting admitted kept (x ∷ xs) live_a live_k =
      let live : X → Type 0 = λ y. is_live y ≡ true in
      ⊎_elim
      (λ e. rw e (rw (append_assoc kept (x ∷ []) xs, append_assoc kept (x ∷ []) (filter is_live xs)) at (Resumes-waiting admitted (kept ++ x ∷ []) xs live_a (All-push live kept x live_k e))))
      (λ e.
      let all : parts weight capacity is_live wins (queues admitted (kept ++ x ∷ xs)) ≡ dead_waiting is_live admitted kept (x ∷ xs) ++ by_weight admitted (kept ++ filter is_live (x ∷ xs)) = parts-live_admitted admitted kept (x ∷ xs) live_a live_k in
      rw e (rw e at all, Resumes-waiting admitted kept xs live_a live_k))
      (cases_Bool (is_live x))

  -- what a maintenance does once the dead admitted are gone
  abbrev behind_admitted : List X → List X → List (Part X)
  behind_admitted admitted waiting = dead_waiting is_live admitted [] waiting ++ by_weight admitted (filter is_live waiting)

  parts-kept : (kept xs waiting : List X) → AllLive is_live kept → parts weight capacity is_live wins (queues (kept ++ xs) waiting) ≡ dead_admitted is_live kept xs waiting ++ behind_admitted (kept ++ filter is_live xs) waiting
  parts-kept kept xs waiting live_k = rw (dead_admitted-live is_live [] kept xs waiting live_k, filter-append-live is_live kept xs live_k)

  Resumes-kept : (kept xs waiting : List X) → AllLive is_live kept → Resumes (queues (kept ++ xs) waiting) (dead_admitted is_live kept xs waiting ++ behind_admitted (kept ++ filter is_live xs) waiting)
  Resumes-kept kept [] waiting live_k = rw (append-nil kept) (Resumes-waiting kept [] waiting live_k (All-nil (λ y. is_live y ≡ true)))
  Resumes-kept kept (x ∷ xs) waiting live_k =
      let live : X → Type 0 = λ y. is_live y ≡ true in
      ⊎_elim
      (λ e. rw e (rw (append_assoc kept (x ∷ []) xs, append_assoc kept (x ∷ []) (filter is_live xs)) at (Resumes-kept (kept ++ x ∷ []) xs waiting (All-push live kept x live_k e))))
      (λ e.
      let all : parts weight capacity is_live wins (queues (kept ++ x ∷ xs) waiting) ≡ dead_admitted is_live kept (x ∷ xs) waiting ++ behind_admitted (kept ++ filter is_live (x ∷ xs)) waiting = parts-kept kept (x ∷ xs) waiting live_k in
      rw e (rw e at all, Resumes-kept kept xs waiting live_k))
      (cases_Bool (is_live x))

  -- after the first of these parts the rest are the parts
  parts-after_take : (n : ℕ) (q : Queues X) (ps : List (Part X)) → parts weight capacity is_live wins q ≡ ps → Resumes q ps → parts weight capacity is_live wins (after_parts q (take n ps)) ≡ drop n ps
  parts-after_take zero q ps same resumes = same
  parts-after_take (suc n) q [] same resumes = same
  parts-after_take (suc n) q (p ∷ []) same resumes = parts-after_take n p.after [] resumes.1 resumes.1
  parts-after_take (suc n) q (p ∷ (r ∷ ps)) same resumes = parts-after_take n p.after (r ∷ ps) resumes.1.0 resumes.1

  module _ (q : Queues X) where
    -- after the first parts of a maintenance the parts that are left are those of the next one
    pub parts_left : (n : ℕ) → parts weight capacity is_live wins (after_parts q (take n (parts weight capacity is_live wins q))) ≡ drop n (parts weight capacity is_live wins q)
    parts_left n = parts-after_take n q (parts weight capacity is_live wins q) refl (Resumes-kept [] q.admitted q.waiting (All-nil (λ y. is_live y ≡ true)))

    -- after all of them there are none
    pub parts_none_left : parts weight capacity is_live wins (after_parts q (parts weight capacity is_live wins q)) ≡ []
    parts_none_left =
        let ps : List (Part X) = parts weight capacity is_live wins q in
        ap (λ rs. parts weight capacity is_live wins (after_parts q rs)) (sym (take_all (length ps) ps (omega arith)))
        ∙ parts_left (length ps)
        ∙ drop_all (length ps) ps (omega arith)

    -- what leaves in the first parts and then in those left is what leaves in all
    leaving_resumed : (n : ℕ) (ds : List (Part X)) → ds ≡ take n (parts weight capacity is_live wins q) → evicted_in ds ++ evicted_in (parts weight capacity is_live wins (after_parts q ds)) ≡ evicted_in (parts weight capacity is_live wins q)
    leaving_resumed n ds first =
        let ps : List (Part X) = parts weight capacity is_live wins q in
        ap (λ rs. evicted_in rs ++ evicted_in (parts weight capacity is_live wins (after_parts q rs))) first
        ∙ ap (λ rs. evicted_in (take n ps) ++ evicted_in rs) (parts_left n)
        ∙ sym (evicted_in-append (take n ps) (drop n ps))
        ∙ ap evicted_in (take-append-drop n ps)

    after_resumed : (n : ℕ) (ds : List (Part X)) → ds ≡ take n (parts weight capacity is_live wins q) → after_parts (after_parts q ds) (parts weight capacity is_live wins (after_parts q ds)) ≡ after_parts q (parts weight capacity is_live wins q)
    after_resumed n ds first =
        let ps : List (Part X) = parts weight capacity is_live wins q in
        ap (λ rs. after_parts (after_parts q rs) (parts weight capacity is_live wins (after_parts q rs))) first
        ∙ ap (after_parts (after_parts q (take n ps))) (parts_left n)
        ∙ sym (after_parts-append q (take n ps) (drop n ps))
        ∙ ap (after_parts q) (take-append-drop n ps)

    pub leaving_in_turn : (limit : Option ℕ) → evicted_in (done limit (parts weight capacity is_live wins q)) ++ evicted_in (parts weight capacity is_live wins (after_parts q (done limit (parts weight capacity is_live wins q)))) ≡ evicted_in (parts weight capacity is_live wins q)
    leaving_in_turn None = leaving_resumed (length (parts weight capacity is_live wins q)) (parts weight capacity is_live wins q) (sym (take_all (length (parts weight capacity is_live wins q)) (parts weight capacity is_live wins q) (omega arith)))
    leaving_in_turn (Some limit) = let front_of = done_front (parts weight capacity is_live wins q) limit in leaving_resumed front_of.0 (done (Some limit) (parts weight capacity is_live wins q)) front_of.1

    pub after_in_turn : (limit : Option ℕ) → after_parts (after_parts q (done limit (parts weight capacity is_live wins q))) (parts weight capacity is_live wins (after_parts q (done limit (parts weight capacity is_live wins q)))) ≡ after_parts q (parts weight capacity is_live wins q)
    after_in_turn None = after_resumed (length (parts weight capacity is_live wins q)) (parts weight capacity is_live wins q) (sym (take_all (length (parts weight capacity is_live wins q)) (parts weight capacity is_live wins q) (omega arith)))
    after_in_turn (Some limit) = let front_of = done_front (parts weight capacity is_live wins q) limit in after_resumed front_of.0 (done (Some limit) (parts weight capacity is_live wins q)) front_of.1
