-- A maintenance depends only on the weights of the elements in its queues.
use Rattle.std.proofs.Common.{◌≡◌, ℕ, ◌+◌, ◌||◌, ◌==◌, Bool, cond, nat_le, Option, Some, None, List, [], ◌∷◌, ◌++◌, take, drop, filter, refl, ap, ◌∙◌}
use Rattle.std.specs.List.{All}
use Rattle.std.proofs.lemmas.List.Elements.{All-nil, All-head, All-tail, All-push, All-drop, All-filter}
use Rattle.moka_model.specs.Maintenance.{Queues, Part, total, fits, front, dead_admitted, dead_waiting, over, judge, judged, parts}
use Rattle.moka_model.proofs.Maintenance.{admitting, dropping, judge_both}

module _ {X : Type 0} (a b : X → ℕ) where
  -- two weights of one are the same
  abbrev pub Agrees : X → Type 0
  Agrees x = a x ≡ b x

  pub total-agrees : (xs : List X) → All Agrees xs → total a xs ≡ total b xs
  total-agrees [] same = refl
  total-agrees (x ∷ xs) same = ap (λ n. n + total a xs) (All-head Agrees x xs same) ∙ ap (λ n. b x + n) (total-agrees xs (All-tail Agrees x xs same))

  fits-agrees : (capacity : Option ℕ) (more : ℕ) (xs : List X) → All Agrees xs → fits a capacity more xs ≡ fits b capacity more xs
  fits-agrees None more xs same = refl
  fits-agrees (Some capacity) more xs same = ap (λ n. nat_le (more + n) capacity) (total-agrees xs same)

  pub front-agrees : (capacity : Option ℕ) (more : ℕ) (xs : List X) → All Agrees xs → front a capacity more xs ≡ front b capacity more xs
  front-agrees capacity more [] same = refl
  front-agrees capacity more (x ∷ xs) same =
      ap (λ t. cond t 0 (front a capacity more xs + 1)) (fits-agrees capacity more (x ∷ xs) same) ∙ ap (λ n. cond (fits b capacity more (x ∷ xs)) 0 (n + 1)) (front-agrees capacity more xs (All-tail Agrees x xs same))

  module _ (capacity : Option ℕ) where
    over-agrees : (xs waiting : List X) → All Agrees xs → over a capacity xs waiting ≡ over b capacity xs waiting
    over-agrees [] waiting same = refl
    over-agrees (x ∷ xs) waiting same =
        let first : Part X = record { evicted = x ∷ []; after = record { admitted = xs; waiting = waiting } } in
        ap (λ t. cond t [] (first ∷ over a capacity xs waiting)) (fits-agrees capacity 0 (x ∷ xs) same) ∙ ap (λ ps. cond (fits b capacity 0 (x ∷ xs)) [] (first ∷ ps)) (over-agrees xs waiting (All-tail Agrees x xs same))

    module _ (wins : X → List X → Bool) where
      judge-agrees : (admitted : List X) (x : X) (waiting : List X) → All Agrees admitted → a x ≡ b x → judge a capacity wins admitted x waiting ≡ judge b capacity wins admitted x waiting
      judge-agrees admitted x waiting same one =
          let made : ℕ → Bool → Part X = λ n t. cond t (cond (n == 0 || wins x (take n admitted)) (admitting n admitted x waiting) (dropping admitted x waiting)) (dropping admitted x waiting) in
          ap (λ m. made (front a capacity m admitted) (fits a capacity m [])) one
          ∙ ap (λ n. made n (fits a capacity (b x) [])) (front-agrees capacity (b x) admitted same)
          ∙ ap (made (front b capacity (b x) admitted)) (fits-agrees capacity (b x) [] (All-nil Agrees))

      judged-agrees : (admitted waiting : List X) → All Agrees admitted → All Agrees waiting → judged a capacity wins admitted waiting ≡ judged b capacity wins admitted waiting
      judged-agrees admitted [] same also = refl
      judged-agrees admitted (x ∷ xs) same also =
          let here : a x ≡ b x = All-head Agrees x xs also in
          let is = judge-agrees admitted x xs same here in
          let after : All Agrees (judge b capacity wins admitted x xs).after.admitted =
          judge_both b capacity wins admitted x xs (λ p. All Agrees p.after.admitted) (λ _. All-push Agrees (drop (front b capacity (b x) admitted) admitted) x (All-drop Agrees (front b capacity (b x) admitted) admitted same) here) same in
          ap (λ (p : Part X). p ∷ judged a capacity wins p.after.admitted xs) is ∙ ap (λ ps. judge b capacity wins admitted x xs ∷ ps) (judged-agrees (judge b capacity wins admitted x xs).after.admitted xs after (All-tail Agrees x xs also))

      pub parts-agrees : (is_live : X → Bool) (q : Queues X) → All Agrees q.admitted → All Agrees q.waiting → parts a capacity is_live wins q ≡ parts b capacity is_live wins q
      parts-agrees is_live q same also =
          let admitted : List X = filter is_live q.admitted in
          let waiting : List X = filter is_live q.waiting in
          let live = All-filter is_live Agrees q.admitted same in
          let live_too = All-filter is_live Agrees q.waiting also in
          let before : List (Part X) → List (Part X) = λ ps. dead_admitted is_live [] q.admitted q.waiting ++ (dead_waiting is_live admitted [] q.waiting ++ ps) in
          ap (λ ps. before (ps ++ judged a capacity wins (drop (front a capacity 0 admitted) admitted) waiting)) (over-agrees admitted waiting live)
          ∙ ap (λ n. before (over b capacity admitted waiting ++ judged a capacity wins (drop n admitted) waiting)) (front-agrees capacity 0 admitted live)
          ∙ ap (λ ps. before (over b capacity admitted waiting ++ ps)) (judged-agrees (drop (front b capacity 0 admitted) admitted) waiting (All-drop Agrees (front b capacity 0 admitted) admitted live) live_too)
