-- What a maintenance does with one that waits beside live ones within the capacity.
use Rattle.std.proofs.Common.{◌≡◌, ℕ, ◌+◌, ◌<◌, ◌≤◌, ◌||◌, ◌==◌, Bool, true, false, if◌then◌else◌, Some, List, [], ◌∷◌, take, drop, sym, ap, ◌∙◌, ⊎_elim, arith}
use Rattle.std.specs.List.{AllByRecursion}
use Rattle.std.proofs.lemmas.Bool.{cases_Bool, cond-true, cond-false, le-leb, lt-leb, leb-true, or_right, or_from, ne_eqb}
use Rattle.std.proofs.lemmas.List.Elements.{All-nil, All-cons, All-from_recursion}
use Rattle.moka_model.specs.Maintenance.{Part, total, fits, front, judge, parts}
use Rattle.moka_model.specs.MaintenanceLaws.{queues}
use Rattle.moka_model.proofs.Callers.{admitting, dropping, fits-drop_front, judge-room}
use Rattle.moka_laws.proofs.MaintenanceResumed.{parts-live, by_weight-fit}

module _ {X : Type 0} (weight : X → ℕ) (capacity : ℕ) (is_live : X → Bool) (wins : X → List X → Bool) (admitted : List X) (x : X) (live : AllByRecursion (λ y. is_live y ≡ true) (x ∷ admitted)) where
  -- the only part judges it
  parts-one : total weight admitted ≤ capacity → parts weight (Some capacity) is_live wins (queues admitted (x ∷ [])) ≡ judge weight (Some capacity) wins admitted x [] ∷ []
  parts-one within =
      let is : X → Type 0 = λ y. is_live y ≡ true in
      parts-live weight (Some capacity) is_live wins admitted (x ∷ []) (All-from_recursion is admitted live.1) (All-cons is x [] live.0 (All-nil is))
      ∙ by_weight-fit weight (Some capacity) is_live wins admitted (x ∷ []) (le-leb (0 + total weight admitted) capacity (omega arith))

  pub parts-too_heavy : total weight admitted ≤ capacity → capacity < weight x → parts weight (Some capacity) is_live wins (queues admitted (x ∷ [])) ≡ dropping admitted x [] ∷ []
  parts-too_heavy within heavy =
      let n : ℕ = front weight (Some capacity) (weight x) admitted in
      parts-one within
      ∙ ap (λ (p : Part X). p ∷ []) (cond-false (fits weight (Some capacity) (weight x) []) (if n == 0 || wins x (take n admitted) then admitting n admitted x [] else dropping admitted x []) (dropping admitted x []) (lt-leb (weight x + 0) capacity (omega arith)))

  pub parts-room : weight x + total weight admitted ≤ capacity → parts weight (Some capacity) is_live wins (queues admitted (x ∷ [])) ≡ admitting 0 admitted x [] ∷ []
  parts-room room = parts-one (omega arith) ∙ ap (λ (p : Part X). p ∷ []) (judge-room weight (Some capacity) wins admitted x [] (le-leb (weight x + total weight admitted) capacity room))

  pub parts-wins : total weight admitted ≤ capacity → weight x ≤ capacity → wins x (take (front weight (Some capacity) (weight x) admitted) admitted) ≡ true → parts weight (Some capacity) is_live wins (queues admitted (x ∷ [])) ≡ admitting (front weight (Some capacity) (weight x) admitted) admitted x [] ∷ []
  parts-wins within light wins_it =
      let n : ℕ = front weight (Some capacity) (weight x) admitted in
      let wins_here : Bool = n == 0 || wins x (take n admitted) in
      parts-one within
      ∙ ap (λ (p : Part X). p ∷ [])
      (cond-true (fits weight (Some capacity) (weight x) []) (if wins_here then admitting n admitted x [] else dropping admitted x []) (dropping admitted x []) (le-leb (weight x + 0) capacity (omega arith))
      ∙ cond-true wins_here (admitting n admitted x []) (dropping admitted x []) (or_right (n == 0) (wins x (take n admitted)) wins_it))

  pub parts-loses : total weight admitted ≤ capacity → capacity < weight x + total weight admitted → wins x (take (front weight (Some capacity) (weight x) admitted) admitted) ≡ false → parts weight (Some capacity) is_live wins (queues admitted (x ∷ [])) ≡ dropping admitted x [] ∷ []
  parts-loses within full loses_it =
      let n : ℕ = front weight (Some capacity) (weight x) admitted in
      let wins_here : Bool = n == 0 || wins x (take n admitted) in
      parts-one within ∙ ap (λ (p : Part X). p ∷ [])
      (⊎_elim
      (λ alone.
      let enough : fits weight (Some capacity) (weight x) (drop n admitted) ≡ true = fits-drop_front weight (Some capacity) (weight x) admitted alone in
      let some : (n == 0) ≡ false = ne_eqb n 0 (λ none. let all : fits weight (Some capacity) (weight x) admitted ≡ true = ap (λ k. fits weight (Some capacity) (weight x) (drop k admitted)) (sym none) ∙ enough in let le = leb-true (weight x + total weight admitted) capacity all in omega arith) in
      cond-true (fits weight (Some capacity) (weight x) []) (if wins_here then admitting n admitted x [] else dropping admitted x []) (dropping admitted x []) alone
      ∙ cond-false wins_here (admitting n admitted x []) (dropping admitted x []) (or_from (n == 0) (wins x (take n admitted)) some loses_it))
      (λ heavy. cond-false (fits weight (Some capacity) (weight x) []) (if wins_here then admitting n admitted x [] else dropping admitted x []) (dropping admitted x []) heavy)
      (cases_Bool (fits weight (Some capacity) (weight x) [])))
