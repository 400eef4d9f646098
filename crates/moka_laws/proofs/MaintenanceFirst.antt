-- Those that wait are judged one by one.
use Rattle.std.proofs.Common.{◌≡◌, ℕ, ◌||◌, ◌==◌, Bool, true, false, if◌then◌else◌, Option, List, [], ◌∷◌, take, drop, refl, sym, ap, ◌∙◌}
use Rattle.std.specs.List.{All, AllByRecursion}
use Rattle.std.proofs.lemmas.List.Elements.{All-nil, All-cons, All-push, All-drop, All-from_recursion}
use Rattle.moka_model.specs.Maintenance.{Part, fits, front, judge, judged, parts}
use Rattle.moka_model.specs.MaintenanceLaws.{queues}
use Rattle.moka_model.proofs.Callers.{admitting, dropping, judge_both, fits-admitted}
use Rattle.moka_laws.proofs.MaintenanceResumed.{parts-live, by_weight-fit}

-- a part of a maintenance of one that waits, where others wait behind it
abbrev pub beside : {X : Type 0} → Part X → List X → Part X
beside p waiting = record { evicted = p.evicted; after = queues p.after.admitted waiting }

module _ {X : Type 0} (weight : X → ℕ) (capacity : Option ℕ) (wins : X → List X → Bool) (admitted : List X) (x : X) where
  -- what waits behind one does not matter to its judgement
  judge-beside : (waiting : List X) → judge weight capacity wins admitted x waiting ≡ beside (judge weight capacity wins admitted x []) waiting
  judge-beside waiting = go (fits weight capacity (weight x) []) (victims == 0 || wins x (take victims admitted))
    where
      victims : ℕ
      victims = front weight capacity (weight x) admitted

      one : Bool → Bool → List X → Part X
      one alone wins_it behind = if alone then (if wins_it then admitting victims admitted x behind else dropping admitted x behind) else dropping admitted x behind

      go : (alone wins_it : Bool) → one alone wins_it waiting ≡ beside (one alone wins_it []) waiting
      go true true = refl
      go true false = refl
      go false wins_it = refl

module _ {X : Type 0} (weight : X → ℕ) (capacity : Option ℕ) (is_live : X → Bool) (wins : X → List X → Bool) (admitted : List X) (x : X) (waiting : List X) where
  -- the first that waits is judged as if it waited alone, and the rest is the maintenance of what that leaves
  pub parts-first : AllByRecursion (λ y. is_live y ≡ true) (x ∷ admitted) → AllByRecursion (λ y. is_live y ≡ true) waiting → fits weight capacity 0 admitted ≡ true
      → (p : Part X) × (parts weight capacity is_live wins (queues admitted (x ∷ [])) ≡ p ∷ [])
      × (parts weight capacity is_live wins (queues admitted (x ∷ waiting)) ≡ beside p waiting ∷ parts weight capacity is_live wins (queues p.after.admitted waiting))
  parts-first live live_w fit =
      let is : X → Type 0 = λ y. is_live y ≡ true in
      let p : Part X = judge weight capacity wins admitted x [] in
      let n : ℕ = front weight capacity (weight x) admitted in
      let a : All is admitted = All-from_recursion is admitted live.1 in
      let w : All is waiting = All-from_recursion is waiting live_w in
      let now : All is p.after.admitted = judge_both weight capacity wins admitted x [] (λ r. All is r.after.admitted) (λ _. All-push is (drop n admitted) x (All-drop is n admitted a) live.0) a in
      let fit_now : fits weight capacity 0 p.after.admitted ≡ true = judge_both weight capacity wins admitted x [] (λ r. fits weight capacity 0 r.after.admitted ≡ true) (fits-admitted weight capacity admitted x) fit in
      let rest : parts weight capacity is_live wins (queues p.after.admitted waiting) ≡ judged weight capacity wins p.after.admitted waiting =
      parts-live weight capacity is_live wins p.after.admitted waiting now w ∙ by_weight-fit weight capacity is_live wins p.after.admitted waiting fit_now in (
        p,
        parts-live weight capacity is_live wins admitted (x ∷ []) a (All-cons is x [] live.0 (All-nil is)) ∙ by_weight-fit weight capacity is_live wins admitted (x ∷ []) fit,
        parts-live weight capacity is_live wins admitted (x ∷ waiting) a (All-cons is x waiting live.0 w)
            ∙ by_weight-fit weight capacity is_live wins admitted (x ∷ waiting) fit
            ∙ ap (λ (r : Part X). r ∷ judged weight capacity wins r.after.admitted waiting) (judge-beside weight capacity wins admitted x waiting)
            ∙ ap (λ rs. beside p waiting ∷ rs) (sym rest),
      )
