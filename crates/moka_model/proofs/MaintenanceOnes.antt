-- A maintenance where each weighs one and each wins.
use Rattle.std.proofs.Common.{◌≡◌, ℕ, zero, suc, ◌+◌, ◌-◌, ◌≤◌, ◌||◌, ◌==◌, min, Bool, true, nat_le, if◌then◌else◌, Some, List, [], ◌∷◌, ◌++◌, length, take, drop, filter, refl, sym, ap, ◌∙◌, length-append, length-take, length-drop, append-nil, arith}
use Rattle.std.specs.List.{AllByRecursion}
use Rattle.std.proofs.lemmas.Bool.{cond_both, cond-false, leb-true, leb-false, lt-leb, le-leb}
use Rattle.std.proofs.lemmas.List.{take_at, drop_at, take_all, drop_all}
use Rattle.moka_model.specs.Maintenance.{Queues, Part, total, fits, front, judge, judged, parts, evicted_in, after_parts}
use Rattle.moka_model.specs.MaintenanceLaws.{the_living, behind_the_dead}
use Rattle.moka_model.proofs.Maintenance.{admitting, dropping, admitted_after, within, after-parts}
use Rattle.moka_model.proofs.MaintenanceOrder.{behind, behind_the_dead-evicted, judge-wins, behind-append-admitted}

module _ {X : Type 0} (weight : X → ℕ) (one : (x : X) → weight x ≡ 1) where
  pub total-ones : (xs : List X) → total weight xs ≡ length xs
  total-ones [] = refl
  total-ones (x ∷ xs) = let here = one x in let rest = total-ones xs in omega arith

  -- the front is as long as they pass the capacity
  front-ones : (capacity more : ℕ) (xs : List X) → more ≤ capacity → front weight (Some capacity) more xs ≡ more + length xs - capacity
  front-ones capacity more [] within = omega arith
  front-ones capacity more (x ∷ xs) within =
      let here = one x in
      let rest = total-ones xs in
      let n : ℕ = front weight (Some capacity) more xs in
      let shorter : n ≡ more + length xs - capacity = front-ones capacity more xs within in
      cond_both (nat_le (more + (weight x + total weight xs)) capacity) 0 (n + 1) (λ m. m ≡ more + suc (length xs) - capacity)
      (λ e. let enough = leb-true (more + (weight x + total weight xs)) capacity e in omega arith)
      (λ e. let past = leb-false (more + (weight x + total weight xs)) capacity e in omega arith)

  -- each fits alone where the capacity is not 0
  ones_fit_alone : (capacity : ℕ) → 1 ≤ capacity → (xs : List X) → AllByRecursion (λ x. fits weight (Some capacity) (weight x) [] ≡ true) xs
  ones_fit_alone capacity room [] = tt
  ones_fit_alone capacity room (x ∷ xs) = let here = one x in (le-leb (weight x + 0) capacity (omega arith), ones_fit_alone capacity room xs)

  module _ (wins : X → List X → Bool) (always : (x : X) (victims : List X) → wins x victims ≡ true) where
    -- as many leave as pass the capacity
    length-evicted-judged : (capacity : ℕ) → 1 ≤ capacity → (admitted waiting : List X) → length admitted ≤ capacity → length (evicted_in (judged weight (Some capacity) wins admitted waiting)) ≡ length admitted + length waiting - capacity
    length-evicted-judged capacity room admitted [] within = omega arith
    length-evicted-judged capacity room admitted (x ∷ xs) within =
        let n : ℕ = front weight (Some capacity) (weight x) admitted in
        let now : List X = drop n admitted ++ x ∷ [] in
        let here = one x in
        let victims : n ≡ weight x + length admitted - capacity = front-ones capacity (weight x) admitted (omega arith) in
        let taken : length (take n admitted) ≡ min n (length admitted) = length-take n admitted in
        let dropped : length (drop n admitted) ≡ length admitted - n = length-drop n admitted in
        let pushed : length now ≡ length (drop n admitted) + 1 = length-append (drop n admitted) (x ∷ []) in
        let rest : length (evicted_in (judged weight (Some capacity) wins now xs)) ≡ length now + length xs - capacity = length-evicted-judged capacity room now xs (omega arith) in
        let all : length (take n admitted ++ evicted_in (judged weight (Some capacity) wins now xs)) ≡ length (take n admitted) + length (evicted_in (judged weight (Some capacity) wins now xs)) = length-append (take n admitted) (evicted_in (judged weight (Some capacity) wins now xs)) in
        let sum : length (take n admitted ++ evicted_in (judged weight (Some capacity) wins now xs)) ≡ length admitted + suc (length xs) - capacity = omega arith in
        ap (λ (p : Part X). length (p.evicted ++ evicted_in (judged weight (Some capacity) wins p.after.admitted xs))) (judge-wins weight (Some capacity) wins always admitted x xs (le-leb (weight x + 0) capacity (omega arith))) ∙ sum

  module _ (wins : X → List X → Bool) where
    -- at a capacity of 0 each is too heavy
    judge-no_room : (x : X) (waiting : List X) → judge weight (Some 0) wins [] x waiting ≡ dropping [] x waiting
    judge-no_room x waiting =
        let here = one x in
        let victims : ℕ = front weight (Some 0) (weight x) [] in
        cond-false (nat_le (weight x + 0) 0) (if victims == 0 || wins x (take victims []) then admitting victims [] x waiting else dropping [] x waiting) (dropping [] x waiting) (lt-leb (weight x + 0) 0 (omega arith))

    evicted-judged-no_room : (waiting : List X) → evicted_in (judged weight (Some 0) wins [] waiting) ≡ waiting
    evicted-judged-no_room [] = refl
    evicted-judged-no_room (x ∷ xs) = ap (λ (p : Part X). p.evicted ++ evicted_in (judged weight (Some 0) wins p.after.admitted xs)) (judge-no_room x xs) ∙ ap (λ ys. x ∷ ys) (evicted-judged-no_room xs)

    admitted_after-no_room : (waiting : List X) → admitted_after weight (Some 0) wins [] waiting ≡ []
    admitted_after-no_room [] = refl
    admitted_after-no_room (x ∷ xs) = ap (λ (p : Part X). admitted_after weight (Some 0) wins p.after.admitted xs) (judge-no_room x xs) ∙ admitted_after-no_room xs

module _ {X : Type 0} (weight : X → ℕ) (one : (x : X) → weight x ≡ 1) (is_live : X → Bool) (wins : X → List X → Bool) (always : (x : X) (victims : List X) → wins x victims ≡ true) (q : Queues X) where
  abbrev admitted_then : ℕ → List X
  admitted_then capacity = (after_parts q (parts weight (Some capacity) is_live wins q)).admitted

  -- at a capacity of 0 nothing stays
  none_within : within weight (Some 0) is_live wins q ≡ []
  none_within =
      let admitted : List X = filter is_live q.admitted in
      let n : ℕ = front weight (Some 0) 0 admitted in
      let all : n ≡ 0 + length admitted - 0 = front-ones weight one 0 0 admitted (omega arith) in
      drop_all n admitted (omega arith)

  none_admitted : admitted_then 0 ≡ []
  none_admitted =
      let waiting : List X = filter is_live q.waiting in
      ap (λ (after : Queues X). after.admitted) (after-parts weight (Some 0) is_live wins q)
      ∙ ap (λ ys. admitted_after weight (Some 0) wins ys waiting) none_within
      ∙ admitted_after-no_room weight one wins waiting

  -- what leaves behind the dead, and then what stays, is all in its order
  ones_in_order : (capacity : ℕ) → behind weight (Some capacity) is_live wins q ++ admitted_then capacity ≡ the_living is_live q
  ones_in_order zero =
      let admitted : List X = filter is_live q.admitted in
      let waiting : List X = filter is_live q.waiting in
      let n : ℕ = front weight (Some 0) 0 admitted in
      let all : n ≡ 0 + length admitted - 0 = front-ones weight one 0 0 admitted (omega arith) in
      ap (λ ys. behind weight (Some 0) is_live wins q ++ ys) none_admitted
      ∙ append-nil (behind weight (Some 0) is_live wins q)
      ∙ ap (λ ys. take n admitted ++ evicted_in (judged weight (Some 0) wins ys waiting)) none_within
      ∙ ap (λ ys. take n admitted ++ ys) (evicted-judged-no_room weight one wins waiting)
      ∙ ap (λ ys. ys ++ waiting) (take_all n admitted (omega arith))
  ones_in_order (suc c) = behind-append-admitted weight (Some (suc c)) wins always is_live q (ones_fit_alone weight one (suc c) (omega arith) (filter is_live q.waiting))

  -- as many leave behind the dead as pass the capacity
  length-behind-ones : (capacity : ℕ) → length (behind weight (Some capacity) is_live wins q) ≡ length (the_living is_live q) - capacity
  length-behind-ones zero =
      let leaving : List X = behind weight (Some 0) is_live wins q in
      let same : leaving ≡ the_living is_live q = sym (append-nil leaving) ∙ ap (λ ys. leaving ++ ys) (sym none_admitted) ∙ ones_in_order 0 in
      let long : length leaving ≡ length (the_living is_live q) = ap length same in
      omega arith
  length-behind-ones (suc c) =
      let admitted : List X = filter is_live q.admitted in
      let waiting : List X = filter is_live q.waiting in
      let n : ℕ = front weight (Some (suc c)) 0 admitted in
      let over : n ≡ 0 + length admitted - suc c = front-ones weight one (suc c) 0 admitted (omega arith) in
      let taken : length (take n admitted) ≡ min n (length admitted) = length-take n admitted in
      let dropped : length (drop n admitted) ≡ length admitted - n = length-drop n admitted in
      let rest : List X = evicted_in (judged weight (Some (suc c)) wins (drop n admitted) waiting) in
      let last : length rest ≡ length (drop n admitted) + length waiting - suc c = length-evicted-judged weight one wins always (suc c) (omega arith) (drop n admitted) waiting (omega arith) in
      let all : length (take n admitted ++ rest) ≡ length (take n admitted) + length rest = length-append (take n admitted) rest in
      let living : length (admitted ++ waiting) ≡ length admitted + length waiting = length-append admitted waiting in
      omega arith

  pub evicted-ones : (capacity : ℕ) → behind_the_dead is_live q (evicted_in (parts weight (Some capacity) is_live wins q)) ≡ take (length (the_living is_live q) - capacity) (the_living is_live q)
  evicted-ones capacity =
      let n : ℕ = length (the_living is_live q) - capacity in
      let leaving : List X = behind weight (Some capacity) is_live wins q in
      behind_the_dead-evicted weight (Some capacity) is_live wins q
      ∙ sym (take_at leaving (admitted_then capacity) n (length-behind-ones capacity))
      ∙ ap (take n) (ones_in_order capacity)

  pub admitted-ones : (capacity : ℕ) → admitted_then capacity ≡ drop (length (the_living is_live q) - capacity) (the_living is_live q)
  admitted-ones capacity =
      let n : ℕ = length (the_living is_live q) - capacity in
      sym (drop_at (behind weight (Some capacity) is_live wins q) (admitted_then capacity) n (length-behind-ones capacity)) ∙ ap (drop n) (ones_in_order capacity)
