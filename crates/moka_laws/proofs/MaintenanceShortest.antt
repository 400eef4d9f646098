-- Where each wins, what leaves behind the dead is the shortest front that brings the living within the capacity.
use Rattle.std.proofs.Common.{◌≡◌, ℕ, zero, suc, ◌+◌, ◌≤◌, min, Bool, true, false, Option, Some, None, List, [], ◌∷◌, ◌++◌, length, take, drop, filter, refl, sym, ap, ◌∙◌, ⊎_elim, length-append, length-take, append_assoc, append-nil, arith}
use Rattle.std.specs.List.{AllByRecursion}
use Rattle.std.proofs.lemmas.Bool.{cases_Bool, cond-true, cond-false, both_ways, leb-false, lt-leb}
use Rattle.std.proofs.lemmas.List.{take_at, drop_at, drop-append-le}
use Rattle.moka_model.specs.Maintenance.{Queues, Part, total, fits, front, judged, parts, evicted_in, after_parts}
use Rattle.moka_model.specs.MaintenanceLaws.{the_living, behind_the_dead}
use Rattle.moka_model.proofs.Callers.{total-append, front-fits, front-le, fits-none, fits-drop_front, fits-admitted, behind, behind_the_dead-evicted, judge-wins, all_fit_alone, behind-append-admitted}

module _ {X : Type 0} (weight : X → ℕ) where
  -- what is no lighter does not fit either
  heavier-fits : (capacity : Option ℕ) (m n : ℕ) (xs ys : List X) → m + total weight xs ≤ n + total weight ys → fits weight capacity m xs ≡ false → fits weight capacity n ys ≡ false
  heavier-fits None m n xs ys le past = absurd (both_ways (fits weight None m xs) past refl)
  heavier-fits (Some c) m n xs ys le past = let more = leb-false (m + total weight xs) c past in lt-leb (n + total weight ys) c (omega arith)

module _ {X : Type 0} (weight : X → ℕ) (capacity : Option ℕ) where
  -- a front is no shorter with more behind it
  front-append-le : (m n : ℕ) (xs ys : List X) → m ≤ n + total weight ys → front weight capacity m xs ≤ front weight capacity n (xs ++ ys)
  front-append-le m n [] ys le = omega arith
  front-append-le m n (x ∷ xs) ys le =
      let short : ℕ = front weight capacity m xs in
      let long : ℕ = front weight capacity n (xs ++ ys) in
      let rest : short ≤ long = front-append-le m n xs ys le in
      let all : total weight (xs ++ ys) ≡ total weight xs + total weight ys = total-append weight xs ys in
      let here : Bool = fits weight capacity m (x ∷ xs) in
      let there : Bool = fits weight capacity n (x ∷ (xs ++ ys)) in
      ⊎_elim
      (λ e. let none = cond-true here 0 (short + 1) e in omega arith)
      (λ e.
      let some = cond-false here 0 (short + 1) e in
      let past : there ≡ false = heavier-fits weight capacity m n (x ∷ xs) (x ∷ (xs ++ ys)) (omega arith) e in
      let more = cond-false there 0 (long + 1) past in
      omega arith)
      (cases_Bool here)

  -- a front goes on behind a part of it
  front-drop : (more n : ℕ) (xs : List X) → n ≤ front weight capacity more xs → n + front weight capacity more (drop n xs) ≡ front weight capacity more xs
  front-drop more zero xs le = omega arith
  front-drop more (suc n) [] le = absurd (omega arith)
  front-drop more (suc n) (x ∷ xs) le =
      let here : Bool = fits weight capacity more (x ∷ xs) in
      let rest : ℕ = front weight capacity more xs in
      ⊎_elim
      (λ e. let none = cond-true here 0 (rest + 1) e in absurd (omega arith))
      (λ e. let some = cond-false here 0 (rest + 1) e in let step = front-drop more n xs (omega arith) in omega arith)
      (cases_Bool here)

  -- two fronts in turn are the front of all
  front-turn : (more : ℕ) (xs ys : List X) → more ≤ 0 + total weight ys → front weight capacity more xs + front weight capacity 0 (drop (front weight capacity more xs) xs ++ ys) ≡ front weight capacity 0 (xs ++ ys)
  front-turn more xs ys le =
      let n : ℕ = front weight capacity more xs in
      ap (λ zs. n + front weight capacity 0 zs) (sym (drop-append-le n xs ys (front-le weight capacity more xs)))
      ∙ front-drop 0 n (xs ++ ys) (front-append-le more 0 xs ys le)

  -- a front has its length
  length-take_front : (more : ℕ) (xs : List X) → length (take (front weight capacity more xs) xs) ≡ front weight capacity more xs
  length-take_front more xs =
      let n : ℕ = front weight capacity more xs in
      let taken : length (take n xs) ≡ min n (length xs) = length-take n xs in
      let within : n ≤ length xs = front-le weight capacity more xs in
      omega arith

module _ {X : Type 0} (weight : X → ℕ) (capacity : Option ℕ) (wins : X → List X → Bool) (always : (x : X) (victims : List X) → wins x victims ≡ true) where
  -- what leaves as the waiting are judged is as long as the front of all
  length-evicted-wins : (admitted waiting : List X) → fits weight capacity 0 admitted ≡ true → AllByRecursion (λ x. fits weight capacity (weight x) [] ≡ true) waiting → length (evicted_in (judged weight capacity wins admitted waiting)) ≡ front weight capacity 0 (admitted ++ waiting)
  length-evicted-wins admitted [] fit light = sym (ap (front weight capacity 0) (append-nil admitted) ∙ front-fits weight capacity 0 admitted fit)
  length-evicted-wins admitted (x ∷ xs) fit light =
      let n : ℕ = front weight capacity (weight x) admitted in
      let kept : List X = drop n admitted in
      let now : List X = kept ++ x ∷ [] in
      let rest : List X = evicted_in (judged weight capacity wins now xs) in
      ap (λ (p : Part X). length (p.evicted ++ evicted_in (judged weight capacity wins p.after.admitted xs))) (judge-wins weight capacity wins always admitted x xs light.0)
      ∙ length-append (take n admitted) rest
      ∙ ap (λ k. k + length rest) (length-take_front weight capacity (weight x) admitted)
      ∙ ap (λ k. n + k) (length-evicted-wins now xs (fits-admitted weight capacity admitted x light.0) light.1)
      ∙ ap (λ ys. n + front weight capacity 0 ys) (append_assoc kept (x ∷ []) xs)
      ∙ front-turn weight capacity (weight x) admitted (x ∷ xs) (omega arith)

  -- so is what leaves behind the dead
  length-behind-wins : (is_live : X → Bool) (q : Queues X) → AllByRecursion (λ x. fits weight capacity (weight x) [] ≡ true) (filter is_live q.waiting) → length (behind weight capacity is_live wins q) ≡ front weight capacity 0 (the_living is_live q)
  length-behind-wins is_live q light =
      let admitted : List X = filter is_live q.admitted in
      let waiting : List X = filter is_live q.waiting in
      let n : ℕ = front weight capacity 0 admitted in
      let rest : List X = evicted_in (judged weight capacity wins (drop n admitted) waiting) in
      length-append (take n admitted) rest
      ∙ ap (λ k. k + length rest) (length-take_front weight capacity 0 admitted)
      ∙ ap (λ k. n + k) (length-evicted-wins (drop n admitted) waiting (fits-drop_front weight capacity 0 admitted (fits-none weight capacity)) light)
      ∙ front-turn weight capacity 0 admitted waiting (omega arith)

module _ {X : Type 0} (weight : X → ℕ) (capacity : ℕ) (is_live : X → Bool) (wins : X → List X → Bool) (q : Queues X) (always : (x : X) (victims : List X) → wins x victims ≡ true) (light : AllByRecursion (λ x. weight x ≤ capacity) (filter is_live q.waiting)) where
  length-behind-light : length (behind weight (Some capacity) is_live wins q) ≡ front weight (Some capacity) 0 (the_living is_live q)
  length-behind-light = length-behind-wins weight (Some capacity) wins always is_live q (all_fit_alone weight capacity (filter is_live q.waiting) light)

  behind-append-light : behind weight (Some capacity) is_live wins q ++ (after_parts q (parts weight (Some capacity) is_live wins q)).admitted ≡ the_living is_live q
  behind-append-light = behind-append-admitted weight (Some capacity) wins always is_live q (all_fit_alone weight capacity (filter is_live q.waiting) light)

  pub evicted-shortest : behind_the_dead is_live q (evicted_in (parts weight (Some capacity) is_live wins q)) ≡ take (front weight (Some capacity) 0 (the_living is_live q)) (the_living is_live q)
  evicted-shortest =
      let n : ℕ = front weight (Some capacity) 0 (the_living is_live q) in
      behind_the_dead-evicted weight (Some capacity) is_live wins q
      ∙ sym (take_at (behind weight (Some capacity) is_live wins q) (after_parts q (parts weight (Some capacity) is_live wins q)).admitted n length-behind-light)
      ∙ ap (take n) behind-append-light

  pub admitted-shortest : (after_parts q (parts weight (Some capacity) is_live wins q)).admitted ≡ drop (front weight (Some capacity) 0 (the_living is_live q)) (the_living is_live q)
  admitted-shortest =
      let n : ℕ = front weight (Some capacity) 0 (the_living is_live q) in
      sym (drop_at (behind weight (Some capacity) is_live wins q) (after_parts q (parts weight (Some capacity) is_live wins q)).admitted n length-behind-light)
      ∙ ap (drop n) behind-append-light
