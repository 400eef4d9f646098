-- How often a number occurs, rows with different numbers, and the place of a row.
use Rattle.std.proofs.Common.{◌≡◌, ℕ, suc, zero, ◌+◌, ◌<◌, ◌≤◌, ◌≢◌, ◌==◌, Bool, true, false, Option, Some, None, List, [], ◌∷◌, ◌++◌, length, take, get_or, set, if◌then◌else◌, refl, sym, ap, ◌∙◌, add-one, arith}
use Rattle.std.specs.List.{find, filter, remove}
use Rattle.std.specs.Option.{option_map, option_or, IfSome, IfNone, IsSome}
use Rattle.std.proofs.lemmas.List.{take_more, length-append, get_or_default}
use Rattle.std.proofs.lemmas.Bool.{eq-eqb, ne_eqb, eqb-true}
use Rattle.moka_rows.specs.Rows.{count_under, row_under, with_row, without_row, number_after, NumbersDiffer}
use Rattle.moka_rows.specs.Numbers.{number_where, IsNumbered, IsPlaceOf}
use Rattle.moka_rows.proofs.RowLemmas.{row_under-append_right, row_under-here, row_under-there, with_row-here, with_row-there, without_row-here, without_row-there, length-with_row, length-without_row}

module _ {R : Type 0} where
  IsPlaceOf-here : (n : ℕ) (p : ℕ × R) (ps : List (ℕ × R)) → p.0 ≡ n → IsPlaceOf n (p ∷ ps) 0
  IsPlaceOf-here n p ps is =
      let test = eq-eqb p.0 n is in record {
        within = omega arith;
        number = λ q read. ap (λ r. r.0) read ∙ is;
        row = λ q read. row_under-here n p ps test ∙ ap (λ r. Some r.1) (sym read);
        changed = λ q change read. ap (λ (r : ℕ × R). (r.0, change r.1) ∷ ps) read ∙ sym (with_row-here n change p ps test);
        rest = sym (without_row-here n p ps test);
        next = rw test refl;
      }

  number_after-there : (n : ℕ) (p : ℕ × R) (ps : List (ℕ × R)) → (p.0 == n) ≡ false → number_after n (p ∷ ps) ≡ number_after n ps
  number_after-there n p ps is = rw is refl

  IsPlaceOf-there : (n : ℕ) (p : ℕ × R) (ps : List (ℕ × R)) (place : ℕ) → (p.0 == n) ≡ false → IsPlaceOf n ps place → IsPlaceOf n (p ∷ ps) (suc place)
  IsPlaceOf-there n p ps place other later = record {
    within = let within = later.within in omega arith;
    number = λ q read. later.number q read;
    row = λ q read. row_under-there n p ps other ∙ later.row q read;
    changed = λ q change read. ap (λ rest. p ∷ rest) (later.changed q change read) ∙ sym (with_row-there n change p ps other);
    rest = ap (λ rest. p ∷ rest) later.rest ∙ sym (without_row-there n p ps other);
    next = number_after-there n p ps other ∙ later.next ∙ rw (add-one, add-one) refl;
  }

  -- a row with the number, before which no row has it
  pub IsPlaceOf-first : (n : ℕ) (rows : List (ℕ × R)) (place : ℕ) (d : ℕ × R) → place < length rows → (get_or rows place d).0 ≡ n → row_under n (take place rows) ≡ None → IsPlaceOf n rows place
  IsPlaceOf-first n [] place d within is before = absurd (omega arith)
  IsPlaceOf-first n (p ∷ ps) zero d within is before = IsPlaceOf-here n p ps is
  IsPlaceOf-first n (p ∷ ps) (suc place) d within is before = go (p.0 == n) refl (IsPlaceOf-first n ps place d (omega arith) is)
    where
      go : (b : Bool) → (p.0 == n) ≡ b → (row_under n (take place ps) ≡ None → IsPlaceOf n ps place) → IsPlaceOf n (p ∷ ps) (suc place)
      go true test later = cc (before, row_under-here n p (take place ps) test)
      go false test later = IsPlaceOf-there n p ps place test (later (sym (row_under-there n p (take place ps) test) ∙ before))

  -- a row stands under the number that has a place
  pub row_under-place : (n : ℕ) (rows : List (ℕ × R)) (place : ℕ) → IsPlaceOf n rows place → (r : R) × (row_under n rows ≡ Some r)
  row_under-place n [] place at = let within = at.within in absurd (omega arith)
  row_under-place n (p ∷ ps) place at = ((get_or (p ∷ ps) place p).1, at.row (get_or (p ∷ ps) place p) (get_or_default (p ∷ ps) place p _ at.within))

  -- if neither the first rows nor the next one have the number, the first rows and the next one do not
  pub row_under-take_more : (n : ℕ) (rows : List (ℕ × R)) (place : ℕ) (d : ℕ × R) → place < length rows → (get_or rows place d).0 ≢ n → row_under n (take place rows) ≡ None → row_under n (take (place + 1) rows) ≡ None
  row_under-take_more n rows place d within other before =
      rw (take_more rows place d within)
      (row_under-append_right n (take place rows) (get_or rows place d ∷ []) before
      ∙ row_under-there n (get_or rows place d) [] (ne_eqb (get_or rows place d).0 n other))

  pub count_under-append : (n : ℕ) (xs ys : List (ℕ × R)) → count_under n (xs ++ ys) ≡ count_under n xs + count_under n ys
  count_under-append n [] ys = omega arith
  count_under-append n (p ∷ ps) ys = let later = count_under-append n ps ys in omega arith

  pub count_under-with_row : (m n : ℕ) (change : R → R) (xs : List (ℕ × R)) → count_under m (with_row n change xs) ≡ count_under m xs
  count_under-with_row m n change [] = refl
  count_under-with_row m n change (p ∷ ps) =
      elim (p.0 == n) as (λ b. count_under m (if b then (p.0, change p.1) ∷ ps else p ∷ with_row n change ps) ≡ count_under m (p ∷ ps)) [
        | true ↦ refl
        | false ↦ ap (λ k. (if p.0 == m then 1 else 0) + k) (count_under-with_row m n change ps)
      ]

  count_under-here : (n : ℕ) (p : ℕ × R) (ps : List (ℕ × R)) → (p.0 == n) ≡ true → count_under n (p ∷ ps) ≡ 1 + count_under n ps
  count_under-here n p ps is = rw is refl

  -- what is taken out is one row under its own number
  pub count_under-without_row : (m n : ℕ) (xs : List (ℕ × R)) (r : R) → row_under n xs ≡ Some r → count_under m xs ≡ (if n == m then 1 else 0) + count_under m (without_row n xs)
  count_under-without_row m n [] r found = cc
  count_under-without_row m n (p ∷ ps) r found = go (p.0 == n) refl (count_under-without_row m n ps r)
    where
      go : (b : Bool) → (p.0 == n) ≡ b → (row_under n ps ≡ Some r → count_under m ps ≡ (if n == m then 1 else 0) + count_under m (without_row n ps)) → count_under m (p ∷ ps) ≡ (if n == m then 1 else 0) + count_under m (without_row n (p ∷ ps))
      go true test later = rw (without_row-here n p ps test) (ap (λ k. (if k == m then 1 else 0) + count_under m ps) (eqb-true p.0 n test))
      go false test later = rw (without_row-there n p ps test) (let rest = later (sym (row_under-there n p ps test) ∙ found) in omega arith)

  -- there is no row with a number that does not occur, and there is one with a number that does
  pub row_under-none : (n : ℕ) (xs : List (ℕ × R)) → count_under n xs ≡ 0 → row_under n xs ≡ None
  row_under-none n [] zero_times = refl
  row_under-none n (p ∷ ps) zero_times =
      elim (p.0 == n) as (λ b. (if b then 1 else 0) + count_under n ps ≡ 0 → (if b then Some p.1 else row_under n ps) ≡ None) [
        | true ↦ λ once. absurd (omega arith)
        | false ↦ λ never. row_under-none n ps (omega arith)
      ] zero_times

  pub count_under-some : (n : ℕ) (xs : List (ℕ × R)) (r : R) → row_under n xs ≡ Some r → 1 ≤ count_under n xs
  count_under-some n [] r found = cc
  count_under-some n (p ∷ ps) r found =
      elim (p.0 == n) as (λ b. (if b then Some p.1 else row_under n ps) ≡ Some r → 1 ≤ (if b then 1 else 0) + count_under n ps) [
        | true ↦ λ _. omega arith
        | false ↦ λ later. let rest = count_under-some n ps r later in omega arith
      ] found

  -- if the numbers differ, no row of the second part has the number of a row of the first part
  pub absent-behind : (n : ℕ) (front back : List (ℕ × R)) (r : R) → NumbersDiffer (front ++ back) → row_under n front ≡ Some r → row_under n back ≡ None
  absent-behind n front back r apart found =
      row_under-none n back (let once = apart n in let here = count_under-some n front r found in let parts = count_under-append n front back in omega (arith, once, here, parts))

  -- no row has the next number
  pub row_under-next : (next : ℕ) (rows : List (ℕ × R)) → IsNumbered next rows → row_under next rows ≡ None
  row_under-next next rows numbered = row_under-none next rows (numbered.below next (omega arith))

  -- lists in which no number occurs more often than before, and which are not longer
  IsNumbered-same : (next : ℕ) (xs ys : List (ℕ × R)) → ((m : ℕ) → count_under m ys ≤ count_under m xs) → length ys ≤ length xs → IsNumbered next xs → IsNumbered next ys
  IsNumbered-same next xs ys fewer shorter numbered = record {
    apart = λ m. let once = numbered.apart m in let le = fewer m in omega arith;
    below = λ m above. let none = numbered.below m above in let le = fewer m in omega arith;
    few = let few = numbered.few in omega arith;
  }

  -- the numbers stay apart when a row is added under the next number,
  pub IsNumbered-push : (next : ℕ) (front back : List (ℕ × R)) (r : R) → IsNumbered next (front ++ back) → IsNumbered (next + 1) (front ++ (back ++ (next, r) ∷ []))
  IsNumbered-push next front back r numbered = record {
    apart = λ n. rw (total n) (elim (next == n) as (λ b. (next == n) ≡ b → (if b then 1 else 0) + count_under n (front ++ back) ≤ 1) [
      | true ↦ λ is. let none = numbered.below n (let same = eqb-true next n is in omega arith) in omega arith
      | false ↦ λ _. let once = numbered.apart n in omega arith
    ] refl);
    below = λ n above. rw (total n, ne_eqb next n (omega arith)) (let none = numbered.below n (omega arith) in omega arith);
    few = let few = numbered.few in omega (arith, length-append front back, length-append front (back ++ (next, r) ∷ []), length-append back ((next, r) ∷ []));
  }
    where
      total : (n : ℕ) → count_under n (front ++ (back ++ (next, r) ∷ [])) ≡ (if next == n then 1 else 0) + count_under n (front ++ back)
      total n = omega (arith, count_under-append n front back, count_under-append n front (back ++ (next, r) ∷ []), count_under-append n back ((next, r) ∷ []))

  -- when a row behind changes,
  pub IsNumbered-changed : (next n place : ℕ) (front back : List (ℕ × R)) (p : ℕ × R) (change : R → R) → IsPlaceOf n back place → p ≡ get_or back place p → IsNumbered next (front ++ back) → IsNumbered next (front ++ set back place (p.0, change p.1))
  IsNumbered-changed next n place front back p change at read numbered =
      rw (at.changed p change read)
      (IsNumbered-same next (front ++ back) (front ++ with_row n change back)
      (λ m. omega (arith, count_under-append m front back, count_under-append m front (with_row n change back), count_under-with_row m n change back))
      (omega (arith, length-append front back, length-append front (with_row n change back), length-with_row n change back)) numbered)

  -- or a row in front,
  pub IsNumbered-changed_front : (next n place : ℕ) (front back : List (ℕ × R)) (p : ℕ × R) (change : R → R) → IsPlaceOf n front place → p ≡ get_or front place p → IsNumbered next (front ++ back) → IsNumbered next (set front place (p.0, change p.1) ++ back)
  IsNumbered-changed_front next n place front back p change at read numbered =
      rw (at.changed p change read)
      (IsNumbered-same next (front ++ back) (with_row n change front ++ back)
      (λ m. omega (arith, count_under-append m front back, count_under-append m (with_row n change front) back, count_under-with_row m n change front))
      (omega (arith, length-append front back, length-append (with_row n change front) back, length-with_row n change front)) numbered)

  -- when a row in front becomes the last there,
  pub IsNumbered-moved : (next n place : ℕ) (front back : List (ℕ × R)) (p : ℕ × R) (s : R) → IsPlaceOf n front place → p ≡ get_or front place p → IsNumbered next (front ++ back) → IsNumbered next ((remove front place ++ (n, s) ∷ []) ++ back)
  IsNumbered-moved next n place front back p s at read numbered =
      rw at.rest
      (IsNumbered-same next (front ++ back) ((without_row n front ++ (n, s) ∷ []) ++ back)
      (λ m. omega (arith, count_under-append m front back, count_under-append m (without_row n front ++ (n, s) ∷ []) back, count_under-append m (without_row n front) ((n, s) ∷ []), count_under-without_row m n front p.1 (at.row p read)))
      (omega (arith, length-append front back, length-append (without_row n front ++ (n, s) ∷ []) back, length-append (without_row n front) ((n, s) ∷ []), length-without_row n front p.1 (at.row p read))) numbered)

  -- when a row behind becomes the last in front,
  pub IsNumbered-admitted : (next n place : ℕ) (front back : List (ℕ × R)) (p : ℕ × R) → IsPlaceOf n back place → p ≡ get_or back place p → IsNumbered next (front ++ back) → IsNumbered next ((front ++ (n, p.1) ∷ []) ++ remove back place)
  IsNumbered-admitted next n place front back p at read numbered =
      rw at.rest
      (IsNumbered-same next (front ++ back) ((front ++ (n, p.1) ∷ []) ++ without_row n back)
      (λ m. omega (arith, count_under-append m front back, count_under-append m (front ++ (n, p.1) ∷ []) (without_row n back), count_under-append m front ((n, p.1) ∷ []), count_under-without_row m n back p.1 (at.row p read)))
      (omega (arith, length-append front back, length-append (front ++ (n, p.1) ∷ []) (without_row n back), length-append front ((n, p.1) ∷ []), length-without_row n back p.1 (at.row p read))) numbered)

  -- and when a row in front or behind is taken out.
  pub IsNumbered-remove_front : (next n place : ℕ) (front back : List (ℕ × R)) (p : ℕ × R) → IsPlaceOf n front place → p ≡ get_or front place p → IsNumbered next (front ++ back) → IsNumbered next (remove front place ++ back)
  IsNumbered-remove_front next n place front back p at read numbered =
      rw at.rest
      (IsNumbered-same next (front ++ back) (without_row n front ++ back)
      (λ m. omega (arith, count_under-append m front back, count_under-append m (without_row n front) back, count_under-without_row m n front p.1 (at.row p read)))
      (omega (arith, length-append front back, length-append (without_row n front) back, length-without_row n front p.1 (at.row p read))) numbered)

  pub IsNumbered-remove_back : (next n place : ℕ) (front back : List (ℕ × R)) (p : ℕ × R) → IsPlaceOf n back place → p ≡ get_or back place p → IsNumbered next (front ++ back) → IsNumbered next (front ++ remove back place)
  IsNumbered-remove_back next n place front back p at read numbered =
      rw at.rest
      (IsNumbered-same next (front ++ back) (front ++ without_row n back)
      (λ m. omega (arith, count_under-append m front back, count_under-append m front (without_row n back), count_under-without_row m n back p.1 (at.row p read)))
      (omega (arith, length-append front back, length-append front (without_row n back), length-without_row n back p.1 (at.row p read))) numbered)

  -- a row that a test finds stands under its number
  row_under-number_where : (test : R → Bool) (n : ℕ) (rows : List (ℕ × R)) → ((m : ℕ) → count_under m rows ≤ 1) → number_where test rows ≡ Some n → (r : R) × (row_under n rows ≡ Some r) × (test r ≡ true)
  row_under-number_where test n [] apart found = cc
  row_under-number_where test n (p ∷ ps) apart found = go (test p.1) refl (row_under-number_where test n ps (λ m. let once = apart m in omega arith))
    where
      go : (b : Bool) → test p.1 ≡ b → (number_where test ps ≡ Some n → (r : R) × (row_under n ps ≡ Some r) × (test r ≡ true)) → (r : R) × (row_under n (p ∷ ps) ≡ Some r) × (test r ≡ true)
      go true passes later = (p.1, row_under-here n p ps (eq-eqb p.0 n (let first = rw passes at found in cc)), passes)
      go false fails later = (next.0, row_under-there n p ps (ne_eqb p.0 n other) ∙ next.1, next.2)
        where
          next : (r : R) × (row_under n ps ≡ Some r) × (test r ≡ true)
          next = later (rw fails at found)

          other : p.0 ≢ n
          other same = let once = apart n in let twice = count_under-here n p ps (eq-eqb p.0 n same) in let rest = count_under-some n ps next.0 next.1 in omega arith

  pub IfSome-number_where : (test : R → Bool) (next : ℕ) (rows : List (ℕ × R)) (o : Option ℕ) → IsNumbered next rows → o ≡ number_where test rows → IfSome o (λ n. IfSome (row_under n rows) (λ r. test r ≡ true))
  IfSome-number_where test next rows None numbered is = tt
  IfSome-number_where test next rows (Some n) numbered is =
      let found = row_under-number_where test n rows numbered.apart (sym is) in
      rw found.1 found.2

  pub IsSome-number_where : (test : R → Bool) (next : ℕ) (rows : List (ℕ × R)) (o : Option ℕ) → IsNumbered next rows → o ≡ number_where test rows → IfSome o (λ n. IsSome (row_under n rows))
  IsSome-number_where test next rows None numbered is = tt
  IsSome-number_where test next rows (Some n) numbered is = rw (row_under-number_where test n rows numbered.apart (sym is)).1 refl

  -- where a test finds no row, none passes it
  filter-none_found : (test : R → Bool) (rows : List (ℕ × R)) → number_where test rows ≡ None → filter (λ p. test p.1) rows ≡ []
  filter-none_found test [] none = refl
  filter-none_found test (p ∷ ps) none =
      elim (test p.1) as (λ b. option_map (λ (p : ℕ × R). p.0) (if b then Some p else find (λ p. test p.1) ps) ≡ None → (if b then p ∷ filter (λ p. test p.1) ps else filter (λ p. test p.1) ps) ≡ []) [
        | true ↦ λ here. cc
        | false ↦ λ later. filter-none_found test ps later
      ] none

  pub IfNone-number_where : (test : R → Bool) (rows : List (ℕ × R)) (o : Option ℕ) → o ≡ number_where test rows → IfNone o (filter (λ p. test p.1) rows ≡ [])
  IfNone-number_where test rows None is = filter-none_found test rows (sym is)
  IfNone-number_where test rows (Some n) is = tt

  -- the search goes on in the second list where it found nothing in the first
  number_where-append : (test : R → Bool) (xs ys : List (ℕ × R)) → number_where test (xs ++ ys) ≡ option_or (number_where test xs) (number_where test ys)
  number_where-append test [] ys = refl
  number_where-append test (p ∷ ps) ys =
      elim (test p.1) as (λ b. option_map (λ (p : ℕ × R). p.0) (if b then Some p else find (λ p. test p.1) (ps ++ ys)) ≡ option_or (option_map (λ (p : ℕ × R). p.0) (if b then Some p else find (λ p. test p.1) ps)) (number_where test ys)) [
        | true ↦ refl
        | false ↦ number_where-append test ps ys
      ]

  pub number_where-append_left : (test : R → Bool) (xs ys : List (ℕ × R)) (n : ℕ) → Some n ≡ number_where test xs → Some n ≡ number_where test (xs ++ ys)
  number_where-append_left test xs ys n found = sym (number_where-append test xs ys ∙ rw (← found) refl)

  pub number_where-append_right : (test : R → Bool) (xs ys : List (ℕ × R)) (o : Option ℕ) → None ≡ number_where test xs → o ≡ number_where test ys → o ≡ number_where test (xs ++ ys)
  number_where-append_right test xs ys o none is = is ∙ sym (number_where-append test xs ys ∙ rw (← none) refl)
