-- Rows under numbers in a list, and in two lists one after the other.
use Rattle.std.proofs.Common.{◌≡◌, ℕ, suc, ◌+◌, ◌≢◌, ◌==◌, Bool, true, false, Option, Some, None, MatchOption, List, [], ◌∷◌, ◌++◌, length, if◌then◌else◌, refl, sym, ap, ◌∙◌, arith}
use Rattle.std.specs.Option.{option_or}
use Rattle.std.proofs.lemmas.Bool.{eq-eqb, eqb-true, ne_eqb}
use Rattle.moka_rows.specs.Rows.{row_under, with_row, without_row}

-- a number that equals n does not equal another number
eqb-other : (k m n : ℕ) → (k == n) ≡ true → m ≢ n → (k == m) ≡ false
eqb-other k m n is other = ne_eqb k m (λ same. other (sym same ∙ eqb-true k n is))

module _ {R : Type 0} where
  -- the row under a number in two lists, one after the other
  pub row_under-append : (n : ℕ) (xs ys : List (ℕ × R)) → row_under n (xs ++ ys) ≡ option_or (row_under n xs) (row_under n ys)
  row_under-append n [] ys = refl
  row_under-append n (p ∷ ps) ys =
      elim (p.0 == n) as (λ b. (if b then Some p.1 else row_under n (ps ++ ys)) ≡ option_or (if b then Some p.1 else row_under n ps) (row_under n ys)) [
        | true ↦ refl
        | false ↦ row_under-append n ps ys
      ]

  pub row_under-append_left : (n : ℕ) (xs ys : List (ℕ × R)) (r : R) → row_under n xs ≡ Some r → row_under n (xs ++ ys) ≡ Some r
  row_under-append_left n xs ys r found = row_under-append n xs ys ∙ rw found refl

  pub row_under-append_right : (n : ℕ) (xs ys : List (ℕ × R)) → row_under n xs ≡ None → row_under n (xs ++ ys) ≡ row_under n ys
  row_under-append_right n xs ys absent = row_under-append n xs ys ∙ rw absent refl

  -- a change, and a removal, in two lists, one after the other
  pub with_row-append_left : (n : ℕ) (change : R → R) (xs ys : List (ℕ × R)) (r : R) → row_under n xs ≡ Some r → with_row n change (xs ++ ys) ≡ with_row n change xs ++ ys
  with_row-append_left n change [] ys r found = cc
  with_row-append_left n change (p ∷ ps) ys r found =
      elim (p.0 == n) as (λ b. (if b then Some p.1 else row_under n ps) ≡ Some r →
      (if b then (p.0, change p.1) ∷ (ps ++ ys) else p ∷ with_row n change (ps ++ ys)) ≡ (if b then (p.0, change p.1) ∷ ps else p ∷ with_row n change ps) ++ ys) [
        | true ↦ λ _. refl
        | false ↦ λ later. ap (λ rest. p ∷ rest) (with_row-append_left n change ps ys r later)
      ] found

  pub with_row-append_right : (n : ℕ) (change : R → R) (xs ys : List (ℕ × R)) → row_under n xs ≡ None → with_row n change (xs ++ ys) ≡ xs ++ with_row n change ys
  with_row-append_right n change [] ys absent = refl
  with_row-append_right n change (p ∷ ps) ys absent =
      elim (p.0 == n) as (λ b. (if b then Some p.1 else row_under n ps) ≡ None →
      (if b then (p.0, change p.1) ∷ (ps ++ ys) else p ∷ with_row n change (ps ++ ys)) ≡ p ∷ (ps ++ with_row n change ys)) [
        | true ↦ λ here. cc
        | false ↦ λ later. ap (λ rest. p ∷ rest) (with_row-append_right n change ps ys later)
      ] absent

  pub without_row-append_left : (n : ℕ) (xs ys : List (ℕ × R)) (r : R) → row_under n xs ≡ Some r → without_row n (xs ++ ys) ≡ without_row n xs ++ ys
  without_row-append_left n [] ys r found = cc
  without_row-append_left n (p ∷ ps) ys r found =
      elim (p.0 == n) as (λ b. (if b then Some p.1 else row_under n ps) ≡ Some r →
      (if b then ps ++ ys else p ∷ without_row n (ps ++ ys)) ≡ (if b then ps else p ∷ without_row n ps) ++ ys) [
        | true ↦ λ _. refl
        | false ↦ λ later. ap (λ rest. p ∷ rest) (without_row-append_left n ps ys r later)
      ] found

  pub without_row-append_right : (n : ℕ) (xs ys : List (ℕ × R)) → row_under n xs ≡ None → without_row n (xs ++ ys) ≡ xs ++ without_row n ys
  without_row-append_right n [] ys absent = refl
  without_row-append_right n (p ∷ ps) ys absent =
      elim (p.0 == n) as (λ b. (if b then Some p.1 else row_under n ps) ≡ None →
      (if b then ps ++ ys else p ∷ without_row n (ps ++ ys)) ≡ p ∷ (ps ++ without_row n ys)) [
        | true ↦ λ here. cc
        | false ↦ λ later. ap (λ rest. p ∷ rest) (without_row-append_right n ps ys later)
      ] absent

  -- a change and a removal where no row stands under the number
  pub with_row-absent : (n : ℕ) (change : R → R) (xs : List (ℕ × R)) → row_under n xs ≡ None → with_row n change xs ≡ xs
  with_row-absent n change [] absent = refl
  with_row-absent n change (p ∷ ps) absent =
      elim (p.0 == n) as (λ b. (if b then Some p.1 else row_under n ps) ≡ None → (if b then (p.0, change p.1) ∷ ps else p ∷ with_row n change ps) ≡ p ∷ ps) [
        | true ↦ λ here. cc
        | false ↦ λ later. ap (λ rest. p ∷ rest) (with_row-absent n change ps later)
      ] absent

  pub without_row-absent : (n : ℕ) (xs : List (ℕ × R)) → row_under n xs ≡ None → without_row n xs ≡ xs
  without_row-absent n [] absent = refl
  without_row-absent n (p ∷ ps) absent =
      elim (p.0 == n) as (λ b. (if b then Some p.1 else row_under n ps) ≡ None → (if b then ps else p ∷ without_row n ps) ≡ p ∷ ps) [
        | true ↦ λ here. cc
        | false ↦ λ later. ap (λ rest. p ∷ rest) (without_row-absent n ps later)
      ] absent

  -- how many rows a change and a removal leave
  pub length-with_row : (n : ℕ) (change : R → R) (xs : List (ℕ × R)) → length (with_row n change xs) ≡ length xs
  length-with_row n change [] = refl
  length-with_row n change (p ∷ ps) =
      elim (p.0 == n) as (λ b. length (if b then (p.0, change p.1) ∷ ps else p ∷ with_row n change ps) ≡ length (p ∷ ps)) [
        | true ↦ refl
        | false ↦ ap suc (length-with_row n change ps)
      ]

  pub length-without_row : (n : ℕ) (xs : List (ℕ × R)) (r : R) → row_under n xs ≡ Some r → length (without_row n xs) + 1 ≡ length xs
  length-without_row n [] r found = cc
  length-without_row n (p ∷ ps) r found =
      elim (p.0 == n) as (λ b. (if b then Some p.1 else row_under n ps) ≡ Some r → length (if b then ps else p ∷ without_row n ps) + 1 ≡ length (p ∷ ps)) [
        | true ↦ λ _. omega arith
        | false ↦ λ later. let shorter = length-without_row n ps r later in omega arith
      ] found

  -- the first row of a list, where the number is its own and where it is another's
  pub row_under-here : (n : ℕ) (p : ℕ × R) (ps : List (ℕ × R)) → (p.0 == n) ≡ true → row_under n (p ∷ ps) ≡ Some p.1
  row_under-here n p ps is = rw is refl

  pub row_under-there : (n : ℕ) (p : ℕ × R) (ps : List (ℕ × R)) → (p.0 == n) ≡ false → row_under n (p ∷ ps) ≡ row_under n ps
  row_under-there n p ps is = rw is refl

  pub with_row-here : (n : ℕ) (change : R → R) (p : ℕ × R) (ps : List (ℕ × R)) → (p.0 == n) ≡ true → with_row n change (p ∷ ps) ≡ (p.0, change p.1) ∷ ps
  with_row-here n change p ps is = rw is refl

  pub with_row-there : (n : ℕ) (change : R → R) (p : ℕ × R) (ps : List (ℕ × R)) → (p.0 == n) ≡ false → with_row n change (p ∷ ps) ≡ p ∷ with_row n change ps
  with_row-there n change p ps is = rw is refl

  pub without_row-here : (n : ℕ) (p : ℕ × R) (ps : List (ℕ × R)) → (p.0 == n) ≡ true → without_row n (p ∷ ps) ≡ ps
  without_row-here n p ps is = rw is refl

  pub without_row-there : (n : ℕ) (p : ℕ × R) (ps : List (ℕ × R)) → (p.0 == n) ≡ false → without_row n (p ∷ ps) ≡ p ∷ without_row n ps
  without_row-there n p ps is = rw is refl

  -- the row under a number after a change of the row under another, or the same, number
  pub row_under-with_row_same : (n : ℕ) (change : R → R) (xs : List (ℕ × R)) (r : R) → row_under n xs ≡ Some r → row_under n (with_row n change xs) ≡ Some (change r)
  row_under-with_row_same n change [] r found = cc
  row_under-with_row_same n change (p ∷ ps) r found = go (p.0 == n) refl (row_under-with_row_same n change ps r)
    where
      go : (b : Bool) → (p.0 == n) ≡ b → (row_under n ps ≡ Some r → row_under n (with_row n change ps) ≡ Some (change r)) → row_under n (with_row n change (p ∷ ps)) ≡ Some (change r)
      go true is later = rw (with_row-here n change p ps is, row_under-here n (p.0, change p.1) ps is) (let e : p.1 ≡ r = cc (found, row_under-here n p ps is) in ap (λ x. Some (change x)) e)
      go false is later = rw (with_row-there n change p ps is, row_under-there n p (with_row n change ps) is) (later (sym (row_under-there n p ps is) ∙ found))

  pub row_under-with_row_other : (m n : ℕ) (change : R → R) (xs : List (ℕ × R)) → m ≢ n → row_under m (with_row n change xs) ≡ row_under m xs
  row_under-with_row_other m n change [] other = refl
  row_under-with_row_other m n change (p ∷ ps) other = go (p.0 == n) refl (row_under-with_row_other m n change ps other)
    where
      go : (b : Bool) → (p.0 == n) ≡ b → row_under m (with_row n change ps) ≡ row_under m ps → row_under m (with_row n change (p ∷ ps)) ≡ row_under m (p ∷ ps)
      go true is later = let not_here = eqb-other p.0 m n is other in rw (with_row-here n change p ps is, row_under-there m (p.0, change p.1) ps not_here, row_under-there m p ps not_here) refl
      go false is later = rw (with_row-there n change p ps is) (ap (λ o. if p.0 == m then Some p.1 else o) later)

  pub row_under-without_row_other : (m n : ℕ) (xs : List (ℕ × R)) → m ≢ n → row_under m (without_row n xs) ≡ row_under m xs
  row_under-without_row_other m n [] other = refl
  row_under-without_row_other m n (p ∷ ps) other = go (p.0 == n) refl (row_under-without_row_other m n ps other)
    where
      go : (b : Bool) → (p.0 == n) ≡ b → row_under m (without_row n ps) ≡ row_under m ps → row_under m (without_row n (p ∷ ps)) ≡ row_under m (p ∷ ps)
      go true is later = rw (without_row-here n p ps is, row_under-there m p ps (eqb-other p.0 m n is other)) refl
      go false is later = rw (without_row-there n p ps is) (ap (λ o. if p.0 == m then Some p.1 else o) later)

  -- the row under a number after a row was added as the last, or moved there
  pub row_under-push_same : (n : ℕ) (r : R) (xs : List (ℕ × R)) → row_under n xs ≡ None → row_under n (xs ++ (n, r) ∷ []) ≡ Some r
  row_under-push_same n r xs absent = row_under-append_right n xs ((n, r) ∷ []) absent ∙ row_under-here n (n, r) [] (eq-eqb n n refl)

  pub row_under-push_other : (m n : ℕ) (r : R) (xs : List (ℕ × R)) → m ≢ n → row_under m (xs ++ (n, r) ∷ []) ≡ row_under m xs
  row_under-push_other m n r xs other =
      row_under-append m xs ((n, r) ∷ []) ∙ (rw (row_under-there m (n, r) [] (ne_eqb n m (λ same. other (sym same)))) (or_none (row_under m xs)))
    where
      or_none : (o : Option R) → option_or o None ≡ o
      or_none None = refl
      or_none (Some r) = refl

  pub row_under-moved_other : (m n : ℕ) (r : R) (xs : List (ℕ × R)) → m ≢ n → row_under m (without_row n xs ++ (n, r) ∷ []) ≡ row_under m xs
  row_under-moved_other m n r xs other = row_under-push_other m n r (without_row n xs) other ∙ row_under-without_row_other m n xs other

  -- where the first row under a number stands in a list, and what a change there and its removal leave
  pub record SplitsAt (n : ℕ) (r : R) (rows front back : List (ℕ × R)) : Type 0 where
    pub whole : rows ≡ front ++ (n, r) ∷ back
    pub before : row_under n front ≡ None
    pub changed : (change : R → R) → with_row n change rows ≡ front ++ (n, change r) ∷ back
    pub rest : without_row n rows ≡ front ++ back

  pub split_at_row : (n : ℕ) (r : R) (rows : List (ℕ × R)) → row_under n rows ≡ Some r → (front : List (ℕ × R)) × (back : List (ℕ × R)) × SplitsAt n r rows front back
  split_at_row n r [] found = cc
  split_at_row n r (p ∷ ps) found = go (p.0 == n) refl (split_at_row n r ps)
    where
      here : (p.0 == n) ≡ true → p ≡ (n, r)
      here is = let value : p.1 ≡ r = cc (found, row_under-here n p ps is) in let number : p.0 ≡ n = eqb-true p.0 n is in λ i. (number i, value i)

      go : (b : Bool) → (p.0 == n) ≡ b → (row_under n ps ≡ Some r → (front : List (ℕ × R)) × (back : List (ℕ × R)) × SplitsAt n r ps front back) → (front : List (ℕ × R)) × (back : List (ℕ × R)) × SplitsAt n r (p ∷ ps) front back
      go true is later = (
        [],
        ps,
        record {
          whole = ap (λ q. q ∷ ps) (here is);
          before = refl;
          changed = λ change. with_row-here n change p ps is ∙ ap (λ (q : ℕ × R). (q.0, change q.1) ∷ ps) (here is);
          rest = without_row-here n p ps is;
        },
      )
      go false is later = (
        p ∷ next.0,
        next.1,
        record {
          whole = ap (λ rest. p ∷ rest) next.2.whole;
          before = row_under-there n p next.0 is ∙ next.2.before;
          changed = λ change. with_row-there n change p ps is ∙ ap (λ rest. p ∷ rest) (next.2.changed change);
          rest = without_row-there n p ps is ∙ ap (λ rest. p ∷ rest) next.2.rest;
        },
      )
        where
          next : (front : List (ℕ × R)) × (back : List (ℕ × R)) × SplitsAt n r ps front back
          next = later (sym (row_under-there n p ps is) ∙ found)

  -- two orders, one after the other, where the row under a number changed in one of them
  pub joined-with_row : (n : ℕ) (change : R → R) (front back front' back' : List (ℕ × R)) (Q : R → Type 0) → row_under n front ≡ None →
      MatchOption (row_under n front) ((front' ≡ front) × (back' ≡ with_row n change back)) Q → front' ++ back' ≡ with_row n change (front ++ back)
  joined-with_row n change front back front' back' Q absent after =
      let same = rw absent at after in
      rw (same.0, same.1) (sym (with_row-append_right n change front back absent))

  pub joined-without_row : (n : ℕ) (front back front' back' : List (ℕ × R)) →
      MatchOption (row_under n front) ((front' ≡ front) × (back' ≡ without_row n back)) (λ _. (front' ≡ without_row n front) × (back' ≡ back)) → front' ++ back' ≡ without_row n (front ++ back)
  joined-without_row n front back front' back' after = go (row_under n front) refl after
    where
      go : (o : Option R) → row_under n front ≡ o → MatchOption o ((front' ≡ front) × (back' ≡ without_row n back)) (λ _. (front' ≡ without_row n front) × (back' ≡ back)) → front' ++ back' ≡ without_row n (front ++ back)
      go None absent same = rw (same.0, same.1) (sym (without_row-append_right n front back absent))
      go (Some r) found same = rw (same.0, same.1) (sym (without_row-append_left n front back r found))

-- what stands under a number in two lists one after the other, and what a change there gives
pub ruleset joins = (row_under-append_left, row_under-append_right, with_row-append_left, with_row-append_right, without_row-append_left, without_row-append_right)
