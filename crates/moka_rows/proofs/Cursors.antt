-- A cursor over rows whose numbers differ: what is read at it, and what is before and behind it.
use Rattle.std.proofs.Common.{◌≡◌, ℕ, ◌+◌, ◌≤◌, ◌==◌, true, false, Option, Some, None, MatchOption, List, [], ◌∷◌, ◌++◌, if◌then◌else◌, refl, sym, ap, ◌∙◌, arith}
use Rattle.std.specs.Option.{IsSome}
use Rattle.std.proofs.lemmas.Bool.{eq-eqb}
use Rattle.moka_rows.specs.Rows.{row_under, without_row, first_number, number_after, count_under, TakesFirst, NumbersDiffer}
use Rattle.moka_rows.proofs.NumberLemmas.{count_under-append, row_under-none}
use Rattle.moka_rows.proofs.RowLemmas.{row_under-append_left, row_under-append_right, row_under-here, without_row-here, without_row-append_right}

-- a row counts under its own number
counts_itself : (n : ℕ) → 1 ≤ (if n == n then 1 else 0)
counts_itself n = let is : (n == n) ≡ true = eq-eqb n n refl in rw is (omega arith)

module _ {R : Type 0} where
  -- the rows from the first one under a number on
  abbrev pub rows_from_number : ℕ → List (ℕ × R) → List (ℕ × R)
  rows_from_number n [] = []
  rows_from_number n (p ∷ ps) = if p.0 == n then p ∷ ps else rows_from_number n ps

  -- the rows from a cursor on, none where it stands behind the last
  abbrev pub rows_from : Option ℕ → List (ℕ × R) → List (ℕ × R)
  rows_from None rows = []
  rows_from (Some n) rows = rows_from_number n rows

  -- a list with a first number begins with that row
  pub begins-with : (rows : List (ℕ × R)) (n : ℕ) → Some n ≡ first_number rows → (r : R) × (back : List (ℕ × R)) × (rows ≡ (n, r) ∷ back)
  begins-with [] n first = cc
  begins-with (p ∷ ps) n first = let same : p.0 ≡ n = cc in (p.1, ps, λ i. (same i, p.1) ∷ ps)

  rows_from-here : (n : ℕ) (r : R) (back : List (ℕ × R)) → rows_from_number n ((n, r) ∷ back) ≡ (n, r) ∷ back
  rows_from-here n r back = let is : (n == n) ≡ true = eq-eqb n n refl in rw is refl

  -- a cursor at the first row has all rows before it
  pub rows_from-first : (rows : List (ℕ × R)) → rows_from (first_number rows) rows ≡ rows
  rows_from-first [] = refl
  rows_from-first (p ∷ ps) = rows_from-here p.0 p.1 ps

  rows_from-append_right : (n : ℕ) (front back : List (ℕ × R)) → row_under n front ≡ None → rows_from_number n (front ++ back) ≡ rows_from_number n back
  rows_from-append_right n [] back absent = refl
  rows_from-append_right n (p ∷ ps) back absent =
      elim (p.0 == n) as (λ b. (if b then Some p.1 else row_under n ps) ≡ None →
      (if b then p ∷ (ps ++ back) else rows_from_number n (ps ++ back)) ≡ rows_from_number n back) [
        | true ↦ λ here. cc
        | false ↦ λ later. rows_from-append_right n ps back later
      ] absent

  number_after-append_right : (n : ℕ) (front back : List (ℕ × R)) → row_under n front ≡ None → number_after n (front ++ back) ≡ number_after n back
  number_after-append_right n [] back absent = refl
  number_after-append_right n (p ∷ ps) back absent =
      elim (p.0 == n) as (λ b. (if b then Some p.1 else row_under n ps) ≡ None →
      (if b then first_number (ps ++ back) else number_after n (ps ++ back)) ≡ number_after n back) [
        | true ↦ λ here. cc
        | false ↦ λ later. number_after-append_right n ps back later
      ] absent

  module _ (n : ℕ) (r : R) (front back : List (ℕ × R)) where
    count_under-at : (m : ℕ) → count_under m (front ++ (n, r) ∷ back) ≡ count_under m front + ((if n == m then 1 else 0) + count_under m back)
    count_under-at m = count_under-append m front ((n, r) ∷ back)

    -- where the numbers differ, no row before one has its number
    pub absent-before : NumbersDiffer (front ++ (n, r) ∷ back) → row_under n front ≡ None
    absent-before apart =
        let once = apart n in
        let parts = count_under-at n in
        row_under-none n front (omega (arith, once, parts, counts_itself n))

    -- the numbers differ without one row as well
    pub differ-without : NumbersDiffer (front ++ (n, r) ∷ back) → NumbersDiffer (front ++ back)
    differ-without apart m = let once = apart m in let parts = count_under-at m in let rest = count_under-append m front back in omega (arith, once, parts, rest)

    -- a row stands under its number, whether or not another one before it has the number
    pub stored-at : IsSome (row_under n (front ++ (n, r) ∷ back))
    stored-at = go (row_under n front) refl
      where
        go : (o : Option R) → row_under n front ≡ o → IsSome (row_under n (front ++ (n, r) ∷ back))
        go None absent = rw (row_under-append_right n front ((n, r) ∷ back) absent, row_under-here n (n, r) back (eq-eqb n n refl)) refl
        go (Some q) found = rw (row_under-append_left n front ((n, r) ∷ back) q found) refl

    module _ (absent : row_under n front ≡ None) where
      -- what is read at a row behind others, and what its leaving leaves
      pub row_under-at : row_under n (front ++ (n, r) ∷ back) ≡ Some r
      row_under-at = row_under-append_right n front ((n, r) ∷ back) absent ∙ row_under-here n (n, r) back (eq-eqb n n refl)

      pub without_row-at : without_row n (front ++ (n, r) ∷ back) ≡ front ++ back
      without_row-at = without_row-append_right n front ((n, r) ∷ back) absent ∙ ap (λ l. front ++ l) (without_row-here n (n, r) back (eq-eqb n n refl))

      pub number_after-at : number_after n (front ++ (n, r) ∷ back) ≡ first_number back
      number_after-at = number_after-append_right n front ((n, r) ∷ back) absent ∙ (let is : (n == n) ≡ true = eq-eqb n n refl in rw is refl)

  -- where the numbers differ, a cursor at the first of the last rows has these before it
  pub rows_from-at : (front back : List (ℕ × R)) → NumbersDiffer (front ++ back) → rows_from (first_number back) (front ++ back) ≡ back
  rows_from-at front [] apart = refl
  rows_from-at front (p ∷ ps) apart = rows_from-append_right p.0 front (p ∷ ps) (absent-before p.0 p.1 front ps apart) ∙ rows_from-here p.0 p.1 ps

  -- the numbers differ in the first of two lists
  pub differ-front : (front back : List (ℕ × R)) → NumbersDiffer (front ++ back) → NumbersDiffer front
  differ-front front back apart m = let once = apart m in let parts = count_under-append m front back in omega (arith, once, parts)

  -- and in the second
  pub differ-back : (front back : List (ℕ × R)) → NumbersDiffer (front ++ back) → NumbersDiffer back
  differ-back front back apart m = let once = apart m in let parts = count_under-append m front back in omega (arith, once, parts)

  -- an order that has no first number has no rows
  pub none-first : (rows : List (ℕ × R)) → None ≡ first_number rows → rows ≡ []
  none-first [] none = refl
  none-first (p ∷ ps) none = cc

  -- the first row of an order
  module _ (n : ℕ) (front back : List (ℕ × R)) (first : Some n ≡ first_number front) where
    under-first : (r : R) × (rest : List (ℕ × R)) × (front ≡ (n, r) ∷ rest) × (row_under n front ≡ Some r)
    under-first =
        let begins = begins-with front n first in
        (begins.0, begins.1, begins.2, ap (row_under n) begins.2 ∙ row_under-at n begins.0 [] begins.1 refl)

    -- is stored,
    pub first-stored : IsSome (row_under n (front ++ back))
    first-stored = let it = under-first in rw (row_under-append_left n front back it.0 it.3) refl

    -- and its removal takes it from the front
    pub takes-first : (row : R) (front' back' : List (ℕ × R)) → row_under n (front ++ back) ≡ Some row
        → MatchOption (row_under n front) ((front' ≡ front) × (back' ≡ without_row n back)) (λ _. (front' ≡ without_row n front) × (back' ≡ back))
        → TakesFirst (Some row) front front' × (back' ≡ back)
    takes-first row front' back' there taken =
        let it = under-first in
        let left = rw it.3 at taken in
        let both : Some it.0 ≡ Some row = sym (row_under-append_left n front back it.0 it.3) ∙ there in
        let same : it.0 ≡ row = cc in
        let rest : front' ≡ it.1 = left.0 ∙ ap (without_row n) it.2 ∙ without_row-at n it.0 [] it.1 refl in
        ((n, it.2 ∙ ap (λ (r : R). (n, r) ∷ it.1) same ∙ ap (λ l. (n, row) ∷ l) (sym rest)), left.1)
