-- What holds of each row under its number, where a row comes, leaves, or is used.
use Rattle.std.proofs.Common.{◌≡◌, ℕ, ◌==◌, Bool, true, false, Option, Some, None, MatchOption, List, [], ◌∷◌, ◌++◌, if◌then◌else◌, refl, sym, subst, ◌∙◌}
use Rattle.std.proofs.lemmas.Bool.{eqb-true}
use Rattle.std.specs.List.{AllByRecursion}
use Rattle.moka_rows.specs.Rows.{row_under, with_row, without_row}
use Rattle.moka_rows.proofs.RowLemmas.{row_under-append_left, row_under-append_right, split_at_row}
use Rattle.moka_rows.proofs.Elements.{all-append, all-front, all-back}

module _ {R : Type 0} (P : ℕ × R → Type 0) where
  -- it holds of the row under a number,
  pub each-at : (n : ℕ) (r : R) (rows : List (ℕ × R)) → AllByRecursion P rows → row_under n rows ≡ Some r → P (n, r)
  each-at n r rows all there =
      let c = split_at_row n r rows there in
      (all-back P c.0 ((n, r) ∷ c.1) (subst (AllByRecursion P) c.2.whole all)).0

  -- of those that are left without it,
  pub each-without : (n : ℕ) (rows : List (ℕ × R)) → AllByRecursion P rows → AllByRecursion P (without_row n rows)
  each-without n [] all = tt
  each-without n (p ∷ ps) all =
      elim (p.0 == n) as (λ b. AllByRecursion P (if b then ps else p ∷ without_row n ps)) [
        | true ↦ all.1
        | false ↦ (all.0, each-without n ps all.1)
      ]

  module _ (n : ℕ) (change : R → R) where
    -- and of those with it changed, where it holds of that row then.
    pub each-changed : (rows : List (ℕ × R)) → ((r : R) → row_under n rows ≡ Some r → P (n, change r)) → AllByRecursion P rows → AllByRecursion P (with_row n change rows)
    each-changed [] it all = tt
    each-changed (p ∷ ps) it all = go (p.0 == n) refl (λ later. each-changed ps later all.1)
      where
        go : (b : Bool) → (p.0 == n) ≡ b → (((r : R) → row_under n ps ≡ Some r → P (n, change r)) → AllByRecursion P (with_row n change ps)) → AllByRecursion P (with_row n change (p ∷ ps))
        go true is rest =
            let here : row_under n (p ∷ ps) ≡ Some p.1 = rw is refl in
            rw is (subst (λ m. P (m, change p.1)) (sym (eqb-true p.0 n is)) (it p.1 here), all.1)
        go false is rest = rw is (all.0, rest (λ r found. let there : row_under n (p ∷ ps) ≡ Some r = rw is found in it r there))

    -- So it does after a use of a row,
    pub each-used : (admitted waiting admitted' waiting' : List (ℕ × R)) → ((r : R) → row_under n (admitted ++ waiting) ≡ Some r → P (n, change r)) → AllByRecursion P (admitted ++ waiting)
        → MatchOption (row_under n admitted)
        ((admitted' ≡ admitted) × (waiting' ≡ with_row n change waiting))
        (λ r. (admitted' ≡ without_row n admitted ++ (n, change r) ∷ []) × (waiting' ≡ waiting))
        → AllByRecursion P (admitted' ++ waiting')
    each-used admitted waiting admitted' waiting' it all after = go (row_under n admitted) refl after
      where
        go : (o : Option R) → row_under n admitted ≡ o
            → MatchOption o ((admitted' ≡ admitted) × (waiting' ≡ with_row n change waiting)) (λ r. (admitted' ≡ without_row n admitted ++ (n, change r) ∷ []) × (waiting' ≡ waiting))
            → AllByRecursion P (admitted' ++ waiting')
        go None absent is =
            rw (is.0, is.1)
            (all-append P admitted (with_row n change waiting) (all-front P admitted waiting all)
            (each-changed waiting (λ r found. it r (row_under-append_right n admitted waiting absent ∙ found)) (all-back P admitted waiting all)))
        go (Some r) here is =
            rw (is.0, is.1)
            (all-append P (without_row n admitted ++ (n, change r) ∷ []) waiting
            (all-append P (without_row n admitted) ((n, change r) ∷ []) (each-without n admitted (all-front P admitted waiting all)) (it r (row_under-append_left n admitted waiting r here), tt))
            (all-back P admitted waiting all))

  module _ (n : ℕ) (admitted waiting admitted' waiting' : List (ℕ × R)) (all : AllByRecursion P (admitted ++ waiting)) where
    -- after one was taken out,
    pub each-taken : MatchOption (row_under n admitted)
        ((admitted' ≡ admitted) × (waiting' ≡ without_row n waiting))
        (λ _. (admitted' ≡ without_row n admitted) × (waiting' ≡ waiting))
        → AllByRecursion P (admitted' ++ waiting')
    each-taken after = go (row_under n admitted) after
      where
        go : (o : Option R)
            → MatchOption o ((admitted' ≡ admitted) × (waiting' ≡ without_row n waiting)) (λ _. (admitted' ≡ without_row n admitted) × (waiting' ≡ waiting))
            → AllByRecursion P (admitted' ++ waiting')
        go None is = rw (is.0, is.1) (all-append P admitted (without_row n waiting) (all-front P admitted waiting all) (each-without n waiting (all-back P admitted waiting all)))
        go (Some r) is = rw (is.0, is.1) (all-append P (without_row n admitted) waiting (each-without n admitted (all-front P admitted waiting all)) (all-back P admitted waiting all))

    -- after one that waits was admitted,
    pub each-admitted : (r : R) → row_under n waiting ≡ Some r → admitted' ≡ admitted ++ (n, r) ∷ [] → waiting' ≡ without_row n waiting → AllByRecursion P (admitted' ++ waiting')
    each-admitted r there a w =
        let front = all-front P admitted waiting all in
        let back = all-back P admitted waiting all in
        rw (a, w)
        (all-append P (admitted ++ (n, r) ∷ []) (without_row n waiting) (all-append P admitted ((n, r) ∷ []) front (each-at n r waiting back there, tt)) (each-without n waiting back))

    -- and after one came of which it holds.
    pub each-added : (p : ℕ × R) → P p → admitted' ≡ admitted → waiting' ≡ waiting ++ p ∷ [] → AllByRecursion P (admitted' ++ waiting')
    each-added p it a w =
        rw (a, w) (all-append P admitted (waiting ++ p ∷ []) (all-front P admitted waiting all) (all-append P waiting (p ∷ []) (all-back P admitted waiting all) (it, tt)))

  -- What follows of each row holds of each.
  pub each-more : (Q : ℕ × R → Type 0) (rows : List (ℕ × R)) → ((p : ℕ × R) → P p → Q p) → AllByRecursion P rows → AllByRecursion Q rows
  each-more Q [] more all = tt
  each-more Q (p ∷ ps) more all = (more p all.0, each-more Q ps more all.1)
