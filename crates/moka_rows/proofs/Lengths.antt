-- How many rows stand in both orders after a change of one.
use Rattle.std.proofs.Common.{◌≡◌, ℕ, ◌+◌, List, [], ◌∷◌, ◌++◌, length, Option, Some, None, MatchOption, refl, sym, ◌∙◌, arith, length-append}
use Rattle.std.specs.Option.{IsSome, IfSome}
use Rattle.moka_rows.specs.Rows.{row_under, with_row, without_row}
use Rattle.moka_rows.proofs.RowLemmas.{row_under-append_right, length-with_row, length-without_row}

module _ {R : Type 0} where
  -- a use of a row keeps how many rows there are in both orders together
  pub length-used : (n : ℕ) (change : R → R) (admitted waiting admitted' waiting' : List (ℕ × R))
      → MatchOption (row_under n admitted)
      ((admitted' ≡ admitted) × (waiting' ≡ with_row n change waiting))
      (λ row. (admitted' ≡ without_row n admitted ++ (n, change row) ∷ []) × (waiting' ≡ waiting))
      → length (admitted' ++ waiting') ≡ length (admitted ++ waiting)
  length-used n change admitted waiting admitted' waiting' used = go (row_under n admitted) refl used
    where
      go : (o : Option R) → row_under n admitted ≡ o → MatchOption o
          ((admitted' ≡ admitted) × (waiting' ≡ with_row n change waiting))
          (λ row. (admitted' ≡ without_row n admitted ++ (n, change row) ∷ []) × (waiting' ≡ waiting))
          → length (admitted' ++ waiting') ≡ length (admitted ++ waiting)
      go None e h = rw (h.0, h.1) (omega (arith, length-append admitted (with_row n change waiting), length-append admitted waiting, length-with_row n change waiting))
      go (Some row) e h = rw (h.0, h.1) (omega (arith, length-append (without_row n admitted ++ (n, change row) ∷ []) waiting, length-append (without_row n admitted) ((n, change row) ∷ []), length-append admitted waiting, length-without_row n admitted row e))

  -- a removal takes one away from both orders together
  pub length-taken : (n : ℕ) (row : R) (admitted waiting admitted' waiting' : List (ℕ × R))
      → row_under n (admitted ++ waiting) ≡ Some row
      → MatchOption (row_under n admitted)
      ((admitted' ≡ admitted) × (waiting' ≡ without_row n waiting))
      (λ _. (admitted' ≡ without_row n admitted) × (waiting' ≡ waiting))
      → length (admitted' ++ waiting') + 1 ≡ length (admitted ++ waiting)
  length-taken n row admitted waiting admitted' waiting' there taken = go (row_under n admitted) refl taken
    where
      go : (o : Option R) → row_under n admitted ≡ o → MatchOption o
          ((admitted' ≡ admitted) × (waiting' ≡ without_row n waiting))
          (λ _. (admitted' ≡ without_row n admitted) × (waiting' ≡ waiting))
          → length (admitted' ++ waiting') + 1 ≡ length (admitted ++ waiting)
      go None e h = rw (h.0, h.1) (omega (arith, length-append admitted (without_row n waiting), length-append admitted waiting, length-without_row n waiting row (sym (row_under-append_right n admitted waiting e) ∙ there)))
      go (Some r) e h = rw (h.0, h.1) (omega (arith, length-append (without_row n admitted) waiting, length-append admitted waiting, length-without_row n admitted r e))

  -- an admission keeps how many rows there are in both orders together
  pub length-admitted : (n : ℕ) (admitted waiting admitted' waiting' : List (ℕ × R))
      → IsSome (row_under n waiting) → IfSome (row_under n waiting) (λ row. admitted' ≡ admitted ++ (n, row) ∷ []) → waiting' ≡ without_row n waiting
      → length (admitted' ++ waiting') ≡ length (admitted ++ waiting)
  length-admitted n admitted waiting admitted' waiting' there behind rest = go (row_under n waiting) refl there behind
    where
      go : (o : Option R) → row_under n waiting ≡ o → IsSome o → IfSome o (λ row. admitted' ≡ admitted ++ (n, row) ∷ []) → length (admitted' ++ waiting') ≡ length (admitted ++ waiting)
      go None e h same = cc
      go (Some row) e h same =
          rw (same, rest) (omega (arith, length-append (admitted ++ (n, row) ∷ []) (without_row n waiting), length-append admitted ((n, row) ∷ []), length-append admitted waiting, length-without_row n waiting row e))

  -- an addition makes one more
  pub length-added : (n : ℕ) (row : R) (admitted waiting admitted' waiting' : List (ℕ × R)) → admitted' ≡ admitted → waiting' ≡ waiting ++ (n, row) ∷ []
      → length (admitted' ++ waiting') ≡ length (admitted ++ waiting) + 1
  length-added n row admitted waiting admitted' waiting' a w =
      rw (a, w) (omega (arith, length-append admitted (waiting ++ (n, row) ∷ []), length-append waiting ((n, row) ∷ []), length-append admitted waiting))

  -- and so does the leaving of the first admitted row
  pub length-first : (n : ℕ) (row : R) (admitted waiting admitted' waiting' : List (ℕ × R)) → admitted ≡ (n, row) ∷ admitted' → waiting' ≡ waiting
      → length (admitted' ++ waiting') + 1 ≡ length (admitted ++ waiting)
  length-first n row admitted waiting admitted' waiting' a w = rw (a, w) (omega arith)

  -- a change of a row in its place keeps it
  pub length-changed : (n : ℕ) (change : R → R) (admitted waiting admitted' waiting' : List (ℕ × R)) → admitted' ≡ with_row n change admitted → waiting' ≡ with_row n change waiting
      → length (admitted' ++ waiting') ≡ length (admitted ++ waiting)
  length-changed n change admitted waiting admitted' waiting' a w =
      rw (a, w) (omega (arith, length-append (with_row n change admitted) (with_row n change waiting), length-append admitted waiting, length-with_row n change admitted, length-with_row n change waiting))
