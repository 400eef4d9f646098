-- A walk over the rows of an order, from the first to the last, by the number of the row that it stands at.
use Rattle.std.proofs.Common.{◌≡◌, ℕ, ◌+◌, ◌-◌, ◌≤◌, ◌^◌, Option, Some, None, MatchOption, List, [], ◌∷◌, ◌++◌, refl, sym, ap, subst, ◌∙◌, append_assoc}
use Rattle.std.specs.Option.{IsSome}
use Rattle.std.proofs.Math.Nat.{min-le_left}
use Rattle.moka_rows.specs.Rows.{row_under, first_number, number_after, NumbersDiffer}
use Rattle.moka_rows.specs.Visits.{one_more}
use Rattle.moka_rows.proofs.Callers.{row_under-append_left, row_under-append_right, begins-with, absent-before, stored-at, row_under-at, number_after-at, differ-front, differ-back}

-- a step counts one at most
pub one_more-le : (visits : ℕ) → one_more visits ≤ visits + 1
one_more-le visits = min-le_left (visits + 1) (2 ^ 128 - 1)

module _ {R : Type 0} where
  -- some rows are passed, and the cursor stands at the first of the rest
  pub record Walks (rows : List (ℕ × R)) (cursor : Option ℕ) (passed rest : List (ℕ × R)) : Type 0 where
    pub whole : rows ≡ passed ++ rest
    pub cursor_at : cursor ≡ first_number rest

  pub walks-first : (rows : List (ℕ × R)) (cursor : Option ℕ) → cursor ≡ first_number rows → Walks rows cursor [] rows
  walks-first rows cursor first = record { whole = refl; cursor_at = first }

  -- the row at the cursor, and the cursor behind it
  pub record AtCursor (rows passed rest : List (ℕ × R)) (n : ℕ) (row : R) (next : Option ℕ) (back : List (ℕ × R)) : Type 0 where
    pub rest_is : rest ≡ (n, row) ∷ back
    pub whole : rows ≡ passed ++ (n, row) ∷ back
    pub absent : row_under n passed ≡ None
    pub apart : NumbersDiffer (passed ++ (n, row) ∷ back)
    pub stands : row_under n rows ≡ Some row
    pub behind : next ≡ first_number back

  -- the walk goes on behind it
  pub walks-on : (rows passed rest : List (ℕ × R)) (n : ℕ) (row : R) (next : Option ℕ) (back : List (ℕ × R)) → AtCursor rows passed rest n row next back → Walks rows next (passed ++ (n, row) ∷ []) back
  walks-on rows passed rest n row next back here = record {
    whole = here.whole ∙ sym (append_assoc passed ((n, row) ∷ []) back);
    cursor_at = here.behind;
  }

  -- what stands at the cursor of a walk
  module _ (rows : List (ℕ × R)) (n : ℕ) (passed rest : List (ℕ × R)) (walks : Walks rows (Some n) passed rest) where
    pub walks-begins : (r : R) × (back : List (ℕ × R)) × (rest ≡ (n, r) ∷ back) × (rows ≡ passed ++ (n, r) ∷ back)
    walks-begins = let begins = begins-with rest n walks.cursor_at in (begins.0, begins.1, begins.2, walks.whole ∙ ap (λ l. passed ++ l) begins.2)

    -- a row, whatever stands before and behind the order
    pub walks-stored : (before behind : List (ℕ × R)) → IsSome (row_under n (before ++ (rows ++ behind)))
    walks-stored before behind =
        let begins = walks-begins in
        let whole : before ++ (rows ++ behind) ≡ (before ++ passed) ++ (n, begins.0) ∷ (begins.1 ++ behind) =
        ap (λ l. before ++ (l ++ behind)) begins.3 ∙ ap (λ l. before ++ l) (append_assoc passed ((n, begins.0) ∷ begins.1) behind) ∙ sym (append_assoc before passed ((n, begins.0) ∷ (begins.1 ++ behind))) in
        rw whole (stored-at n begins.0 (before ++ passed) (begins.1 ++ behind))

    walks-found : NumbersDiffer rows → row_under n rows ≡ Some walks-begins.0
    walks-found apart =
        let begins = walks-begins in
        let none = absent-before n begins.0 passed begins.1 (subst (λ (l : List (ℕ × R)). NumbersDiffer l) begins.3 apart) in
        ap (row_under n) begins.3 ∙ row_under-at n begins.0 passed begins.1 none

    pub walks-at : (row : R) (next : Option ℕ) → NumbersDiffer rows → row_under n rows ≡ Some row → next ≡ number_after n rows → (back : List (ℕ × R)) × AtCursor rows passed rest n row next back
    walks-at row next apart there after =
        let begins = walks-begins in
        let found : Some begins.0 ≡ Some row = sym (walks-found apart) ∙ there in
        let same : begins.0 ≡ row = cc in
        let whole : rows ≡ passed ++ (n, row) ∷ begins.1 = begins.3 ∙ ap (λ (r : R). passed ++ (n, r) ∷ begins.1) same in
        let differ : NumbersDiffer (passed ++ (n, row) ∷ begins.1) = subst (λ (l : List (ℕ × R)). NumbersDiffer l) whole apart in
        let none = absent-before n row passed begins.1 differ in (
          begins.1,
          record {
            rest_is = begins.2 ∙ ap (λ (r : R). (n, r) ∷ begins.1) same;
            whole = whole;
            absent = none;
            apart = differ;
            stands = there;
            behind = after ∙ ap (number_after n) whole ∙ number_after-at n row passed begins.1 none;
          },
        )

  module _ (admitted waiting : List (ℕ × R)) (n : ℕ) (passed rest : List (ℕ × R)) (row : R) (next : Option ℕ) (apart : NumbersDiffer (admitted ++ waiting)) (there : row_under n (admitted ++ waiting) ≡ Some row)
      (after : MatchOption (row_under n admitted) (next ≡ number_after n waiting) (λ _. next ≡ number_after n admitted)) where
    -- what is read at the cursor of a walk over the admitted rows,
    pub at-admitted : Walks admitted (Some n) passed rest → (back : List (ℕ × R)) × AtCursor admitted passed rest n row next back
    at-admitted walks =
        let differ = differ-front admitted waiting apart in
        let found = walks-found admitted n passed rest walks differ in
        let first = walks-begins admitted n passed rest walks in
        walks-at admitted n passed rest walks row next differ (found ∙ sym (row_under-append_left n admitted waiting first.0 found) ∙ there) (rw found at after)

    -- and over those that wait
    pub at-waiting : Walks waiting (Some n) passed rest → (row_under n admitted ≡ None) × (back : List (ℕ × R)) × AtCursor waiting passed rest n row next back
    at-waiting walks =
        let differ = differ-back admitted waiting apart in
        let first = walks-begins waiting n passed rest walks in
        let whole : admitted ++ waiting ≡ (admitted ++ passed) ++ (n, first.0) ∷ first.1 = ap (λ l. admitted ++ l) first.3 ∙ sym (append_assoc admitted passed ((n, first.0) ∷ first.1)) in
        let none_before = absent-before n first.0 (admitted ++ passed) first.1 (subst (λ (l : List (ℕ × R)). NumbersDiffer l) whole apart) in
        let none : row_under n admitted ≡ None = absent-front n admitted passed none_before in
        let here = walks-at waiting n passed rest walks row next differ (sym (row_under-append_right n admitted waiting none) ∙ there) (rw none at after) in
        (none, here.0, here.1)
      where
        absent-front : (m : ℕ) (xs ys : List (ℕ × R)) → row_under m (xs ++ ys) ≡ None → row_under m xs ≡ None
        absent-front m xs ys absent = go (row_under m xs) refl
          where
            go : (o : Option R) → row_under m xs ≡ o → row_under m xs ≡ None
            go None is = is
            go (Some r) is = let no : Some r ≡ None = sym (row_under-append_left m xs ys r is) ∙ absent in cc
