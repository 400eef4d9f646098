-- All admitted rows are listed anew, one after the other.
use Rattle.std.proofs.Common.{◌≡◌, ℕ, suc, ◌+◌, ◌<◌, ◌≤◌, ◌==◌, Bool, true, false, IsSome, Option, Some, None, MatchOption, List, [], ◌∷◌, ◌++◌, length, refl, sym, ap, subst, ◌∙◌, append_assoc, arith}
use Rattle.std.specs.List.{AllByRecursion}
use Rattle.std.proofs.lemmas.Bool.{eqb-false, ne_eqb}
use Rattle.std.proofs.lemmas.List.{append-nil, length-append}
use Rattle.moka_rows.specs.declared.rows.Row.{Row}
use Rattle.moka_rows.specs.Rows.{row_under, first_number, number_after, NumbersDiffer}
use Rattle.moka_rows.proofs.Callers.{row_under-append_left, rows_from, rows_from-first, rows_from-at, begins-with, absent-before, stored-at, row_under-at, number_after-at, differ-front}
use Rattle.moka_rows.proofs.Callers.{all-back}
use Rattle.moka_expiry_index.specs.declared.expiry_index.ExpiryIndex.{ExpiryIndex}
use Rattle.moka_expiry_index.specs.ExpiryIndex.{order_of, known_of, room_of, PreservesRoom}
use Rattle.moka_expiring_rows.specs.RowDeadlines.{deadline_in, deadlines_in, CanStand}
use Rattle.moka_expiring_rows.proofs.RowDeadlineLemmas.{deadlines-push}

module _ {K V : Type 0} (admitted waiting : List (ℕ × Row K V)) where
  -- some admitted rows are listed, and the cursor stands at the first of the rest
  pub record Lists (cursor : Option ℕ) (is_whole : Bool) (deadlines : List (ℕ × ℕ)) (passed rest : List (ℕ × Row K V)) : Type 0 where
    pub whole : admitted ≡ passed ++ rest
    pub at : cursor ≡ first_number rest
    pub ahead : rows_from cursor admitted ≡ rest
    pub listed : is_whole ≡ true → deadlines ≡ deadlines_in passed

  pub lists-first : (cursor : Option ℕ) (deadlines : List (ℕ × ℕ)) → cursor ≡ first_number admitted → deadlines ≡ [] → Lists cursor true deadlines [] admitted
  lists-first cursor deadlines first none = record {
    whole = refl;
    at = first;
    ahead = ap (λ o. rows_from o admitted) first ∙ rows_from-first admitted;
    listed = λ _. none;
  }

  -- at the end all are listed
  pub lists-all : (is_whole : Bool) (deadlines : List (ℕ × ℕ)) (passed rest : List (ℕ × Row K V)) → Lists None is_whole deadlines passed rest → is_whole ≡ true → deadlines ≡ deadlines_in admitted
  lists-all is_whole deadlines passed [] lists whole = lists.listed whole ∙ ap deadlines_in (sym (lists.whole ∙ append-nil passed))
  lists-all is_whole deadlines passed (p ∷ ps) lists whole = let none = lists.at in cc

  module _ (n : ℕ) (is_whole : Bool) (deadlines : List (ℕ × ℕ)) (passed rest : List (ℕ × Row K V)) (lists : Lists (Some n) is_whole deadlines passed rest) where
    -- there is a row at the cursor
    pub lists-stored : IsSome (row_under n (admitted ++ waiting))
    lists-stored =
        let begins = begins-with rest n lists.at in
        let whole : admitted ++ waiting ≡ passed ++ (n, begins.0) ∷ (begins.1 ++ waiting) =
        ap (λ l. l ++ waiting) (lists.whole ∙ ap (λ l. passed ++ l) begins.2) ∙ append_assoc passed ((n, begins.0) ∷ begins.1) waiting in
        rw whole (stored-at n begins.0 passed (begins.1 ++ waiting))

    -- it is listed, and the cursor moves past it
    pub lists-on : (row : Row K V) (next : Option ℕ) → NumbersDiffer (admitted ++ waiting) → row_under n (admitted ++ waiting) ≡ Some row
        → MatchOption (row_under n admitted) (next ≡ number_after n waiting) (λ _. next ≡ number_after n admitted)
        → (is_whole' : Bool) (deadlines' : List (ℕ × ℕ)) → (is_whole' ≡ true → (is_whole ≡ true) × (deadlines' ≡ deadlines ++ deadline_in n row.info.deadline))
        → (back : List (ℕ × Row K V)) × Lists next is_whole' deadlines' (passed ++ (n, row) ∷ []) back × (length rest ≡ suc (length back))
    lists-on row next apart there behind is_whole' deadlines' more =
        let begins = begins-with rest n lists.at in
        let back : List (ℕ × Row K V) = begins.1 in
        let split : admitted ≡ passed ++ (n, begins.0) ∷ back = lists.whole ∙ ap (λ l. passed ++ l) begins.2 in
        let apart_there : NumbersDiffer (passed ++ (n, begins.0) ∷ back) = subst (λ (l : List (ℕ × Row K V)). NumbersDiffer l) split (differ-front admitted waiting apart) in
        let absent = absent-before n begins.0 passed back apart_there in
        let found : row_under n admitted ≡ Some begins.0 = ap (row_under n) split ∙ row_under-at n begins.0 passed back absent in
        let both : Some begins.0 ≡ Some row = sym (row_under-append_left n admitted waiting begins.0 found) ∙ there in
        let same : begins.0 ≡ row = cc in
        let next_is : next ≡ first_number back = (rw found at behind) ∙ ap (number_after n) split ∙ number_after-at n begins.0 passed back absent in
        let joined : admitted ≡ (passed ++ (n, row) ∷ []) ++ back = split ∙ ap (λ (r : Row K V). passed ++ (n, r) ∷ back) same ∙ sym (append_assoc passed ((n, row) ∷ []) back) in (
          back,
          record {
            whole = joined;
            at = next_is;
            ahead = ap (λ o. rows_from o admitted) next_is ∙ ap (rows_from (first_number back)) joined
                ∙ rows_from-at (passed ++ (n, row) ∷ []) back (subst (λ (l : List (ℕ × Row K V)). NumbersDiffer l) joined (differ-front admitted waiting apart));
            listed = λ whole. let done = more whole in done.1 ∙ ap (λ l. l ++ deadline_in n row.info.deadline) (lists.listed done.0) ∙ sym (deadlines-push passed n row);
          },
          ap length begins.2,
        )

-- the room for deadlines is not smaller than at the start; if that is enough for all rows, the order is whole so far
pub record FitsIn {K V : Type 0} (admitted : List (ℕ × Row K V)) (start now : ExpiryIndex) (is_whole : Bool) : Type 0 where
  pub preserves : PreservesRoom start now
  pub whole : AllByRecursion (λ p. suc p.0 < known_of start) admitted → length admitted ≤ room_of start → is_whole ≡ true

-- there are no more deadlines than rows, and none for a number without a row
length-listed : {K V : Type 0} (rows : List (ℕ × Row K V)) → length (deadlines_in rows) ≤ length rows
length-listed [] = omega arith
length-listed (p ∷ ps) = go p.1.info.deadline (length-listed ps)
  where
    go : (o : Option ℕ) → length (deadlines_in ps) ≤ length ps → length (deadline_in p.0 o ++ deadlines_in ps) ≤ suc (length ps)
    go None few = omega (arith, few)
    go (Some d) few = omega (arith, few)

absent-listed : {K V : Type 0} (n : ℕ) (rows : List (ℕ × Row K V)) → row_under n rows ≡ None → row_under (suc n) (deadlines_in rows) ≡ None
absent-listed n [] absent = refl
absent-listed n (p ∷ ps) absent = go (p.0 == n) refl p.1.info.deadline (λ later. absent-listed n ps later)
  where
    go : (b : Bool) → (p.0 == n) ≡ b → (o : Option ℕ) → (row_under n ps ≡ None → row_under (suc n) (deadlines_in ps) ≡ None) → row_under (suc n) (deadline_in p.0 o ++ deadlines_in ps) ≡ None
    go true same o rest = let there : Some p.1 ≡ None = rw same at absent in cc
    go false other None rest = rest (rw other at absent)
    go false other (Some d) rest = rw (ne_eqb (suc p.0) (suc n) (λ same. eqb-false p.0 n other (omega (arith, same)))) (rest (rw other at absent))

module _ {K V : Type 0} (admitted waiting : List (ℕ × Row K V)) (n : ℕ) (is_whole : Bool) (start now : ExpiryIndex) (passed rest : List (ℕ × Row K V)) (lists : Lists admitted waiting (Some n) is_whole (order_of now) passed rest)
    (fits : FitsIn admitted start now is_whole) (apart : NumbersDiffer (admitted ++ waiting)) where
  -- the next deadline can be appended, if there is room for all
  pub fits-next : (o : Option ℕ) → AllByRecursion (λ p. suc p.0 < known_of start) admitted → length admitted ≤ room_of start → CanStand n o (known_of now) (room_of now) (order_of now)
  fits-next None known room = tt
  fits-next (Some d) known room =
      let begins = begins-with rest n lists.at in
      let split : admitted ≡ passed ++ (n, begins.0) ∷ begins.1 = lists.whole ∙ ap (λ l. passed ++ l) begins.2 in
      let apart_there : NumbersDiffer (passed ++ (n, begins.0) ∷ begins.1) = subst (λ (l : List (ℕ × Row K V)). NumbersDiffer l) split (differ-front admitted waiting apart) in
      let order_is = lists.listed (fits.whole known room) in
      let place : suc n < known_of start = (all-back (λ p. suc p.0 < known_of start) passed ((n, begins.0) ∷ begins.1) (subst (AllByRecursion (λ p. suc p.0 < known_of start)) split known)).0 in
      let many : length admitted ≡ length passed + suc (length begins.1) = ap length split ∙ length-append passed ((n, begins.0) ∷ begins.1) in (
        omega (arith, place, fits.preserves.known),
        rw order_is (omega (arith, length-listed passed, many, room, fits.preserves.room)),
        rw order_is (absent-listed n passed (absent-before n begins.0 passed begins.1 apart_there)),
      )

  -- and the order is still whole after that
  pub fits-on : (o : Option ℕ) (after : ExpiryIndex) (is_whole' : Bool) → PreservesRoom now after
      → (is_whole ≡ true → CanStand n o (known_of now) (room_of now) (order_of now) → is_whole' ≡ true) → FitsIn admitted start after is_whole'
  fits-on o after is_whole' kept put = record {
    preserves = record { known = omega (arith, fits.preserves.known, kept.known); room = omega (arith, fits.preserves.room, kept.room) };
    whole = λ known room. put (fits.whole known room) (fits-next o known room);
  }
