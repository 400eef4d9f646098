-- The deadlines of rows after a row was added, removed or accessed, and the first that is due.
use Rattle.std.proofs.Common.{◌≡◌, ◌≢◌, ℕ, suc, ◌==◌, Bool, true, false, nat_le, IsSome, Option, Some, None, cond, ◌-◌, ◌≤◌, MatchOption, option_map, subst, List, [], ◌∷◌, ◌++◌, filter, refl, sym, ap, ◌∙◌, arith, append_assoc}
use Rattle.std.proofs.lemmas.Bool.{eqb-true, eqb-false, eq-eqb, ne_eqb}
use Rattle.std.proofs.lemmas.List.{append-nil}
use Rattle.moka_rows.specs.declared.rows.Row.{Row}
use Rattle.moka_rows.specs.Rows.{row_under, with_row, without_row, first_number, expired_at, IsOrderOf, NumbersDiffer}
use Rattle.moka_rows.specs.declared.rows.Order.{Order}
use Rattle.moka_rows.specs.declared.rows.Order.TheVariants.{Admitted, Waiting}
use Rattle.moka_rows.proofs.Callers.{row_under-append_left, absent-before, row_under-at}
use Rattle.moka_expiry_index.specs.Slots.{is_due}
use Rattle.moka_expiring_rows.specs.RowDeadlines.{deadline_in, deadlines_in, without_deadline, is_of_admitted}

-- removing the deadline of a number keeps that of another number
other-without : (n m : ℕ) (o : Option ℕ) (rest : List (ℕ × ℕ)) → m ≢ n → without_row (suc n) (deadline_in m o ++ rest) ≡ deadline_in m o ++ without_row (suc n) rest
other-without n m None rest other = refl
other-without n m (Some d) rest other = rw (ne_eqb (suc m) (suc n) (λ same. other (omega (arith, same)))) refl

own-without : (n m d : ℕ) (rest : List (ℕ × ℕ)) → m ≡ n → without_row (suc n) ((suc m, d) ∷ rest) ≡ rest
own-without n m d rest same = rw (eq-eqb (suc m) (suc n) (ap suc same)) refl

module _ {K V : Type 0} where
  pub deadlines-append : (xs ys : List (ℕ × Row K V)) → deadlines_in (xs ++ ys) ≡ deadlines_in xs ++ deadlines_in ys
  deadlines-append [] ys = refl
  deadlines-append (p ∷ ps) ys =
      ap (λ l. deadline_in p.0 p.1.info.deadline ++ l) (deadlines-append ps ys) ∙ sym (append_assoc (deadline_in p.0 p.1.info.deadline) (deadlines_in ps) (deadlines_in ys))

  pub deadlines-push : (rows : List (ℕ × Row K V)) (n : ℕ) (row : Row K V) → deadlines_in (rows ++ (n, row) ∷ []) ≡ deadlines_in rows ++ deadline_in n row.info.deadline
  deadlines-push rows n row = deadlines-append rows ((n, row) ∷ []) ∙ ap (λ l. deadlines_in rows ++ l) (append-nil (deadline_in n row.info.deadline))

  -- a change of one row that keeps its deadline keeps all deadlines
  pub deadlines-changed : (n : ℕ) (change : Row K V → Row K V) (rows : List (ℕ × Row K V)) → ((row : Row K V) → (change row).info.deadline ≡ row.info.deadline)
      → deadlines_in (with_row n change rows) ≡ deadlines_in rows
  deadlines-changed n change [] same = refl
  deadlines-changed n change (p ∷ ps) same = go (p.0 == n) refl (deadlines-changed n change ps same)
    where
      go : (b : Bool) → (p.0 == n) ≡ b → deadlines_in (with_row n change ps) ≡ deadlines_in ps → deadlines_in (with_row n change (p ∷ ps)) ≡ deadlines_in (p ∷ ps)
      go true is later = rw is (ap (λ o. deadline_in p.0 o ++ deadlines_in ps) (same p.1))
      go false is later = rw is (ap (λ l. deadline_in p.0 p.1.info.deadline ++ l) later)

  -- removing a row removes its deadline
  pub deadlines-without : (n : ℕ) (row : Row K V) (rows : List (ℕ × Row K V)) → row_under n rows ≡ Some row → deadlines_in (without_row n rows) ≡ without_deadline n row.info.deadline (deadlines_in rows)
  deadlines-without n row [] there = cc
  deadlines-without n row (p ∷ ps) there = go (p.0 == n) refl (λ rest. deadlines-without n row ps rest)
    where
      here : (o : Option ℕ) (rest : List (ℕ × ℕ)) → p.0 ≡ n → rest ≡ without_deadline n o (deadline_in p.0 o ++ rest)
      here None rest same = refl
      here (Some d) rest same = sym (own-without n p.0 d rest same)

      passed : (o : Option ℕ) (rest : List (ℕ × ℕ)) → p.0 ≢ n → deadline_in p.0 p.1.info.deadline ++ without_deadline n o rest ≡ without_deadline n o (deadline_in p.0 p.1.info.deadline ++ rest)
      passed None rest other = refl
      passed (Some d) rest other = sym (other-without n p.0 p.1.info.deadline rest other)

      go : (b : Bool) → (p.0 == n) ≡ b → (row_under n ps ≡ Some row → deadlines_in (without_row n ps) ≡ without_deadline n row.info.deadline (deadlines_in ps))
          → deadlines_in (without_row n (p ∷ ps)) ≡ without_deadline n row.info.deadline (deadlines_in (p ∷ ps))
      go true same later =
          let found : Some p.1 ≡ Some row = rw same at there in
          let row_is : p.1 ≡ row = cc in
          rw same (here p.1.info.deadline (deadlines_in ps) (eqb-true p.0 n same) ∙ ap (λ (r : Row K V). without_deadline n r.info.deadline (deadlines_in (p ∷ ps))) row_is)
      go false other later =
          rw other (ap (λ l. deadline_in p.0 p.1.info.deadline ++ l) (later (rw other at there)) ∙ passed row.info.deadline (deadlines_in ps) (eqb-false p.0 n other))

  -- the first that is due is the first expired row
  pub first-listed : (now : ℕ) (rows : List (ℕ × Row K V)) → first_number (filter (is_due now) (deadlines_in rows)) ≡ option_map suc (first_number (expired_at now rows))
  first-listed now [] = refl
  first-listed now (p ∷ ps) = go p.1.info.deadline refl (first-listed now ps)
    where
      come : (d : ℕ) (b : Bool) → nat_le d now ≡ b → p.1.info.deadline ≡ Some d → first_number (filter (is_due now) (deadlines_in ps)) ≡ option_map suc (first_number (expired_at now ps))
          → first_number (filter (is_due now) (deadlines_in (p ∷ ps))) ≡ option_map suc (first_number (expired_at now (p ∷ ps)))
      come d true is has rest = rw (has, is) refl
      come d false is has rest = rw (has, is) rest

      go : (o : Option ℕ) → p.1.info.deadline ≡ o → first_number (filter (is_due now) (deadlines_in ps)) ≡ option_map suc (first_number (expired_at now ps))
          → first_number (filter (is_due now) (deadlines_in (p ∷ ps))) ≡ option_map suc (first_number (expired_at now (p ∷ ps)))
      go None has rest = rw has rest
      go (Some d) has rest = come d (nat_le d now) refl has rest

-- without deadlines there is none to remove
pub without-none : (n : ℕ) (o : Option ℕ) → without_deadline n o [] ≡ []
without-none n None = refl
without-none n (Some d) = refl

-- an access that sets no deadline keeps a list of deadlines without one
pub used-undated : {K V : Type 0} (n : ℕ) (admitted admitted' : List (ℕ × Row K V)) (P Q : Type 0) (change : Row K V → Row K V) → ((r : Row K V) → (change r).info.deadline ≡ None) → deadlines_in admitted ≡ []
    → MatchOption (row_under n admitted) ((admitted' ≡ admitted) × P) (λ r. (admitted' ≡ without_row n admitted ++ (n, change r) ∷ []) × Q) → deadlines_in admitted' ≡ []
used-undated {K = K} {V = V} n admitted admitted' P Q change undated none after = go (row_under n admitted) refl after
  where
    go : (o : Option (Row K V)) → row_under n admitted ≡ o → MatchOption o ((admitted' ≡ admitted) × P) (λ r. (admitted' ≡ without_row n admitted ++ (n, change r) ∷ []) × Q) → deadlines_in admitted' ≡ []
    go None absent same = ap deadlines_in same.0 ∙ none
    go (Some r) here moved =
        ap deadlines_in moved.0 ∙ deadlines-push (without_row n admitted) n (change r)
        ∙ ap (λ o. deadlines_in (without_row n admitted) ++ deadline_in n o) (undated r) ∙ append-nil (deadlines_in (without_row n admitted))
        ∙ deadlines-without n r admitted here ∙ ap (without_deadline n r.info.deadline) none ∙ without-none n r.info.deadline

-- the row that is present with a number
pub some-row : {R : Type 0} (n : ℕ) (rows : List (ℕ × R)) → IsSome (row_under n rows) → (r : R) × (row_under n rows ≡ Some r)
some-row {R = R} n rows there = go (row_under n rows) refl there
  where
    go : (o : Option R) → row_under n rows ≡ o → IsSome o → (r : R) × (row_under n rows ≡ Some r)
    go None is none = cc
    go (Some r) is some = (r, is)

-- a row's number, from the number plus 1 under which its deadline is listed
pub first-below : (place : ℕ) (o : Option ℕ) → Some place ≡ option_map suc o → (Some (place - 1) ≡ o) × (1 ≤ place)
first-below place None is = cc
first-below place (Some m) is = let same : place ≡ suc m = cc in (ap Some (omega (arith, same)), omega (arith, same))

pub none-below : (o : Option ℕ) → None ≡ option_map suc o → None ≡ o
none-below None is = refl
none-below (Some m) is = cc

module _ {K V : Type 0} (n : ℕ) (admitted waiting : List (ℕ × Row K V)) where
  -- whether a row is admitted, by its order
  pub by-order : (order : Order) → IsOrderOf n admitted order → MatchOption (row_under n admitted) (is_of_admitted order ≡ false) (λ _. is_of_admitted order ≡ true)
  by-order order is = go (row_under n admitted) is
    where
      go : (o : Option (Row K V)) → MatchOption o (order ≡ Waiting) (λ _. order ≡ Admitted) → MatchOption o (is_of_admitted order ≡ false) (λ _. is_of_admitted order ≡ true)
      go None same = ap is_of_admitted same
      go (Some r) same = ap is_of_admitted same

  module _ (row : Row K V) (there : row_under n (admitted ++ waiting) ≡ Some row) (b : Bool) (is : MatchOption (row_under n admitted) (b ≡ false) (λ _. b ≡ true))
      (deadlines deadlines' : List (ℕ × ℕ)) (listed : deadlines ≡ deadlines_in admitted) (admitted' : List (ℕ × Row K V)) (P Q : Type 0) where
    found : (r : Row K V) → row_under n admitted ≡ Some r → r ≡ row
    found r here = let both : Some r ≡ Some row = sym (row_under-append_left n admitted waiting r here) ∙ there in cc

    -- the deadlines after an access to a row, and after its removal
    pub listed-used : (change : Row K V → Row K V)
        → MatchOption (row_under n admitted) ((admitted' ≡ admitted) × P) (λ r. (admitted' ≡ without_row n admitted ++ (n, change r) ∷ []) × Q)
        → deadlines' ≡ without_deadline n (cond b row.info.deadline None) deadlines ++ deadline_in n (cond b (change row).info.deadline None) → deadlines' ≡ deadlines_in admitted'
    listed-used change after relisted = go (row_under n admitted) refl is after
      where
        go : (o : Option (Row K V)) → row_under n admitted ≡ o → MatchOption o (b ≡ false) (λ _. b ≡ true)
            → MatchOption o ((admitted' ≡ admitted) × P) (λ r. (admitted' ≡ without_row n admitted ++ (n, change r) ∷ []) × Q) → deadlines' ≡ deadlines_in admitted'
        go None absent waits same =
            relisted ∙ ap (λ t. without_deadline n (cond t row.info.deadline None) deadlines ++ deadline_in n (cond t (change row).info.deadline None)) waits
            ∙ append-nil deadlines ∙ listed ∙ ap deadlines_in (sym same.0)
        go (Some r) here admits moved =
            let is_row = found r here in
            relisted ∙ ap (λ t. without_deadline n (cond t row.info.deadline None) deadlines ++ deadline_in n (cond t (change row).info.deadline None)) admits
            ∙ ap (λ l. without_deadline n row.info.deadline l ++ deadline_in n (change row).info.deadline) listed
            ∙ ap (λ l. l ++ deadline_in n (change row).info.deadline) (sym (deadlines-without n row admitted (here ∙ ap Some is_row)))
            ∙ ap (λ (q : Row K V). deadlines_in (without_row n admitted) ++ deadline_in n (change q).info.deadline) (sym is_row)
            ∙ sym (deadlines-push (without_row n admitted) n (change r)) ∙ ap deadlines_in (sym moved.0)

    pub listed-taken : MatchOption (row_under n admitted) ((admitted' ≡ admitted) × P) (λ _. (admitted' ≡ without_row n admitted) × Q)
        → deadlines' ≡ without_deadline n (cond b row.info.deadline None) deadlines → deadlines' ≡ deadlines_in admitted'
    listed-taken after delisted = go (row_under n admitted) refl is after
      where
        go : (o : Option (Row K V)) → row_under n admitted ≡ o → MatchOption o (b ≡ false) (λ _. b ≡ true)
            → MatchOption o ((admitted' ≡ admitted) × P) (λ _. (admitted' ≡ without_row n admitted) × Q) → deadlines' ≡ deadlines_in admitted'
        go None absent waits same =
            delisted ∙ ap (λ t. without_deadline n (cond t row.info.deadline None) deadlines) waits ∙ listed ∙ ap deadlines_in (sym same.0)
        go (Some r) here admits moved =
            let is_row = found r here in
            delisted ∙ ap (λ t. without_deadline n (cond t row.info.deadline None) deadlines) admits
            ∙ ap (without_deadline n row.info.deadline) listed
            ∙ sym (deadlines-without n row admitted (here ∙ ap Some is_row)) ∙ ap deadlines_in (sym moved.0)

  -- the row that is read with a number after its admission is the row that was admitted
  pub admitted-read : (row r : Row K V) (admitted' waiting' : List (ℕ × Row K V)) → admitted' ≡ admitted ++ (n, row) ∷ [] → NumbersDiffer (admitted' ++ waiting') → row_under n (admitted' ++ waiting') ≡ Some r → r ≡ row
  admitted-read row r admitted' waiting' is apart there =
      let whole : admitted' ++ waiting' ≡ admitted ++ (n, row) ∷ waiting' = ap (λ l. l ++ waiting') is ∙ append_assoc admitted ((n, row) ∷ []) waiting' in
      let absent = absent-before n row admitted waiting' (subst (λ (l : List (ℕ × Row K V)). NumbersDiffer l) whole apart) in
      let both : Some r ≡ Some row = sym there ∙ ap (row_under n) whole ∙ row_under-at n row admitted waiting' absent in
      cc
