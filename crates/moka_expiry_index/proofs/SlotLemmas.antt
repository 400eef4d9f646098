-- The contents of slots, by their numbers and deadlines.
use Rattle.std.proofs.Common.{get_or, ◌≡◌, ◌≢◌, ℕ, zero, suc, ◌+◌, ◌<◌, ◌≤◌, ◌==◌, Bool, true, false, ◌⊎◌, inl, inr, Option, Some, None, List, [], ◌∷◌, ◌++◌, length, filter, refl, sym, ap, subst, ◌∙◌, arith}
use Rattle.std.proofs.lemmas.Bool.{eq-eqb, eqb-true, ne_eqb, le-leb, lt-leb, cases_lt}
use Rattle.std.proofs.lemmas.List.{length-append}
use Rattle.std.proofs.lemmas.List.Elements.{filter-append}
use Rattle.moka_rows.specs.Rows.{row_under, without_row, first_number}
use Rattle.moka_rows.proofs.Callers.{row_under-append_left, row_under-append_right, without_row-append_left, without_row-append_right}
use Rattle.moka_expiry_index.specs.MinTree.{never}
use Rattle.moka_expiry_index.specs.Slots.{in_slot, listed, is_due, AreSlots}

-- the contents of one slot: with its number, with another number, without one, and due or not
own-under : (n d : ℕ) → n ≢ 0 → row_under n (in_slot n d) ≡ Some d
own-under zero d some = absurd (some refl)
own-under (suc m) d some = rw (eq-eqb (suc m) (suc m) refl) refl

other-under : (n m d : ℕ) → (m ≢ 0 → m ≢ n) → row_under n (in_slot m d) ≡ None
other-under n zero d other = refl
other-under n (suc m) d other = rw (ne_eqb (suc m) n (other (λ none. omega arith))) refl

under-own : (n m d e : ℕ) → row_under n (in_slot m d) ≡ Some e → (m ≡ n) × (n ≢ 0)
under-own n zero d e found = cc
under-own n (suc m) d e found = go (suc m == n) refl
  where
    go : (b : Bool) → (suc m == n) ≡ b → (suc m ≡ n) × (n ≢ 0)
    go true is = let same = eqb-true (suc m) n is in (same, λ none. omega arith)
    go false is = let none : None ≡ Some e = rw is at found in cc

without-own : (n d : ℕ) → n ≢ 0 → without_row n (in_slot n d) ≡ []
without-own zero d some = absurd (some refl)
without-own (suc m) d some = rw (eq-eqb (suc m) (suc m) refl) refl

length-slot : (n d : ℕ) → n ≢ 0 → length (in_slot n d) ≡ 1
length-slot zero d some = absurd (some refl)
length-slot (suc m) d some = refl

pub slot-one : (n d : ℕ) → n ≢ 0 → in_slot n d ≡ (n, d) ∷ []
slot-one zero d some = absurd (some refl)
slot-one (suc m) d some = refl

not-due : (now n d : ℕ) → now < d → filter (is_due now) (in_slot n d) ≡ []
not-due now zero d over = refl
not-due now (suc m) d over = rw (lt-leb _ _ over) refl

due : (now n d : ℕ) → n ≢ 0 → d ≤ now → first_number (filter (is_due now) (in_slot n d)) ≡ Some n
due now zero d some come = absurd (some refl)
due now (suc m) d some come = rw (le-leb _ _ come) refl

first_number-append : (xs ys : List (ℕ × ℕ)) (n : ℕ) → first_number xs ≡ Some n → first_number (xs ++ ys) ≡ Some n
first_number-append [] ys n is = cc
first_number-append (x ∷ xs) ys n is = is

-- slots with the same contents give the same list
pub listed-same : (number number' deadline deadline' : ℕ → ℕ) (many : ℕ) → ((i : ℕ) → i < many → number' i ≡ number i) → ((i : ℕ) → i < many → deadline' i ≡ deadline i)
    → listed number' deadline' many ≡ listed number deadline many
listed-same number number' deadline deadline' zero numbers deadlines = refl
listed-same number number' deadline deadline' (suc k) numbers deadlines =
    ap (λ l. l ++ in_slot (number' k) (deadline' k)) (listed-same number number' deadline deadline' k (λ i less. numbers i (omega arith)) (λ i less. deadlines i (omega arith)))
    ∙ ap (λ n. listed number deadline k ++ in_slot n (deadline' k)) (numbers k (omega arith))
    ∙ ap (λ d. listed number deadline k ++ in_slot (number k) d) (deadlines k (omega arith))

module _ (number deadline : ℕ → ℕ) where
  -- a number that is in no slot is not listed
  pub listed-absent : (n many : ℕ) → ((i : ℕ) → i < many → number i ≢ 0 → number i ≢ n) → row_under n (listed number deadline many) ≡ None
  listed-absent n zero other = refl
  listed-absent n (suc k) other =
      row_under-append_right n (listed number deadline k) (in_slot (number k) (deadline k)) (listed-absent n k (λ i less. other i (omega arith)))
      ∙ other-under n (number k) (deadline k) (other k (omega arith))

  -- a number that is listed is in a slot
  pub listed-found : (n d many : ℕ) → row_under n (listed number deadline many) ≡ Some d → (p : ℕ) × (p < many) × (number p ≡ n) × (n ≢ 0)
  listed-found n d zero found = cc
  listed-found n d (suc k) found = go (row_under n (listed number deadline k)) refl (λ e before. listed-found n e k before)
    where
      go : (o : Option ℕ) → row_under n (listed number deadline k) ≡ o → ((e : ℕ) → row_under n (listed number deadline k) ≡ Some e → (p : ℕ) × (p < k) × (number p ≡ n) × (n ≢ 0))
          → (p : ℕ) × (p < suc k) × (number p ≡ n) × (n ≢ 0)
      go (Some e) is before = let at = before e is in (at.0, omega (arith, at.1), at.2, at.3)
      go None is before =
          let here = under-own n (number k) (deadline k) d (sym (row_under-append_right n (listed number deadline k) (in_slot (number k) (deadline k)) is) ∙ found) in
          (k, omega arith, here.0, here.1)

  -- and one that is in a slot is listed
  listed-stored : (n many p : ℕ) → p < many → number p ≡ n → n ≢ 0 → (d : ℕ) × (row_under n (listed number deadline many) ≡ Some d)
  listed-stored n zero p less here some = absurd (omega arith)
  listed-stored n (suc k) p less here some = go (row_under n (listed number deadline k)) refl (λ before. listed-stored n k p before here some)
    where
      go : (o : Option ℕ) → row_under n (listed number deadline k) ≡ o → (p < k → (d : ℕ) × (row_under n (listed number deadline k) ≡ Some d))
          → (d : ℕ) × (row_under n (listed number deadline (suc k)) ≡ Some d)
      go (Some d) is before = (d, row_under-append_left n (listed number deadline k) (in_slot (number k) (deadline k)) d is)
      go None is before = last (cases_lt p k)
        where
          last : (p < k) ⊎ (k ≤ p) → (d : ℕ) × (row_under n (listed number deadline (suc k)) ≡ Some d)
          last (inl earlier) = let there = before earlier in cc (is, there.1)
          last (inr later) =
              let same : p ≡ k = omega arith in
              let at : number k ≡ n = ap number (sym same) ∙ here in
              (deadline k, row_under-append_right n (listed number deadline k) (in_slot (number k) (deadline k)) is ∙ ap (λ m. row_under n (in_slot m (deadline k))) at ∙ own-under n (deadline k) some)

  pub not-listed : (n many : ℕ) → row_under n (listed number deadline many) ≡ None → n ≢ 0 → (p : ℕ) → p < many → number p ≢ n
  not-listed n many absent some p less here = let there = listed-stored n many p less here some in cc (absent, there.1)

  -- if no slot is empty, the list is as long as there are slots
  pub listed-full : (many : ℕ) → ((i : ℕ) → i < many → number i ≢ 0) → length (listed number deadline many) ≡ many
  listed-full zero full = refl
  listed-full (suc k) full =
      let before = listed-full k (λ i less. full i (omega arith)) in
      let one = length-slot (number k) (deadline k) (full k (omega arith)) in
      let all = length-append (listed number deadline k) (in_slot (number k) (deadline k)) in
      omega (arith, before, one, all)

  -- if no deadline has come, nothing is due
  pub none-due : (now many : ℕ) → ((i : ℕ) → i < many → now < deadline i) → filter (is_due now) (listed number deadline many) ≡ []
  none-due now zero over = refl
  none-due now (suc k) over =
      filter-append (is_due now) (listed number deadline k) (in_slot (number k) (deadline k))
      ∙ ap (λ l. l ++ filter (is_due now) (in_slot (number k) (deadline k))) (none-due now k (λ i less. over i (omega arith)))
      ∙ not-due now (number k) (deadline k) (over k (omega arith))

  -- the number in the first slot whose deadline has come is the first that is due
  pub first-due : (now many p : ℕ) → p < many → number p ≢ 0 → deadline p ≤ now → filter (is_due now) (listed number deadline p) ≡ []
      → first_number (filter (is_due now) (listed number deadline many)) ≡ Some (number p)
  first-due now zero p less some come before = absurd (omega arith)
  first-due now (suc k) p less some come before = go (cases_lt p k) (λ earlier. first-due now k p earlier some come before)
    where
      go : (p < k) ⊎ (k ≤ p) → (p < k → first_number (filter (is_due now) (listed number deadline k)) ≡ Some (number p))
          → first_number (filter (is_due now) (listed number deadline (suc k))) ≡ Some (number p)
      go (inl earlier) at =
          ap first_number (filter-append (is_due now) (listed number deadline k) (in_slot (number k) (deadline k)))
          ∙ first_number-append _ _ (number p) (at earlier)
      go (inr later) at =
          let same : p ≡ k = omega arith in
          ap first_number (filter-append (is_due now) (listed number deadline k) (in_slot (number k) (deadline k))
          ∙ ap (λ l. l ++ filter (is_due now) (in_slot (number k) (deadline k))) (ap (λ i. filter (is_due now) (listed number deadline i)) (sym same) ∙ before))
          ∙ ap (λ i. first_number (filter (is_due now) (in_slot (number i) (deadline i)))) (sym same)
          ∙ due now (number p) (deadline p) some come

  -- the slot of a number is emptied
  pub listed-emptied : (number' deadline' : ℕ → ℕ) (n many p : ℕ) → p < many → number p ≡ n → n ≢ 0 → ((i : ℕ) → i < many → number i ≡ n → i ≡ p)
      → number' p ≡ 0 → ((i : ℕ) → i ≢ p → number' i ≡ number i) → ((i : ℕ) → i < many → i ≢ p → deadline' i ≡ deadline i)
      → listed number' deadline' many ≡ without_row n (listed number deadline many)
  listed-emptied number' deadline' n zero p less here some only empty numbers deadlines = absurd (omega arith)
  listed-emptied number' deadline' n (suc k) p less here some only empty numbers deadlines =
      go (cases_lt p k) (λ earlier. listed-emptied number' deadline' n k p earlier here some (λ i within. only i (omega arith)) empty numbers (λ i within. deadlines i (omega arith)))
    where
      go : (p < k) ⊎ (k ≤ p) → (p < k → listed number' deadline' k ≡ without_row n (listed number deadline k)) → listed number' deadline' (suc k) ≡ without_row n (listed number deadline (suc k))
      go (inl earlier) before =
          let there = listed-stored n k p earlier here some in
          let other : k ≢ p = λ same. omega arith in
          ap (λ l. l ++ in_slot (number' k) (deadline' k)) (before earlier)
          ∙ ap (λ m. without_row n (listed number deadline k) ++ in_slot m (deadline' k)) (numbers k other)
          ∙ ap (λ d. without_row n (listed number deadline k) ++ in_slot (number k) d) (deadlines k (omega arith) other)
          ∙ sym (without_row-append_left n (listed number deadline k) (in_slot (number k) (deadline k)) there.0 there.1)
      go (inr later) before =
          let same : p ≡ k = omega arith in
          let apart : (i : ℕ) → i < k → i ≢ p = λ i within is. omega arith in
          let absent = listed-absent n k (λ i within _ is. apart i within (only i (omega arith) is)) in
          let at : number k ≡ n = ap number (sym same) ∙ here in
          let none : number' k ≡ 0 = ap number' (sym same) ∙ empty in
          ap (λ l. l ++ in_slot (number' k) (deadline' k)) (listed-same number number' deadline deadline' k (λ i within. numbers i (apart i within)) (λ i within. deadlines i (omega arith) (apart i within)))
          ∙ ap (λ m. listed number deadline k ++ in_slot m (deadline' k)) none
          ∙ ap (λ l. listed number deadline k ++ l) (sym (without-own n (deadline k) some) ∙ ap (λ m. without_row n (in_slot m (deadline k))) (sym at))
          ∙ sym (without_row-append_right n (listed number deadline k) (in_slot (number k) (deadline k)) absent)

-- Where the places of all numbers are known: a number that stands at its place stands in no other slot, and one that does
-- not is not listed.
module _ (number deadline : ℕ → ℕ) (places : List ℕ) (n many size known : ℕ) (slots : AreSlots number deadline (λ m. get_or places m 0) many size known) where
  pub slot-only : (place : ℕ) → n ≢ 0 → number place ≡ n → place < many → (i : ℕ) → i < many → number i ≡ n → i ≡ place
  slot-only place some here within i less same =
      sym (slots.placed i less (λ none. some (sym same ∙ none))) ∙ ap (λ m. get_or places m 0) (same ∙ sym here) ∙ slots.placed place within (λ none. some (sym here ∙ none))

  pub no-slot : ((place : ℕ) → place ≡ get_or places n 0 → place < many → number place ≡ n → ⊥) → row_under n (listed number deadline many) ≡ None
  no-slot elsewhere = listed-absent number deadline n many (λ i less some same. elsewhere i (sym (ap (λ m. get_or places m 0) (sym same) ∙ slots.placed i less some)) less same)

  pub unknown : known ≤ n → row_under n (listed number deadline many) ≡ None
  unknown beyond = listed-absent number deadline n many (λ i less some same. let within = slots.within i less some in omega arith)

-- a number is put into the slot behind those that are used up, and more slots are made
module _ (number deadline place : ℕ → ℕ) (many size known : ℕ) (slots : AreSlots number deadline place many size known) where
  pub slots-put : (number' deadline' place' : ℕ → ℕ) (n : ℕ) → n < known → ((i : ℕ) → i < many → number i ≢ n)
      → number' many ≡ n → ((i : ℕ) → i < many → number' i ≡ number i) → ((i : ℕ) → i < size → i ≢ many → deadline' i ≡ deadline i)
      → n ≢ 0 → place' n ≡ many → ((m : ℕ) → m ≢ n → place' m ≡ place m) → many < size → AreSlots number' deadline' place' (many + 1) size known
  slots-put number' deadline' place' n less absent here others deadlines some at places space = record {
    within = λ i within is. each (number' i < known) i (cases_lt i many) within (λ before. subst (λ m. m < known) (sym (others i before)) (slots.within i before (λ none. is (others i before ∙ none))))
        (λ last. subst (λ m. m < known) (sym here ∙ ap number' (sym last)) less);
    placed = λ i within is. each (place' (number' i) ≡ i) i (cases_lt i many) within
        (λ before. ap place' (others i before) ∙ places (number i) (absent i before) ∙ slots.placed i before (λ none. is (others i before ∙ none)))
        (λ last. ap (λ j. place' (number' j)) last ∙ ap place' here ∙ at ∙ sym last);
    cleared = λ i within none. each (deadline' i ≡ never) i (cases_lt i many) within
        (λ before. deadlines i (omega arith) (λ same. omega arith) ∙ slots.cleared i before (sym (others i before) ∙ none))
        (λ last. absurd (some (sym here ∙ ap number' (sym last) ∙ none)));
    behind = λ i more within. deadlines i within (λ same. omega arith) ∙ slots.behind i (omega arith) within;
  }
    where
      -- a slot is one of those before, or the last
      each : (P : Type 0) (i : ℕ) → (i < many) ⊎ (many ≤ i) → i < many + 1 → (i < many → P) → (i ≡ many → P) → P
      each P i (inl before) within earlier last = earlier before
      each P i (inr more) within earlier last = last (omega arith)

  pub slots-widened : (deadline' : ℕ → ℕ) (wider : ℕ) → many ≤ size → ((i : ℕ) → i < size → deadline' i ≡ deadline i) → ((i : ℕ) → size ≤ i → i < wider → deadline' i ≡ never)
      → AreSlots number deadline' place many wider known
  slots-widened deadline' wider few kept fresh = record {
    within = slots.within;
    placed = slots.placed;
    cleared = λ i within none. kept i (omega arith) ∙ slots.cleared i within none;
    behind = λ i more within. side i (cases_lt i size) more within;
  }
    where
      side : (i : ℕ) → (i < size) ⊎ (size ≤ i) → many ≤ i → i < wider → deadline' i ≡ never
      side i (inl less) more within = kept i less ∙ slots.behind i more less
      side i (inr beyond) more within = fresh i beyond within
