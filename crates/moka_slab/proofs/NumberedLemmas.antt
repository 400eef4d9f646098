-- Rows under numbers, in the order of the numbers.
use Rattle.std.proofs.Common.{◌≡◌, ◌≢◌, ℕ, suc, ◌+◌, ◌≤◌, Bool, true, false, List, [], ◌∷◌, ◌++◌, length, map, filter, Option, Some, None, IsSome, refl, sym, ap, subst, ◌∙◌, arith, rules, inl, inr, ⊎_elim}
use Rattle.std.proofs.lemmas.Bool.{cases_eq, ne_eqb}
use Rattle.moka_rows.specs.Rows.{row_under, with_row, without_row, first_number, number_after, count_under}
use Rattle.moka_index.specs.Paths.{IsAmong, IsAbsent, without, first_of, number_behind}
use Rattle.moka_index.proofs.Callers.{IsApart, without-here, without-there}
use Rattle.moka_slab.specs.NumberedRows.{numbered}

pub some-of : {A : Type 0} (o : Option A) → IsSome o → (x : A) × (o ≡ Some x)
some-of None h = absurd cc
some-of (Some x) h = (x, refl)

module _ {R : Type 0} where
  -- every number has a row
  abbrev pub AreStored : (ℕ → Option R) → List ℕ → Type 0
  AreStored at ks = (k : ℕ) → IsAmong k ks → IsSome (at k)

  -- the row of the first number comes first
  front : (at : ℕ → Option R) (k : ℕ) (ks : List ℕ) (r : R) → at k ≡ Some r → numbered at (k ∷ ks) ≡ (k, r) ∷ numbered at ks
  front at k ks r is = rw is refl

  none : (at : ℕ → Option R) (k : ℕ) (ks : List ℕ) → at k ≡ None → numbered at (k ∷ ks) ≡ numbered at ks
  none at k ks is = rw is refl

  pub numbered-append : (at : ℕ → Option R) (xs ys : List ℕ) → numbered at (xs ++ ys) ≡ numbered at xs ++ numbered at ys
  numbered-append at [] ys = refl
  numbered-append at (x ∷ xs) ys = go (at x) refl (numbered-append at xs ys)
    where
      go : (o : Option R) → at x ≡ o → numbered at (xs ++ ys) ≡ numbered at xs ++ numbered at ys → numbered at (x ∷ (xs ++ ys)) ≡ numbered at (x ∷ xs) ++ numbered at ys
      go None is rest = none at x (xs ++ ys) is ∙ rest ∙ ap (λ t. t ++ numbered at ys) (sym (none at x xs is))
      go (Some r) is rest = front at x (xs ++ ys) r is ∙ ap (λ t. (x, r) ∷ t) rest ∙ ap (λ t. t ++ numbered at ys) (sym (front at x xs r is))

  -- the row with a number, or a number without a row
  here : (n k : ℕ) (r : R) (rest : List (ℕ × R)) → k ≡ n → row_under n ((k, r) ∷ rest) ≡ Some r
  here n k r rest is = search (rules, is)

  there : (n k : ℕ) (r : R) (rest : List (ℕ × R)) → k ≢ n → row_under n ((k, r) ∷ rest) ≡ row_under n rest
  there n k r rest ne = rw (ne_eqb k n ne) refl

  pub under-among : (at : ℕ → Option R) (n : ℕ) (ks : List ℕ) (r : R) → at n ≡ Some r → IsAmong n ks → row_under n (numbered at ks) ≡ Some r
  under-among at n [] r is q = absurd q
  under-among at n (k ∷ ks) r is q = ⊎_elim (λ e. same e) (λ ne. go (at k) refl ne (under-among at n ks r is (⊎_elim (λ e. absurd (ne e)) (λ t. t) q))) (cases_eq k n)
    where
      same : k ≡ n → row_under n (numbered at (k ∷ ks)) ≡ Some r
      same e = ap (row_under n) (front at k ks r (ap at e ∙ is)) ∙ here n k r (numbered at ks) e

      go : (o : Option R) → at k ≡ o → k ≢ n → row_under n (numbered at ks) ≡ Some r → row_under n (numbered at (k ∷ ks)) ≡ Some r
      go None has ne later = ap (row_under n) (none at k ks has) ∙ later
      go (Some s) has ne later = ap (row_under n) (front at k ks s has) ∙ there n k s (numbered at ks) ne ∙ later

  pub under-absent : (at : ℕ → Option R) (n : ℕ) (ks : List ℕ) → IsAbsent n ks → row_under n (numbered at ks) ≡ None
  under-absent at n [] absent = refl
  under-absent at n (k ∷ ks) absent = go (at k) refl (under-absent at n ks (λ q. absent (inr q)))
    where
      go : (o : Option R) → at k ≡ o → row_under n (numbered at ks) ≡ None → row_under n (numbered at (k ∷ ks)) ≡ None
      go None has later = ap (row_under n) (none at k ks has) ∙ later
      go (Some s) has later = ap (row_under n) (front at k ks s has) ∙ there n k s (numbered at ks) (λ e. absent (inl e)) ∙ later

  -- a row that is found is that of a number in the list
  pub under-some : (at : ℕ → Option R) (n : ℕ) (ks : List ℕ) (r : R) → row_under n (numbered at ks) ≡ Some r → IsAmong n ks × (at n ≡ Some r)
  under-some at n [] r found = absurd cc
  under-some at n (k ∷ ks) r found = go (at k) refl (λ later. under-some at n ks r later)
    where
      go : (o : Option R) → at k ≡ o → (row_under n (numbered at ks) ≡ Some r → IsAmong n ks × (at n ≡ Some r)) → IsAmong n (k ∷ ks) × (at n ≡ Some r)
      go None has rest = let t = rest (sym (ap (row_under n) (none at k ks has)) ∙ found) in (inr t.0, t.1)
      go (Some s) has rest =
          ⊎_elim
          (λ e. (inl e, ap at (sym e) ∙ has ∙ sym (here n k s (numbered at ks) e) ∙ sym (ap (row_under n) (front at k ks s has)) ∙ found))
          (λ ne. let t = rest (sym (there n k s (numbered at ks) ne) ∙ sym (ap (row_under n) (front at k ks s has)) ∙ found) in (inr t.0, t.1))
          (cases_eq k n)

  -- a number is removed
  pub numbered-without : (at : ℕ → Option R) (n : ℕ) (ks : List ℕ) (r : R) → at n ≡ Some r → without_row n (numbered at ks) ≡ numbered at (without n ks)
  numbered-without at n [] r is = refl
  numbered-without at n (k ∷ ks) r is = ⊎_elim (λ e. same e) (λ ne. go (at k) refl ne (numbered-without at n ks r is)) (cases_eq k n)
    where
      drop-here : (s : R) (rest : List (ℕ × R)) → k ≡ n → without_row n ((k, s) ∷ rest) ≡ rest
      drop-here s rest e = search (rules, e)

      drop-there : (s : R) (rest : List (ℕ × R)) → k ≢ n → without_row n ((k, s) ∷ rest) ≡ (k, s) ∷ without_row n rest
      drop-there s rest ne = rw (ne_eqb k n ne) refl

      same : k ≡ n → without_row n (numbered at (k ∷ ks)) ≡ numbered at (without n (k ∷ ks))
      same e = ap (without_row n) (front at k ks r (ap at e ∙ is)) ∙ drop-here r (numbered at ks) e ∙ ap (numbered at) (sym (without-here n k ks e))

      go : (o : Option R) → at k ≡ o → k ≢ n → without_row n (numbered at ks) ≡ numbered at (without n ks) → without_row n (numbered at (k ∷ ks)) ≡ numbered at (without n (k ∷ ks))
      go None has ne later = ap (without_row n) (none at k ks has) ∙ later ∙ sym (ap (numbered at) (without-there n k ks ne) ∙ none at k (without n ks) has)
      go (Some s) has ne later =
          ap (without_row n) (front at k ks s has) ∙ drop-there s (numbered at ks) ne ∙ ap (λ t. (k, s) ∷ t) later
          ∙ sym (ap (numbered at) (without-there n k ks ne) ∙ front at k (without n ks) s has)

  -- rows that are all the same, except one
  pub numbered-same : (at at' : ℕ → Option R) (ks : List ℕ) → ((k : ℕ) → IsAmong k ks → at' k ≡ at k) → numbered at' ks ≡ numbered at ks
  numbered-same at at' [] same = refl
  numbered-same at at' (k ∷ ks) same = go (at k) refl (numbered-same at at' ks (λ j q. same j (inr q)))
    where
      go : (o : Option R) → at k ≡ o → numbered at' ks ≡ numbered at ks → numbered at' (k ∷ ks) ≡ numbered at (k ∷ ks)
      go None has rest = none at' k ks (same k (inl refl) ∙ has) ∙ rest ∙ sym (none at k ks has)
      go (Some s) has rest = front at' k ks s (same k (inl refl) ∙ has) ∙ ap (λ t. (k, s) ∷ t) rest ∙ sym (front at k ks s has)

  pub numbered-changed : (at at' : ℕ → Option R) (n : ℕ) (change : R → R) (r : R) (ks : List ℕ) → IsApart ks → at n ≡ Some r → at' n ≡ Some (change r) → ((k : ℕ) → IsAmong k ks → k ≢ n → at' k ≡ at k)
      → numbered at' ks ≡ with_row n change (numbered at ks)
  numbered-changed at at' n change r [] apart was is others = refl
  numbered-changed at at' n change r (k ∷ ks) apart was is others = ⊎_elim (λ e. same e) (λ ne. go (at k) refl ne (numbered-changed at at' n change r ks apart.1 was is (λ j q. others j (inr q)))) (cases_eq k n)
    where
      change-here : (s : R) (rest : List (ℕ × R)) → k ≡ n → with_row n change ((k, s) ∷ rest) ≡ (k, change s) ∷ rest
      change-here s rest e = search (rules, e)

      change-there : (s : R) (rest : List (ℕ × R)) → k ≢ n → with_row n change ((k, s) ∷ rest) ≡ (k, s) ∷ with_row n change rest
      change-there s rest ne = rw (ne_eqb k n ne) refl

      same : k ≡ n → numbered at' (k ∷ ks) ≡ with_row n change (numbered at (k ∷ ks))
      same e =
          front at' k ks (change r) (ap at' e ∙ is)
          ∙ ap (λ t. (k, change r) ∷ t) (numbered-same at at' ks (λ j q. others j (inr q) (λ f. apart.0 (subst (λ t. IsAmong t ks) (f ∙ sym e) q))))
          ∙ sym (ap (with_row n change) (front at k ks r (ap at e ∙ was)) ∙ change-here r (numbered at ks) e)

      go : (o : Option R) → at k ≡ o → k ≢ n → numbered at' ks ≡ with_row n change (numbered at ks) → numbered at' (k ∷ ks) ≡ with_row n change (numbered at (k ∷ ks))
      go None has ne later = none at' k ks (others k (inl refl) ne ∙ has) ∙ later ∙ ap (with_row n change) (sym (none at k ks has))
      go (Some s) has ne later =
          front at' k ks s (others k (inl refl) ne ∙ has) ∙ ap (λ t. (k, s) ∷ t) later
          ∙ sym (ap (with_row n change) (front at k ks s has) ∙ change-there s (numbered at ks) ne)

  -- if every number has a row: the number of rows, the first one, and the next one
  pub length-numbered : (at : ℕ → Option R) (ks : List ℕ) → AreStored at ks → length (numbered at ks) ≡ length ks
  length-numbered at [] stored = refl
  length-numbered at (k ∷ ks) stored =
      let s = some-of (at k) (stored k (inl refl)) in
      ap length (front at k ks s.0 s.1) ∙ ap suc (length-numbered at ks (λ j q. stored j (inr q)))

  pub first-numbered : (at : ℕ → Option R) (ks : List ℕ) → AreStored at ks → first_number (numbered at ks) ≡ first_of ks
  first-numbered at [] stored = refl
  first-numbered at (k ∷ ks) stored = let s = some-of (at k) (stored k (inl refl)) in ap first_number (front at k ks s.0 s.1)

  pub after-numbered : (at : ℕ → Option R) (n : ℕ) (ks : List ℕ) → AreStored at ks → number_after n (numbered at ks) ≡ number_behind n ks
  after-numbered at n [] stored = refl
  after-numbered at n (k ∷ ks) stored = ⊎_elim (λ e. same e) (λ ne. other ne (after-numbered at n ks (λ j q. stored j (inr q)))) (cases_eq k n)
    where
      s : (x : R) × (at k ≡ Some x)
      s = some-of (at k) (stored k (inl refl))

      after-here : (x : R) (rest : List (ℕ × R)) → k ≡ n → number_after n ((k, x) ∷ rest) ≡ first_number rest
      after-here x rest e = search (rules, e)

      after-there : (x : R) (rest : List (ℕ × R)) → k ≢ n → number_after n ((k, x) ∷ rest) ≡ number_after n rest
      after-there x rest ne = rw (ne_eqb k n ne) refl

      behind-here : k ≡ n → number_behind n (k ∷ ks) ≡ first_of ks
      behind-here e = search (rules, e)

      behind-there : k ≢ n → number_behind n (k ∷ ks) ≡ number_behind n ks
      behind-there ne = rw (ne_eqb k n ne) refl

      same : k ≡ n → number_after n (numbered at (k ∷ ks)) ≡ number_behind n (k ∷ ks)
      same e =
          ap (number_after n) (front at k ks s.0 s.1) ∙ after-here s.0 (numbered at ks) e ∙ first-numbered at ks (λ j q. stored j (inr q)) ∙ sym (behind-here e)

      other : k ≢ n → number_after n (numbered at ks) ≡ number_behind n ks → number_after n (numbered at (k ∷ ks)) ≡ number_behind n (k ∷ ks)
      other ne later = ap (number_after n) (front at k ks s.0 s.1) ∙ after-there s.0 (numbered at ks) ne ∙ later ∙ sym (behind-there ne)

  -- no number comes twice
  count-here : (n k : ℕ) (r : R) (rest : List (ℕ × R)) → k ≡ n → count_under n ((k, r) ∷ rest) ≡ 1 + count_under n rest
  count-here n k r rest e = search (rules, e)

  count-there : (n k : ℕ) (r : R) (rest : List (ℕ × R)) → k ≢ n → count_under n ((k, r) ∷ rest) ≡ count_under n rest
  count-there n k r rest ne = rw (ne_eqb k n ne) (omega arith)

  pub count-absent : (at : ℕ → Option R) (n : ℕ) (ks : List ℕ) → IsAbsent n ks → count_under n (numbered at ks) ≡ 0
  count-absent at n [] absent = refl
  count-absent at n (k ∷ ks) absent = go (at k) refl (count-absent at n ks (λ q. absent (inr q)))
    where
      go : (o : Option R) → at k ≡ o → count_under n (numbered at ks) ≡ 0 → count_under n (numbered at (k ∷ ks)) ≡ 0
      go None has later = ap (count_under n) (none at k ks has) ∙ later
      go (Some s) has later = ap (count_under n) (front at k ks s has) ∙ count-there n k s (numbered at ks) (λ e. absent (inl e)) ∙ later

  pub count-numbered : (at : ℕ → Option R) (n : ℕ) (ks : List ℕ) → IsApart ks → count_under n (numbered at ks) ≤ 1
  count-numbered at n [] apart = omega arith
  count-numbered at n (k ∷ ks) apart = go (at k) refl (count-numbered at n ks apart.1)
    where
      go : (o : Option R) → at k ≡ o → count_under n (numbered at ks) ≤ 1 → count_under n (numbered at (k ∷ ks)) ≤ 1
      go None has rest = let same : count_under n (numbered at (k ∷ ks)) ≡ count_under n (numbered at ks) = ap (count_under n) (none at k ks has) in omega (arith, same, rest)
      go (Some s) has rest =
          let is : count_under n (numbered at (k ∷ ks)) ≡ count_under n ((k, s) ∷ numbered at ks) = ap (count_under n) (front at k ks s has) in
          ⊎_elim
          (λ e.
          let one = count-here n k s (numbered at ks) e in
          let zero' = count-absent at n ks (λ q. apart.0 (subst (λ t. IsAmong t ks) (sym e) q)) in
          omega (arith, is, one, zero'))
          (λ ne. let less = count-there n k s (numbered at ks) ne in omega (arith, is, less, rest)) (cases_eq k n)

  -- rows that pass a test
  pub filter-in : (test : ℕ × R → Bool) (p : ℕ × R) (ps : List (ℕ × R)) → test p ≡ true → filter test (p ∷ ps) ≡ p ∷ filter test ps
  filter-in test p ps is = search (rules, is)

  pub filter-out : (test : ℕ × R → Bool) (p : ℕ × R) (ps : List (ℕ × R)) → test p ≡ false → filter test (p ∷ ps) ≡ filter test ps
  filter-out test p ps is = search (rules, is)

  pub none-pass : (at : ℕ → Option R) (test : R → Bool) (ks : List ℕ) → ((k : ℕ) (r : R) → IsAmong k ks → at k ≡ Some r → test r ≡ false) → filter (λ p. test p.1) (numbered at ks) ≡ []
  none-pass at test [] fails = refl
  none-pass at test (k ∷ ks) fails = go (at k) refl (none-pass at test ks (λ j r q. fails j r (inr q)))
    where
      go : (o : Option R) → at k ≡ o → filter (λ p. test p.1) (numbered at ks) ≡ [] → filter (λ p. test p.1) (numbered at (k ∷ ks)) ≡ []
      go None has rest = ap (filter (λ p. test p.1)) (none at k ks has) ∙ rest
      go (Some s) has rest = ap (filter (λ p. test p.1)) (front at k ks s has) ∙ filter-out (λ p. test p.1) (k, s) (numbered at ks) (fails k s (inl refl) has) ∙ rest

  -- the numbers of the rows that pass a test
  abbrev pub passing : (R → Bool) → List (ℕ × R) → List ℕ
  passing test ps = map (λ p. p.0) (filter (λ p. test p.1) ps)

  pub passes : (at : ℕ → Option R) (test : R → Bool) (n : ℕ) (r : R) (ks : List ℕ) → IsAmong n ks → at n ≡ Some r → test r ≡ true → IsAmong n (passing test (numbered at ks))
  passes at test n r [] q has true-is = absurd q
  passes at test n r (k ∷ ks) q has is = ⊎_elim (λ e. same e) (λ ne. go (at k) refl (passes at test n r ks (⊎_elim (λ e. absurd (ne e)) (λ t. t) q) has is)) (cases_eq k n)
    where
      same : k ≡ n → IsAmong n (passing test (numbered at (k ∷ ks)))
      same e =
          subst (λ t. IsAmong n (map (λ p. p.0) t)) (sym (ap (filter (λ p. test p.1)) (front at k ks r (ap at e ∙ has)) ∙ filter-in (λ p. test p.1) (k, r) (numbered at ks) is)) (inl e)

      keep : (s : R) (b : Bool) → test s ≡ b → IsAmong n (passing test (numbered at ks)) → IsAmong n (passing test ((k, s) ∷ numbered at ks))
      keep s true t later = subst (λ l. IsAmong n (map (λ p. p.0) l)) (sym (filter-in (λ p. test p.1) (k, s) (numbered at ks) t)) (inr later)
      keep s false t later = subst (λ l. IsAmong n (map (λ p. p.0) l)) (sym (filter-out (λ p. test p.1) (k, s) (numbered at ks) t)) later

      go : (o : Option R) → at k ≡ o → IsAmong n (passing test (numbered at ks)) → IsAmong n (passing test (numbered at (k ∷ ks)))
      go None is' later = subst (λ t. IsAmong n (passing test t)) (sym (none at k ks is')) later
      go (Some s) is' later = subst (λ t. IsAmong n (passing test t)) (sym (front at k ks s is')) (keep s (test s) refl later)
