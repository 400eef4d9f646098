-- Rows in a slab and the links between their numbers, before and after each call.
use Rattle.std.proofs.Common.{◌≡◌, ◌≢◌, ℕ, ◌+◌, ◌-◌, ◌<◌, ◌≤◌, ◌^◌, Bool, true, false, List, [], ◌∷◌, ◌++◌, length, Option, Some, None, IsSome, IfSome, MatchOption, refl, sym, ap, subst, ◌∙◌, arith, inl, inr, ⊎_elim}
use Rattle.std.specs.Prelude.{◌⊎◌}
use Rattle.std.proofs.lemmas.Bool.{cases_eq, cases_lt}
use Rattle.std.proofs.lemmas.List.{get_or-set_same, get_or-set_other, get_or_past}
use Rattle.slab.specs.Slab.{Slab, get, Updates, with_value}
use Rattle.moka_rows.specs.Rows.{row_under, with_row, without_row, NumbersDiffer, count_under, IsOrderOf}
use Rattle.moka_rows.specs.declared.rows.Order.TheVariants.{Admitted}
use Rattle.moka_rows.specs.declared.rows.Row.{Row}
use Rattle.moka_index.specs.Paths.{IsAmong, IsAbsent, without}
use Rattle.moka_index.specs.RowIndex.{IsLinked, admitted_of, waiting_of, numbers_of, hash_at}
use Rattle.moka_index.specs.declared.row_index.RowIndex.{RowIndex}
use Rattle.moka_index.proofs.Callers.{IsApart, absent-without, among-without, among-push, without-absent, among-parts, linked-above, linked-within, linked-among, among-linked, few-below, few-places, linked-once, admitted-apart, waiting-apart}
use Rattle.moka_slab.specs.NumberedRows.{row_at, numbered, order_of}
use Rattle.moka_slab.specs.Tied.{IsTied, admitted_rows, waiting_rows, all_rows}
use Rattle.moka_slab.proofs.NumberedLemmas.{some-of, numbered-append, under-among, under-absent, under-some, numbered-without, numbered-same, numbered-changed, count-numbered, length-numbered}

apart-both : (xs ys : List ℕ) → IsApart xs → IsApart ys → ((k : ℕ) → IsAmong k xs → IsAbsent k ys) → IsApart (xs ++ ys)
apart-both [] ys a b once = b
apart-both (x ∷ xs) ys a b once =
    ((λ q. ⊎_elim (λ t. a.0 t) (λ t. once x (inl refl) t) (among-parts x xs ys q)), apart-both xs ys a.1 b (λ k q. once k (inr q)))

pub numbers-apart : (l : RowIndex) → IsApart (numbers_of l)
numbers-apart l = apart-both (admitted_of l) (waiting_of l) (admitted-apart l) (waiting-apart l) (λ k q. linked-once l k q)

-- there are fewer numbers than 32 bits have, since the ends have two of them
pub few-numbers : (l : RowIndex) → length (numbers_of l) < 2 ^ 32
few-numbers l =
    let places = few-places l in
    let few : length (0 ∷ numbers_of l) ≤ 2 ^ 32 =
    few-below (2 ^ 32) (0 ∷ numbers_of l)
    ((λ q. let above = linked-above l 0 (linked-among l 0 q) in omega (arith, above)), numbers-apart l)
    (λ k q. ⊎_elim (λ e. omega (arith, e)) (λ t. let within = linked-within l k (linked-among l k t) in omega (arith, within, places)) q) in
    omega (arith, few)

-- a number that is linked after an admission or a removal was linked before
pub linked-admitted : (l m : RowIndex) (n : ℕ) → IsLinked l n → admitted_of m ≡ without n (admitted_of l) ++ n ∷ [] → waiting_of m ≡ without n (waiting_of l) → (k : ℕ) → IsLinked m k → IsLinked l k
linked-admitted l m n there admitted waiting k q =
    ⊎_elim
    (λ t. ⊎_elim (λ s. inl (among-without n k (admitted_of l) s)) (λ e. subst (IsLinked l) e there) (among-push k n (without n (admitted_of l)) (subst (IsAmong k) admitted t)))
    (λ t. inr (among-without n k (waiting_of l) (subst (IsAmong k) waiting t))) q

pub linked-removed : (l m : RowIndex) (n : ℕ) → admitted_of m ≡ without n (admitted_of l) → waiting_of m ≡ without n (waiting_of l) → (k : ℕ) → IsLinked m k → IsLinked l k × (k ≢ n)
linked-removed l m n admitted waiting k q =
    ⊎_elim
    (λ t. let s = subst (IsAmong k) admitted t in
    (inl (among-without n k (admitted_of l) s), λ e. absent-without n (admitted_of l) (admitted-apart l) (subst (λ j. IsAmong j (without n (admitted_of l))) e s)))
    (λ t. let s = subst (IsAmong k) waiting t in
    (inr (among-without n k (waiting_of l) s), λ e. absent-without n (waiting_of l) (waiting-apart l) (subst (λ j. IsAmong j (without n (waiting_of l))) e s))) q

module _ {K V : Type 0} where
  pub all-is : (rows : Slab (Row K V)) (l : RowIndex) → all_rows rows l ≡ numbered (row_at rows) (numbers_of l)
  all-is rows l = sym (numbered-append (row_at rows) (admitted_of l) (waiting_of l))

  -- a row that is found under a number is linked
  pub linked-found : (rows : Slab (Row K V)) (l : RowIndex) (n : ℕ) → IsSome (row_under n (all_rows rows l)) → IsLinked l n
  linked-found rows l n found =
      let s = some-of (row_under n (all_rows rows l)) found in
      linked-among l n (under-some (row_at rows) n (numbers_of l) s.0 (ap (row_under n) (sym (all-is rows l)) ∙ s.1)).0

  pub waiting-found : (rows : Slab (Row K V)) (l : RowIndex) (n : ℕ) → IsSome (row_under n (waiting_rows rows l)) → IsAmong n (waiting_of l)
  waiting-found rows l n found = let s = some-of (row_under n (waiting_rows rows l)) found in (under-some (row_at rows) n (waiting_of l) s.0 s.1).0

  -- the row with a linked number
  pub under-all : (rows : Slab (Row K V)) (l : RowIndex) (n : ℕ) (r : Row K V) → IsLinked l n → row_at rows n ≡ Some r → row_under n (all_rows rows l) ≡ Some r
  under-all rows l n r q is = ap (row_under n) (all-is rows l) ∙ under-among (row_at rows) n (numbers_of l) r is (among-linked l n q)

  pub under-admitted : (rows : Slab (Row K V)) (l : RowIndex) (n : ℕ) (r : Row K V) → IsAmong n (admitted_of l) → row_at rows n ≡ Some r → row_under n (admitted_rows rows l) ≡ Some r
  under-admitted rows l n r q is = under-among (row_at rows) n (admitted_of l) r is q

  pub waits-absent : (rows : Slab (Row K V)) (l : RowIndex) (n : ℕ) → IsAmong n (waiting_of l) → row_under n (admitted_rows rows l) ≡ None
  waits-absent rows l n q = under-absent (row_at rows) n (admitted_of l) (λ t. linked-once l n t q)

  -- no two rows have one number
  pub numbers-differ : (rows : Slab (Row K V)) (l : RowIndex) → NumbersDiffer (all_rows rows l)
  numbers-differ rows l n = subst (λ t. count_under n t ≤ 1) (sym (all-is rows l)) (count-numbered (row_at rows) n (numbers_of l) (numbers-apart l))

  -- a store has fewer rows than there are numbers
  pub few-rows : (rows : Slab (Row K V)) (l : RowIndex) → IsTied rows l → length (all_rows rows l) < 2 ^ 32
  few-rows rows l t =
      let all : length (all_rows rows l) ≡ length (numbers_of l) = ap length (all-is rows l) ∙ length-numbered (row_at rows) (numbers_of l) (λ k q. t.stored k (linked-among l k q)) in
      let few = few-numbers l in
      omega (arith, all, few)

  -- a case for each order
  pub by-order : (rows : Slab (Row K V)) (l : RowIndex) (n : ℕ) (r : Row K V) (P : Type 0) (Q : Row K V → Type 0) → IsLinked l n → row_at rows n ≡ Some r
      → (IsAmong n (waiting_of l) → P) → (IsAmong n (admitted_of l) → Q r) → MatchOption (row_under n (admitted_rows rows l)) P Q
  by-order rows l n r P Q q is waits admits =
      ⊎_elim (λ t. subst (λ o. MatchOption o P Q) (sym (under-admitted rows l n r t is)) (admits t))
      (λ t. subst (λ o. MatchOption o P Q) (sym (waits-absent rows l n t)) (waits t)) q

  pub order-said : (rows : Slab (Row K V)) (l : RowIndex) (n : ℕ) (r : Row K V) (said : Bool) → IsLinked l n → row_at rows n ≡ Some r
      → (IsAmong n (admitted_of l) → said ≡ true) → (IsAmong n (waiting_of l) → said ≡ false) → IsOrderOf n (admitted_rows rows l) (order_of said)
  order-said rows l n r said q is admits waits = by-order rows l n r _ (λ _. order_of said ≡ Admitted) q is (λ w. ap order_of (waits w)) (λ a. ap order_of (admits a))

  -- one row was changed, added or removed
  pub record Puts (old new : Slab (Row K V)) (n : ℕ) (row : Option (Row K V)) : Type 0 where
    pub at : row_at new n ≡ row
    pub others : (k : ℕ) → 2 ≤ k → k ≢ n → row_at new k ≡ row_at old k

  pub puts-update : (old new : Slab (Row K V)) (n key : ℕ) (row : Option (Row K V)) → n ≡ key + 2 → Updates old new key row → Puts old new n row
  puts-update old new n key row is u =
      let at : n - 2 ≡ key = omega (arith, is) in
      record {
        at = ap (get new) at ∙ u.changed;
        others = λ k above ne. u.others (k - 2) (λ e. ne (omega (arith, is, above, e)));
      }

  -- a row is overwritten
  pub write-updates : (old : Slab (Row K V)) (key : ℕ) (was row : Row K V) → get old key ≡ Some was → Updates old (with_value old key row) key (Some row)
  write-updates old key was row is = record {
    changed = get_or-set_same old.slots key (Some row) None within;
    others = λ other ne. get_or-set_other old.slots key other (Some row) None ne;
  }
    where
      beyond : length old.slots ≤ key → ⊥
      beyond past = let none : get old key ≡ None = get_or_past old.slots key None past in let both : None ≡ Some was = sym none ∙ is in cc

      within : key < length old.slots
      within = ⊎_elim (λ t. t) (λ past. absurd (beyond past)) (cases_lt key (length old.slots))

  pub puts-write : (old : Slab (Row K V)) (n : ℕ) (was row : Row K V) → 2 ≤ n → row_at old n ≡ Some was → Puts old (with_value old (n - 2) row) n (Some row)
  puts-write old n was row above is = puts-update old (with_value old (n - 2) row) n (n - 2) (Some row) (omega (arith, above)) (write-updates old (n - 2) was row is)

  -- the rows of an order without this number stay the same
  pub kept-without : (old new : Slab (Row K V)) (l : RowIndex) (n : ℕ) (row : Option (Row K V)) (ks : List ℕ) → Puts old new n row → IsAbsent n ks → ((k : ℕ) → IsAmong k ks → 2 ≤ k)
      → numbered (row_at new) ks ≡ numbered (row_at old) ks
  kept-without old new l n row ks p absent above =
      numbered-same (row_at old) (row_at new) ks (λ k q. p.others k (above k q) (λ e. absent (subst (λ t. IsAmong t ks) e q)))

  -- rows and links stay tied
  pub tied-kept : (old new : Slab (Row K V)) (l m : RowIndex) → IsTied old l → ((k : ℕ) → IsLinked m k → IsLinked l k) → ((k : ℕ) → hash_at m k ≡ hash_at l k)
      → ((k : ℕ) (r : Row K V) → IsLinked m k → row_at old k ≡ Some r → (s : Row K V) × (row_at new k ≡ Some s) × (s.hash ≡ r.hash)) → IsTied new m
  tied-kept old new l m t linked hashes same = record {
    stored = λ k q. let r = some-of (row_at old k) (t.stored k (linked k q)) in let s = same k r.0 q r.1 in subst IsSome (sym s.1) refl;
    hashed = λ k row q is.
        let r = some-of (row_at old k) (t.stored k (linked k q)) in
        let s = same k r.0 q r.1 in
        let both : Some row ≡ Some s.0 = sym is ∙ s.1 in
        let e : row ≡ s.0 = cc in
        ap (λ x. x.hash) e ∙ s.2 ∙ t.hashed k r.0 (linked k q) r.1 ∙ sym (hashes k);
  }

  -- every row and every number stays
  pub tied-grown : (old new : Slab (Row K V)) (l m : RowIndex) → IsTied old l → ((key : ℕ) → get new key ≡ get old key) → admitted_of m ≡ admitted_of l → waiting_of m ≡ waiting_of l
      → ((k : ℕ) → hash_at m k ≡ hash_at l k) → IsTied new m
  tied-grown old new l m t same admitted waiting hashes =
      tied-kept old new l m t (λ k q. ⊎_elim (λ s. inl (subst (IsAmong k) admitted s)) (λ s. inr (subst (IsAmong k) waiting s)) q) hashes (λ k r q is. (r, same (k - 2) ∙ is, refl))

  -- an access to a row: its content changes, and a resident row becomes the last one
  module _ (old new : Slab (Row K V)) (l m : RowIndex) (t : IsTied old l) (n : ℕ) (r : Row K V) (change : Row K V → Row K V) (is : row_at old n ≡ Some r)
      (p : Puts old new n (Some (change r))) (hash : (change r).hash ≡ r.hash) where
    same-hash : (k : ℕ) (x : Row K V) → IsLinked l k → row_at old k ≡ Some x → (y : Row K V) × (row_at new k ≡ Some y) × (y.hash ≡ x.hash)
    same-hash k x q at =
        ⊎_elim
        (λ e. let both : Some x ≡ Some r = sym at ∙ ap (row_at old) e ∙ is in let f : x ≡ r = cc in (change r, ap (row_at new) e ∙ p.at, hash ∙ ap (λ z. z.hash) (sym f)))
        (λ ne. (x, p.others k (linked-above l k q) ne ∙ at, refl)) (cases_eq k n)

    -- given its order, by the links
    module _ (there : IsLinked l n) (said : Bool)
        (admits : IsAmong n (admitted_of l) → (said ≡ true) × (admitted_of m ≡ without n (admitted_of l) ++ n ∷ []))
        (waits : IsAmong n (waiting_of l) → (said ≡ false) × (admitted_of m ≡ admitted_of l))
        (waiting : waiting_of m ≡ waiting_of l) where
      used-linked : (k : ℕ) → IsLinked m k → IsLinked l k
      used-linked k q = ⊎_elim (λ s. ⊎_elim (λ a. from_admitted (subst (IsAmong k) (admits a).1 s)) (λ w. inl (subst (IsAmong k) (waits w).1 s)) there) (λ s. inr (subst (IsAmong k) waiting s)) q
        where
          from_admitted : IsAmong k (without n (admitted_of l) ++ n ∷ []) → IsLinked l k
          from_admitted s = ⊎_elim (λ u. inl (among-without n k (admitted_of l) u)) (λ e. subst (IsLinked l) e there) (among-push k n (without n (admitted_of l)) s)

      pub used-tied : ((k : ℕ) → hash_at m k ≡ hash_at l k) → IsTied new m
      used-tied hashes = tied-kept old new l m t used-linked hashes (λ k x q at. same-hash k x (used-linked k q) at)

      used-last : admitted_of m ≡ without n (admitted_of l) ++ n ∷ [] → admitted_rows new m ≡ without_row n (admitted_rows old l) ++ (n, change r) ∷ []
      used-last admitted =
          ap (numbered (row_at new)) admitted ∙ numbered-append (row_at new) (without n (admitted_of l)) (n ∷ [])
          ∙ ap (λ z. z ++ numbered (row_at new) (n ∷ []))
          (kept-without old new l n (Some (change r)) (without n (admitted_of l)) p (absent-without n (admitted_of l) (admitted-apart l))
          (λ k q. linked-above l k (inl (among-without n k (admitted_of l) q)))
          ∙ sym (numbered-without (row_at old) n (admitted_of l) r is))
          ∙ ap (λ z. without_row n (admitted_rows old l) ++ z) (rw p.at refl)

      pub used-orders : MatchOption (row_under n (admitted_rows old l)) ((admitted_rows new m ≡ admitted_rows old l) × (waiting_rows new m ≡ with_row n change (waiting_rows old l)))
          (λ row. (admitted_rows new m ≡ without_row n (admitted_rows old l) ++ (n, change row) ∷ []) × (waiting_rows new m ≡ waiting_rows old l))
      used-orders =
          by-order old l n r _ (λ row. (admitted_rows new m ≡ without_row n (admitted_rows old l) ++ (n, change row) ∷ []) × (waiting_rows new m ≡ waiting_rows old l)) there is
          (λ w. (
            ap (numbered (row_at new)) (waits w).1 ∙ kept-without old new l n (Some (change r)) (admitted_of l) p (λ s. linked-once l n s w) (λ k s. linked-above l k (inl s)),
            ap (numbered (row_at new)) waiting ∙ numbered-changed (row_at old) (row_at new) n change r (waiting_of l) (waiting-apart l) is p.at (λ k s. p.others k (linked-above l k (inr s))),
          ))
          (λ a. (
            used-last (admits a).1,
            ap (numbered (row_at new)) waiting ∙ kept-without old new l n (Some (change r)) (waiting_of l) p (linked-once l n a) (λ k s. linked-above l k (inr s)),
          ))

  -- a row's content changes, and the row keeps its place
  module _ (old : Slab (Row K V)) (l : RowIndex) (t : IsTied old l) (n : ℕ) (was row : Row K V) (change : Row K V → Row K V) (there : IsLinked l n) (is : row_at old n ≡ Some was)
      (made : row ≡ change was) (hash : (change was).hash ≡ was.hash) where
    put : Puts old (with_value old (n - 2) row) n (Some (change was))
    put = subst (λ x. Puts old (with_value old (n - 2) row) n (Some x)) made (puts-write old n was row (linked-above l n there) is)

    pub changed-tied : IsTied (with_value old (n - 2) row) l
    changed-tied = tied-kept old (with_value old (n - 2) row) l l t (λ k q. q) (λ k. refl) (λ k x q at. same-hash old (with_value old (n - 2) row) l l t n was change is put hash k x q at)

    changed : (ks : List ℕ) → IsApart ks → ((k : ℕ) → IsAmong k ks → IsLinked l k) → numbered (row_at (with_value old (n - 2) row)) ks ≡ with_row n change (numbered (row_at old) ks)
    changed ks apart linked = numbered-changed (row_at old) (row_at (with_value old (n - 2) row)) n change was ks apart is put.at (λ k q. put.others k (linked-above l k (linked k q)))

    pub changed-admitted : admitted_rows (with_value old (n - 2) row) l ≡ with_row n change (admitted_rows old l)
    changed-admitted = changed (admitted_of l) (admitted-apart l) (λ k q. inl q)

    pub changed-waiting : waiting_rows (with_value old (n - 2) row) l ≡ with_row n change (waiting_rows old l)
    changed-waiting = changed (waiting_of l) (waiting-apart l) (λ k q. inr q)

  -- a row is added
  module _ (old new : Slab (Row K V)) (l m : RowIndex) (t : IsTied old l) (n : ℕ) (row : Row K V) (p : Puts old new n (Some row)) (fresh : IsLinked l n → ⊥)
      (admitted : admitted_of m ≡ admitted_of l) (waiting : waiting_of m ≡ waiting_of l ++ n ∷ []) where
    came : (k : ℕ) → IsLinked m k → IsLinked l k ⊎ (n ≡ k)
    came k q =
        ⊎_elim (λ s. inl (inl (subst (IsAmong k) admitted s)))
        (λ s. ⊎_elim (λ u. inl (inr u)) (λ e. inr e) (among-push k n (waiting_of l) (subst (IsAmong k) waiting s))) q

    pub added-tied : hash_at m n ≡ row.hash → ((k : ℕ) → k ≢ n → hash_at m k ≡ hash_at l k) → IsTied new m
    added-tied hash hashes = record {
      stored = λ k q. ⊎_elim (λ s. subst IsSome (sym (p.others k (linked-above l k s) (λ e. fresh (subst (IsLinked l) e s)))) (t.stored k s)) (λ e. subst IsSome (sym (ap (row_at new) (sym e) ∙ p.at)) refl) (came k q);
      hashed = λ k x q is.
          ⊎_elim
          (λ s. let ne : k ≢ n = λ e. fresh (subst (IsLinked l) e s) in t.hashed k x s (sym (p.others k (linked-above l k s) ne) ∙ is) ∙ sym (hashes k ne))
          (λ e. let both : Some x ≡ Some row = sym is ∙ ap (row_at new) (sym e) ∙ p.at in let f : x ≡ row = cc in ap (λ z. z.hash) f ∙ sym hash ∙ ap (hash_at m) e) (came k q);
    }

    pub added-fresh : row_under n (all_rows old l) ≡ None
    added-fresh = ap (row_under n) (all-is old l) ∙ under-absent (row_at old) n (numbers_of l) (λ q. fresh (linked-among l n q))

    pub added-admitted : admitted_rows new m ≡ admitted_rows old l
    added-admitted = ap (numbered (row_at new)) admitted ∙ kept-without old new l n (Some row) (admitted_of l) p (λ s. fresh (inl s)) (λ k s. linked-above l k (inl s))

    pub added-waiting : waiting_rows new m ≡ waiting_rows old l ++ (n, row) ∷ []
    added-waiting =
        ap (numbered (row_at new)) waiting ∙ numbered-append (row_at new) (waiting_of l) (n ∷ [])
        ∙ ap (λ z. z ++ numbered (row_at new) (n ∷ [])) (kept-without old new l n (Some row) (waiting_of l) p (λ s. fresh (inr s)) (λ k s. linked-above l k (inr s)))
        ∙ ap (λ z. waiting_rows old l ++ z) (rw p.at refl)

  -- a row is removed
  module _ (old new : Slab (Row K V)) (l m : RowIndex) (t : IsTied old l) (n : ℕ) (r : Row K V) (is : row_at old n ≡ Some r) (p : Puts old new n None) (there : IsLinked l n)
      (admitted : admitted_of m ≡ without n (admitted_of l)) (waiting : waiting_of m ≡ without n (waiting_of l)) where
    pub removed-tied : ((k : ℕ) → hash_at m k ≡ hash_at l k) → IsTied new m
    removed-tied hashes =
        tied-kept old new l m t (λ k q. (linked-removed l m n admitted waiting k q).0) hashes
        (λ k x q at. let s = linked-removed l m n admitted waiting k q in (x, p.others k (linked-above l k s.0) s.1 ∙ at, refl))

    left : (ks : List ℕ) → IsApart ks → ((k : ℕ) → IsAmong k ks → IsLinked l k) → numbered (row_at new) (without n ks) ≡ without_row n (numbered (row_at old) ks)
    left ks apart linked =
        kept-without old new l n None (without n ks) p (absent-without n ks apart) (λ k q. linked-above l k (linked k (among-without n k ks q)))
        ∙ sym (numbered-without (row_at old) n ks r is)

    stays : (ks : List ℕ) → IsAbsent n ks → ((k : ℕ) → IsAmong k ks → IsLinked l k) → numbered (row_at new) (without n ks) ≡ numbered (row_at old) ks
    stays ks absent linked = ap (numbered (row_at new)) (without-absent n ks absent) ∙ kept-without old new l n None ks p absent (λ k q. linked-above l k (linked k q))

    pub removed-rest : MatchOption (row_under n (admitted_rows old l))
        ((admitted_rows new m ≡ admitted_rows old l) × (waiting_rows new m ≡ without_row n (waiting_rows old l)))
        (λ _. (admitted_rows new m ≡ without_row n (admitted_rows old l)) × (waiting_rows new m ≡ waiting_rows old l))
    removed-rest =
        by-order old l n r _ _ there is
        (λ q. (
          ap (numbered (row_at new)) admitted ∙ stays (admitted_of l) (λ s. linked-once l n s q) (λ k s. inl s),
          ap (numbered (row_at new)) waiting ∙ left (waiting_of l) (waiting-apart l) (λ k s. inr s),
        ))
        (λ q. (
          ap (numbered (row_at new)) admitted ∙ left (admitted_of l) (admitted-apart l) (λ k s. inl s),
          ap (numbered (row_at new)) waiting ∙ stays (waiting_of l) (linked-once l n q) (λ k s. inr s),
        ))

  -- the number of a vacant key is not linked
  pub fresh-number : (rows : Slab (Row K V)) (l : RowIndex) (n key : ℕ) → IsTied rows l → n ≡ key + 2 → get rows key ≡ None → IsLinked l n → ⊥
  fresh-number rows l n key t is vacant q =
      let at : n - 2 ≡ key = omega (arith, is) in
      let stored = t.stored n q in
      let none : row_at rows n ≡ None = ap (get rows) at ∙ vacant in
      let some = rw none at stored in
      absurd cc

  -- a pending row is admitted
  module _ (rows : Slab (Row K V)) (l m : RowIndex) (t : IsTied rows l) (n : ℕ) (q : IsAmong n (waiting_of l))
      (admitted : admitted_of m ≡ without n (admitted_of l) ++ n ∷ []) (waiting : waiting_of m ≡ without n (waiting_of l)) where
    pub admitted-tied : ((k : ℕ) → hash_at m k ≡ hash_at l k) → IsTied rows m
    admitted-tied hashes = tied-kept rows rows l m t (linked-admitted l m n (inr q) admitted waiting) hashes (λ k x s at. (x, at, refl))

    pub admitted-waiting : (r : Row K V) → row_at rows n ≡ Some r → waiting_rows rows m ≡ without_row n (waiting_rows rows l)
    admitted-waiting r is = ap (numbered (row_at rows)) waiting ∙ sym (numbered-without (row_at rows) n (waiting_of l) r is)

    pub admitted-last : (r : Row K V) → row_at rows n ≡ Some r → IfSome (row_under n (waiting_rows rows l)) (λ row. admitted_rows rows m ≡ admitted_rows rows l ++ (n, row) ∷ [])
    admitted-last r is =
        rw (under-among (row_at rows) n (waiting_of l) r is q)
        (
        ap (numbered (row_at rows)) admitted ∙ numbered-append (row_at rows) (without n (admitted_of l)) (n ∷ [])
        ∙ ap (λ z. numbered (row_at rows) z ++ numbered (row_at rows) (n ∷ [])) (without-absent n (admitted_of l) (λ s. linked-once l n s q))
        ∙ ap (λ z. admitted_rows rows l ++ z) (rw is refl)
        )
