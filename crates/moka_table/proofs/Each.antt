-- A change of one row keeps what holds of each row.
use Rattle.std.proofs.Common.{◌≡◌, ℕ, List, [], ◌∷◌, ◌++◌, Option, Some, None, MatchOption, sym, subst, ◌∙◌, refl}
use Rattle.std.specs.List.{AllByRecursion}
use Rattle.moka_rows.specs.declared.rows.Row.{Row}
use Rattle.moka_rows.specs.Rows.{row_under, with_row, without_row}
use Rattle.moka_rows.proofs.Callers.{all-append, row_under-append_left, each-at, each-without, each-used, each-taken}
use Rattle.moka_table.specs.Table.{Contents, entries, UsesRow, TakesRow}

module _ {K V : Type 0} (P : Row K V → Type 0) where
  -- of each row, whatever its number
  abbrev pub OfEach : List (ℕ × Row K V) → Type 0
  OfEach ps = AllByRecursion (λ (p : ℕ × Row K V). P p.1) ps

  -- of the row under a number
  pub of-row : (n : ℕ) (ps : List (ℕ × Row K V)) (row : Row K V) → OfEach ps → row_under n ps ≡ Some row → P row
  of-row n ps row all there = each-at (λ (p : ℕ × Row K V). P p.1) n row ps all there

  of-rest : (n : ℕ) (ps : List (ℕ × Row K V)) → OfEach ps → OfEach (without_row n ps)
  of-rest n ps all = each-without (λ (p : ℕ × Row K V). P p.1) n ps all

  -- after a use of a row
  pub of-used : (n : ℕ) (change : Row K V → Row K V) (row : Row K V) (old new : Contents K V) → OfEach (entries old) → row_under n (entries old) ≡ Some row → P (change row) → UsesRow n change old new → OfEach (entries new)
  of-used n change row old new all there it used =
      each-used (λ (p : ℕ × Row K V). P p.1) n change old.admitted old.waiting new.admitted new.waiting
      (λ r found. let same : Some row ≡ Some r = sym there ∙ found in let is : row ≡ r = cc in subst (λ (q : Row K V). P (change q)) is it) all used

  -- after a removal
  pub of-taken : (n : ℕ) (row : Row K V) (old new : Contents K V) → OfEach (entries old) → row_under n (entries old) ≡ Some row → TakesRow n old new → OfEach (entries new)
  of-taken n row old new all there taken = each-taken (λ (p : ℕ × Row K V). P p.1) n old.admitted old.waiting new.admitted new.waiting all taken

module _ {K V : Type 0} where
  -- the admitted, after a use of a row
  pub of-used-admitted : (P : Row K V → Type 0) (n : ℕ) (change : Row K V → Row K V) (row : Row K V) (old new : Contents K V) → OfEach P old.admitted → row_under n (entries old) ≡ Some row → (P row → P (change row)) → UsesRow n change old new → OfEach P new.admitted
  of-used-admitted P n change row old new all there it used = go (row_under n old.admitted) refl used
    where
      go : (o : Option (Row K V)) → row_under n old.admitted ≡ o
          → MatchOption o
          ((new.admitted ≡ old.admitted) × (new.waiting ≡ with_row n change old.waiting))
          (λ r. (new.admitted ≡ without_row n old.admitted ++ (n, change r) ∷ []) × (new.waiting ≡ old.waiting))
          → OfEach P new.admitted
      go None e h = rw (h.0) all
      go (Some r) e h =
          let found : Some r ≡ Some row = sym (row_under-append_left n old.admitted old.waiting r e) ∙ there in
          let same : row ≡ r = cc in
          let front = it (of-row P n old.admitted row all (e ∙ found)) in
          rw (h.0) (all-append (λ (p : ℕ × Row K V). P p.1) (without_row n old.admitted) ((n, change r) ∷ []) (of-rest P n old.admitted all) (rw same at front, tt))

  -- the admitted, after a removal
  pub of-taken-admitted : (P : Row K V → Type 0) (n : ℕ) (row : Row K V) (old new : Contents K V) → OfEach P old.admitted → row_under n (entries old) ≡ Some row → TakesRow n old new → OfEach P new.admitted
  of-taken-admitted P n row old new all there taken = go (row_under n old.admitted) refl taken
    where
      go : (o : Option (Row K V)) → row_under n old.admitted ≡ o
          → MatchOption o
          ((new.admitted ≡ old.admitted) × (new.waiting ≡ without_row n old.waiting))
          (λ _. (new.admitted ≡ without_row n old.admitted) × (new.waiting ≡ old.waiting))
          → OfEach P new.admitted
      go None e h = rw (h.0) all
      go (Some r) e h = rw (h.0) (of-rest P n old.admitted all)
