-- A walk over the rows of an order that takes their keys.
use Rattle.std.proofs.Common.{◌≡◌, ℕ, ◌<◌, Option, Some, None, List, [], ◌∷◌, ◌++◌, length, map, sym, ap, ◌∙◌, subst, append_assoc, arith}
use Rattle.std.specs.Arc.{arc_value}
use Rattle.std.proofs.lemmas.List.{map-append, append-nil}
use Rattle.moka_rows.specs.declared.rows.Row.{Row}
use Rattle.moka_rows.specs.Rows.{first_number, NumbersDiffer}
use Rattle.moka_rows.proofs.Callers.{rows_from, rows_from-first, rows_from-at}
use Rattle.moka_table.specs.Table.{keys_of}
use Rattle.moka_table.proofs.Walks.{Walks, walks-first, AtCursor, walks-on}

module _ {R : Type 0} where
  -- a walk on its way: some rows are passed, and those from the cursor on are the rest
  pub record Scans (rows : List (ℕ × R)) (cursor : Option ℕ) (passed rest : List (ℕ × R)) : Type 0 where
    pub walks : Walks rows cursor passed rest
    pub ahead : rows_from cursor rows ≡ rest

  pub scans-first : (rows : List (ℕ × R)) (cursor : Option ℕ) → cursor ≡ first_number rows → Scans rows cursor [] rows
  scans-first rows cursor first = record { walks = walks-first rows cursor first; ahead = rw first (rows_from-first rows) }

  pub scans-on : (rows passed rest : List (ℕ × R)) (n : ℕ) (row : R) (next : Option ℕ) (back : List (ℕ × R)) → AtCursor rows passed rest n row next back → Scans rows next (passed ++ (n, row) ∷ []) back
  scans-on rows passed rest n row next back here =
      let on = walks-on rows passed rest n row next back here in
      record {
        walks = on;
        ahead = ap (λ o. rows_from o rows) here.behind ∙ ap (rows_from (first_number back)) on.whole ∙ rows_from-at (passed ++ (n, row) ∷ []) back (subst (λ (l : List (ℕ × R)). NumbersDiffer l) (sym (append_assoc passed ((n, row) ∷ []) back)) here.apart);
      }

  -- it comes nearer to the end
  pub scans-nearer : (rows passed rest : List (ℕ × R)) (n : ℕ) (row : R) (next : Option ℕ) (back : List (ℕ × R)) → Scans rows (Some n) passed rest → AtCursor rows passed rest n row next back → length (rows_from next rows) < length (rows_from (Some n) rows)
  scans-nearer rows passed rest n row next back was here =
      let on = ap length (scans-on rows passed rest n row next back here).ahead in
      let before = ap length (was.ahead ∙ here.rest_is) in
      omega (arith, on, before)

  -- at the end all rows are passed
  pub scans-all : (rows passed rest : List (ℕ × R)) → Scans rows None passed rest → passed ≡ rows
  scans-all rows passed rest was = sym (was.walks.whole ∙ ap (λ l. passed ++ l) (sym was.ahead) ∙ append-nil passed)

-- one key more
pub keys-more : {K V A : Type 0} (value : A → K) (old new : List A) (first : List K) (passed : List (ℕ × Row K V)) (n : ℕ) (row : Row K V) (key : A) → map value old ≡ first ++ keys_of passed → new ≡ old ++ key ∷ [] → value key ≡ arc_value row.key
    → map value new ≡ first ++ keys_of (passed ++ (n, row) ∷ [])
keys-more value old new first passed n row key was is same =
    ap (map value) is ∙ map-append value old (key ∷ []) ∙ ap (λ l. l ++ value key ∷ []) was ∙ ap (λ k. (first ++ keys_of passed) ++ k ∷ []) same
    ∙ append_assoc first (keys_of passed) (arc_value row.key ∷ []) ∙ ap (λ l. first ++ l) (sym (map-append (λ (p : ℕ × Row _ _). arc_value p.1.key) passed ((n, row) ∷ [])))
