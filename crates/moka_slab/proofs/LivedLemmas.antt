-- The lives of rows, before and after each call.
use Rattle.std.proofs.Common.{◌≡◌, ◌≢◌, ℕ, ◌<◌, ◌≤◌, List, [], Some, None, slice_index_or, sym, ap, subst, ◌∙◌, arith, ⊎_elim}
use Rattle.std.specs.Prelude.{slice_get, OnSome, option_map}
use Rattle.std.proofs.lemmas.Bool.{cases_eq}
use Rattle.slab.specs.Slab.{Slab, get, with_value, Updates}
use Rattle.moka_rows.specs.declared.rows.Row.{Row}
use Rattle.moka_rows.specs.declared.rows.EntryInfo.{EntryInfo}
use Rattle.moka_slab.specs.declared.slab_row.Lives.{Lives}
use Rattle.moka_slab.specs.Lives.{HasLives, AreLived}
use Rattle.moka_slab.proofs.TiedLemmas.{write-updates}

module _ {K V : Type 0} where
  -- there are no rows
  pub lived-none : (rows : Slab (Row K V)) (lives : List Lives) (places : ℕ) → rows.slots ≡ [] → AreLived rows lives places
  lived-none rows lives places empty key row is =
      let none : get rows key ≡ None = ap (λ slots. slice_index_or slots key None) empty in
      let both : None ≡ Some row = sym none ∙ is in
      absurd cc

  -- a row is put or changed, and its lives are put beside it
  pub lived-put : (old new : Slab (Row K V)) (key : ℕ) (row : Row K V) (lives after : List Lives) (places room : ℕ) → Updates old new key (Some row) → AreLived old lives places → places ≤ room
      → key < room → HasLives after key row.info → ((k : ℕ) (info : EntryInfo) → k ≢ key → HasLives lives k info → HasLives after k info) → AreLived new after room
  lived-put old new key row lives after places room u lived more within own others k r is =
      ⊎_elim
      (λ e.
      let both : Some r ≡ Some row = sym is ∙ ap (get new) e ∙ u.changed in
      let same : r ≡ row = cc in
      (subst (λ j. j < room) (sym e) within, subst (λ x. HasLives after k x.info) (sym same) (subst (λ j. HasLives after j row.info) (sym e) own)))
      (λ ne.
      let before = lived k r (sym (u.others k ne) ∙ is) in
      let less = before.0 in
      (omega (arith, less, more), others k r.info ne before.1))
      (cases_eq k key)

  -- a row is changed, and its lives are not
  pub lived-changed : (old : Slab (Row K V)) (key : ℕ) (was row : Row K V) (lives : List Lives) (places : ℕ) → get old key ≡ Some was → AreLived old lives places
      → row.info.deadline ≡ was.info.deadline → row.info.own_life ≡ was.info.own_life → AreLived (with_value old key row) lives places
  lived-changed old key was row lives places is lived deadline own =
      let before = lived key was is in
      lived-put old (with_value old key row) key row lives lives places places (write-updates old key was row is) lived (omega arith) before.0
      (record {
        deadline = subst (λ d. OnSome d (option_map (λ l. l.deadline) (slice_get lives key) ≡ d)) (sym deadline) before.1.deadline;
        own_life = subst (λ o. OnSome o (option_map (λ l. l.own_life) (slice_get lives key) ≡ o)) (sym own) before.1.own_life;
      })
      (λ k info ne has. has)

  -- a row is removed
  pub lived-dropped : (old new : Slab (Row K V)) (key : ℕ) (lives : List Lives) (places : ℕ) → Updates old new key None → AreLived old lives places → AreLived new lives places
  lived-dropped old new key lives places u lived k r is =
      ⊎_elim (λ e. let both : None ≡ Some r = sym u.changed ∙ ap (get new) (sym e) ∙ is in absurd cc) (λ ne. lived k r (sym (u.others k ne) ∙ is)) (cases_eq k key)

  -- every row stays, and there are no fewer places
  pub lived-kept : (old new : Slab (Row K V)) (lives : List Lives) (places room : ℕ) → ((key : ℕ) → get new key ≡ get old key) → places ≤ room → AreLived old lives places → AreLived new lives room
  lived-kept old new lives places room same more lived key r is =
      let before = lived key r (sym (same key) ∙ is) in
      let less = before.0 in
      (omega (arith, less, more), before.1)
