-- What a row's leaving does to a table, and what the leaving of the least recently used rows does.
use Rattle.std.proofs.Common.{◌≡◌, ℕ, suc, ◌≤◌, Some, None, [], ◌∷◌, ◌++◌, length, take, drop, sym, ap, ◌∙◌, arith, append_assoc}
use Rattle.std.specs.Option.{IfSome}
use Rattle.moka_model.specs.declared.notification.RemovalCause.{RemovalCause}
use Rattle.moka_model.specs.declared.notification.RemovalCause.TheVariants.{Size}
use Rattle.moka_rows.specs.declared.rows.Row.{Row}
use Rattle.moka_rows.specs.Rows.{row_under, without_row}
use Rattle.moka_table.specs.Table.{Contents, entries, TakesRow, EvictsOne}
use Rattle.moka_housekeeper.specs.Maintain.{notice_for, notices_for}
use Rattle.moka_rows.proofs.Callers.{row_under-append_left, row_under-append_right}

module _ {K V : Type 0} (n : ℕ) (row : Row K V) (cause : RemovalCause) (old new : Contents K V) (takes : TakesRow n old new)
    (noticed : IfSome (row_under n (entries old)) (λ r. new.notices ≡ old.notices ++ notice_for cause (n, r) ∷ [])) where
  -- what a leaving of a row does: an admitted one,
  pub left-admitted : row_under n old.admitted ≡ Some row → (new.admitted ≡ without_row n old.admitted) × (new.waiting ≡ old.waiting) × (new.notices ≡ old.notices ++ notice_for cause (n, row) ∷ [])
  left-admitted there =
      let taken = rw there at takes in
      (taken.0, taken.1, rw (row_under-append_left n old.admitted old.waiting row there) at noticed)

  -- and one that waits
  pub left-waiting : row_under n old.admitted ≡ None → row_under n old.waiting ≡ Some row → (new.admitted ≡ old.admitted) × (new.waiting ≡ without_row n old.waiting) × (new.notices ≡ old.notices ++ notice_for cause (n, row) ∷ [])
  left-waiting absent there =
      let taken = rw absent at takes in
      (taken.0, taken.1, rw (row_under-append_right n old.admitted old.waiting absent ∙ there) at noticed)

module _ {K V : Type 0} where
  -- The first admitted rows on their way: so many are left to leave, and what stays and is noticed of those admitted now
  -- is what it was of those at first.
  pub record EvictsFirst (count : ℕ) (first table : Contents K V) (left : ℕ) : Type 0 where
    pub enough : left ≤ length table.admitted
    pub admitted : drop left table.admitted ≡ drop count first.admitted
    pub waiting : table.waiting ≡ first.waiting
    pub notices : table.notices ++ notices_for Size (take left table.admitted) ≡ first.notices ++ notices_for Size (take count first.admitted)

  -- it goes on where the first row leaves
  pub evicts-on : (count : ℕ) (first table : Contents K V) (left : ℕ) → EvictsFirst count first table (suc left) → (p : ℕ × Row K V) (new : Contents K V) → EvictsOne Size p table new → EvictsFirst count first new left
  evicts-on count first table left on p new gone =
      let enough : suc left ≤ suc (length new.admitted) = rw gone.admitted at on.enough in
      record {
        enough = omega arith;
        admitted = ap (drop (suc left)) (sym gone.admitted) ∙ on.admitted;
        waiting = gone.waiting ∙ on.waiting;
        notices = ap (λ l. l ++ notices_for Size (take left new.admitted)) gone.notices
            ∙ append_assoc table.notices (notice_for Size p ∷ []) (notices_for Size (take left new.admitted))
            ∙ ap (λ l. table.notices ++ notices_for Size (take (suc left) l)) (sym gone.admitted)
            ∙ on.notices;
      }
