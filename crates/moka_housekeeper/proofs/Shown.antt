-- What lives is not hidden.
use Rattle.std.proofs.Common.{◌≡◌, ℕ, Bool, true, false, not, ◌||◌, List, ◌++◌, refl, sym}
use Rattle.std.proofs.lemmas.Bool.{true≢false}
use Rattle.std.proofs.lemmas.List.Elements.{filter_passes, recursion_from_All}
use Rattle.moka_rows.specs.declared.rows.Row.{Row}
use Rattle.moka_rows.specs.Rows.{is_dead, living_at}
use Rattle.moka_rows.proofs.Callers.{all-append}
use Rattle.moka_table.specs.Table.{AreShown}

module _ {K V : Type 0} (at : ℕ) where
  shown-living : (rows : List (ℕ × Row K V)) → AreShown (living_at at rows)
  shown-living rows = recursion_from_All (λ (p : ℕ × Row K V). p.1.info.is_hidden ≡ false) (living_at at rows) (λ k d within. shown _ _ (filter_passes (λ p. not (is_dead at p)) rows k d within))
    where
      shown : (h c : Bool) → not (h || c) ≡ true → h ≡ false
      shown true c e = absurd (true≢false (sym e))
      shown false c e = refl

  -- so once the dead of both orders have left, none is hidden
  pub shown-left : (admitted waiting : List (ℕ × Row K V)) → AreShown (living_at at admitted ++ living_at at waiting)
  shown-left admitted waiting = all-append (λ p. p.1.info.is_hidden ≡ false) (living_at at admitted) (living_at at waiting) (shown-living admitted) (shown-living waiting)
