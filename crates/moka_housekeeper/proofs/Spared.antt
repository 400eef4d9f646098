-- A sweep of pending rows of which none can be dead.
use Rattle.std.proofs.Common.{◌≡◌, ℕ, false, ◌||◌, None, List, [], ◌∷◌, ◌++◌, refl, ap, ◌∙◌}
use Rattle.moka_model.specs.Lives.{has_come}
use Rattle.moka_rows.specs.declared.rows.Row.{Row}
use Rattle.moka_rows.specs.Rows.{is_dead, AreUndated}
use Rattle.moka_table.specs.Table.{AreShown}
use Rattle.moka_housekeeper.proofs.Sweeping.{waiting_parts}

module _ {K V : Type 0} (at : ℕ) where
  alive : (p : ℕ × Row K V) → p.1.info.is_hidden ≡ false → p.1.info.deadline ≡ None → is_dead at p ≡ false
  alive p shown undated = ap (λ h. h || has_come p.1.info.deadline at) shown ∙ ap (λ d. has_come d at) undated

  -- it has no part
  pub none-waiting : (admitted kept rest : List (ℕ × Row K V)) → AreShown rest → AreUndated rest → waiting_parts at admitted kept rest ≡ []
  none-waiting admitted kept [] shown undated = refl
  none-waiting admitted kept (p ∷ ps) shown undated =
      rw (alive p shown.0 undated.0) (none-waiting admitted (kept ++ p ∷ []) ps shown.1 undated.1)
