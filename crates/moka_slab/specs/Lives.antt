-- The lives of rows, which stand beside the rows.
use Rattle.std.specs.Prelude.{◌≡◌, ℕ, ◌<◌, List, Option, Some, IfSome, OnSome, option_map, slice_get}
use Rattle.slab.specs.Slab.{Slab, get}
use Rattle.moka_rows.specs.declared.rows.EntryInfo.{EntryInfo}
use Rattle.moka_rows.specs.declared.rows.OwnLife.{OwnLife}
use Rattle.moka_rows.specs.declared.rows.Row.{Row}
use Rattle.moka_slab.specs.declared.slab_row.Lives.{Lives}

-- These are the deadline and the own lifetime, as far as there are such.
abbrev pub AreLivesOf : Option ℕ → Option OwnLife → Lives → Type 0
AreLivesOf deadline own_life lives =
    IfSome deadline (λ d. lives.deadline ≡ d) × IfSome own_life (λ own. lives.own_life ≡ own)

-- The lives of metadata stand at a place, as far as it has such.
pub record HasLives (lives : List Lives) (place : ℕ) (info : EntryInfo) : Type 0 where
  pub deadline : OnSome info.deadline (option_map (λ l. l.deadline) (slice_get lives place) ≡ info.deadline)
  pub own_life : OnSome info.own_life (option_map (λ l. l.own_life) (slice_get lives place) ≡ info.own_life)

module _ {K V : Type 0} where
  -- The lives of each row stand at the row's key, and within so many places.
  abbrev pub AreLived : Slab (Row K V) → List Lives → ℕ → Type 0
  AreLived rows lives places = (key : ℕ) (row : Row K V) → get rows key ≡ Some row → (key < places) × HasLives lives key row.info
