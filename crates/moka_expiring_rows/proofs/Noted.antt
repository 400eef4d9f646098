-- What is noted of each row, and what a row without a deadline needs.
use Rattle.std.proofs.Common.{◌≡◌, ℕ, ◌≤◌, Bool, true, false, ◌||◌, cond, Option, Some, None, MatchOption, List, [], ◌∷◌, ◌++◌, refl, arith}
use Rattle.std.specs.List.{AllByRecursion}
use Rattle.std.specs.Option.{is_some}
use Rattle.moka_rows.specs.declared.rows.Row.{Row}
use Rattle.moka_rows.specs.Rows.{row_under, with_row, without_row}
use Rattle.moka_rows.proofs.Callers.{each-at, each-used, each-more}
use Rattle.moka_expiring_rows.specs.RowDeadlines.{CanStand, HasPlace, IsNoted}

-- if `a || b` is false, both are
pub neither : (a b : Bool) → (a || b) ≡ false → (a ≡ false) × (b ≡ false)
neither true b is = cc
neither false b is = (refl, is)

-- what is recorded of rows stays true if rows with deadlines are added, and with a higher top
pub noted-more : {K V : Type 0} (had has : Bool) (top top' : ℕ) (rows : List (ℕ × Row K V)) → (has ≡ false → had ≡ false) → top ≤ top' → AllByRecursion (IsNoted had top) rows → AllByRecursion (IsNoted has top') rows
noted-more {K} {V} had has top top' rows still higher all =
    each-more (IsNoted had top) (IsNoted has top') rows (λ p noted. (λ none. noted.0 (still none), omega (arith, noted.1, higher))) all

-- and after an access to a row, which may set a deadline
pub noted-used : {K V : Type 0} (had given : Bool) (top n : ℕ) (change : Row K V → Row K V) (admitted waiting admitted' waiting' : List (ℕ × Row K V)) → ((r : Row K V) → given ≡ false → (change r).info.deadline ≡ None)
    → AllByRecursion (IsNoted had top) (admitted ++ waiting)
    → MatchOption (row_under n admitted)
    ((admitted' ≡ admitted) × (waiting' ≡ with_row n change waiting))
    (λ r. (admitted' ≡ without_row n admitted ++ (n, change r) ∷ []) × (waiting' ≡ waiting))
    → AllByRecursion (IsNoted (had || given) top) (admitted' ++ waiting')
noted-used {K} {V} had given top n change admitted waiting admitted' waiting' undated noted after =
    each-used (IsNoted (had || given) top) n change admitted waiting admitted' waiting'
    (λ r found. (λ none. undated r (neither had given none).1, (each-at (IsNoted had top) n r (admitted ++ waiting) noted found).1))
    (noted-more had (had || given) top top (admitted ++ waiting) (λ none. (neither had given none).0) (omega arith) noted) after

-- an option for which `is_some` is false is `None`
pub none-there : (o : Option ℕ) → is_some o ≡ false → o ≡ None
none-there None is = refl
none-there (Some d) is = cc

-- a row without a deadline needs no place
pub stands-none : (n : ℕ) (o : Option ℕ) (known room : ℕ) (order : List (ℕ × ℕ)) → o ≡ None → CanStand n o known room order
stands-none n None known room order is = tt
stands-none n (Some d) known room order is = cc

pub placed-none : (n : ℕ) (o : Option ℕ) (known : ℕ) → o ≡ None → HasPlace n o known
placed-none n None known is = tt
placed-none n (Some d) known is = cc

-- a row without a deadline has none in the list, whether it is resident or not
pub none-of : (b : Bool) (o : Option ℕ) → o ≡ None → cond b o None ≡ None
none-of true o is = is
none-of false o is = refl
