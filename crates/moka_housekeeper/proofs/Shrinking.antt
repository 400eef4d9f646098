-- The leaving of what is over the capacity, row by row.
use Rattle.std.proofs.Common.{◌≡◌, ℕ, suc, ◌+◌, ◌<◌, true, false, Option, List, [], ◌∷◌, length, refl, sym, ap, ◌∙◌, arith}
use Rattle.std.proofs.lemmas.Bool.{true≢false, cond-false}
use Rattle.moka_model.specs.Maintenance.{fits, front, over}
use Rattle.moka_model.specs.MaintenanceLaws.{queues}
use Rattle.moka_model.proofs.Callers.{fits-none}
use Rattle.moka_rows.specs.declared.rows.Row.{Row}
use Rattle.moka_table.specs.Table.{weight_of}

module _ {K V : Type 0} (capacity : Option ℕ) (waiting : List (ℕ × Row K V)) where
  -- where all fit, none leaves
  pub over-none : (rows : List (ℕ × Row K V)) → fits weight_of capacity 0 rows ≡ true → over weight_of capacity rows waiting ≡ []
  over-none [] fit = refl
  over-none (p ∷ ps) fit = rw fit refl

  -- where not, there is a first, which leaves
  pub over-some : (p : ℕ × Row K V) (ps : List (ℕ × Row K V)) → fits weight_of capacity 0 (p ∷ ps) ≡ false
      → over weight_of capacity (p ∷ ps) waiting ≡ record { evicted = p ∷ []; after = queues ps waiting } ∷ over weight_of capacity ps waiting
  over-some p ps heavy = rw heavy refl

  pub some-over : (rows : List (ℕ × Row K V)) → fits weight_of capacity 0 rows ≡ false → (p : ℕ × Row K V) × (ps : List (ℕ × Row K V)) × (rows ≡ p ∷ ps)
  some-over [] heavy = absurd (true≢false (sym (fits-none (weight_of {K = K} {V = V}) capacity) ∙ heavy))
  some-over (p ∷ ps) heavy = (p, ps, refl)

  pub length-over : (rows : List (ℕ × Row K V)) → fits weight_of capacity 0 rows ≡ false → 0 < length rows
  length-over rows heavy = let some = some-over rows heavy in let same = ap length some.2 in omega (arith, same)

module _ {K V : Type 0} (capacity : Option ℕ) (more : ℕ) where
  -- where some more does not fit beside some rows, there is one of them if it fits alone,
  pub length-heavy : fits (weight_of {K = K} {V = V}) capacity more [] ≡ true → (rows : List (ℕ × Row K V)) → fits weight_of capacity more rows ≡ false → 0 < length rows
  length-heavy alone [] heavy = absurd (true≢false (sym alone ∙ heavy))
  length-heavy alone (p ∷ ps) heavy = omega arith

  -- and the first has to leave
  pub front-heavy : (rows : List (ℕ × Row K V)) (p : ℕ × Row K V) (ps : List (ℕ × Row K V)) → rows ≡ p ∷ ps → fits weight_of capacity more rows ≡ false
      → front weight_of capacity more rows ≡ suc (front weight_of capacity more ps)
  front-heavy rows p ps is heavy =
      let one_more : front weight_of capacity more rows ≡ front weight_of capacity more ps + 1 = ap (front weight_of capacity more) is
      ∙ cond-false (fits weight_of capacity more (p ∷ ps)) 0 (front weight_of capacity more ps + 1) (ap (fits weight_of capacity more) (sym is) ∙ heavy) in
      omega (arith, one_more)
