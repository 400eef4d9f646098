-- What bounds the steps of a maintenance.
use Rattle.std.proofs.Common.{◌≡◌, ℕ, suc, ◌+◌, ◌*◌, ◌≤◌, Bool, not, true, false, cond, Option, List, [], ◌∷◌, length, drop, refl, arith, length-append}
use Rattle.std.proofs.Math.Nat.{mul-le-mul_right}
use Rattle.std.proofs.lemmas.List.{length-drop}
use Rattle.moka_model.specs.Maintenance.{fits, front, judge}
use Rattle.moka_model.proofs.Callers.{front-le, front-fits, judge_both}
use Rattle.moka_rows.specs.declared.rows.Row.{Row}
use Rattle.moka_rows.specs.Rows.{is_dead, living_at}
use Rattle.moka_table.specs.Table.{Contents, entries, weight_of}
use Rattle.moka_housekeeper.specs.Maintain.{row_wins}
use Rattle.moka_housekeeper.specs.Visits.{visits_for, visits_judging, visits_sweeping, visits_of}

module _ {K V : Type 0} (is_lru : Bool) (frequency_of : ℕ → ℕ) (capacity : Option ℕ) where
  pub visits-none : (at : ℕ) (table : Contents K V) → table.waiting ≡ [] → table.may_hide ≡ false → fits weight_of capacity 0 (living_at at table.admitted) ≡ true
      → visits_of is_lru frequency_of capacity at table ≡ 0
  visits-none at table none shown fit = rw (none, shown, front-fits weight_of capacity 0 (living_at at table.admitted) fit) refl

  -- a row that is judged takes no more than twice as many as are admitted,
  visits_for-le : (admitted : List (ℕ × Row K V)) (p : ℕ × Row K V) → visits_for is_lru capacity admitted p ≤ 2 * length admitted
  visits_for-le admitted p = by_cases (fits (weight_of {K = K} {V = V}) capacity (weight_of p) []) is_lru
    where
      by_cases : (alone lru : Bool) → cond alone (front weight_of capacity (weight_of p) admitted + cond lru 0 (front weight_of capacity (weight_of p) admitted)) 0 ≤ 2 * length admitted
      by_cases true true = let le = front-le weight_of capacity (weight_of p) admitted in omega arith
      by_cases true false = let le = front-le weight_of capacity (weight_of p) admitted in omega arith
      by_cases false lru = omega arith

  -- and at most one more is admitted then
  judged-le : (admitted : List (ℕ × Row K V)) (p : ℕ × Row K V) (ps : List (ℕ × Row K V))
      → length (judge weight_of capacity (row_wins is_lru frequency_of) admitted p ps).after.admitted ≤ length admitted + 1
  judged-le admitted p ps =
      let victims : ℕ = front weight_of capacity (weight_of p) admitted in
      let less = length-drop victims admitted in
      let added = length-append (drop victims admitted) (p ∷ []) in
      judge_both weight_of capacity (row_wins is_lru frequency_of) admitted p ps (λ part. length part.after.admitted ≤ length admitted + 1) (λ _. omega (arith, less, added)) (omega arith)

  judging-le : (most : ℕ) (admitted waiting : List (ℕ × Row K V)) → length admitted + length waiting ≤ most
      → visits_judging is_lru frequency_of capacity admitted waiting ≤ length waiting * (2 * most)
  judging-le most admitted [] few = omega arith
  judging-le most admitted (p ∷ ps) few =
      let after : List (ℕ × Row K V) = (judge weight_of capacity (row_wins is_lru frequency_of) admitted p ps).after.admitted in
      let rest = judging-le most after ps (let one = judged-le admitted p ps in omega arith) in
      let first = visits_for-le admitted p in
      omega (arith, rest, first, few)

  living-le : (at : ℕ) (rows : List (ℕ × Row K V)) → length (living_at at rows) ≤ length rows
  living-le at [] = omega arith
  living-le at (p ∷ ps) = by_life (is_dead at p) (living-le at ps)
    where
      by_life : (b : Bool) → length (living_at at ps) ≤ length ps → length (cond (not b) (p ∷ living_at at ps) (living_at at ps)) ≤ suc (length ps)
      by_life true more = omega (arith, more)
      by_life false more = omega (arith, more)

  pub visits-few : (at : ℕ) (table : Contents K V) → visits_of is_lru frequency_of capacity at table
      ≤ visits_sweeping table + length table.waiting + front weight_of capacity 0 (living_at at table.admitted) + length table.waiting * (2 * length (entries table))
  visits-few at table =
      let admitted : List (ℕ × Row K V) = living_at at table.admitted in
      let waiting : List (ℕ × Row K V) = living_at at table.waiting in
      let over : ℕ = front weight_of capacity 0 admitted in
      let less = length-drop over admitted in
      let all = length-append table.admitted table.waiting in
      let judging = judging-le (length (entries table)) (drop over admitted) waiting (omega (arith, less, all, living-le at table.admitted, living-le at table.waiting)) in
      let fewer : length waiting * (2 * length (entries table)) ≤ length table.waiting * (2 * length (entries table)) = mul-le-mul_right (2 * length (entries table)) (living-le at table.waiting) in
      omega (arith, judging, fewer)
