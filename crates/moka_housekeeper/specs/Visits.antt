-- The bound on the steps from a row to the next one that a maintenance takes.
use Rattle.std.specs.Prelude.{ℕ, ◌+◌, Bool, if◌then◌else◌, Option, List, [], ◌∷◌, length, drop}
use Rattle.moka_model.specs.Maintenance.{fits, front, judge}
use Rattle.moka_rows.specs.declared.rows.Row.{Row}
use Rattle.moka_rows.specs.Rows.{living_at}
use Rattle.moka_table.specs.Table.{Contents, weight_of}
use Rattle.moka_housekeeper.specs.Maintain.{row_wins}

module _ {K V : Type 0} where
  -- The steps for judging a pending row. They go over its victims for their weights, and again for their frequencies
  -- unless the policy is LRU. A row that is heavier than the capacity takes none.
  abbrev pub visits_for : Bool → Option ℕ → List (ℕ × Row K V) → ℕ × Row K V → ℕ
  visits_for is_lru capacity admitted p =
      let victims = front weight_of capacity (weight_of p) admitted in
      if fits (weight_of {K = K} {V = V}) capacity (weight_of p) [] then victims + (if is_lru then 0 else victims) else 0

  -- The steps for judging the first of these rows.
  abbrev pub visits_first : Bool → Option ℕ → List (ℕ × Row K V) → List (ℕ × Row K V) → ℕ
  visits_first is_lru capacity admitted [] = 0
  visits_first is_lru capacity admitted (p ∷ ps) = visits_for is_lru capacity admitted p

  -- The steps for judging all of these rows, in order.
  abbrev pub visits_judging : Bool → (ℕ → ℕ) → Option ℕ → List (ℕ × Row K V) → List (ℕ × Row K V) → ℕ
  visits_judging is_lru frequency_of capacity admitted [] = 0
  visits_judging is_lru frequency_of capacity admitted (p ∷ ps) = visits_for is_lru capacity admitted p
      + visits_judging is_lru frequency_of capacity
      (judge weight_of capacity (row_wins is_lru frequency_of) admitted p ps).after.admitted ps

  -- The steps for removing the dead resident rows: over all of them if a row may be invalidated. Otherwise none is
  -- counted, since the store finds the expired ones.
  abbrev pub visits_sweeping : Contents K V → ℕ
  visits_sweeping c = if c.may_hide then length c.admitted else 0

  -- All steps: over the resident rows if one may be invalidated, over the pending rows, and over the rows that are
  -- evicted for the capacity. To these come the steps for judging the pending rows that live.
  abbrev pub visits_of : Bool → (ℕ → ℕ) → Option ℕ → ℕ → Contents K V → ℕ
  visits_of is_lru frequency_of capacity at c =
      let admitted = living_at at c.admitted in
      let over = front weight_of capacity 0 admitted in
      visits_sweeping c + (length c.waiting
      + (over + visits_judging is_lru frequency_of capacity (drop over admitted) (living_at at c.waiting)))
