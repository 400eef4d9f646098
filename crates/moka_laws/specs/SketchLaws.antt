-- The laws about the frequency sketch.
use Rattle.std.specs.Prelude.{◌≡◌, ◌≢◌, ℕ, ◌+◌, ◌*◌, ◌/◌, ◌%◌, ◌<◌, ◌≤◌, List, [], ◌∷◌, ◌++◌, length, filter, replicate, min, nat_eq}
use Rattle.moka_policy.specs.Frequency.{Counts, counter_count, halved}
use Rattle.moka_sketch.specs.Sketch.{place, least, estimated, estimate_after}

module _ (bits : ℕ) where
  -- Hashes that share all four counters have the same estimate.
  abbrev pub SharedEstimatesAlike : Type 0
  SharedEstimatesAlike =
      (counts : Counts) (a b : ℕ) → ((row : ℕ) → row < 4 → place bits row a ≡ place bits row b)
      → estimated bits counts a ≡ estimated bits counts b

  -- One more note raises the estimate of its hash by 1, up to 15, if it is not one that halves.
  abbrev pub NoteRaises : Type 0
  NoteRaises =
      (notes : List ℕ) (hash : ℕ) → (length notes + 1) % (10 * counter_count bits) ≢ 0
      → estimate_after bits (notes ++ hash ∷ []) hash ≡ min (estimate_after bits notes hash + 1) 15

  -- It lowers no estimate.
  abbrev pub NoteLowersNone : Type 0
  NoteLowersNone =
      (notes : List ℕ) (note hash : ℕ) → (length notes + 1) % (10 * counter_count bits) ≢ 0
      → estimate_after bits notes hash ≤ estimate_after bits (notes ++ note ∷ []) hash

  -- A note that halves is counted before.
  abbrev pub NoteIsHalved : Type 0
  NoteIsHalved =
      (notes : List ℕ) (hash : ℕ) → (length notes + 1) % (10 * counter_count bits) ≡ 0
      → estimate_after bits (notes ++ hash ∷ []) hash ≡ min (estimate_after bits notes hash + 1) 15 / 2

  -- Where the counters are halved, so are the estimates.
  abbrev pub HalvesEstimates : Type 0
  HalvesEstimates =
      (counts : Counts) (hash : ℕ) → length counts.counters ≡ 4 * counter_count bits
      → estimated bits (halved counts) hash ≡ estimated bits counts hash / 2

  -- An estimate is at least how often its hash was noted since the last halving, up to 15.
  abbrev pub IsNotTooLow : Type 0
  IsNotTooLow =
      (earlier since : List ℕ) (hash : ℕ) → length earlier % (10 * counter_count bits) ≡ 0 → length since < 10 * counter_count bits
      → min (length (filter (λ note. nat_eq note hash) since)) 15 ≤ estimate_after bits (earlier ++ since) hash

  -- How many of some notes use a hash's counter in this row, up to 15.
  abbrev pub uses_in : List ℕ → ℕ → ℕ → ℕ
  uses_in notes hash row = min (length (filter (λ note. nat_eq (place bits row note) (place bits row hash)) notes)) 15

  -- Before the first halving, an estimate is the least of how often its counters were used, up to 15.
  abbrev pub TakesTheLeast : Type 0
  TakesTheLeast =
      (notes : List ℕ) (hash : ℕ) → length notes < 10 * counter_count bits
      → estimate_after bits notes hash ≡ least (uses_in notes hash)

  -- It is exact if only one hash is noted.
  abbrev pub IsExactAlone : Type 0
  IsExactAlone =
      (hash count : ℕ) → count < 10 * counter_count bits → estimate_after bits (replicate count hash) hash ≡ min count 15
