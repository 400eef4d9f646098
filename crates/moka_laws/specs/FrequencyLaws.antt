-- The laws about frequency sources, and about the table of counters.
use Rattle.std.specs.Prelude.{◌≡◌, ℕ, ◌*◌, ◌<◌, List, [], ◌∷◌, ◌++◌, length, filter, min, nat_eq}
use Rattle.moka_policy.specs.Frequency.{Counts, after_notes, counter_count, counter_of, estimated, count_after}

module _ {F : Type 0} (opened : F) (noted : F → ℕ → F) where
  -- A source after some notes and one more is the one after those that took it.
  abbrev pub TakesOneMore : Type 0
  TakesOneMore =
      (notes : List ℕ) (hash : ℕ) → after_notes opened noted (notes ++ hash ∷ []) ≡ noted (after_notes opened noted notes) hash

  -- A source after two lists of notes is the one after the first that took the second.
  abbrev pub TakesInParts : Type 0
  TakesInParts =
      (notes later : List ℕ) → after_notes opened noted (notes ++ later) ≡ after_notes (after_notes opened noted notes) noted later

module _ (bits : ℕ) where
  -- Before the first halving, a counter has the number of the notes that use it, up to 15.
  abbrev pub CountsItsNotes : Type 0
  CountsItsNotes =
      (notes : List ℕ) (hash : ℕ) → length notes < 10 * counter_count bits
      → count_after bits hash notes ≡ min (length (filter (λ note. nat_eq (counter_of bits note) (counter_of bits hash)) notes)) 15

  -- Hashes that share their counter have the same estimate.
  abbrev pub SharedEstimatesAlike : Type 0
  SharedEstimatesAlike =
      (counts : Counts) (a b : ℕ) → counter_of bits a ≡ counter_of bits b → estimated bits counts a ≡ estimated bits counts b
