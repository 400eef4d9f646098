-- How often hashes were noted, by a sketch: four rows of counters that age, of which the least counts.
use Rattle.std.specs.Prelude.{ℕ, ◌+◌, ◌*◌, ◌/◌, ◌%◌, ◌^◌, ◌≡◌, ◌<◌, List, [], ◌∷◌, length, fold, min, replicate, slice_set}
use Rattle.std.specs.Prelude.{slice_index_or, nat_eq, if◌then◌else◌}
use Rattle.moka_policy.specs.Frequency.{Counts, counter_count, after_notes, halved}

-- The index of a hash's counter in a row, among the counters of all rows. The hash's bits from 14 times the row on
-- choose it.
abbrev pub place : ℕ → ℕ → ℕ → ℕ
place bits row hash = row * counter_count bits + hash / 2 ^ (14 * row) % counter_count bits

-- The least of four numbers, one for each row.
abbrev pub least : (ℕ → ℕ) → ℕ
least of_row = min (min (of_row 0) (of_row 1)) (min (of_row 2) (of_row 3))

-- The sketch that has noted nothing.
abbrev pub none_noted : ℕ → Counts
none_noted bits = record { counters = replicate (4 * counter_count bits) 0; notes = 0 }

-- The count of a hash's counter in a row.
abbrev pub count_in : ℕ → List ℕ → ℕ → ℕ → ℕ
count_in bits counters hash row = slice_index_or counters (place bits row hash) 0

-- The estimate for a hash: the least of its four counters.
abbrev pub estimated : ℕ → Counts → ℕ → ℕ
estimated bits counts hash = least (count_in bits counts.counters hash)

-- The counters with 1 more at an index, up to 15.
abbrev pub counted_at : List ℕ → ℕ → List ℕ
counted_at counters place = slice_set counters place (min (slice_index_or counters place 0 + 1) 15)

-- The counters with 1 more at each of a hash's four counters, up to 15.
abbrev pub counted_in_each_row : ℕ → List ℕ → ℕ → List ℕ
counted_in_each_row bits counters hash =
    fold counted_at counters (place bits 0 hash ∷ place bits 1 hash ∷ place bits 2 hash ∷ place bits 3 hash ∷ [])

-- The sketch with 1 more at each of a hash's four counters, before any halving.
abbrev pub counted : ℕ → Counts → ℕ → Counts
counted bits counts hash = record { counters = counted_in_each_row bits counts.counters hash; notes = counts.notes + 1 }

-- The sketch after one more note; every ten notes per counter of a row halve all counters.
abbrev pub noted : ℕ → Counts → ℕ → Counts
noted bits counts hash =
    let after = counted bits counts hash in
    if nat_eq after.notes (10 * counter_count bits) then halved after else after

-- The invariant of a sketch: its length, and fewer notes than a halving takes.
pub record IsSketch (bits : ℕ) (counts : Counts) : Type 0 where
  pub length_is : length counts.counters ≡ 4 * counter_count bits
  pub notes_below : counts.notes < 10 * counter_count bits

-- The estimate for a hash after these notes, in order.
abbrev pub estimate_after : ℕ → List ℕ → ℕ → ℕ
estimate_after bits notes hash = estimated bits (after_notes (none_noted bits) (noted bits) notes) hash

-- The count after a note: 1 more, up to 15, if the note uses this hash's counter in a row.
abbrev pub count_with : ℕ → ℕ → ℕ → ℕ → ℕ → ℕ
count_with bits hash row note count = if nat_eq (place bits row note) (place bits row hash) then min (count + 1) 15 else count

-- The count that a hash's counter in a row has after these notes, the newest first. Each note that uses it adds 1, up
-- to 15. Every ten notes per counter of a row halve it.
abbrev pub count_after : ℕ → ℕ → List ℕ → ℕ → ℕ
count_after bits hash [] row = 0
count_after bits hash (newest ∷ earlier) row =
    let count = count_with bits hash row newest (count_after bits hash earlier row) in
    if nat_eq (length (newest ∷ earlier) % (10 * counter_count bits)) 0 then count / 2 else count
