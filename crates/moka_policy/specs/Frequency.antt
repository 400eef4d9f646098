-- How often hashes were noted: by a frequency source of any kind, and by counters that age.
use Rattle.std.specs.Prelude.{ℕ, ◌+◌, ◌*◌, ◌/◌, ◌%◌, ◌^◌, ◌≡◌, ◌<◌, ◌≤◌, List, [], ◌∷◌, length, map, fold, min, replicate, slice_set}
use Rattle.std.specs.Prelude.{slice_index_or, nat_eq, All, if◌then◌else◌}

-- The frequency source after these notes, in order.
abbrev pub after_notes : {F : Type 0} → F → (F → ℕ → F) → List ℕ → F
after_notes opened noted notes = fold noted opened notes

-- The counters, and the number of notes since they were last halved.
pub record Counts : Type 0 where
  pub counters : List ℕ
  pub notes : ℕ

-- The number of counters: at most 2^20.
abbrev pub counter_count : ℕ → ℕ
counter_count bits = 2 ^ min bits 20

-- The index of the counter that a hash uses: the hash's lowest bits.
abbrev pub counter_of : ℕ → ℕ → ℕ
counter_of bits hash = hash % counter_count bits

-- The table that has noted nothing.
abbrev pub none_noted : ℕ → Counts
none_noted bits = record { counters = replicate (counter_count bits) 0; notes = 0 }

-- The estimate for a hash: the count of its counter.
abbrev pub estimated : ℕ → Counts → ℕ → ℕ
estimated bits counts hash = slice_index_or counts.counters (counter_of bits hash) 0

-- The table with 1 more at a hash's counter, up to 15, before any halving.
abbrev pub counted : ℕ → Counts → ℕ → Counts
counted bits counts hash = record {
  counters = slice_set counts.counters (counter_of bits hash) (min (estimated bits counts hash + 1) 15);
  notes = counts.notes + 1;
}

-- The table with each counter halved, rounded down.
abbrev pub halved : Counts → Counts
halved counts = record { counters = map (λ count. count / 2) counts.counters; notes = 0 }

-- The table after one more note; every ten notes per counter halve all counters.
abbrev pub noted : ℕ → Counts → ℕ → Counts
noted bits counts hash =
    let after = counted bits counts hash in
    if nat_eq after.notes (10 * counter_count bits) then halved after else after

-- The invariant of a table: its length, fewer notes than a halving takes, and counts of at most 15.
pub record IsTable (bits : ℕ) (counts : Counts) : Type 0 where
  pub length_is : length counts.counters ≡ counter_count bits
  pub notes_below : counts.notes < 10 * counter_count bits
  pub at_most_15 : All (λ count. count ≤ 15) counts.counters

-- The estimate for a hash after these notes, in order.
abbrev pub estimate_after : ℕ → List ℕ → ℕ → ℕ
estimate_after bits notes hash = estimated bits (after_notes (none_noted bits) (noted bits) notes) hash

-- The count after a note: 1 more, up to 15, if the note uses this hash's counter.
abbrev pub count_with : ℕ → ℕ → ℕ → ℕ → ℕ
count_with bits hash note count = if nat_eq (counter_of bits note) (counter_of bits hash) then min (count + 1) 15 else count

-- The count that a hash's counter has after these notes, the newest first. Each note that uses it adds 1, up to 15.
-- Every ten notes per counter halve it.
abbrev pub count_after : ℕ → ℕ → List ℕ → ℕ
count_after bits hash [] = 0
count_after bits hash (newest ∷ earlier) =
    let count = count_with bits hash newest (count_after bits hash earlier) in
    if nat_eq (length (newest ∷ earlier) % (10 * counter_count bits)) 0 then count / 2 else count
