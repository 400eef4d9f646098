-- Calls of the worked cases of replies.
use Rattle.std.specs.Prelude.{ℕ, List, [], ◌∷◌}
use Rattle.moka_model.specs.Calls.{Call, Get, Insert, Invalidate, Remove, RunPendingTasks, EntryCount, WeightedSize, TakeNotice}
use Rattle.moka_laws.specs.Worked.{seconds}

-- A value is written at 0, and another at 10 s, so the latest moment is 10 s. Then both are removed as of 5 s.
abbrev pub removed_early : List (Call ℕ ℕ ℕ)
removed_early =
    Insert 1 10 0 ∷ Insert 2 20 (seconds 10) ∷ Remove 1 (seconds 5) ∷ TakeNotice ∷ Remove 2 (seconds 5) ∷ []

-- Or both are looked up as of 5 s.
abbrev pub got_early : List (Call ℕ ℕ ℕ)
got_early = Insert 1 10 0 ∷ Insert 2 20 (seconds 10) ∷ Get 1 (seconds 5) ∷ Get 2 (seconds 5) ∷ TakeNotice ∷ []

-- The value 10 is admitted, the value 20 is pending, and the first is invalidated.
abbrev pub one_waits : List (Call ℕ ℕ ℕ)
one_waits =
    Insert 1 10 0 ∷ RunPendingTasks 1 ∷ EntryCount ∷ WeightedSize ∷ Insert 2 20 2 ∷ EntryCount ∷ WeightedSize
    ∷ Invalidate 1 3 ∷ EntryCount ∷ WeightedSize ∷ []

-- Values that weigh 2 ^ 32 and 1.
abbrev pub four_gigabytes : List (Call ℕ ℕ ℕ)
four_gigabytes = Insert 1 4294967296 0 ∷ Insert 2 1 0 ∷ WeightedSize ∷ []

-- A value that weighs as much as the greatest `u64`, and another.
abbrev pub too_heavy : List (Call ℕ ℕ ℕ)
too_heavy = Insert 1 18446744073709551615 0 ∷ WeightedSize ∷ Insert 2 1 0 ∷ WeightedSize ∷ []
