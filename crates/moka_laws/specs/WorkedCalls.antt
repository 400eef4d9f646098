-- Calls and events of the worked cases of calls in sequence, of invalidation, limits and lookups that are turned down.
use Rattle.std.specs.Prelude.{ℕ, ◌==◌, ◌||◌, zero, suc, Bool, Some, None, List, [], ◌∷◌}
use Rattle.moka_model.specs.Events.{Event, TurnedDown, Written, Invalidated, Hidden, Maintained, Taken}
use Rattle.moka_model.specs.Steps.{AcceptedStep}
use Rattle.moka_model.specs.Calls.{Call, Get, ContainsKey, Insert, Invalidate, Remove, InvalidateAll, InvalidateIf, RunPendingTasks}
use Rattle.moka_model.specs.Calls.{EntryCount, WeightedSize, TakeNotice}
use Rattle.moka_laws.specs.Laws.{and_then}
use Rattle.moka_laws.specs.Worked.{seconds}

-- At a capacity of 2: two keys are written and admitted, the first is hit, and a third is written and admitted.
abbrev pub session : List (Call ℕ ℕ ℕ)
session =
    Insert 1 10 0 ∷ Insert 2 20 1 ∷ RunPendingTasks 2 ∷ Get 1 3 ∷ Insert 3 30 4 ∷ ContainsKey 3 5 ∷ EntryCount
    ∷ RunPendingTasks 6 ∷ TakeNotice ∷ TakeNotice ∷ Get 2 7 ∷ Invalidate 1 8 ∷ WeightedSize ∷ TakeNotice ∷ []

-- The key 65 is written after 64 pending ones.
abbrev pub behind_64 : List (Call ℕ ℕ ℕ)
behind_64 = Insert 65 65 1 ∷ EntryCount ∷ Get 65 1 ∷ []

-- The keys from 1 to `n` are written, each in a step of its own.
abbrev pub steps_come : ℕ → List (AcceptedStep ℕ ℕ ℕ)
steps_come zero = []
steps_come (suc n) = and_then (Written (suc n) (suc n) 0 ∷ []) (steps_come n)

-- At a capacity of 2: two keys are resident, and two are pending.
abbrev pub two_and_two : List (Event ℕ ℕ)
two_and_two = Written 4 40 4 ∷ Written 3 30 3 ∷ Maintained None 2 ∷ Written 2 20 1 ∷ Written 1 10 0 ∷ []

-- A maintenance that evicts at most one,
abbrev pub one_leaves : List (Event ℕ ℕ)
one_leaves = Maintained (Some 1) 5 ∷ two_and_two

-- and another.
abbrev pub another_leaves : List (Event ℕ ℕ)
another_leaves = Maintained (Some 1) 6 ∷ one_leaves

-- Whether the value is this one.
abbrev pub has_value : ℕ → ℕ → ℕ → Bool
has_value value k v = v == value

-- Three keys are written, and the values 20 and 30 are invalidated.
abbrev pub two_hidden : List (Event ℕ ℕ)
two_hidden = Hidden (has_value 30) ∷ Hidden (has_value 20) ∷ Written 3 30 2 ∷ Written 2 20 1 ∷ Written 1 10 0 ∷ []

-- A key is written, everything is invalidated, and another key is written.
abbrev pub all_hidden : List (Call ℕ ℕ ℕ)
all_hidden =
    Insert 1 10 0 ∷ InvalidateAll ∷ Insert 2 20 0 ∷ Get 1 0 ∷ Get 2 0 ∷ EntryCount ∷ RunPendingTasks 0 ∷ TakeNotice ∷ TakeNotice
    ∷ EntryCount ∷ []

-- Whether the value is 7 or 9.
abbrev pub is_7_or_9 : ℕ → ℕ → Bool
is_7_or_9 k v = v == 7 || v == 9

-- Three keys are resident, two values are invalidated, one of these is written under another key, and maintenance
-- follows.
abbrev pub some_hidden : List (Call ℕ ℕ ℕ)
some_hidden =
    Insert 0 7 0 ∷ Insert 1 8 0 ∷ Insert 2 9 0 ∷ RunPendingTasks 0 ∷ InvalidateIf is_7_or_9 ∷ Insert 3 7 10 ∷ RunPendingTasks 10
    ∷ TakeNotice ∷ TakeNotice ∷ TakeNotice ∷ Get 0 10 ∷ Get 1 10 ∷ Get 2 10 ∷ Get 3 10 ∷ EntryCount ∷ []

-- One value is removed when its 10 s have passed, and another before that.
abbrev pub removals_of_both : List (Call ℕ ℕ ℕ)
removals_of_both =
    Insert 1 10 0 ∷ Insert 2 20 1 ∷ Remove 1 (seconds 10) ∷ TakeNotice ∷ Remove 2 (seconds 10) ∷ TakeNotice
    ∷ Remove 2 (seconds 10) ∷ EntryCount ∷ []

-- A value is looked up after 4 s, and turned down.
abbrev pub turned_down : List (Event ℕ ℕ)
turned_down = TurnedDown 1 (seconds 4) ∷ Written 1 7 0 ∷ []

-- A key is written, overwritten and removed, and one notice is taken.
abbrev pub one_taken : List (Event ℕ ℕ)
one_taken = Taken ∷ Invalidated 1 2 ∷ Written 1 11 1 ∷ Written 1 10 0 ∷ []
