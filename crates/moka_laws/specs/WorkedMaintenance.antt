-- Queues of the worked cases of a maintenance. Keys are numbers.
use Rattle.std.specs.Prelude.{ℕ, ◌==◌, Bool, true, false, if◌then◌else◌, nat_lt, Option, Some, None, List, [], ◌∷◌}
use Rattle.moka_model.specs.Maintenance.{Queues, total}
use Rattle.moka_model.specs.MaintenanceLaws.{queues, evicted_within, after_within}

-- Every key weighs 1.
abbrev pub one : ℕ → ℕ
one key = 1

-- Every key is live.
abbrev pub all_live : ℕ → Bool
all_live key = true

-- All but the keys 2 and 5 are live.
abbrev pub two_and_five_dead : ℕ → Bool
two_and_five_dead key = if key == 2 then false else (if key == 5 then false else true)

-- Every pending key wins: LRU.
abbrev pub least_recently_used : ℕ → List ℕ → Bool
least_recently_used key victims = true

-- A pending key wins if its count is greater than the sum of its victims' counts.
abbrev pub by_count : (ℕ → ℕ) → ℕ → List ℕ → Bool
by_count count key victims = nat_lt (total count victims) (count key)

-- One number for each of the keys 1, 2, 3 and 4.
abbrev pub of_four : ℕ → ℕ → ℕ → ℕ → ℕ → ℕ
of_four a b c d key = if key == 1 then a else (if key == 2 then b else (if key == 3 then c else d))

-- Twelve keys are pending, and none is resident.
abbrev pub twelve_wait : Queues ℕ
twelve_wait = queues [] (1 ∷ 2 ∷ 3 ∷ 4 ∷ 5 ∷ 6 ∷ 7 ∷ 8 ∷ 9 ∷ 10 ∷ 11 ∷ 12 ∷ [])

-- The keys 3, 1 and 2 are resident, the least recently used first, and 4 is pending.
abbrev pub four_waits : Queues ℕ
four_waits = queues (3 ∷ 1 ∷ 2 ∷ []) (4 ∷ [])

-- The keys 1 and 2 are resident, and 3 and 4 are pending.
abbrev pub two_wait : Queues ℕ
two_wait = queues (1 ∷ 2 ∷ []) (3 ∷ 4 ∷ [])

-- The keys 1, 2 and 3 are resident, and 4, 5 and 6 are pending.
abbrev pub three_wait : Queues ℕ
three_wait = queues (1 ∷ 2 ∷ 3 ∷ []) (4 ∷ 5 ∷ 6 ∷ [])

module _ (weight : ℕ → ℕ) (capacity : ℕ) (wins : ℕ → List ℕ → Bool) where
  -- What a full maintenance at a capacity evicts, if every key is live.
  abbrev pub evicts : Queues ℕ → List ℕ
  evicts q = evicted_within weight (Some capacity) all_live wins None q

  -- The queues that it leaves.
  abbrev pub leaves : Queues ℕ → Queues ℕ
  leaves q = after_within weight (Some capacity) all_live wins None q

module _ (capacity : ℕ) (limit : Option ℕ) where
  -- What a maintenance within a limit evicts of the six keys, of which 2 and 5 are dead, under LRU.
  abbrev pub evicted_of_six : List ℕ
  evicted_of_six = evicted_within one (Some capacity) two_and_five_dead least_recently_used limit three_wait

  -- The queues that it leaves.
  abbrev pub left_of_six : Queues ℕ
  left_of_six = after_within one (Some capacity) two_and_five_dead least_recently_used limit three_wait
