-- What a count is.
use Rattle.std.specs.Prelude.{◌≡◌, ℕ, ◌+◌, ◌≤◌, Bool, true, Some, List, length, sum_by}
use Rattle.moka_model.specs.Lives.{Settings, Write}
use Rattle.moka_model.specs.Maintenance.{Queues}
use Rattle.moka_model.specs.Orders.{orders}
use Rattle.moka_model.specs.Removals.{removals}
use Rattle.moka_model.specs.Conserved.{count_written}
use Rattle.moka_model.specs.Steps.{AcceptedStep, events_in}
use Rattle.moka_model.specs.Calls.{Call, EntryCount, WeightedSize, Counted}
use Rattle.moka_laws.specs.Laws.{reply}

-- The weights of some entries, added up.
abbrev pub weight_of_all : {K V : Type 0} → List (Write K V) → ℕ
weight_of_all ws = sum_by (λ w. w.policy_weight) ws

module _ {K V E : Type 0} (eq : K → K → Bool) (settings : Settings K V) (steps : List (AcceptedStep K V E)) where
  -- The call returns this number. If it is greater than the greatest `u64`, the call returns that.
  abbrev pub Counts : Call K V E → ℕ → Type 0
  Counts call n =
      (n ≤ 18446744073709551615 → reply eq settings call steps ≡ Some (Counted n))
      × (18446744073709551615 ≤ n → reply eq settings call steps ≡ Some (Counted 18446744073709551615))

  -- The stored entries, in both orders.
  abbrev pub stored : Queues (Write K V)
  stored = orders eq settings (events_in steps)

  -- An `entry_count` counts the resident entries and the pending ones.
  abbrev pub CountsAll : Type 0
  CountsAll = Counts EntryCount (length stored.admitted + length stored.waiting)

  -- They are as many as there were writes, without as many as there were removals.
  abbrev pub CountsUnremoved : Type 0
  CountsUnremoved =
      (n : ℕ) → count_written (λ k v. true) (events_in steps) ≡ n + length (removals eq settings (events_in steps)) → Counts EntryCount n

  -- A `weighted_size` adds up the weights of the resident entries and of the pending ones.
  abbrev pub WeighsAll : Type 0
  WeighsAll = Counts WeightedSize (weight_of_all stored.admitted + weight_of_all stored.waiting)
