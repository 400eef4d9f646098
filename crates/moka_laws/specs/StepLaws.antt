-- The laws about what each call records and draws, and when it may fail.
use Rattle.std.specs.Prelude.{◌≡◌, ◌⊎◌, ◌↔◌, ◌≢◌, ℕ, max, Bool, false, Option, Some, None, List, [], ◌++◌}
use Rattle.std.specs.List.{AllByRecursion}
use Rattle.moka_model.specs.Lives.{Settings}
use Rattle.moka_model.specs.Events.{recorded, latest}
use Rattle.moka_model.specs.Numbers.{next_number, greatest_number, stores_nothing}
use Rattle.moka_model.specs.Steps.{AcceptedStep, events_in}
use Rattle.moka_model.specs.Calls.{Call, Insert, OrInsert, Accepted, accepted, after, live_at, IsLegal, IfReplied, IsOutOfNumbers}
use Rattle.moka_model.specs.Calls.{ReplyMayFail, MayTakeMemory}
use Rattle.moka_laws.specs.Laws.{moment_of, IsWrite}

module _ {K V E : Type 0} (eq : K → K → Bool) (settings : Settings K V) (steps : List (AcceptedStep K V E)) where
  -- The empty history is legal.
  abbrev pub NoneIsLegal : Type 0
  NoneIsLegal = steps ≡ [] → IsLegal eq settings steps

  -- A call after a legal history leaves a legal one.
  abbrev pub StaysLegal : Type 0
  StaysLegal = (call : Call K V E) → IsLegal eq settings steps → IsLegal eq settings (after eq settings call steps)

  -- After an accepted call the latest moment is the greatest of the old one and the call's.
  abbrev pub RecordsItsMoment : Type 0
  RecordsItsMoment =
      (call : Call K V E) (it : Accepted K V E) → accepted eq settings steps call ≡ Some it
      → latest (it.step.events ++ events_in steps) ≡ max (latest (events_in steps)) (moment_of call)

  -- Each event of an accepted call records the call's moment, or none.
  abbrev pub RecordsNoOther : Type 0
  RecordsNoOther =
      (call : Call K V E) (it : Accepted K V E) → accepted eq settings steps call ≡ Some it
      → AllByRecursion (λ e. (recorded e ≡ moment_of call) ⊎ (recorded e ≡ 0)) it.step.events

  -- An insert runs out of numbers exactly if something is stored and the next number is the greatest.
  abbrev pub InsertRunsOut : Type 0
  InsertRunsOut =
      (k : K) (v : V) (at : ℕ) → IsOutOfNumbers eq settings steps (Insert k v at)
      ↔ ((stores_nothing settings.max_capacity ≡ false) × (next_number settings (events_in steps) ≡ greatest_number))

  -- An `or_insert` does exactly if, moreover, no value is live.
  abbrev pub OrInsertRunsOut : Type 0
  OrInsertRunsOut =
      (k : K) (v : V) (at : ℕ) → IsOutOfNumbers eq settings steps (OrInsert k v at)
      ↔ ((live_at eq settings k at (events_in steps) ≡ None) × (stores_nothing settings.max_capacity ≡ false)
      × (next_number settings (events_in steps) ≡ greatest_number))

  -- No call that neither writes nor begins does.
  abbrev pub WritesAloneRunOut : Type 0
  WritesAloneRunOut = (call : Call K V E) → IsOutOfNumbers eq settings steps call → IsWrite call

module _ {K V E : Type 0} (eq : K → K → Bool) (is_clone : V → V → Type 0) (is_infallible : V → Type 0) (settings : Settings K V)
    (steps : List (AcceptedStep K V E)) where
  -- An insert may run out of memory exactly if the capacity is not 0.
  abbrev pub InsertTakesMemory : Type 0
  InsertTakesMemory =
      (k : K) (v : V) (at : ℕ)
      → MayTakeMemory eq is_clone is_infallible settings steps (Insert k v at) ↔ (settings.max_capacity ≢ Some 0)

  -- A call that neither writes nor begins may exactly if its result needs a clone that can fail.
  abbrev pub OthersTakeMemory : Type 0
  OthersTakeMemory =
      (call : Call K V E) → ¬ (IsWrite call)
      → MayTakeMemory eq is_clone is_infallible settings steps call
      ↔ IfReplied (ReplyMayFail is_clone is_infallible) (accepted eq settings steps call)
