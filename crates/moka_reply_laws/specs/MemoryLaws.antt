-- Which calls may run out of memory, by name.
use Rattle.std.specs.Prelude.{⊤, ◌≡◌, ◌↔◌, ℕ, Bool, Some, None, List}
use Rattle.moka_model.specs.declared.turns.Op.TheVariants as ops
use Rattle.moka_model.specs.declared.turns.Outcome.{Outcome}
use Rattle.moka_model.specs.declared.turns.Outcome.TheVariants as outcomes
use Rattle.moka_model.specs.Lives.{Settings}
use Rattle.moka_model.specs.Turns.{Name}
use Rattle.moka_model.specs.Steps.{AcceptedStep}
use Rattle.moka_model.specs.Calls.{Call, Get, ContainsKey, Invalidate, Remove, InvalidateAll, InvalidateIf, RunPendingTasks}
use Rattle.moka_model.specs.Calls.{RunPendingTasksUpTo, EntryCount, WeightedSize, TakeNotice, Finish, Abandon, Collect, Leave}
use Rattle.moka_model.specs.Calls.{Entry, Reply, Found, Entered, GaveError, MayTakeMemory}
use Rattle.moka_laws.specs.Laws.{reply}

-- The call neither stores anything nor returns a clone.
abbrev pub IsFree : {K V E : Type 0} → Call K V E → Type 0
IsFree (ContainsKey k at) = ⊤
IsFree (Invalidate k at) = ⊤
IsFree InvalidateAll = ⊤
IsFree (InvalidateIf test) = ⊤
IsFree (RunPendingTasks at) = ⊤
IsFree (RunPendingTasksUpTo limit at) = ⊤
IsFree EntryCount = ⊤
IsFree WeightedSize = ⊤
IsFree TakeNotice = ⊤
IsFree (Abandon name) = ⊤
IsFree (Leave name) = ⊤
IsFree call = ⊥

-- The result has a value or an error.
abbrev pub HasValueOrError : {K V E : Type 0} → Reply K V E → Type 0
HasValueOrError (Entered e) = ⊤
HasValueOrError (GaveError e) = ⊤
HasValueOrError said = ⊥

module _ {K V E : Type 0} (eq : K → K → Bool) (is_clone : V → V → Type 0) (is_infallible : V → Type 0) (settings : Settings K V)
    (steps : List (AcceptedStep K V E)) where
  -- The call may fail with `OutOfMemory` after these steps.
  abbrev pub May : Call K V E → Type 0
  May call = MayTakeMemory eq is_clone is_infallible settings steps call

  -- The call returns this after these steps.
  abbrev pub Says : Call K V E → Reply K V E → Type 0
  Says call said = reply eq settings call steps ≡ Some said

  -- A call that neither stores anything nor returns a clone never runs out of memory.
  abbrev pub FreeTakesNone : Type 0
  FreeTakesNone = (call : Call K V E) → IsFree call → ¬ (May call)

  -- A `get` or a `remove` that finds nothing does not.
  abbrev pub MissTakesNone : Type 0
  MissTakesNone = (k : K) (at : ℕ) → Says (Get k at) (Found None) → (¬ (May (Get k at))) × (¬ (May (Remove k at)))

  -- One that finds a value may exactly if cloning that can fail.
  abbrev pub FoundMayTake : Type 0
  FoundMayTake =
      (k : K) (at : ℕ) (v : V) → Says (Get k at) (Found (Some v))
      → (May (Get k at) ↔ (¬ (is_infallible v))) × (May (Remove k at) ↔ (¬ (is_infallible v)))

  -- A finish with nothing does not, nor does a compute that does nothing.
  abbrev pub EndsWithoutCopy : Type 0
  EndsWithoutCopy =
      (name : Name K) (at : ℕ) → (¬ (May (Finish name outcomes.Nothing at))) × (¬ (May (Finish name (outcomes.Op ops.Nop) at)))

  -- A compute that removes, and finds nothing, does not.
  abbrev pub MissedRemovalTakesNone : Type 0
  MissedRemovalTakesNone =
      (name : Name K) (at : ℕ) → Says (Get name.key at) (Found None) → ¬ (May (Finish name (outcomes.Op ops.Remove) at))

  -- A rejected finish does not.
  abbrev pub RejectedTakesNone : Type 0
  RejectedTakesNone =
      (name : Name K) (outcome : Outcome V E) (at : ℕ) → reply eq settings (Finish name outcome at) steps ≡ None
      → ¬ (May (Finish name outcome at))

  -- A collect may only if it returns a value or an error.
  abbrev pub CollectTakesForItsReply : Type 0
  CollectTakesForItsReply = (name : Name K) → May (Collect name) → (said : Reply K V E) × Says (Collect name) said × HasValueOrError said

  -- It may not for a value if clones of no value can fail.
  abbrev pub SafeCollectTakesNone : Type 0
  SafeCollectTakesNone =
      (name : Name K) (e : Entry K V) → ((v : V) → is_infallible v) → Says (Collect name) (Entered e) → ¬ (May (Collect name))
