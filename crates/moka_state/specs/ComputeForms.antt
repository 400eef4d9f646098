-- Computes with a closure: begin, closure and finish at one moment, or an abandoned turn.
use Rattle.std.specs.Prelude.{⊤, ◌≡◌, ℕ, Bool, Option, Some, None, List, Result, Ok, Err}
use Rattle.moka_policy.specs.declared.policy.Refused.{Refused}
use Rattle.moka_model.specs.declared.turns.Op.{Op}
use Rattle.moka_model.specs.declared.turns.Outcome.TheVariants as outcomes
use Rattle.moka_model.specs.declared.entry.Entry.{Entry}
use Rattle.moka_model.specs.declared.comp_result.CompResult.{CompResult}
use Rattle.moka_model.specs.CompResults.{of_computed}
use Rattle.moka_model.specs.Entries.{entry_of}
use Rattle.moka_model.specs.Lives.{Settings}
use Rattle.moka_model.specs.Steps.{AcceptedStep}
use Rattle.moka_model.specs.Turns.{Name}
use Rattle.moka_model.specs.Calls.{Call, Abandon, Done, Run, Inserted, ReplacedWith, after}
use Rattle.moka_model.specs.Calls as calls
use Rattle.moka_state.specs.Forms.{EndsTurn}
use Rattle.moka_state.specs.Given.{FailsAtOnce, Gives}

module _ {K V E : Type 0} where
  -- The result of a compute, as a reply of the specification.
  abbrev pub of_computing : Result (CompResult K V) Refused → Result (calls.Reply K V E) Refused
  of_computing (Ok computed) = Ok (of_computed computed)
  of_computing (Err cause) = Err cause

  -- The same if the closure may fail: then the turn is abandoned, and the reply is `Done`.
  abbrev pub of_trying : {X : Type 0} → Result (Result (CompResult K V) X) Refused → Result (calls.Reply K V E) Refused
  of_trying (Ok (Ok computed)) = Ok (of_computed computed)
  of_trying (Ok (Err error)) = Ok Done
  of_trying (Err cause) = Err cause

  -- An upsert returns the entry that its compute put, or the cause of the failure.
  abbrev pub IsUpserted : Result (calls.Reply K V E) Refused → Result (Entry K V) Refused → Type 0
  IsUpserted (Ok (Inserted put)) (Ok entry) = entry_of entry ≡ put
  IsUpserted (Ok (ReplacedWith put)) (Ok entry) = entry_of entry ≡ put
  IsUpserted (Err cause) (Err refused) = refused ≡ cause
  IsUpserted answer result = ⊥

-- What a closure returned, if it did not fail.
abbrev pub unless_failed : {A X : Type 0} → Result A X → Option A
unless_failed (Ok said) = Some said
unless_failed (Err error) = None

-- If the closure ran and failed, the call returns its error. It returns no other error of a closure.
abbrev pub IsErrorOf : {A B X : Type 0} → Option (Result A X) → Result (Result B X) Refused → Type 0
IsErrorOf (Some (Err error)) (Ok (Err own)) = own ≡ error
IsErrorOf (Some (Err error)) result = ⊥
IsErrorOf given (Ok (Err own)) = ⊥
IsErrorOf given result = ⊤

module _ {K V E : Type 0} (eq : K → K → Bool) (is_clone : V → V → Type 0) (is_infallible : V → Type 0) (settings : Settings K V) where
  -- The turn of a compute ends with the operation that the closure returned, or is abandoned if the closure failed.
  abbrev pub EndsCompute : List (AcceptedStep K V E) → Name K → Option (Op V) → ℕ → Result (calls.Reply K V E) Refused →
      (List (AcceptedStep K V E) → Type 0) → Type 0
  EndsCompute steps name (Some op) now answer Stands =
      EndsTurn eq is_clone is_infallible settings steps name (outcomes.Op op) now answer Stands
  EndsCompute steps name None now answer Stands = (answer ≡ Ok Done) × Stands (after eq settings (Abandon name) steps)

  -- A compute with a closure is its begin and, if that opens a turn, the end of the turn with what the closure
  -- returned. `shown` is the live entry that the closure got, if any. `given` is what it returned; none if it did not
  -- run. `Stands` holds of the history of the new state.
  abbrev pub IsComputeForm : List (AcceptedStep K V E) → Call K V E → ℕ → Option (calls.Entry K V) → Option (Option (Op V)) →
      Result (calls.Reply K V E) Refused → (List (AcceptedStep K V E) → Type 0) → Type 0
  IsComputeForm steps begin now shown None (Ok answer) Stands = ⊥
  IsComputeForm steps begin now shown None (Err cause) Stands =
      FailsAtOnce eq is_clone is_infallible settings steps begin cause
  IsComputeForm steps begin now shown (Some said) answer Stands =
      (name : Name K) × Gives eq is_clone is_infallible settings steps begin (Ok (Run name shown))
      × EndsCompute (after eq settings begin steps) name said now answer Stands
