-- Loaders: begin, closure and finish at one moment.
use Rattle.std.specs.Prelude.{⊤, ◌≡◌, ℕ, Bool, Option, Some, None, List, Result, Ok, Err}
use Rattle.std.specs.Arc.{arc_value}
use Rattle.std.specs.declared.sync.Arc.{Arc}
use Rattle.std.specs.declared.alloc.Global.{Global}
use Rattle.moka_policy.specs.declared.policy.Refused.{Refused}
use Rattle.moka_model.specs.declared.turns.Outcome.{Outcome}
use Rattle.moka_model.specs.declared.turns.Outcome.TheVariants as outcomes
use Rattle.moka_model.specs.Lives.{Settings}
use Rattle.moka_model.specs.Steps.{AcceptedStep}
use Rattle.moka_model.specs.Turns.{Name}
use Rattle.moka_model.specs.Calls.{Call, Finish, Abandon, Entered, Run, GaveNothing, GaveError, after}
use Rattle.moka_model.specs.Calls as calls
use Rattle.moka_state.specs.declared.answers.Answer.{Answer}
use Rattle.moka_state.specs.Given.{FailsAtOnce, Gives, of_answer}

module _ {K V E : Type 0} where
  -- The result of the end of a turn, as a reply of the specification.
  abbrev pub of_end : Result (Answer K V E) Refused → Result (calls.Reply K V E) Refused
  of_end (Ok answer) = Ok (of_answer answer)
  of_end (Err cause) = Err cause

  -- The call that ends a loader's turn: its finish or, if that fails, an abandon.
  abbrev pub end_call : Name K → Outcome V E → ℕ → Result (calls.Reply K V E) Refused → Call K V E
  end_call name outcome now (Ok reply) = Finish name outcome now
  end_call name outcome now (Err cause) = Abandon name

  -- The begin found the live value.
  abbrev pub IsEntered : calls.Reply K V E → Type 0
  IsEntered (Entered entry) = ⊤
  IsEntered reply = ⊥

  -- A loader returns the value of the entry, or the cause of the failure.
  abbrev pub IsValue : Result (calls.Reply K V E) Refused → Result V Refused → Type 0
  IsValue (Ok (Entered entry)) (Ok value) = value ≡ entry.value
  IsValue (Err cause) (Err refused) = refused ≡ cause
  IsValue reply result = ⊥

  -- A loader returns the value of the entry, or none if there is none, or the cause of the failure.
  abbrev pub IsOptional : Result (calls.Reply K V E) Refused → Result (Option V) Refused → Type 0
  IsOptional (Ok (Entered entry)) (Ok (Some value)) = value ≡ entry.value
  IsOptional (Ok GaveNothing) (Ok None) = ⊤
  IsOptional (Err cause) (Err refused) = refused ≡ cause
  IsOptional reply result = ⊥

  -- A loader returns the value of the entry, or the error in an `Arc`, or the cause of the failure.
  abbrev pub IsTried : Result (calls.Reply K V E) Refused → Result (Result V (Arc E Global)) Refused → Type 0
  IsTried (Ok (Entered entry)) (Ok (Ok value)) = value ≡ entry.value
  IsTried (Ok (GaveError error)) (Ok (Err shared)) = arc_value shared ≡ error
  IsTried (Err cause) (Err refused) = refused ≡ cause
  IsTried reply result = ⊥

  -- P if the loader failed and its closure did not run.
  abbrev pub IfRefusedUnasked : {G : Type 0} → Type 0 → Option G → Result (calls.Reply K V E) Refused → Type 0
  IfRefusedUnasked P None (Err cause) = P
  IfRefusedUnasked P given reply = ⊤

module _ {V E : Type 0} where
  -- The outcome of a closure that may return no value.
  abbrev pub optional_outcome : Option V → Outcome V E
  optional_outcome (Some value) = outcomes.Value value
  optional_outcome None = outcomes.Nothing

  -- The outcome of a closure that may fail.
  abbrev pub tried_outcome : Result V E → Outcome V E
  tried_outcome (Ok value) = outcomes.Value value
  tried_outcome (Err error) = outcomes.Failed error

module _ {K V E : Type 0} (eq : K → K → Bool) (is_clone : V → V → Type 0) (is_infallible : V → Type 0) (settings : Settings K V) where
  -- A turn ends with an outcome. The history of the new state goes on with the finish or, if that fails, with an
  -- abandon.
  abbrev pub EndsTurn : List (AcceptedStep K V E) → Name K → Outcome V E → ℕ → Result (calls.Reply K V E) Refused →
      (List (AcceptedStep K V E) → Type 0) → Type 0
  EndsTurn steps name outcome now reply Stands =
      Gives eq is_clone is_infallible settings steps (Finish name outcome now) reply
      × Stands (after eq settings (end_call name outcome now reply) steps)

  -- A loader is its begin and, if that opens a turn, the end of the turn with what the closure returned. `given` is
  -- what it returned; none if it did not run. `Stands` holds of the history of the new state.
  abbrev pub IsForm : List (AcceptedStep K V E) → Call K V E → ℕ → Option (Outcome V E) → Result (calls.Reply K V E) Refused →
      (List (AcceptedStep K V E) → Type 0) → Type 0
  IsForm steps begin now None (Ok reply) Stands =
      IsEntered reply × Gives eq is_clone is_infallible settings steps begin (Ok reply) × Stands (after eq settings begin steps)
  IsForm steps begin now None (Err cause) Stands = FailsAtOnce eq is_clone is_infallible settings steps begin cause
  IsForm steps begin now (Some outcome) reply Stands =
      (name : Name K) × Gives eq is_clone is_infallible settings steps begin (Ok (Run name None))
      × EndsTurn (after eq settings begin steps) name outcome now reply Stands
