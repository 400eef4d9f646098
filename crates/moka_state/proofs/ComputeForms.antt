-- The begin of a compute that may not wait.
use Rattle.std.proofs.Common.{◌≡◌, ℕ, Bool, true, false, is_some, Option, Some, None, List}
use Rattle.std.specs.Prelude.{Result, Ok, Err}
use Rattle.moka_policy.specs.declared.policy.Refused.{Refused}
use Rattle.moka_model.specs.Lives.{Settings}
use Rattle.moka_model.specs.Events.{Event}
use Rattle.moka_model.specs.Turns.{Turn}
use Rattle.moka_model.specs.Steps.{AcceptedStep}
use Rattle.moka_model.specs.Calls.{Call, Reply, IsWait, IfReplied, begun_compute}
use Rattle.moka_turns.specs.declared.table.OpenTurn.{OpenTurn}
use Rattle.moka_turns.specs.Represents.{Agree, IsOpenRow}
use Rattle.moka_state.specs.Compute.{GivesAtOnce}
use Rattle.moka_state.specs.Given.{Gives}

-- a begin that may wait gives what the specification gives
pub when-waiting : {K V E : Type 0} (eq : K → K → Bool) (is_clone : V → V → Type 0) (is_infallible : V → Type 0) (settings : Settings K V) (steps : List (AcceptedStep K V E)) (call : Call K V E) (result : Result (Reply K V E) Refused)
    → GivesAtOnce eq is_clone is_infallible settings steps call true result → Gives eq is_clone is_infallible settings steps call result
when-waiting eq is_clone is_infallible settings steps call (Ok answer) gives = gives
when-waiting eq is_clone is_infallible settings steps call (Err cause) gives = gives

-- A compute waits exactly where one is open.
module _ {K V E : Type 0} (eq : K → K → Bool) (settings : Settings K V) (h : List (Event K V)) (k : K) (keep : Bool) (at : ℕ) where
  pub open-waits : (o : Option (Turn K V E)) → true ≡ is_some o → IfReplied IsWait (Some (begun_compute eq settings h k keep at o))
  open-waits (Some t) some = tt
  open-waits None some = cc

  pub closed-waits-not : (o : Option (Turn K V E)) → false ≡ is_some o → ¬ (IfReplied IsWait (Some (begun_compute eq settings h k keep at o)))
  closed-waits-not None told waits = waits
  closed-waits-not (Some t) told waits = cc

  -- where the table has an open turn of a key, one is open
  pub row-waits : (is_clone : V → V → Type 0) (o : Option (Turn K V E)) (row : Option (OpenTurn V)) → Agree (IsOpenRow eq is_clone) o row → (b : Bool) → b ≡ is_some row → b ≡ true → IfReplied IsWait (Some (begun_compute eq settings h k keep at o))
  row-waits is_clone (Some t) (Some row) agree b told is = tt
  row-waits is_clone None (Some row) agree b told is = absurd agree
  row-waits is_clone (Some t) None agree b told is = absurd agree
  row-waits is_clone None None agree b told is = cc
