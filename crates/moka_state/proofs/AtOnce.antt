-- What a begin fails with, by whether it may wait.
use Rattle.std.proofs.Common.{◌≡◌, Bool, true, false, is_some, Option, Some, None, List, refl}
use Rattle.std.specs.Prelude.{Err}
use Rattle.moka_policy.specs.declared.policy.Refused.{Refused}
use Rattle.moka_policy.specs.declared.policy.Refused.TheVariants as causes
use Rattle.moka_model.specs.Lives.{Settings}
use Rattle.moka_model.specs.Steps.{AcceptedStep}
use Rattle.moka_model.specs.Calls.{Call, IsWait, IfReplied, accepted}
use Rattle.moka_turns.specs.Represents.{Agree}
use Rattle.moka_state.specs.Given.{FailsAtOnce, FailsToBegin, Gives}

-- of two options that agree, both are there or none
pub agree-some : {A B : Type 0} (R : A → B → Type 0) (a : Option A) (b : Option B) → Agree R a b → is_some b ≡ is_some a
agree-some R None None agree = refl
agree-some R None (Some b) agree = absurd agree
agree-some R (Some a) None agree = absurd agree
agree-some R (Some a) (Some b) agree = refl

module _ {K V E : Type 0} (eq : K → K → Bool) (is_clone : V → V → Type 0) (is_infallible : V → Type 0) (settings : Settings K V) (steps : List (AcceptedStep K V E)) (call : Call K V E) where
  -- what fails by the specification fails so without waiting, if no wait is due
  fails-at-once : (cause : Refused) → Gives eq is_clone is_infallible settings steps call (Err cause) → ¬ (IfReplied IsWait (accepted eq settings steps call)) → FailsAtOnce eq is_clone is_infallible settings steps call cause
  fails-at-once causes.OutOfMemory gives no_wait = (no_wait, gives)
  fails-at-once causes.NumbersUsedUp gives no_wait = (no_wait, gives)
  fails-at-once causes.UnknownTurn gives no_wait = (no_wait, gives)
  fails-at-once causes.UnknownTicket gives no_wait = (no_wait, gives)
  fails-at-once causes.TurnIsOpen gives no_wait = absurd gives
  fails-at-once causes.WaitsAbandoned gives no_wait = (no_wait, gives)

  pub fails-to-begin : (may_wait : Bool) (cause : Refused) → Gives eq is_clone is_infallible settings steps call (Err cause) → ¬ (IfReplied IsWait (accepted eq settings steps call)) → FailsToBegin eq is_clone is_infallible settings steps call may_wait cause
  fails-to-begin true cause gives no_wait = gives
  fails-to-begin false cause gives no_wait = fails-at-once cause gives no_wait
