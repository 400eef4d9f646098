-- What a call returns after a history: a reply of the specification, or an error whose cause holds.
use Rattle.std.specs.Prelude.{⊤, ◌≡◌, Bool, true, false, Option, List, Result, Ok, Err, option_map}
use Rattle.std.specs.Arc.{arc_value}
use Rattle.moka_policy.specs.declared.policy.Refused.{Refused}
use Rattle.moka_policy.specs.declared.policy.Refused.TheVariants as causes
use Rattle.moka_model.specs.Lives.{Settings}
use Rattle.moka_model.specs.Steps.{AcceptedStep}
use Rattle.moka_model.specs.Calls.{Call, Done, Entered, Run, Wait, GaveNothing, GaveError, NotYet, WasAbandoned, HasEnded, reply_by}
use Rattle.moka_model.specs.Calls.{accepted, MayTakeMemory, IsOutOfNumbers, Begin, BeginCompute, UnknownTurn, UnknownTicket}
use Rattle.moka_model.specs.Calls.{IfReplied, IsRefusedAs, IsWait}
use Rattle.moka_model.specs.Calls as calls
use Rattle.moka_model.specs.Entries.{entry_of}
use Rattle.moka_model.specs.CompResults.{of_computed}
use Rattle.moka_model.specs.StandsFor.{IsReplyOf}
use Rattle.moka_model.specs.Turns.{Name}
use Rattle.moka_turns.specs.Represents.{end_of}
use Rattle.moka_turns.specs.declared.table.CollectState.{CollectState}
use Rattle.moka_turns.specs.declared.table.CollectState.TheVariants as tells
use Rattle.moka_turns.specs.declared.handles.Ticket.{Ticket}
use Rattle.moka_turns.specs.declared.handles.CollectRefused.{CollectRefused}
use Rattle.moka_turns.specs.Handles.{turn_name, ticket_name}
use Rattle.moka_state.specs.declared.answers.Answer.{Answer}
use Rattle.moka_state.specs.declared.answers.Answer.TheVariants as answers
use Rattle.moka_state.specs.declared.answers.Collected.{Collected}
use Rattle.moka_state.specs.declared.answers.Collected.TheVariants as collects
use Rattle.moka_state.specs.declared.answers.Finished.{Finished}
use Rattle.moka_state.specs.declared.answers.Finished.TheVariants as finishes
use Rattle.moka_state.specs.declared.answers.FinishRefused.{FinishRefused}
use Rattle.moka_state.specs.BegunOf.{BegunOf}
use Rattle.moka_single_flight.specs.declared.replies.Begun.TheVariants as begins
use Rattle.moka_state.specs.declared.answers.BegunCompute.{BegunCompute}
use Rattle.moka_state.specs.declared.answers.BegunCompute.TheVariants as computes

-- The call checks for a sequence number before it needs memory. The begins do not: they share or allocate the key
-- first.
abbrev pub CountsFirst : {K V E : Type 0} → Call K V E → Type 0
CountsFirst (Begin k kind replace at) = ⊥
CountsFirst (BeginCompute k keep at) = ⊥
CountsFirst call = ⊤

-- The call succeeds with a reply of the specification, and is not out of sequence numbers. Or it fails with a cause
-- that holds. `NumbersUsedUp` needs a call that is out of sequence numbers. `OutOfMemory` needs one that may allocate,
-- and that is not out of numbers if it checks for these first. `UnknownTurn` and `UnknownTicket` need one that the
-- specification does not accept. There is no other cause.
abbrev pub Gives : {K V E : Type 0} → (K → K → Bool) → (V → V → Type 0) → (V → Type 0) → Settings K V → List (AcceptedStep K V E) →
    Call K V E → Result (calls.Reply K V E) Refused → Type 0
Gives eq is_clone is_infallible settings steps call (Ok answer) =
    IsReplyOf is_clone (accepted eq settings steps call) answer × ¬ (IsOutOfNumbers eq settings steps call)
Gives eq is_clone is_infallible settings steps call (Err causes.OutOfMemory) =
    MayTakeMemory eq is_clone is_infallible settings steps call × (CountsFirst call → ¬ (IsOutOfNumbers eq settings steps call))
Gives eq is_clone is_infallible settings steps call (Err causes.NumbersUsedUp) = IsOutOfNumbers eq settings steps call
Gives eq is_clone is_infallible settings steps call (Err causes.UnknownTurn) = IsRefusedAs eq settings UnknownTurn steps call
Gives eq is_clone is_infallible settings steps call (Err causes.UnknownTicket) = IsRefusedAs eq settings UnknownTicket steps call
Gives eq is_clone is_infallible settings steps call (Err causes.TurnIsOpen) = ⊥
Gives eq is_clone is_infallible settings steps call (Err causes.WaitsAbandoned) = ⊥

-- A begin that never waits fails with `TurnIsOpen` exactly where it would have to wait. With any other cause it fails as
-- a begin that may wait.
abbrev pub FailsAtOnce : {K V E : Type 0} → (K → K → Bool) → (V → V → Type 0) → (V → Type 0) → Settings K V →
    List (AcceptedStep K V E) → Call K V E → Refused → Type 0
FailsAtOnce eq is_clone is_infallible settings steps call causes.TurnIsOpen = IfReplied IsWait (accepted eq settings steps call)
FailsAtOnce eq is_clone is_infallible settings steps call cause =
    ¬ (IfReplied IsWait (accepted eq settings steps call)) × Gives eq is_clone is_infallible settings steps call (Err cause)

-- What a begin fails with, by whether it may wait.
abbrev pub FailsToBegin : {K V E : Type 0} → (K → K → Bool) → (V → V → Type 0) → (V → Type 0) → Settings K V →
    List (AcceptedStep K V E) → Call K V E → Bool → Refused → Type 0
FailsToBegin eq is_clone is_infallible settings steps call true cause =
    Gives eq is_clone is_infallible settings steps call (Err cause)
FailsToBegin eq is_clone is_infallible settings steps call false cause =
    FailsAtOnce eq is_clone is_infallible settings steps call cause

module _ {K V E : Type 0} where
  -- The result of a call without a value, as a reply of the specification. The next definitions do the same for other
  -- calls.
  abbrev pub of_done : Result (Unit {0}) Refused → Result (calls.Reply K V E) Refused
  of_done (Ok done) = Ok Done
  of_done (Err cause) = Err cause

  -- The outcome of a loader's turn.
  abbrev pub of_answer : Answer K V E → calls.Reply K V E
  of_answer (answers.Entry entry) = Entered (entry_of entry)
  of_answer answers.Nothing = GaveNothing
  of_answer (answers.Failed error) = GaveError (arc_value error)

  -- What a successful collect returns.
  abbrev pub of_collected : Collected K V E → calls.Reply K V E
  of_collected (collects.Ready answer) = of_answer answer
  of_collected (collects.NotYet ticket) = NotYet
  of_collected collects.Abandoned = WasAbandoned
  of_collected collects.Ended = HasEnded

  -- The result of a collect.
  abbrev pub of_collect : Result (Collected K V E) (CollectRefused K) → Result (calls.Reply K V E) Refused
  of_collect (Ok collected) = Ok (of_collected collected)
  of_collect (Err refused) = Err refused.cause

  -- The result of a finish.
  abbrev pub of_finish : Result (Finished K V E) (FinishRefused K V E) → Result (calls.Reply K V E) Refused
  of_finish (Ok (finishes.Answer answer)) = Ok (of_answer answer)
  of_finish (Ok (finishes.Computed result)) = Ok (of_computed result)
  of_finish (Err refused) = Err refused.cause

  -- What a successful begin returns.
  abbrev pub of_begun : BegunOf K V → calls.Reply K V E
  of_begun (begins.Found entry) = Entered (entry_of entry)
  of_begun (begins.Run turn) = Run (turn_name turn) Option.None
  of_begun (begins.Wait ticket) = Wait (ticket_name ticket)

  -- The result of a begin.
  abbrev pub of_begin : Result (BegunOf K V) Refused → Result (calls.Reply K V E) Refused
  of_begin (Ok begun) = Ok (of_begun begun)
  of_begin (Err cause) = Err cause

  -- What a successful begin of a compute returns.
  abbrev pub of_begun_compute : BegunCompute K V → calls.Reply K V E
  of_begun_compute (computes.Run turn entry) = Run (turn_name turn) (option_map entry_of entry)
  of_begun_compute (computes.Wait ticket) = Wait (ticket_name ticket)

  -- The result of the begin of a compute.
  abbrev pub of_begin_compute : Result (BegunCompute K V) Refused → Result (calls.Reply K V E) Refused
  of_begin_compute (Ok begun) = Ok (of_begun_compute begun)
  of_begin_compute (Err cause) = Err cause

  -- P of the ticket, if it comes back unspent.
  abbrev pub IfUnspent : (Ticket K → Type 0) → Collected K V E → Type 0
  IfUnspent P (collects.NotYet ticket) = P ticket
  IfUnspent P collected = ⊤

-- What the table of turns returns for a ticket of this name, as a reply of the specification.
abbrev pub collected_as : {K V E : Type 0} → Name K → CollectState K V E → calls.Reply K V E
collected_as name (tells.NotYet ticket) = NotYet
collected_as name (tells.Ended key end) = reply_by name (end_of end)
