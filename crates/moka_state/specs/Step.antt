-- Steps and replies as data, and the replies of a run of steps.
use Rattle.std.specs.Prelude.{⊤, Bool, List, [], ◌∷◌, Some, None, Err, option_map}
use Rattle.std.specs.Arc.{arc_value}
use Rattle.moka_predicate_ids.specs.declared.predicate_error.PredicateError.TheVariants.{InvalidationClosuresDisabled}
use Rattle.moka_predicate_ids.specs.declared.predicate_error.PredicateError.TheVariants as predicates
use Rattle.moka_model.specs.Lives.{Settings}
use Rattle.moka_model.specs.Steps.{AcceptedStep}
use Rattle.moka_model.specs.Calls as calls
use Rattle.moka_model.specs.Calls.{Call, ClosuresUnsupported, accepted, after, IsOutOfNumbers, IsRefusedAs}
use Rattle.moka_model.specs.Entries.{entry_of}
use Rattle.moka_model.specs.CompResults.{of_computed}
use Rattle.moka_model.specs.StandsFor.{IsReplyOf}
use Rattle.moka_turns.specs.Handles.{name_by}
use Rattle.moka_state.specs.Finish.{OutcomeKeeps, outcome_of}
use Rattle.moka_state.specs.Given.{Gives}
use Rattle.moka_state.specs.declared.step.Step.{Step}
use Rattle.moka_state.specs.declared.step.Step.TheVariants.{Get, ContainsKey, Insert, Invalidate, Remove, InvalidateAll, InvalidateIf}
use Rattle.moka_state.specs.declared.step.Step.TheVariants.{RunPendingTasks, RunPendingTasksUpTo, EntryCount, WeightedSize, TakeNotice}
use Rattle.moka_state.specs.declared.step.Step.TheVariants.{OrInsert, Begin, BeginCompute, Finish, Abandon, Collect, Leave}
use Rattle.moka_state.specs.declared.step.Reply.{Reply}
use Rattle.moka_state.specs.declared.step.Reply.TheVariants.{Found, Contains, Done, Counted, Left, Noticed, Refused, PredicateRefused}
use Rattle.moka_state.specs.declared.step.Reply.TheVariants.{Entered, Run, Wait, Nothing, Failed, Computed, NotYet, Abandoned, Ended}
use Rattle.moka_table.specs.Table.{removal_of}

-- Steps over a cache's own types: its keys K, its values V, its predicates P, and the others that it names.
module _ {K V C H W X P F L T E S : Type 0} where
  -- The call of a step, given the test that each predicate computes.
  abbrev pub call_of : (P → K → V → Bool) → Step K V C H W X P F L T E S → Call K V E
  call_of test (Get key now) = Call.Get (arc_value key) now
  call_of test (ContainsKey key now) = Call.ContainsKey (arc_value key) now
  call_of test (Insert key value now) = Call.Insert (arc_value key) value now
  call_of test (Invalidate key now) = Call.Invalidate (arc_value key) now
  call_of test (Remove key now) = Call.Remove (arc_value key) now
  call_of test InvalidateAll = Call.InvalidateAll
  call_of test (InvalidateIf predicate) = Call.InvalidateIf (test (arc_value predicate))
  call_of test (RunPendingTasks now) = Call.RunPendingTasks now
  call_of test (RunPendingTasksUpTo limit now) = Call.RunPendingTasksUpTo limit now
  call_of test EntryCount = Call.EntryCount
  call_of test WeightedSize = Call.WeightedSize
  call_of test TakeNotice = Call.TakeNotice
  call_of test (OrInsert key value now) = Call.OrInsert (arc_value key) value now
  call_of test (Begin key kind replace now) = Call.Begin (arc_value key) kind replace now
  call_of test (BeginCompute key keep now) = Call.BeginCompute (arc_value key) keep now
  call_of test (Finish name outcome now) = Call.Finish (name_by name) (outcome_of outcome) now
  call_of test (Abandon name) = Call.Abandon (name_by name)
  call_of test (Collect name) = Call.Collect (name_by name)
  call_of test (Leave name) = Call.Leave (name_by name)

-- The type of the values says what a clone is, and of which values clones cannot fail.
module _ {K V E : Type 0} (eq : K → K → Bool) (is_clone : V → V → Type 0) (settings : Settings K V)
    (steps : List (AcceptedStep K V E)) where
  -- The call is accepted with this reply of the specification, and is not out of sequence numbers.
  abbrev pub IsAccepted : Call K V E → calls.Reply K V E → Type 0
  IsAccepted call returned = IsReplyOf is_clone (accepted eq settings steps call) returned × ¬ (IsOutOfNumbers eq settings steps call)

module _ {K V C H W X P F L T E S : Type 0} (eq : K → K → Bool) (is_clone : V → V → Type 0) (is_infallible : V → Type 0)
    (settings : Settings K V) (steps : List (AcceptedStep K V E)) where
  -- The reply is right for the call. An accepted call has a reply of the specification, and draws a sequence number
  -- only if one is left. A failed one has a cause that holds, as `Gives` says. A predicate fails with
  -- `InvalidationClosuresDisabled`, exactly if the specification does not accept the call.
  abbrev pub IsReplyTo : Call K V E → Reply K V C H W X P F L T E S → Type 0
  IsReplyTo call (Found v) = IsAccepted eq is_clone settings steps call (calls.Found v)
  IsReplyTo call (Contains b) = IsAccepted eq is_clone settings steps call (calls.Contains b)
  IsReplyTo call Done = IsAccepted eq is_clone settings steps call calls.Done
  IsReplyTo call (Counted n) = IsAccepted eq is_clone settings steps call (calls.Counted n)
  IsReplyTo call (Left b) = IsAccepted eq is_clone settings steps call (calls.Left b)
  IsReplyTo call (Noticed n) = IsAccepted eq is_clone settings steps call (calls.Noticed (option_map removal_of n))
  IsReplyTo call (Entered entry) = IsAccepted eq is_clone settings steps call (calls.Entered (entry_of entry))
  IsReplyTo call (Run name entry) = IsAccepted eq is_clone settings steps call (calls.Run (name_by name) (option_map entry_of entry))
  IsReplyTo call (Wait name) = IsAccepted eq is_clone settings steps call (calls.Wait (name_by name))
  IsReplyTo call Nothing = IsAccepted eq is_clone settings steps call calls.GaveNothing
  IsReplyTo call (Failed error) = IsAccepted eq is_clone settings steps call (calls.GaveError (arc_value error))
  IsReplyTo call (Computed result) = IsAccepted eq is_clone settings steps call (of_computed result)
  IsReplyTo call NotYet = IsAccepted eq is_clone settings steps call calls.NotYet
  IsReplyTo call Abandoned = IsAccepted eq is_clone settings steps call calls.WasAbandoned
  IsReplyTo call Ended = IsAccepted eq is_clone settings steps call calls.HasEnded
  IsReplyTo call (Refused cause) = Gives eq is_clone is_infallible settings steps call (Err cause)
  IsReplyTo call (PredicateRefused InvalidationClosuresDisabled) = IsRefusedAs eq settings ClosuresUnsupported steps call
  IsReplyTo call (PredicateRefused predicates.OutOfMemory) = ⊥

module _ {K V C H W X P F L T E S : Type 0} (eq : K → K → Bool) (settings : Settings K V) where
  -- The accepted steps after a reply to a call. A failed call leaves them as they are.
  abbrev pub after_reply : Call K V E → Reply K V C H W X P F L T E S → List (AcceptedStep K V E) → List (AcceptedStep K V E)
  after_reply call (Refused cause) steps = steps
  after_reply call (PredicateRefused cause) steps = steps
  after_reply call reply steps = after eq settings call steps

module _ {K V C H W X P F L T E S : Type 0} (eq : K → K → Bool) (test : P → K → V → Bool) (settings : Settings K V) where
  -- The accepted steps after a run.
  abbrev pub after_all : List (Step K V C H W X P F L T E S) → List (Reply K V C H W X P F L T E S) → List (AcceptedStep K V E) →
      List (AcceptedStep K V E)
  after_all [] replies steps = steps
  after_all (step ∷ rest) [] steps = steps
  after_all (step ∷ rest) (reply ∷ replies) steps = after_all rest replies (after_reply eq settings (call_of test step) reply steps)

  -- There are as many replies as steps, and each is right for its step, after the accepted steps before it.
  abbrev pub IsRun : (V → V → Type 0) → (V → Type 0) → List (AcceptedStep K V E) → List (Step K V C H W X P F L T E S) →
      List (Reply K V C H W X P F L T E S) → Type 0
  IsRun is_clone is_infallible steps [] [] = ⊤
  IsRun is_clone is_infallible steps (step ∷ rest) (reply ∷ replies) =
      IsReplyTo eq is_clone is_infallible settings steps (call_of test step) reply
      × IsRun is_clone is_infallible (after_reply eq settings (call_of test step) reply steps) rest replies
  IsRun is_clone is_infallible steps [] (reply ∷ replies) = ⊥
  IsRun is_clone is_infallible steps (step ∷ rest) [] = ⊥

module _ {K V C H W X P F L T E S : Type 0} (keeps : K → V → Type 0) where
  -- What the caller owes for a step: a value that may be written satisfies the invariant with its key, and a predicate
  -- computes its test.
  abbrev pub StepKeeps : (P → (K → V → Bool) → Type 0) → (P → K → V → Bool) → Step K V C H W X P F L T E S → Type 0
  StepKeeps tests test (Insert key value now) = keeps (arc_value key) value
  StepKeeps tests test (OrInsert key value now) = keeps (arc_value key) value
  StepKeeps tests test (InvalidateIf predicate) = tests (arc_value predicate) (test (arc_value predicate))
  StepKeeps tests test (Finish name outcome now) = OutcomeKeeps (keeps (arc_value name.key)) outcome
  StepKeeps tests test step = ⊤

  -- What the caller gets. A value that was found or removed satisfies the invariant with the step's key; that of an
  -- entry or a notice, with its own key. Nothing is said of a finish or a collect.
  abbrev pub ReplyKeeps : Step K V C H W X P F L T E S → Reply K V C H W X P F L T E S → Type 0
  ReplyKeeps (Get key now) (Found (Some v)) = keeps (arc_value key) v
  ReplyKeeps (Remove key now) (Found (Some v)) = keeps (arc_value key) v
  ReplyKeeps (OrInsert key value now) (Entered entry) = keeps (entry_of entry).key (entry_of entry).value
  ReplyKeeps (Begin key kind replace now) (Entered entry) = keeps (entry_of entry).key (entry_of entry).value
  ReplyKeeps (Begin key kind replace now) (Run name (Some entry)) = keeps (entry_of entry).key (entry_of entry).value
  ReplyKeeps (BeginCompute key keep now) (Run name (Some entry)) = keeps (entry_of entry).key (entry_of entry).value
  ReplyKeeps step (Noticed (Some n)) = keeps (arc_value n.key) n.value
  ReplyKeeps step reply = ⊤
