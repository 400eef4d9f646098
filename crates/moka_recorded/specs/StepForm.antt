-- Which replies a step can have.
use Rattle.std.specs.Prelude.{⊤, ◌≡◌, None}
use Rattle.std.specs.Arc.{arc_value}
use Rattle.moka_policy.specs.declared.policy.Refused as policies
use Rattle.moka_policy.specs.declared.policy.Refused.TheVariants.{NumbersUsedUp, UnknownTurn, UnknownTicket}
use Rattle.moka_predicate_ids.specs.declared.predicate_error.PredicateError.TheVariants.{InvalidationClosuresDisabled}
use Rattle.moka_model.specs.declared.turns.Kind.{Kind}
use Rattle.moka_model.specs.declared.turns.Kind.TheVariants.{With, Optionally, Try, Compute}
use Rattle.moka_model.specs.declared.turns.Outcome.{Outcome}
use Rattle.moka_model.specs.declared.turns.Outcome.TheVariants as outcomes
use Rattle.moka_turns.specs.declared.turn_name.TurnName.{TurnName}
use Rattle.moka_state.specs.declared.step.Step.{Step}
use Rattle.moka_state.specs.declared.step.Step.TheVariants.{Get, ContainsKey, Insert, Invalidate, Remove, InvalidateAll, InvalidateIf}
use Rattle.moka_state.specs.declared.step.Step.TheVariants.{RunPendingTasks, RunPendingTasksUpTo, EntryCount, WeightedSize, TakeNotice}
use Rattle.moka_state.specs.declared.step.Step.TheVariants.{OrInsert, Begin, BeginCompute, Finish, Abandon, Collect, Leave}
use Rattle.moka_state.specs.declared.step.Reply.{Reply}
use Rattle.moka_state.specs.declared.step.Reply.TheVariants.{Found, Contains, Done, Counted, Left, Noticed, Refused, PredicateRefused}
use Rattle.moka_state.specs.declared.step.Reply.TheVariants.{Entered, Run, Wait, Nothing, Failed, Computed, NotYet, Abandoned, Ended}

-- The sorts of replies that are no errors.
pub data Sort : Type 0 where
  a_value : Sort  -- a value or none
  a_test : Sort
  nothing_to_say : Sort
  a_count : Sort
  a_rest : Sort  -- whether a part of a maintenance is left undone
  a_notice : Sort
  an_entry : Sort
  a_turn : Sort
  a_ticket : Sort
  no_value : Sort
  an_error : Sort
  a_result : Sort  -- the result of a compute
  not_yet : Sort
  was_abandoned : Sort
  has_ended : Sort

module _ {K V C H W X P F L T E S : Type 0} where
  -- The reply is of this sort.
  abbrev pub IsSort : Sort → Reply K V C H W X P F L T E S → Type 0
  IsSort a_value (Found v) = ⊤
  IsSort a_test (Contains b) = ⊤
  IsSort nothing_to_say Done = ⊤
  IsSort a_count (Counted n) = ⊤
  IsSort a_rest (Left b) = ⊤
  IsSort a_notice (Noticed n) = ⊤
  IsSort an_entry (Entered entry) = ⊤
  IsSort no_value Nothing = ⊤
  IsSort an_error (Failed error) = ⊤
  IsSort a_result (Computed result) = ⊤
  IsSort a_turn (Run name entry) = ⊤
  IsSort a_ticket (Wait name) = ⊤
  IsSort not_yet NotYet = ⊤
  IsSort was_abandoned Abandoned = ⊤
  IsSort has_ended Ended = ⊤
  IsSort sort reply = ⊥

  -- The reply is an error with one of these causes, or `Q` holds for it.
  abbrev pub RefusedOr : (policies.Refused → Type 0) → (Reply K V C H W X P F L T E S → Type 0) → Reply K V C H W X P F L T E S → Type 0
  RefusedOr May Q (Refused cause) = May cause
  RefusedOr May Q (PredicateRefused cause) = ⊥
  RefusedOr May Q reply = Q reply

  -- The reply to a collect of a ticket of this kind.
  abbrev pub IsCollected : Kind → Reply K V C H W X P F L T E S → Type 0
  IsCollected kind NotYet = ⊤
  IsCollected kind Abandoned = ⊤
  IsCollected With (Entered entry) = ⊤
  IsCollected Optionally (Entered entry) = ⊤
  IsCollected Optionally Nothing = ⊤
  IsCollected Try (Entered entry) = ⊤
  IsCollected Try (Failed error) = ⊤
  IsCollected Compute Ended = ⊤
  IsCollected kind reply = ⊥

-- The turn that is opened or waited for is of this kind, and of this very key.
abbrev pub IsTurnOf : {K : Type 0} → Kind → K → TurnName K → Type 0
IsTurnOf kind key name = (name.kind ≡ kind) × (arc_value name.key ≡ key)

module _ {K V C H W X P F L T E S : Type 0} where
  -- The reply to a begin of a compute.
  abbrev pub IsComputing : K → Reply K V C H W X P F L T E S → Type 0
  IsComputing key (Run name entry) = IsTurnOf Compute key name
  IsComputing key (Wait name) = IsTurnOf Compute key name
  IsComputing key reply = ⊥

  -- The reply to a begin of an initializer.
  abbrev pub IsInitializing : Kind → K → Reply K V C H W X P F L T E S → Type 0
  IsInitializing kind key (Entered entry) = ⊤
  IsInitializing kind key (Run name None) = IsTurnOf kind key name
  IsInitializing kind key (Wait name) = IsTurnOf kind key name
  IsInitializing kind key reply = ⊥

  -- The reply to a begin, by its kind.
  abbrev pub IsBegun : Kind → K → Reply K V C H W X P F L T E S → Type 0
  IsBegun Compute key reply = IsComputing key reply
  IsBegun kind key reply = IsInitializing kind key reply

-- The sort of the reply to a finish, by its outcome.
abbrev pub sort_of_outcome : {V E : Type 0} → Outcome V E → Sort
sort_of_outcome (outcomes.Value v) = an_entry
sort_of_outcome outcomes.Nothing = no_value
sort_of_outcome (outcomes.Failed e) = an_error
sort_of_outcome (outcomes.Op op) = a_result

-- No cause at all.
abbrev pub Never : policies.Refused → Type 0
Never cause = ⊥

-- The cause `NumbersUsedUp`.
abbrev pub OutOfNumbers : policies.Refused → Type 0
OutOfNumbers NumbersUsedUp = ⊤
OutOfNumbers cause = ⊥

-- The cause `UnknownTurn`.
abbrev pub NoTurn : policies.Refused → Type 0
NoTurn UnknownTurn = ⊤
NoTurn cause = ⊥

-- The cause `UnknownTicket`.
abbrev pub NoTicket : policies.Refused → Type 0
NoTicket UnknownTicket = ⊤
NoTicket cause = ⊥

-- The causes `UnknownTurn` and `NumbersUsedUp`.
abbrev pub NoTurnOrNumbers : policies.Refused → Type 0
NoTurnOrNumbers UnknownTurn = ⊤
NoTurnOrNumbers NumbersUsedUp = ⊤
NoTurnOrNumbers cause = ⊥

module _ {K V C H W X P F L T E S : Type 0} where
  -- The reply is of the step's form: of its sort, or an error with a cause that the step may have, other than
  -- `OutOfMemory`.
  abbrev pub IsOfForm : Step K V C H W X P F L T E S → Reply K V C H W X P F L T E S → Type 0
  IsOfForm (Get key now) reply = RefusedOr Never (IsSort a_value) reply
  IsOfForm (ContainsKey key now) reply = RefusedOr Never (IsSort a_test) reply
  IsOfForm (Insert key value now) reply = RefusedOr OutOfNumbers (IsSort nothing_to_say) reply
  IsOfForm (OrInsert key value now) reply = RefusedOr OutOfNumbers (IsSort an_entry) reply
  IsOfForm (Invalidate key now) reply = RefusedOr Never (IsSort nothing_to_say) reply
  IsOfForm (Remove key now) reply = RefusedOr Never (IsSort a_value) reply
  IsOfForm InvalidateAll reply = RefusedOr Never (IsSort nothing_to_say) reply
  IsOfForm (InvalidateIf predicate) (PredicateRefused InvalidationClosuresDisabled) = ⊤
  IsOfForm (InvalidateIf predicate) reply = RefusedOr Never (IsSort nothing_to_say) reply
  IsOfForm (RunPendingTasks now) reply = RefusedOr Never (IsSort nothing_to_say) reply
  IsOfForm (RunPendingTasksUpTo limit now) reply = RefusedOr Never (IsSort a_rest) reply
  IsOfForm EntryCount reply = RefusedOr Never (IsSort a_count) reply
  IsOfForm WeightedSize reply = RefusedOr Never (IsSort a_count) reply
  IsOfForm TakeNotice reply = RefusedOr Never (IsSort a_notice) reply
  IsOfForm (Begin key kind replace now) reply = RefusedOr OutOfNumbers (IsBegun kind (arc_value key)) reply
  IsOfForm (BeginCompute key keep now) reply = RefusedOr OutOfNumbers (IsComputing (arc_value key)) reply
  IsOfForm (Finish name outcome now) reply = RefusedOr NoTurnOrNumbers (IsSort (sort_of_outcome outcome)) reply
  IsOfForm (Abandon name) reply = RefusedOr NoTurn (IsSort nothing_to_say) reply
  IsOfForm (Collect name) reply = RefusedOr NoTicket (IsCollected name.kind) reply
  IsOfForm (Leave name) reply = RefusedOr NoTicket (IsSort nothing_to_say) reply
