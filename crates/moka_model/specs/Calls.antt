-- What each call returns after a list of accepted steps, which step it becomes, and when it may fail.
use Rattle.std.specs.Prelude.{⊤, ◌≡◌, ◌<◌, ℕ, max, min, Bool, true, false, ◌==◌, if◌then◌else◌, List, [], ◌∷◌, ◌++◌, slice_get}
use Rattle.std.specs.Prelude.{Option, Some, None, IsSome, IsSomeAnd, is_some, option_map}
use Rattle.moka_model.specs.declared.turns.Kind.{Kind}
use Rattle.moka_model.specs.declared.turns.Kind.TheVariants.{With, Optionally, Try, Compute}
use Rattle.moka_model.specs.declared.turns.Op.TheVariants as ops
use Rattle.moka_model.specs.declared.turns.Outcome.{Outcome}
use Rattle.moka_model.specs.declared.turns.Outcome.TheVariants as outcomes
use Rattle.moka_model.specs.Lives.{Settings, Write}
use Rattle.moka_model.specs.Events.{Event, Looked, TurnedDown, Written, Invalidated, Hidden, Maintained, Passed, Drawn, Taken, latest}
use Rattle.moka_model.specs.Orders.{live, is_left_at}
use Rattle.moka_model.specs.Removals.{Removal, notices_left}
use Rattle.moka_model.specs.Numbers.{drawn_in, next_number, greatest_number, entry_count, weighted_size, stores_nothing, is_flush_due}
use Rattle.moka_model.specs.Turns.{Name, Turn, Move, Opened, Waited, Ended, Spent, End, Agree, fits, found}
use Rattle.moka_model.specs.Turns.{is_open_for, is_open_as, has_ticket_as, is_ended_as, has_ended_as}
use Rattle.moka_model.specs.Turns as turning
use Rattle.moka_model.specs.Steps.{AcceptedStep, events_in, turns}

-- A call with its arguments. The last argument is its moment, if it has one.
pub data Call (K V E : Type 0) : Type 0 where
  Get : K → ℕ → Call K V E
  ContainsKey : K → ℕ → Call K V E
  Insert : K → V → ℕ → Call K V E
  Invalidate : K → ℕ → Call K V E
  Remove : K → ℕ → Call K V E
  InvalidateAll : Call K V E
  InvalidateIf : (K → V → Bool) → Call K V E
  RunPendingTasks : ℕ → Call K V E
  RunPendingTasksUpTo : ℕ → ℕ → Call K V E  -- at most so many evictions, and a moment
  EntryCount : Call K V E
  WeightedSize : Call K V E
  TakeNotice : Call K V E
  OrInsert : K → V → ℕ → Call K V E
  -- with the caller's verdict on a live value, if there is one: `true` replaces it
  Begin : K → Kind → Option Bool → ℕ → Call K V E
  BeginCompute : K → Bool → ℕ → Call K V E  -- with whether the turn keeps a clone of the live value
  Finish : Name K → Outcome V E → ℕ → Call K V E
  Abandon : Name K → Call K V E
  Collect : Name K → Call K V E
  Leave : Name K → Call K V E

-- An entry as a call returns it: `fresh` if this call wrote the value, `replaced` if a live value was there when it was written.
pub record Entry (K V : Type 0) : Type 0 where
  pub key : K
  pub value : V
  pub fresh : Bool
  pub replaced : Bool

-- A result, with the stored values themselves. A call returns clones of them.
pub data Reply (K V E : Type 0) : Type 0 where
  Found : Option V → Reply K V E
  Contains : Bool → Reply K V E
  Done : Reply K V E
  Counted : ℕ → Reply K V E
  Left : Bool → Reply K V E
  Noticed : Option (Removal K V) → Reply K V E
  Entered : Entry K V → Reply K V E
  Run : Name K → Option (Entry K V) → Reply K V E  -- a turn was opened; with the live entry that a compute is shown
  Wait : Name K → Reply K V E
  GaveNothing : Reply K V E
  GaveError : E → Reply K V E
  StillNone : K → Reply K V E
  Unchanged : Entry K V → Reply K V E
  Inserted : Entry K V → Reply K V E
  ReplacedWith : Entry K V → Reply K V E
  Removed : Entry K V → Reply K V E
  NotYet : Reply K V E
  WasAbandoned : Reply K V E
  HasEnded : Reply K V E

pub data Refusal : Type 0 where  -- Why a call is rejected: it fails whatever memory there is, and is no step.
  UnknownTurn : Refusal
  UnknownTicket : Refusal
  ClosuresUnsupported : Refusal

-- The reason for which a call can be rejected, or none if it is always accepted.
abbrev pub refusal_due : {K V E : Type 0} → Call K V E → Option Refusal
refusal_due (InvalidateIf test) = Some ClosuresUnsupported
refusal_due (Finish name outcome at) = Some UnknownTurn
refusal_due (Abandon name) = Some UnknownTurn
refusal_due (Collect name) = Some UnknownTicket
refusal_due (Leave name) = Some UnknownTicket
refusal_due call = None

-- The result says that another caller's turn is open, which the caller has to wait for.
abbrev pub IsWait : {K V E : Type 0} → Reply K V E → Type 0
IsWait (Wait name) = ⊤
IsWait reply = ⊥

-- What an accepted call returns, and the step that it adds to the history.
pub record Accepted (K V E : Type 0) : Type 0 where
  pub reply : Reply K V E
  pub step : AcceptedStep K V E

-- An accepted call with this result and these events that does nothing to turns.
abbrev pub without_move : {K V E : Type 0} → Reply K V E → List (Event K V) → Accepted K V E
without_move reply events = record { reply = reply; step = record { events = events; move = None } }

-- An accepted call with this result and these events that makes this move of a turn.
abbrev pub with_move : {K V E : Type 0} → Reply K V E → List (Event K V) → Move K V E → Accepted K V E
with_move reply events move = record { reply = reply; step = record { events = events; move = Some move } }

module _ {K V : Type 0} where
  -- The entry that a call returns for a stored one.
  abbrev pub entry_of : Write K V → Entry K V
  entry_of w = record { key = w.key; value = w.value; fresh = false; replaced = false }

  -- An entry that was found, not stored by the call.
  abbrev pub entry_under : K → V → Entry K V
  entry_under k v = record { key = k; value = v; fresh = false; replaced = false }

  -- An entry that the call wrote itself; `replaced` if a live value was there. (A cache of capacity 0 does not store it.)
  abbrev pub fresh_entry : K → V → Bool → Entry K V
  fresh_entry k v replaced = record { key = k; value = v; fresh = true; replaced = replaced }

  -- The live entry, unless the caller turned it down.
  abbrev pub acceptable : Option Bool → Option (Write K V) → Option (Write K V)
  acceptable None w = w
  acceptable (Some false) w = w
  acceptable (Some true) w = None

  -- The event of a recorded lookup. It is a miss if the caller turned the value down.
  abbrev pub look_event : Option Bool → K → ℕ → Event K V
  look_event None k at = Looked k at
  look_event (Some false) k at = Looked k at
  look_event (Some true) k at = TurnedDown k at

module _ {K V : Type 0} (eq : K → K → Bool) (settings : Settings K V) where
  -- The live entry of a key for a call at a moment: as of the latest recorded moment, if that is later.
  abbrev pub live_at : K → ℕ → List (Event K V) → Option (Write K V)
  live_at k at h = live eq settings k (max (latest h) at) h

  abbrev pub flush : ℕ → List (Event K V) → List (Event K V)  -- The flush before a write, if one is due.
  flush at h = if is_flush_due eq settings h then Maintained settings.flush_limit at ∷ [] else []

  -- The events of a write, the newest first. At a capacity of 0 a write only records its moment.
  abbrev pub write_events : K → V → ℕ → List (Event K V) → List (Event K V)
  write_events k v at h = if stores_nothing settings.max_capacity then Passed at ∷ [] else Written k v at ∷ flush at h

module _ {K V E : Type 0} where
  -- What the ticket of a turn gets, by how the turn ended. The entry has the ticket's key.
  abbrev pub reply_by : Name K → End V E → Reply K V E
  reply_by name (turning.Value v replaced) = Entered (record { key = name.key; value = v; fresh = false; replaced = replaced })
  reply_by name turning.Nothing = GaveNothing
  reply_by name (turning.Failed e) = GaveError e
  reply_by name turning.Computed = HasEnded
  reply_by name turning.Abandoned = WasAbandoned

  -- The call has to wait for this turn. Its ticket has the key that the call was given.
  abbrev pub waits_for : Turn K V E → K → List (Event K V) → Accepted K V E
  waits_for t k events = with_move (Wait (record t.name { key = k })) events (Waited t.name.number)

  -- Collecting a ticket: `NotYet` while the turn is open, and the ticket stays unspent; else its result, and it is
  -- spent.
  abbrev pub collected : Name K → ℕ → Option (End V E) → Accepted K V E
  collected name number None = without_move NotYet []
  collected name number (Some end) = with_move (reply_by name end) [] (Spent number)

  -- A ticket of the turn with this number is spent, without a result.
  abbrev pub spends : ℕ → Accepted K V E
  spends number = with_move Done [] (Spent number)

  -- The turn with this number is abandoned.
  abbrev pub abandons : ℕ → Accepted K V E
  abandons number = with_move Done [] (Ended number turning.Abandoned)

  -- What a compute that puts a value returns. `shown` says whether its begin found a live value.
  abbrev pub put_by : Name K → V → Bool → Reply K V E
  put_by name v shown = if shown then ReplacedWith (fresh_entry name.key v true) else Inserted (fresh_entry name.key v false)

  -- What a compute that removes returns, by the live entry at its finish.
  abbrev pub removed_by : Name K → Option (Write K V) → Reply K V E
  removed_by name None = StillNone name.key
  removed_by name (Some w) = Removed (entry_under name.key w.value)

  -- What a compute that does nothing returns, by the value that was kept at its begin.
  abbrev pub kept_by : Name K → Option V → Reply K V E
  kept_by name None = StillNone name.key
  kept_by name (Some v) = Unchanged (entry_under name.key v)

module _ {V E : Type 0} where
  -- How a turn ends that is finished with this outcome. `replaced` says whether its write overwrote a live value.
  abbrev pub end_by : Outcome V E → Bool → End V E
  end_by (outcomes.Value v) replaced = turning.Value v replaced
  end_by outcomes.Nothing replaced = turning.Nothing
  end_by (outcomes.Failed e) replaced = turning.Failed e
  end_by (outcomes.Op op) replaced = turning.Computed

module _ {K V : Type 0} (eq : K → K → Bool) (settings : Settings K V) (h : List (Event K V)) where
  -- The name of a turn that is opened after these events: it draws the next sequence number.
  abbrev pub new_name : Kind → K → Name K
  new_name kind k = record { number = next_number settings h; kind = kind; key = k }

  abbrev pub is_replacing : K → ℕ → Bool  -- Whether a live value is stored just before a write, after its flush.
  is_replacing k at = is_some (live eq settings k (max (latest h) at) (flush eq settings at h ++ h))

module _ {K V E : Type 0} (eq : K → K → Bool) (settings : Settings K V) (h : List (Event K V)) where
  -- The begin of an initializer, by the live value that the caller accepts and by the open turn, if they exist.
  abbrev pub begun : K → Kind → Option Bool → ℕ → Option (Write K V) → Option (Turn K V E) → Accepted K V E
  begun k kind replace at (Some w) turn = without_move (Entered (entry_of w)) (look_event replace k at ∷ [])
  begun k kind replace at None (Some t) = waits_for t k (look_event replace k at ∷ [])
  begun k kind replace at None None =
      with_move (Run (new_name eq settings h kind k) None) (Drawn ∷ look_event replace k at ∷ [])
      (Opened (new_name eq settings h kind k) false None)

  -- The begin of a compute, by the open turn of the key, if there is one.
  abbrev pub begun_compute : K → Bool → ℕ → Option (Turn K V E) → Accepted K V E
  begun_compute k keep at (Some t) = waits_for t k (Passed at ∷ [])
  begun_compute k keep at None =
      with_move (Run (new_name eq settings h Compute k) (option_map entry_of (live_at eq settings k at h))) (Drawn ∷ Looked k at ∷ [])
      (Opened (new_name eq settings h Compute k) (is_some (live_at eq settings k at h))
      (if keep then option_map (λ w. w.value) (live_at eq settings k at h) else None))

  -- An `or_insert`, by the live entry, if there is one: a lookup, and a write if that finds nothing.
  abbrev pub or_inserted : K → V → ℕ → Option (Write K V) → Accepted K V E
  or_inserted k v at (Some w) = without_move (Entered (entry_of w)) (Looked k at ∷ [])
  or_inserted k v at None =
      without_move (Entered (fresh_entry k v false)) (write_events eq settings k v at (Looked k at ∷ h) ++ Looked k at ∷ [])

  -- What the finish of a turn returns, by the outcome.
  abbrev pub reply_of_finish : Turn K V E → ℕ → Outcome V E → Name K → Reply K V E
  reply_of_finish t at (outcomes.Value v) name = Entered (fresh_entry name.key v (is_replacing eq settings h name.key at))
  reply_of_finish t at outcomes.Nothing name = GaveNothing
  reply_of_finish t at (outcomes.Failed e) name = GaveError e
  reply_of_finish t at (outcomes.Op (ops.Put v)) name = put_by name v t.shown
  reply_of_finish t at (outcomes.Op ops.Remove) name = removed_by name (live_at eq settings name.key at h)
  reply_of_finish t at (outcomes.Op ops.Nop) name = kept_by name t.kept

  -- The events of the finish of a turn, by the outcome.
  abbrev pub finish_events : K → ℕ → Outcome V E → List (Event K V)
  finish_events k at (outcomes.Value v) = write_events eq settings k v at h
  finish_events k at (outcomes.Op (ops.Put v)) = write_events eq settings k v at h
  finish_events k at (outcomes.Op ops.Remove) = Invalidated k at ∷ []
  finish_events k at outcome = Passed at ∷ []

  -- The finish of an open turn.
  abbrev pub finished : Name K → Outcome V E → ℕ → Turn K V E → Accepted K V E
  finished name outcome at t =
      with_move (reply_of_finish t at outcome name) (finish_events name.key at outcome)
      (Ended t.name.number (end_by outcome (is_replacing eq settings h name.key at)))

module _ {K V E : Type 0} (eq : K → K → Bool) (settings : Settings K V) (h : List (Event K V)) (ts : List (Turn K V E)) where
  -- A begin: a compute's, or an initializer's.
  abbrev pub begun_by : K → Kind → Option Bool → ℕ → Accepted K V E
  begun_by k Compute replace at = begun_compute eq settings h k false at (found (is_open_for eq Compute k) ts)
  begun_by k kind replace at =
      begun eq settings h k kind replace at (acceptable replace (live_at eq settings k at h)) (found (is_open_for eq kind k) ts)

  -- What a call returns and which step it becomes, after these events and with these turns. None if it is rejected.
  abbrev pub accepted_beside : Call K V E → Option (Accepted K V E)
  accepted_beside (Get k at) = Some (without_move (Found (option_map (λ w. w.value) (live_at eq settings k at h))) (Looked k at ∷ []))
  accepted_beside (ContainsKey k at) = Some (without_move (Contains (is_some (live_at eq settings k at h))) [])
  accepted_beside (Insert k v at) = Some (without_move Done (write_events eq settings k v at h))
  accepted_beside (Invalidate k at) = Some (without_move Done (Invalidated k at ∷ []))
  accepted_beside (Remove k at) =
      Some (without_move (Found (option_map (λ w. w.value) (live_at eq settings k at h))) (Invalidated k at ∷ []))
  accepted_beside InvalidateAll = Some (without_move Done (Hidden (λ k v. true) ∷ []))
  accepted_beside (InvalidateIf test) = if settings.supports_closures then Some (without_move Done (Hidden test ∷ [])) else None
  accepted_beside (RunPendingTasks at) = Some (without_move Done (Maintained None at ∷ []))
  accepted_beside (RunPendingTasksUpTo limit at) =
      Some (without_move (Left (is_left_at eq settings (Some limit) at h)) (Maintained (Some limit) at ∷ []))
  accepted_beside EntryCount = Some (without_move (Counted (min (entry_count eq settings h) greatest_number)) [])
  accepted_beside WeightedSize = Some (without_move (Counted (min (weighted_size eq settings h) greatest_number)) [])
  accepted_beside TakeNotice = Some (without_move (Noticed (slice_get (notices_left eq settings h) 0)) (Taken ∷ []))
  accepted_beside (OrInsert k v at) = Some (or_inserted eq settings h k v at (live_at eq settings k at h))
  accepted_beside (Begin k kind replace at) = Some (begun_by k kind replace at)
  accepted_beside (BeginCompute k keep at) = Some (begun_compute eq settings h k keep at (found (is_open_for eq Compute k) ts))
  accepted_beside (Finish name outcome at) =
      if fits name.kind outcome then option_map (finished eq settings h name outcome at) (found (is_open_as eq name) ts) else None
  accepted_beside (Abandon name) = option_map (λ t. abandons t.name.number) (found (is_open_as eq name) ts)
  accepted_beside (Collect name) = option_map (λ t. collected name t.name.number t.end) (found (has_ticket_as eq name) ts)
  accepted_beside (Leave name) = option_map (λ t. spends t.name.number) (found (has_ticket_as eq name) ts)

module _ {K V E : Type 0} (eq : K → K → Bool) (settings : Settings K V) (steps : List (AcceptedStep K V E)) where
  -- What a call returns and which step it becomes, after these steps. None if it is rejected.
  abbrev pub accepted : Call K V E → Option (Accepted K V E)
  accepted call = accepted_beside eq settings (events_in steps) (turns steps) call

module _ {K V E : Type 0} where
  -- The steps, with that of an accepted call on top.
  abbrev pub with_step : Option (Accepted K V E) → List (AcceptedStep K V E) → List (AcceptedStep K V E)
  with_step None steps = steps
  with_step (Some it) steps = it.step ∷ steps

  abbrev pub drawn_by : Option (Accepted K V E) → ℕ  -- How many sequence numbers an accepted call draws.
  drawn_by None = 0
  drawn_by (Some it) = drawn_in it.step.events

  abbrev pub reply_of : Option (Accepted K V E) → Option (Reply K V E)  -- What a call returns, if it is accepted.
  reply_of it = option_map (λ a. a.reply) it

  -- The call is accepted, and `P` holds of its result.
  abbrev pub IfReplied : (Reply K V E → Type 0) → Option (Accepted K V E) → Type 0
  IfReplied P None = ⊥
  IfReplied P (Some it) = P it.reply

  -- The step needs a number that does not exist. Either it draws one and the greatest is next, or the turn that it
  -- waits for has as many unspent tickets as a `u64` can count.
  abbrev pub WantsNumberBy : ℕ → List (Turn K V E) → List (Event K V) → Option (Move K V E) → Type 0
  WantsNumberBy next ts events (Some (Waited number)) =
      (t : Turn K V E) × (found (λ u. u.name.number == number) ts ≡ Some t) × (t.unspent ≡ greatest_number)
  WantsNumberBy next ts events move = (0 < drawn_in events) × (next ≡ greatest_number)

  -- The same of a call. It does not hold of a rejected one.
  abbrev pub WantsNumber : ℕ → List (Turn K V E) → Option (Accepted K V E) → Type 0
  WantsNumber next ts None = ⊥
  WantsNumber next ts (Some it) = WantsNumberBy next ts it.step.events it.step.move

module _ {K V E : Type 0} (eq : K → K → Bool) (settings : Settings K V) where
  -- The history after a call: one step more, or the same if the call is rejected.
  abbrev pub after : Call K V E → List (AcceptedStep K V E) → List (AcceptedStep K V E)
  after call steps = with_step (accepted eq settings steps call) steps

  -- The call is rejected after these steps, for this reason.
  abbrev pub IsRefusedAs : Refusal → List (AcceptedStep K V E) → Call K V E → Type 0
  IsRefusedAs refusal steps call = (accepted eq settings steps call ≡ None) × (refusal_due call ≡ Some refusal)

  -- The history is legal: each step is that of some call, accepted after the steps before it.
  abbrev pub IsLegal : List (AcceptedStep K V E) → Type 0
  IsLegal [] = ⊤
  IsLegal (step ∷ steps) =
      ((call : Call K V E) × (it : Accepted K V E) × (accepted eq settings steps call ≡ Some it) × (it.step ≡ step)) × IsLegal steps

  -- When a call runs out of numbers, and so fails. It would draw a sequence number and none is left, or it would wait
  -- for a turn whose unspent tickets cannot be counted any further.
  abbrev pub IsOutOfNumbers : List (AcceptedStep K V E) → Call K V E → Type 0
  IsOutOfNumbers steps call = WantsNumber (next_number settings (events_in steps)) (turns steps) (accepted eq settings steps call)

-- The type of the values says of which values cloning never fails (`is_infallible`).
-- Cloning a clone of this value never fails.
abbrev pub ClonesAreInfallible : {V : Type 0} → (V → V → Type 0) → (V → Type 0) → V → Type 0
ClonesAreInfallible {V} is_clone is_infallible v = (w : V) → is_clone v w → is_infallible w

-- Returning this result needs a clone that can fail.
abbrev pub ReplyMayFail : {K V E : Type 0} → (V → V → Type 0) → (V → Type 0) → Reply K V E → Type 0
ReplyMayFail is_clone is_infallible (Found (Some v)) = ¬ (is_infallible v)
-- the turn keeps a clone, which is cloned again
ReplyMayFail is_clone is_infallible (Entered e) = ¬ (ClonesAreInfallible is_clone is_infallible e.value)
ReplyMayFail is_clone is_infallible (GaveError e) = ⊤
ReplyMayFail is_clone is_infallible reply = ⊥

module _ {K V E : Type 0} (eq : K → K → Bool) (is_infallible : V → Type 0) (settings : Settings K V)
    (steps : List (AcceptedStep K V E)) where
  -- A lookup at this moment finds a live value, and cloning that can fail.
  abbrev pub CopyMayFail : K → ℕ → Type 0
  CopyMayFail k at = IsSomeAnd (live_at eq settings k at (events_in steps)) (λ w. ¬ (is_infallible w.value))

  -- When finishing a turn may fail for lack of memory. It stores a value, or clones a value or an error that it
  -- returns, or removes a live value whose clone can fail.
  abbrev pub FinishMayFail : Name K → ℕ → Outcome V E → Type 0
  FinishMayFail name at outcomes.Nothing = ⊥
  FinishMayFail name at (outcomes.Op ops.Nop) = ⊥
  FinishMayFail name at (outcomes.Op ops.Remove) = CopyMayFail name.key at
  FinishMayFail name at outcome = ⊤

module _ {K V E : Type 0} (eq : K → K → Bool) (is_clone : V → V → Type 0) (is_infallible : V → Type 0) (settings : Settings K V)
    (steps : List (AcceptedStep K V E)) where
  -- When a call may fail with `OutOfMemory`. No other call may.
  --
  -- - A lookup or a removal, if cloning what it finds can fail.
  -- - An insert, if something is stored.
  -- - An `or_insert` and a begin always. A begin may open a turn.
  -- - A finish as `FinishMayFail` says.
  -- - A collect, if cloning its result can fail.
  abbrev pub MayTakeMemory : Call K V E → Type 0
  MayTakeMemory (Get k at) = CopyMayFail eq is_infallible settings steps k at
  MayTakeMemory (Insert k v at) = stores_nothing settings.max_capacity ≡ false
  MayTakeMemory (Remove k at) = CopyMayFail eq is_infallible settings steps k at
  MayTakeMemory (OrInsert k v at) = ⊤
  MayTakeMemory (Begin k kind replace at) = ⊤
  MayTakeMemory (BeginCompute k keep at) = ⊤
  MayTakeMemory (Finish name outcome at) =
      IsSome (accepted eq settings steps (Finish name outcome at)) × FinishMayFail eq is_infallible settings steps name at outcome
  MayTakeMemory (Collect name) = IfReplied (ReplyMayFail is_clone is_infallible) (accepted eq settings steps (Collect name))
  MayTakeMemory call = ⊥

module _ {V : Type 0} (is_clone : V → V → Type 0) where
  abbrev pub IsCopyOf : Option V → Option V → Type 0  -- Both are absent, or the second is a clone of the first.
  IsCopyOf None None = ⊤
  IsCopyOf (Some v) (Some w) = is_clone v w
  IsCopyOf v w = ⊥

  -- The second entry is the first with a clone of its value.
  abbrev pub IsCopiedEntry : {K : Type 0} → Entry K V → Entry K V → Type 0
  IsCopiedEntry a b = (b.key ≡ a.key) × is_clone a.value b.value × (b.fresh ≡ a.fresh) × (b.replaced ≡ a.replaced)

  -- Both are absent, or the second entry is the first with a clone of its value.
  abbrev pub IsEntryOf : {K : Type 0} → Option (Entry K V) → Option (Entry K V) → Type 0
  IsEntryOf None None = ⊤
  IsEntryOf (Some a) (Some b) = IsCopiedEntry a b
  IsEntryOf a b = ⊥

  -- What a call really returns (the second) for a result of the definitions: its values are clones, all else is the
  -- same.
  abbrev pub IsCopiedReply : {K E : Type 0} → Reply K V E → Reply K V E → Type 0
  IsCopiedReply (Found v) (Found w) = IsCopyOf v w
  IsCopiedReply (Entered a) (Entered b) = IsCopiedEntry a b
  IsCopiedReply (Run name a) (Run called b) = (called ≡ name) × IsEntryOf a b
  IsCopiedReply (Unchanged a) (Unchanged b) = IsCopiedEntry a b
  IsCopiedReply (Inserted a) (Inserted b) = IsCopiedEntry a b
  IsCopiedReply (ReplacedWith a) (ReplacedWith b) = IsCopiedEntry a b
  IsCopiedReply (Removed a) (Removed b) = IsCopiedEntry a b
  IsCopiedReply a b = b ≡ a

  -- The second end is the first, with a clone of its value.
  abbrev pub IsCopiedEnd : {E : Type 0} → Option (End V E) → Option (End V E) → Type 0
  IsCopiedEnd (Some (turning.Value v marked)) (Some (turning.Value w replaced)) = is_clone v w × (replaced ≡ marked)
  IsCopiedEnd a b = b ≡ a

  -- What a state keeps of an open turn, which it finds by kind and key: the kept value is a clone.
  pub record IsOpenTurnOf {K E : Type 0} (t row : Turn K V E) : Type 0 where
    pub number : row.name.number ≡ t.name.number
    pub shown : row.shown ≡ t.shown
    pub kept : IsCopyOf t.kept row.kept
    pub unspent : row.unspent ≡ t.unspent

-- What a state keeps of an ended turn, which it finds by number: the kind, an equal key, and the end. A value in that
-- is a clone.
pub record IsEndedTurnOf {K V E : Type 0} (eq : K → K → Bool) (is_clone : V → V → Type 0) (t row : Turn K V E) : Type 0 where
  pub kind : row.name.kind ≡ t.name.kind
  pub key : eq t.name.key row.name.key ≡ true
  pub end : IsCopiedEnd is_clone t.end row.end
  pub unspent : row.unspent ≡ t.unspent

-- What a state keeps of all turns: the open turn of each kind and key, and each ended turn that has unspent tickets, by
-- its number. It keeps no other ended turn.
pub record Holds {K V E : Type 0} (eq : K → K → Bool) (is_clone : V → V → Type 0) (ts rows : List (Turn K V E)) : Type 0 where
  pub opened : (kind : Kind) (k : K) → Agree (IsOpenTurnOf is_clone) (found (is_open_for eq kind k) ts) (found (is_open_for eq kind k) rows)
  pub ended : (number : ℕ) → Agree (IsEndedTurnOf eq is_clone) (found (is_ended_as number) ts) (found (has_ended_as number) rows)
