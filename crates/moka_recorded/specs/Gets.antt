-- What a `get_with` leaves in a pass: its receipts, one by one.
use Rattle.std.specs.Prelude.{◌≡◌, ℕ, ◌<◌, ◌⊎◌, Option, Some, None}
use Rattle.std.specs.Arc.{arc_value}
use Rattle.moka_policy.specs.declared.policy.Refused.TheVariants.{OutOfMemory, NumbersUsedUp, UnknownTurn, UnknownTicket, WaitsAbandoned}
use Rattle.moka_model.specs.declared.turns.Kind.TheVariants.{With}
use Rattle.moka_model.specs.declared.turns.Outcome.TheVariants.{Value}
use Rattle.moka_model.specs.Entries.{entry_of}
use Rattle.moka_model.specs.Turns.{Name}
use Rattle.moka_turns.specs.Handles.{name_by}
use Rattle.moka_state.specs.declared.step.Step.{Step}
use Rattle.moka_state.specs.declared.step.Step.TheVariants as steps
use Rattle.moka_state.specs.declared.step.Reply.{Reply}
use Rattle.moka_state.specs.declared.step.Reply.TheVariants as replies
use Rattle.moka_state.specs.Recorded.{OneStep, OneReply}
use Rattle.moka_recorded.specs.StepForm.{IsTurnOf}
use Rattle.moka_single_flight.specs.declared.replies.Begun.{Begun}
use Rattle.moka_single_flight.specs.declared.replies.Begun.TheVariants.{Found, Run, Wait}
use Rattle.moka_single_flight.specs.declared.replies.Collected.{Collected}
use Rattle.moka_single_flight.specs.declared.replies.Collected.TheVariants.{Ready, NotYet, Retry}
use Rattle.moka_single_flight.specs.Rounds.{Rounds, Waits, IsRefused}
use Rattle.moka_recording.specs.declared.receipt.Receipt.{Receipt}
use Rattle.moka_recording.specs.Receipts.{PassData, AddsReceipt}
use Rattle.moka_recorded.specs.declared.named.Named.{Named}
use Rattle.moka_recorded.specs.declared.refused.GetWithRefused.{GetWithRefused}

module _ {K V C H W X P F L T E S : Type 0} where
  -- The step is a begin of a `With` turn for this key, at this moment, which turns no live value down.
  abbrev pub IsBegin : K → ℕ → Step K V C H W X P F L T E S → Type 0
  IsBegin key now (steps.Begin own kind replace at) =
      (arc_value own ≡ key) × (kind ≡ With) × (replace ≡ None) × (at ≡ now)
  IsBegin key now step = ⊥

  -- The step collects the result of the turn of this name.
  abbrev pub IsCollect : Name K → Step K V C H W X P F L T E S → Type 0
  IsCollect name (steps.Collect called) = name_by called ≡ name
  IsCollect name step = ⊥

  -- The step finishes the turn of this name with this value, at this moment.
  abbrev pub IsFinish : Name K → V → ℕ → Step K V C H W X P F L T E S → Type 0
  IsFinish name value now (steps.Finish called (Value v) at) = (name_by called ≡ name) × (v ≡ value) × (at ≡ now)
  IsFinish name value now step = ⊥

  -- `held` is the step that leaves the ticket of this name.
  abbrev pub HoldsTicket : Name K → Option (Step K V C H W X P F L T E S) → Type 0
  HoldsTicket name (Some (steps.Leave called)) = name_by called ≡ name
  HoldsTicket name held = ⊥

  -- `held` is the step that abandons the turn of this name.
  abbrev pub HoldsTurn : Name K → Option (Step K V C H W X P F L T E S) → Type 0
  HoldsTurn name (Some (steps.Abandon called)) = name_by called ≡ name
  HoldsTurn name held = ⊥

  -- The reply returns this value.
  abbrev pub IsEntered : V → Reply K V C H W X P F L T E S → Type 0
  IsEntered v (replies.Entered entry) = (entry_of entry).value ≡ v
  IsEntered v reply = ⊥

-- Given the value invariant of the cache.
module _ {K V C H W X P F L T E S : Type 0} (keeps : K → V → Type 0) where
  -- The reply to a begin is what `begun` says: a live value, which satisfies the invariant, or a turn of this key that is
  -- opened or waited for.
  abbrev pub IsBeginReply : K → Begun V (Named K) (Named K) → Reply K V C H W X P F L T E S → Type 0
  IsBeginReply key (Found v) reply = IsEntered v reply × keeps key v
  IsBeginReply key (Run turn) (replies.Run name shown) = (name ≡ turn.name) × IsTurnOf With key name × (shown ≡ None)
  IsBeginReply key (Wait ticket) (replies.Wait name) = (name ≡ ticket.name) × IsTurnOf With key name
  IsBeginReply key begun reply = ⊥

  -- The reply to a collect is what `Collected` says: a value, which satisfies the invariant, not yet, or that the turn
  -- was abandoned.
  abbrev pub IsCollectReply : Named K → Collected V (Named K) → Reply K V C H W X P F L T E S → Type 0
  IsCollectReply ticket (Ready v) reply = IsEntered v reply × keeps (arc_value ticket.name.key) v
  IsCollectReply ticket (NotYet back) reply = (name_by back.name ≡ name_by ticket.name) × (reply ≡ replies.NotYet)
  IsCollectReply ticket Retry reply = reply ≡ replies.Abandoned

-- What contracts see of a pass of a cache with these types.
abbrev pub PassOf : (K V C H W X P F L T E S : Type 0) → Type 0
PassOf K V C H W X P F L T E S = PassData (Step K V C H W X P F L T E S) (Reply K V C H W X P F L T E S)

module _ {K V C H W X P F L T E S : Type 0} (is_clone : V → V → Type 0) (keeps : K → V → Type 0) where
  -- The pass gets one more receipt, of such a step with such a reply.
  abbrev pub Does : (Step K V C H W X P F L T E S → Type 0) → (Reply K V C H W X P F L T E S → Type 0) →
      PassOf K V C H W X P F L T E S → PassOf K V C H W X P F L T E S → Type 0
  Does IsStep IsReply old new =
      (step : Step K V C H W X P F L T E S) × (receipt : Receipt (Reply K V C H W X P F L T E S))
      × IsStep step × IsReply receipt.reply × AddsReceipt (OneStep is_clone) (OneReply is_clone) step old new receipt

  -- The turn of this name is finished with the value `made`, and `v`, a clone of it, is returned.
  abbrev pub Finishes : Name K → V → ℕ → V → PassOf K V C H W X P F L T E S → PassOf K V C H W X P F L T E S → Type 0
  Finishes name made now v old new = is_clone made v × Does (IsFinish name made now) (IsEntered v) old new

  -- A finish fails. With `OutOfMemory`, without a receipt, or with `NumbersUsedUp`, the turn is held. Otherwise another
  -- caller has ended the turn by its name.
  abbrev pub FinishRefused : Name K → V → ℕ → GetWithRefused K V C H W X P F L T E S →
      PassOf K V C H W X P F L T E S → PassOf K V C H W X P F L T E S → Type 0
  FinishRefused name made now refused old new =
      ((refused.cause ≡ OutOfMemory) × HoldsTurn name refused.held × (new ≡ old))
      ⊎ (((refused.cause ≡ NumbersUsedUp) × HoldsTurn name refused.held
      × Does (IsFinish name made now) (λ reply. reply ≡ replies.Refused NumbersUsedUp) old new)
      ⊎ ((refused.cause ≡ UnknownTurn) × (refused.held ≡ None)
      × Does (IsFinish name made now) (λ reply. reply ≡ replies.Refused UnknownTurn) old new))

  -- A collect of the ticket returns `result`.
  abbrev pub Collects : PassOf K V C H W X P F L T E S → Named K → Collected V (Named K) →
      PassOf K V C H W X P F L T E S → Type 0
  Collects old ticket result new = Does (IsCollect (name_by ticket.name)) (IsCollectReply keeps ticket result) old new

  -- A collect fails: with `OutOfMemory`, without a receipt, and the ticket is held; or another caller has spent it by
  -- its name.
  abbrev pub CollectRefused : PassOf K V C H W X P F L T E S → Named K →
      GetWithRefused K V C H W X P F L T E S → PassOf K V C H W X P F L T E S → Type 0
  CollectRefused old ticket refused new =
      ((refused.cause ≡ OutOfMemory) × HoldsTicket (name_by ticket.name) refused.held × (new ≡ old))
      ⊎ ((refused.cause ≡ UnknownTicket) × (refused.held ≡ None)
      × Does (IsCollect (name_by ticket.name)) (λ reply. reply ≡ replies.Refused UnknownTicket) old new)

  -- Of a `get_with` of this key at this moment.
  module _ (key : K) (now : ℕ) where
    -- A begin returns `begun`.
    abbrev pub Begins : PassOf K V C H W X P F L T E S → Begun V (Named K) (Named K) →
        PassOf K V C H W X P F L T E S → Type 0
    Begins old begun new = Does (IsBegin key now) (IsBeginReply keeps key begun) old new

    -- A begin fails: with `OutOfMemory`, without a receipt, or with `NumbersUsedUp`; nothing is held.
    abbrev pub BeginRefused : PassOf K V C H W X P F L T E S →
        GetWithRefused K V C H W X P F L T E S → PassOf K V C H W X P F L T E S → Type 0
    BeginRefused old refused new =
        ((refused.cause ≡ OutOfMemory) × (refused.held ≡ None) × (new ≡ old))
        ⊎ ((refused.cause ≡ NumbersUsedUp) × (refused.held ≡ None)
        × Does (IsBegin key now) (λ reply. reply ≡ replies.Refused NumbersUsedUp) old new)

    -- How the value came, after fewer than 200 waits for turns that were abandoned. Either it was found, or it came
    -- from a turn that was waited for. Or a turn was opened and finished with what the initializer returned.
    abbrev pub Gets : (V → Type 0) → PassOf K V C H W X P F L T E S → V →
        PassOf K V C H W X P F L T E S → Type 0
    Gets IsMade old v new =
        (n : ℕ) × (mid : PassOf K V C H W X P F L T E S)
        × (n < 200) × Rounds Begins Collects n old mid
        × ((Begins mid (Found v) new ⊎ Waits Begins Collects mid (Some v) new)
        ⊎ ((turn : Named K) × (last : PassOf K V C H W X P F L T E S) × (made : V)
        × Begins mid (Run turn) last × IsMade made × Finishes (name_by turn.name) made now v last new))

    -- How it failed: after 200 such waits; or after fewer, in a begin or a collect, or in finishing the turn that it
    -- opened.
    abbrev pub GetsRefused : (V → Type 0) → PassOf K V C H W X P F L T E S →
        GetWithRefused K V C H W X P F L T E S → PassOf K V C H W X P F L T E S → Type 0
    GetsRefused IsMade old refused new =
        ((refused.cause ≡ WaitsAbandoned) × (refused.held ≡ None) × Rounds Begins Collects 200 old new)
        ⊎ (IsRefused Begins Collects BeginRefused CollectRefused (Some 200) old refused new
        ⊎ ((n : ℕ) × (mid : PassOf K V C H W X P F L T E S) × (turn : Named K)
        × (last : PassOf K V C H W X P F L T E S) × (made : V)
        × (n < 200) × Rounds Begins Collects n old mid × Begins mid (Run turn) last × IsMade made
        × FinishRefused (name_by turn.name) made now refused last new))
