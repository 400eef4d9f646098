-- The value invariant: a relation `keeps` between keys and values. If every pair that calls are given satisfies it, so
-- does all that is stored and returned.
use Rattle.std.specs.Prelude.{⊤, ◌≡◌, Bool, true, Option, Some, None, List, IfSome}
use Rattle.std.specs.List.{AllByRecursion}
use Rattle.moka_model.specs.declared.turns.Op.TheVariants.{Put}
use Rattle.moka_model.specs.declared.turns.Outcome.TheVariants as outcomes
use Rattle.moka_model.specs.Lives.{Settings}
use Rattle.moka_model.specs.Events.{Event, Written}
use Rattle.moka_model.specs.Turns.{Turn, End}
use Rattle.moka_model.specs.Turns as turning
use Rattle.moka_model.specs.Steps.{AcceptedStep, events_in, turns}
use Rattle.moka_model.specs.Calls.{Call, Get, ContainsKey, Insert, Invalidate, Remove, OrInsert, Begin, BeginCompute}
use Rattle.moka_model.specs.Calls.{Finish, Abandon, Collect, Leave}
use Rattle.moka_model.specs.Calls.{Entry, Reply, Found, Noticed, Entered, Run, Unchanged, Inserted, ReplacedWith, Removed}
use Rattle.moka_model.specs.StandsFor.{WholeView, StandsFor}

-- the key that a call is given, by itself or in a turn's name
abbrev pub key_of : {K V E : Type 0} → Call K V E → Option K
key_of (Get k at) = Some k
key_of (ContainsKey k at) = Some k
key_of (Insert k v at) = Some k
key_of (Invalidate k at) = Some k
key_of (Remove k at) = Some k
key_of (OrInsert k v at) = Some k
key_of (Begin k kind replace at) = Some k
key_of (BeginCompute k keep at) = Some k
key_of (Finish name outcome at) = Some name.key
key_of (Abandon name) = Some name.key
key_of (Collect name) = Some name.key
key_of (Leave name) = Some name.key
key_of call = None

module _ {K V : Type 0} (keeps : K → V → Type 0) where
  abbrev pub IsAlike : (K → K → Bool) → Type 0  -- `keeps` does not distinguish equal keys
  IsAlike eq = (a b : K) (v : V) → eq a b ≡ true → keeps a v → keeps b v

  abbrev pub IsCopied : (V → V → Type 0) → Type 0  -- nor a value from its clones
  IsCopied is_clone = (k : K) (v w : V) → is_clone v w → keeps k v → keeps k w

  abbrev pub EventKeeps : Event K V → Type 0  -- a pair that is written satisfies `keeps`
  EventKeeps (Written k v at) = keeps k v
  EventKeeps e = ⊤

  abbrev pub EndKeeps : {E : Type 0} → K → End V E → Type 0  -- so does the value that a turn ended with, with this key
  EndKeeps k (turning.Value v replaced) = keeps k v
  EndKeeps k end = ⊤

  -- so do that value and the one kept aside, with the turn's key
  abbrev pub TurnKeeps : {E : Type 0} → Turn K V E → Type 0
  TurnKeeps t = IfSome t.kept (keeps t.name.key) × IfSome t.end (EndKeeps t.name.key)

  -- Accepted steps satisfy `keeps` if all their events and turns do.
  abbrev pub StepsKeep : {E : Type 0} → List (AcceptedStep K V E) → Type 0
  StepsKeep steps = AllByRecursion EventKeeps (events_in steps) × AllByRecursion TurnKeeps (turns steps)

  -- What a caller owes: a value to be written satisfies `keeps` with the key under which it is to be written.
  abbrev pub CallKeeps : {E : Type 0} → Call K V E → Type 0
  CallKeeps (Insert k v at) = keeps k v
  CallKeeps (OrInsert k v at) = keeps k v
  CallKeeps (Finish name (outcomes.Value v) at) = keeps name.key v
  CallKeeps (Finish name (outcomes.Op (Put v)) at) = keeps name.key v
  CallKeeps call = ⊤

  module _ {E : Type 0} (call : Call K V E) where
    abbrev pub ValueKeeps : V → Type 0  -- a value satisfies `keeps` with the key that the call is given, if any
    ValueKeeps v = IfSome (key_of call) (λ k. keeps k v)

    abbrev pub CallEntryKeeps : Entry K V → Type 0  -- and with the key of its entry
    CallEntryKeeps e = keeps e.key e.value × ValueKeeps e.value

    -- Each value that a call returns satisfies `keeps` with its own key, and with the key that the call is given.
    abbrev pub CallReplyKeeps : Reply K V E → Type 0
    CallReplyKeeps (Found v) = IfSome v ValueKeeps
    CallReplyKeeps (Noticed l) = IfSome l (λ r. keeps r.key r.value)
    CallReplyKeeps (Entered e) = CallEntryKeeps e
    CallReplyKeeps (Run name e) = IfSome e CallEntryKeeps
    CallReplyKeeps (Unchanged e) = CallEntryKeeps e
    CallReplyKeeps (Inserted e) = CallEntryKeeps e
    CallReplyKeeps (ReplacedWith e) = CallEntryKeeps e
    CallReplyKeeps (Removed e) = CallEntryKeeps e
    CallReplyKeeps reply = ⊤

  -- A state has a history that satisfies `keeps`: it could have come from such accepted steps, under some settings.
  pub record HasKeptHistory {E : Type 0} (eq : K → K → Bool) (is_clone : V → V → Type 0) (view : WholeView K V E) : Type 0 where
    pub settings : Settings K V
    pub steps : List (AcceptedStep K V E)
    pub stands : StandsFor eq is_clone settings view steps
    pub keep : StepsKeep steps
