-- The terms of the laws about turns, over lists of accepted steps.
use Rattle.std.specs.Prelude.{⊤, ◌≡◌, ◌≢◌, ◌↔◌, ◌⊎◌, ◌≤◌, ◌<◌, ℕ, ◌+◌, ◌==◌, if◌then◌else◌, true, false, Bool, Option, Some, None, List}
use Rattle.std.specs.Prelude.{[], ◌∷◌, ◌++◌, filter, max, is_some, IsSome}
use Rattle.moka_model.specs.declared.turns.Kind.{Kind}
use Rattle.moka_model.specs.declared.turns.Kind.TheVariants.{Compute}
use Rattle.moka_model.specs.declared.turns.Outcome.{Outcome}
use Rattle.moka_model.specs.declared.turns.Op.{Op}
use Rattle.moka_model.specs.declared.turns.Op.TheVariants as ops
use Rattle.moka_model.specs.declared.turns.Outcome.TheVariants as outcomes
use Rattle.moka_model.specs.Lives.{Settings, Write}
use Rattle.moka_model.specs.Events.{Event, Written, latest}
use Rattle.moka_model.specs.Orders.{live}
use Rattle.moka_model.specs.Numbers.{next_number}
use Rattle.moka_model.specs.Turns.{Name, Turn, End, Value, Nothing, Failed, Computed, Abandoned, Move, Opened, Waited, Ended, Spent}
use Rattle.moka_model.specs.Turns.{AreApart, AreHeld, IsIn, fits, found, has_ticket_as, is_held, is_open_as, is_open_for, moved_by}
use Rattle.moka_model.specs.Turns.{same_name}
use Rattle.moka_model.specs.Steps.{AcceptedStep, events_in, held_turns, turns}
use Rattle.moka_model.specs.Calls.{Call, Begin, BeginCompute, Finish, Abandon, Collect, Leave, Accepted, Reply, Entered, Entry, Run, Wait}
use Rattle.moka_model.specs.Calls.{GaveNothing, GaveError, NotYet, WasAbandoned, HasEnded}
use Rattle.moka_model.specs.Calls.{StillNone, Unchanged, Inserted, ReplacedWith, Removed, entry_under, fresh_entry}
use Rattle.moka_model.specs.Calls.{IsLegal, acceptable, accepted, accepted_beside, entry_of, live_at}

module _ {V E : Type 0} where
  -- The turn ends with this, finished with that outcome.
  abbrev pub HandsIn : Outcome V E → End V E → Type 0
  HandsIn (outcomes.Value v) (Value u replaced) = v ≡ u
  HandsIn outcomes.Nothing Nothing = ⊤
  HandsIn (outcomes.Failed e) (Failed f) = e ≡ f
  HandsIn (outcomes.Op op) Computed = ⊤
  HandsIn outcome end = ⊥

module _ {K V E : Type 0} where
  -- How often one move waits for the turn with this number.
  abbrev pub waits_in : ℕ → Option (Move K V E) → ℕ
  waits_in number (Some (Waited n)) = if n == number then 1 else 0
  waits_in number m = 0

  -- How often some steps wait for it.
  abbrev pub waits_of : ℕ → List (AcceptedStep K V E) → ℕ
  waits_of number [] = 0
  waits_of number (d ∷ ds) = waits_in number d.move + waits_of number ds

  -- How often one move spends a ticket of it.
  abbrev pub spent_in : ℕ → Option (Move K V E) → ℕ
  spent_in number (Some (Spent n)) = if n == number then 1 else 0
  spent_in number m = 0

  -- How often some steps spend a ticket of it.
  abbrev pub spent_of : ℕ → List (AcceptedStep K V E) → ℕ
  spent_of number [] = 0
  spent_of number (d ∷ ds) = spent_in number d.move + spent_of number ds

  -- How often one move ends it.
  abbrev pub ends_in : ℕ → Option (Move K V E) → ℕ
  ends_in number (Some (Ended n end)) = if n == number then 1 else 0
  ends_in number m = 0

  -- How often some steps end it.
  abbrev pub ends_of : ℕ → List (AcceptedStep K V E) → ℕ
  ends_of number [] = 0
  ends_of number (d ∷ ds) = ends_in number d.move + ends_of number ds

-- A place of an element in a list, with those before it.
pub record Place {A : Type 0} (a : A) (all : List A) : Type 0 where
  pub later : List A
  pub before : List A
  pub place : all ≡ later ++ a ∷ before

module _ {K V E : Type 0} where
  -- No number names two turns.
  abbrev pub NumbersName : List (AcceptedStep K V E) → Type 0
  NumbersName ds =
      (before middle after : List (Turn K V E)) (a b : Turn K V E) → turns ds ≡ before ++ a ∷ (middle ++ b ∷ after)
      → a.name.number ≢ b.name.number

  -- The waits for each turn are as many as its spent and unspent tickets together.
  abbrev pub TicketsMatch : List (AcceptedStep K V E) → Type 0
  TicketsMatch ds =
      (before after : List (Turn K V E)) (t : Turn K V E) → turns ds ≡ before ++ t ∷ after
      → waits_of t.name.number ds ≡ spent_of t.name.number ds + t.unspent

  -- The call ends the turn with this number so: a finish with that outcome, or an abandon.
  abbrev pub EndedBy : ℕ → End V E → Call K V E → Type 0
  EndedBy number end (Finish name outcome at) = (number ≡ name.number) × HandsIn outcome end
  EndedBy number end (Abandon name) = (number ≡ name.number) × (end ≡ Abandoned)
  EndedBy number end call = ⊥

  -- The call spends a ticket of the turn with this number: a collect with a result, or a leave.
  abbrev pub SpentBy : ℕ → Call K V E → Reply K V E → Type 0
  SpentBy number (Collect name) reply = (number ≡ name.number) × (reply ≢ NotYet)
  SpentBy number (Leave name) reply = number ≡ name.number
  SpentBy number call reply = ⊥

  -- The call does nothing to turns.
  abbrev pub IsIdle : Call K V E → Reply K V E → Type 0
  IsIdle call (Run name shown) = ⊥
  IsIdle call (Wait name) = ⊥
  IsIdle (Finish name outcome at) reply = ⊥
  IsIdle (Abandon name) reply = ⊥
  IsIdle (Leave name) reply = ⊥
  IsIdle (Collect name) reply = reply ≡ NotYet
  IsIdle call reply = ⊤

  -- What an accepted call does to turns, as its call and its result show it.
  abbrev pub Shows : Call K V E → Reply K V E → Option (Move K V E) → Type 0
  Shows call reply None = IsIdle call reply
  Shows call reply (Some (Opened name look kept)) = (shown : Option (Entry K V)) × (reply ≡ Run name shown)
  Shows call reply (Some (Waited number)) = (name : Name K) × (reply ≡ Wait name) × (name.number ≡ number)
  Shows call reply (Some (Ended number end)) = EndedBy number end call
  Shows call reply (Some (Spent number)) = SpentBy number call reply

module _ {K V E : Type 0} (eq : K → K → Bool) where
  -- A turn of the name was ended with this by a step, and every wait for it came before that step.
  pub record IsOutcome (ds : List (AcceptedStep K V E)) (name : Name K) (end : End V E) : Type 0 where
    pub turn : Turn K V E
    pub same : same_name eq turn.name name ≡ true
    pub step : AcceptedStep K V E
    pub place : Place step ds
    pub ends : step.move ≡ Some (Ended turn.name.number end)
    pub waits_before : waits_of turn.name.number ds ≡ waits_of turn.name.number place.before

module _ {K V E : Type 0} (eq : K → K → Bool) (settings : Settings K V) where
  -- A begin of an initializer returns `Run`.
  abbrev pub Runs : List (AcceptedStep K V E) → K → Kind → Option Bool → ℕ → Type 0
  Runs ds k kind replace at =
      (name : Name K) × (it : Accepted K V E) × (accepted eq settings ds (Begin k kind replace at) ≡ Some it)
      × (it.reply ≡ Run name None)

  -- A begin of an initializer returns `Run` exactly if no acceptable value is live and no turn of the key and kind is
  -- open.
  abbrev pub OpensExactly : List (AcceptedStep K V E) → Type 0
  OpensExactly ds = (k : K) (kind : Kind) → kind ≢ Compute → (replace : Option Bool) (at : ℕ) →
      Runs ds k kind replace at
      ↔ ((acceptable replace (live_at eq settings k at (events_in ds)) ≡ None) × (filter (is_open_for eq kind k) (turns ds) ≡ []))

  -- A begin of a compute returns `Run`.
  abbrev pub RunsCompute : List (AcceptedStep K V E) → K → Bool → ℕ → Type 0
  RunsCompute ds k keep at =
      (name : Name K) × (shown : Option (Entry K V)) × (it : Accepted K V E)
      × (accepted eq settings ds (BeginCompute k keep at) ≡ Some it) × (it.reply ≡ Run name shown)

  -- A begin of a compute returns `Run` exactly if no compute of the key is open.
  abbrev pub ComputesExactly : List (AcceptedStep K V E) → Type 0
  ComputesExactly ds = (k : K) (keep : Bool) (at : ℕ) →
      RunsCompute ds k keep at ↔ (filter (is_open_for eq Compute k) (turns ds) ≡ [])

  -- What a compute without a step between its begin and its finish returns, by the live entry and the operation.
  abbrev pub computed_at_once : K → Option (Write K V) → Op V → Reply K V E
  computed_at_once k None (ops.Put v) = Inserted (fresh_entry k v false)
  computed_at_once k (Some w) (ops.Put v) = ReplacedWith (fresh_entry k v true)
  computed_at_once k None ops.Remove = StillNone k
  computed_at_once k (Some w) ops.Remove = Removed (entry_under k w.value)
  computed_at_once k None ops.Nop = StillNone k
  computed_at_once k (Some w) ops.Nop = Unchanged (entry_under k w.value)

  -- The lookup of this begin leaves the key's value live: if one was live before it, one is live after it.
  abbrev pub LeavesLive : List (AcceptedStep K V E) → K → ℕ → Accepted K V E → Type 0
  LeavesLive ds k at begun =
      IsSome (live_at eq settings k at (events_in ds)) → IsSome (live_at eq settings k at (events_in (begun.step ∷ ds)))

  -- A compute that keeps a clone returns that, if its lookup leaves the value live.
  abbrev pub ComputesAtOnce : List (AcceptedStep K V E) → Type 0
  ComputesAtOnce ds = (k : K) (at : ℕ) (op : Op V) (name : Name K) (shown : Option (Entry K V)) (begun : Accepted K V E)
      → accepted eq settings ds (BeginCompute k true at) ≡ Some begun → begun.reply ≡ Run name shown → LeavesLive ds k at begun
      → (it : Accepted K V E) × (accepted eq settings (begun.step ∷ ds) (Finish name (outcomes.Op op) at) ≡ Some it)
      × (it.reply ≡ computed_at_once k (live_at eq settings k at (events_in ds)) op)

  -- A begin that returns a value returns one that is live and acceptable.
  abbrev pub FindsAcceptable : List (AcceptedStep K V E) → Type 0
  FindsAcceptable ds = (k : K) (kind : Kind) → kind ≢ Compute → (replace : Option Bool) (at : ℕ) (e : Entry K V) (it : Accepted K V E)
      → accepted eq settings ds (Begin k kind replace at) ≡ Some it → it.reply ≡ Entered e
      → (w : Write K V) × (acceptable replace (live_at eq settings k at (events_in ds)) ≡ Some w) × (e ≡ entry_of w)

  -- What a finish with a value tells. Its entry says whether the value was written over a live one, and the end of its
  -- turn says the same. That is one which was live just before the write, after the flush if there was one.
  pub record TellsReplaced (ds : List (AcceptedStep K V E)) (name : Name K) (v : V) (at : ℕ) (it : Accepted K V E) : Type 0 where
    pub replaced : Bool
    pub number : ℕ
    pub reply : it.reply ≡ Entered (fresh_entry name.key v replaced)
    pub ends : it.step.move ≡ Some (Ended number (Value v replaced))
    pub before : (before : List (Event K V)) → it.step.events ≡ Written name.key v at ∷ before
        → replaced ≡ is_some (live eq settings name.key (max (latest (events_in ds)) at) (before ++ events_in ds))

  -- Each finish with a value tells that.
  abbrev pub FinishTells : List (AcceptedStep K V E) → Type 0
  FinishTells ds = (name : Name K) (v : V) (at : ℕ) (it : Accepted K V E)
      → accepted eq settings ds (Finish name (outcomes.Value v) at) ≡ Some it → TellsReplaced ds name v at it

  -- Each step of the list is that of an accepted call, which shows what the step does to turns.
  abbrev pub MovesShow : List (AcceptedStep K V E) → Type 0
  MovesShow ds = (d : AcceptedStep K V E) (p : Place d ds) →
      (call : Call K V E) × (it : Accepted K V E) × (accepted eq settings p.before call ≡ Some it) × (it.step ≡ d)
      × Shows call it.reply d.move

  -- Why a state needs to keep only the held turns. They determine every result, each step makes them from those before
  -- it, and each has a number of its own below the next.
  pub record HeldSuffice (ds : List (AcceptedStep K V E)) : Type 0 where
    pub answered : (call : Call K V E) → accepted_beside eq settings (events_in ds) (held_turns ds) call ≡ accepted eq settings ds call
    pub made : (d : AcceptedStep K V E) → IsLegal eq settings (d ∷ ds) →
        held_turns (d ∷ ds) ≡ filter is_held (moved_by d.move (held_turns ds))
    pub apart : AreApart (held_turns ds)
    pub are_held : AreHeld (held_turns ds)
    pub below : (t : Turn K V E) → IsIn t (held_turns ds) → t.name.number < next_number settings (events_in ds)

  -- A collect of the name returns this.
  abbrev pub Collects : List (AcceptedStep K V E) → Name K → Reply K V E → Type 0
  Collects ds name reply = (it : Accepted K V E) × (accepted eq settings ds (Collect name) ≡ Some it) × (it.reply ≡ reply)

  -- What a collect returns is the outcome of a turn of that name.
  pub record CollectsGive (ds : List (AcceptedStep K V E)) : Type 0 where
    pub value : (name : Name K) (e : Entry K V) → Collects ds name (Entered e) →
        (e.key ≡ name.key) × (e.fresh ≡ false) × IsOutcome eq ds name (Value e.value e.replaced)
    pub nothing : (name : Name K) → Collects ds name GaveNothing → IsOutcome eq ds name Nothing
    pub failed : (name : Name K) (e : E) → Collects ds name (GaveError e) → IsOutcome eq ds name (Failed e)
    pub computed : (name : Name K) → Collects ds name HasEnded → IsOutcome eq ds name Computed
    pub abandoned : (name : Name K) → Collects ds name WasAbandoned → IsOutcome eq ds name Abandoned

  -- A finish is rejected exactly if its outcome does not fit the kind, or no open turn has the name.
  abbrev pub FinishIsRejectedExactly : List (AcceptedStep K V E) → Type 0
  FinishIsRejectedExactly ds = (name : Name K) (outcome : Outcome V E) (at : ℕ) →
      (accepted eq settings ds (Finish name outcome at) ≡ None)
      ↔ ((fits name.kind outcome ≡ false) ⊎ (found (is_open_as eq name) (turns ds) ≡ None))

  -- An abandon is rejected exactly if no open turn has the name.
  abbrev pub AbandonIsRejectedExactly : List (AcceptedStep K V E) → Type 0
  AbandonIsRejectedExactly ds = (name : Name K) →
      (accepted eq settings ds (Abandon name) ≡ None) ↔ (found (is_open_as eq name) (turns ds) ≡ None)

  -- A collect is rejected exactly if no turn of the name has an unspent ticket.
  abbrev pub CollectIsRejectedExactly : List (AcceptedStep K V E) → Type 0
  CollectIsRejectedExactly ds = (name : Name K) →
      (accepted eq settings ds (Collect name) ≡ None) ↔ (found (has_ticket_as eq name) (turns ds) ≡ None)

  -- A leave is rejected exactly if none has.
  abbrev pub LeaveIsRejectedExactly : List (AcceptedStep K V E) → Type 0
  LeaveIsRejectedExactly ds = (name : Name K) →
      (accepted eq settings ds (Leave name) ≡ None) ↔ (found (has_ticket_as eq name) (turns ds) ≡ None)

module _ {K V E : Type 0} where
  -- No more tickets of a turn are spent than waits were done for it.
  abbrev pub SpendsNoMore : List (AcceptedStep K V E) → Type 0
  SpendsNoMore ds = (number : ℕ) → spent_of number ds ≤ waits_of number ds

  -- A turn ends at most once.
  abbrev pub EndsOnce : List (AcceptedStep K V E) → Type 0
  EndsOnce ds = (number : ℕ) → ends_of number ds ≤ 1

-- Two values are unequal by a test, in either order.
abbrev pub AreUnequal : {A : Type 0} → (A → A → Bool) → A → A → Type 0
AreUnequal eq a b = (eq a b ≡ false) × (eq b a ≡ false)
