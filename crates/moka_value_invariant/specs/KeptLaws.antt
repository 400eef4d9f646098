-- The laws of the value invariant.
use Rattle.std.specs.Prelude.{◌≡◌, ℕ, Bool, Option, Some, List, []}
use Rattle.moka_model.specs.declared.turns.Kind.{Kind}
use Rattle.moka_model.specs.declared.turns.Op.TheVariants.{Nop, Put}
use Rattle.moka_model.specs.declared.turns.Op.TheVariants as ops
use Rattle.moka_model.specs.declared.turns.Outcome.TheVariants as outcomes
use Rattle.moka_model.specs.Lives.{Settings}
use Rattle.moka_model.specs.Removals.{Removal}
use Rattle.moka_model.specs.Turns.{Name}
use Rattle.moka_model.specs.Steps.{AcceptedStep}
use Rattle.moka_model.specs.Calls.{Call, Get, Insert, Remove, TakeNotice, OrInsert, Begin, BeginCompute, Finish, Collect}
use Rattle.moka_model.specs.Calls.{Entry, Reply, Found, Noticed, Entered, Run, Unchanged, Inserted, ReplacedWith, Removed}
use Rattle.moka_model.specs.Calls.{accepted, after, reply_of, IsCopiedReply}
use Rattle.moka_model.specs.StandsFor.{WholeView, StandsFor, Follows, RepliesWith}
use Rattle.moka_value_invariant.specs.Keeps.{StepsKeep, CallKeeps, CallReplyKeeps, HasKeptHistory}
use Rattle.moka_value_invariant.specs.KeepLaws.{AfterKept, WhereReturned}

module _ {K V : Type 0} (E : Type 0) (keeps : K → V → Type 0) (eq : K → K → Bool) where
  -- A call whose value satisfies `keeps` leaves steps that satisfy it.
  abbrev pub CallsStayKept : Type 0
  CallsStayKept =
      (call : Call K V E) → CallKeeps keeps call → AfterKept keeps eq (λ settings steps. StepsKeep keeps (after eq settings call steps))

  -- The reply of such a call satisfies it.
  abbrev pub RepliesAreKept : Type 0
  RepliesAreKept =
      (call : Call K V E) (reply : Reply K V E) → CallKeeps keeps call → WhereReturned keeps eq call reply (CallReplyKeeps keeps call reply)

  -- Where a call returns this, the value satisfies `keeps` with this key.
  abbrev pub GivesKept : Call K V E → Reply K V E → K → V → Type 0
  GivesKept call reply k v = WhereReturned {E = E} keeps eq call reply (keeps k v)

  -- Where a call returns an entry so, its value satisfies `keeps` with the entry's key and with this one.
  abbrev pub GivesKeptEntry : Call K V E → Reply K V E → K → Entry K V → Type 0
  GivesKeptEntry call reply k e = WhereReturned {E = E} keeps eq call reply (keeps e.key e.value × keeps k e.value)

  -- What a `get` finds is kept.
  abbrev pub GetIsKept : Type 0
  GetIsKept = (k : K) (v : V) (at : ℕ) → GivesKept (Get k at) (Found (Some v)) k v

  -- So is what a `remove` returns,
  abbrev pub RemoveIsKept : Type 0
  RemoveIsKept = (k : K) (v : V) (at : ℕ) → GivesKept (Remove k at) (Found (Some v)) k v

  -- what an `or_insert` returns, if its own value is,
  abbrev pub OrInsertIsKept : Type 0
  OrInsertIsKept = (k : K) (v : V) (at : ℕ) (e : Entry K V) → keeps k v → GivesKeptEntry (OrInsert k v at) (Entered e) k e

  -- what the begin of an initializer finds,
  abbrev pub BeginIsKept : Type 0
  BeginIsKept =
      (k : K) (kind : Kind) (replace : Option Bool) (at : ℕ) (e : Entry K V) → GivesKeptEntry (Begin k kind replace at) (Entered e) k e

  -- what the begin of a compute is shown,
  abbrev pub ShownIsKept : Type 0
  ShownIsKept =
      (k : K) (keep : Bool) (at : ℕ) (name : Name K) (e : Entry K V) → GivesKeptEntry (BeginCompute k keep at) (Run name (Some e)) k e

  -- and the removed value that a notice has.
  abbrev pub NoticeIsKept : Type 0
  NoticeIsKept = (l : Removal K V) → GivesKept TakeNotice (Noticed (Some l)) l.key l.value

  -- A value that a compute puts where none was live is kept, if its caller's is.
  abbrev pub InsertedIsKept : Type 0
  InsertedIsKept =
      (name : Name K) (v : V) (at : ℕ) (e : Entry K V) → keeps name.key v
      → GivesKeptEntry (Finish name (outcomes.Op (Put v)) at) (Inserted e) name.key e

  -- So is one that it puts over a live one,
  abbrev pub ReplacedIsKept : Type 0
  ReplacedIsKept =
      (name : Name K) (v : V) (at : ℕ) (e : Entry K V) → keeps name.key v
      → GivesKeptEntry (Finish name (outcomes.Op (Put v)) at) (ReplacedWith e) name.key e

  -- the one that it removes,
  abbrev pub RemovedIsKept : Type 0
  RemovedIsKept =
      (name : Name K) (at : ℕ) (e : Entry K V) → GivesKeptEntry (Finish name (outcomes.Op ops.Remove) at) (Removed e) name.key e

  -- and the one that its begin kept.
  abbrev pub UnchangedIsKept : Type 0
  UnchangedIsKept =
      (name : Name K) (at : ℕ) (e : Entry K V) → GivesKeptEntry (Finish name (outcomes.Op Nop) at) (Unchanged e) name.key e

  -- Where a call after another returns this, the fact holds.
  abbrev pub WhereThenReturned : Call K V E → Call K V E → Reply K V E → Type 0 → Type 0
  WhereThenReturned first call reply fact =
      AfterKept keeps eq
      (λ settings steps. reply_of (accepted {E = E} eq settings (after eq settings first steps) call) ≡ Some reply → fact)

  -- A finished value that a ticket collects is kept with the key of the entry and with that of the ticket.
  abbrev pub CollectedIsKept : Type 0
  CollectedIsKept =
      (name ticket : Name K) (v : V) (at : ℕ) (e : Entry K V) → keeps name.key v
      → WhereThenReturned (Finish name (outcomes.Value v) at) (Collect ticket) (Entered e) (keeps e.key e.value × keeps ticket.key e.value)

  -- One that a lookup finds is kept with the key of the lookup.
  abbrev pub FinishedIsKept : Type 0
  FinishedIsKept =
      (name : Name K) (k : K) (v w : V) (at now : ℕ) → keeps name.key v
      → WhereThenReturned (Finish name (outcomes.Value v) at) (Get k now) (Found (Some w)) (keeps k w)

  -- One that the finish returns is kept with the key of its turn.
  abbrev pub ReturnedIsKept : Type 0
  ReturnedIsKept =
      (name : Name K) (v : V) (at : ℕ) (e : Entry K V) → keeps name.key v
      → GivesKeptEntry (Finish name (outcomes.Value v) at) (Entered e) name.key e

  -- An inserted value that a lookup finds is kept with the key of the lookup.
  abbrev pub FoundIsKept : Type 0
  FoundIsKept =
      (k q : K) (v w : V) (at now : ℕ) → keeps k v → WhereThenReturned (Insert k v at) (Get q now) (Found (Some w)) (keeps q w)

  -- So it is if nothing else was done before.
  abbrev pub FirstIsKept : Type 0
  FirstIsKept =
      (settings : Settings K V) (none : List (AcceptedStep K V E)) (k q : K) (v w : V) (at now : ℕ) → none ≡ [] → keeps k v
      → reply_of (accepted eq settings (after eq settings (Insert k v at) none) (Get q now)) ≡ Some (Found (Some w)) → keeps q w

-- The clone of a reply that satisfies `keeps` does so too.
abbrev pub CopiesAreKept : {K V : Type 0} (E : Type 0) → (V → V → Type 0) → (K → V → Type 0) → Type 0
CopiesAreKept {K} {V} E is_clone keeps =
    (call : Call K V E) (reply copy : Reply K V E) → IsCopiedReply is_clone reply copy → CallReplyKeeps keeps call reply
    → CallReplyKeeps keeps call copy

module _ {K V : Type 0} (E : Type 0) (keeps : K → V → Type 0) (eq : K → K → Bool) (is_clone : V → V → Type 0) where
  -- A state that could have come from no steps has a history that satisfies `keeps`.
  abbrev pub OpeningIsKept : Type 0
  OpeningIsKept =
      (settings : Settings K V) (view : WholeView K V E) (none : List (AcceptedStep K V E)) → none ≡ []
      → StandsFor eq is_clone settings view none → HasKeptHistory keeps eq is_clone view

  -- So has the state after a call whose value does.
  abbrev pub NextIsKept : Type 0
  NextIsKept =
      (old new : WholeView K V E) (call : Call K V E) → Follows eq is_clone old call new → CallKeeps keeps call
      → HasKeptHistory keeps eq is_clone old → HasKeptHistory keeps eq is_clone new

  -- What a state with such a history returns satisfies it.
  abbrev pub HandedOutIsKept : Type 0
  HandedOutIsKept =
      (view : WholeView K V E) (call : Call K V E) (reply : Reply K V E) → RepliesWith eq is_clone view call reply → CallKeeps keeps call
      → HasKeptHistory keeps eq is_clone view → CallReplyKeeps keeps call reply
