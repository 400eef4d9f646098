-- The begin of a turn.
use Rattle.std.specs.Prelude.{⊤, ◌≡◌, ◌≢◌, ◌⊎◌, ℕ, max, Bool, true, false, Option, Some, None, List, Result, Ok, Err, IsSome, OnOk, OnErr}
use Rattle.std.specs.Arc.{arc_value}
use denote.Ref.{Bor}
use Rattle.std.specs.Fn.{Mut, TakesAt}
use Rattle.moka_policy.specs.declared.policy.Refused.{Refused}
use Rattle.moka_policy.specs.declared.policy.Refused.TheVariants as causes
use Rattle.moka_model.specs.declared.turns.Kind.{Kind}
use Rattle.moka_model.specs.declared.turns.Kind.TheVariants.{Compute}
use Rattle.moka_model.specs.declared.entry.Entry.{Entry}
use Rattle.moka_model.specs.Entries.{entry_of}
use Rattle.moka_model.specs.Lives.{Settings, Write, is_live}
use Rattle.moka_model.specs.Turns.{IsIn}
use Rattle.moka_model.specs.Steps.{AcceptedStep, events_in}
use Rattle.moka_model.specs.Calls.{Call, Begin, Entered, acceptable, live_at}
use Rattle.moka_expiration.specs.StateData.{SettingsData, StateData}
use Rattle.moka_table.specs.LiveEntry.{IsCalledOnce, IsSaid}
use Rattle.moka_state.specs.State.{all_writes}
use Rattle.moka_state.specs.BegunOf.{BegunOf}
use Rattle.moka_single_flight.specs.declared.replies.Begun.TheVariants as begins
use Rattle.moka_state.specs.Given.{FailsToBegin, Gives, of_begin}

-- The closure may be called at each value that satisfies the invariant.
abbrev pub TakesKept : {V P : Type 0} → (V → Type 0) → Mut P (Bor V × Unit {0}) Bool → P → Type 0
TakesKept {V} keeps call f = (v : V) → keeps v → TakesAt call f v

-- The closure may be called at the value that is live for the key, which satisfies the invariant with the key. Live
-- means at the moment, or at the latest one if that is later.
abbrev pub TakesLive : {K V H W X F E P : Type 0} → (K → K → Bool) → (K → V → Type 0) → (SettingsData H W X → Settings K V) →
    Mut P (Bor V × Unit {0}) Bool → K → ℕ → StateData K V H W X F E → P → Type 0
TakesLive {K} {V} eq keeps settings_in call key at state f =
    (w : Write K V) → IsIn w (all_writes state) → eq w.key key ≡ true
    → is_live (settings_in state.settings) w (max state.books.latest at) ≡ true → keeps key w.value → TakesAt call f w.value

-- The closure is as it was, or was called once, at a value that satisfies the invariant.
abbrev pub IsShownKept : {V P : Type 0} → (V → Type 0) → Mut P (Bor V × Unit {0}) Bool → Option P → Option P → Type 0
IsShownKept {V} keeps call old new = (new ≡ old) ⊎ ((v : V) × keeps v × IsCalledOnce call old v new)

-- What `replace_if` returns for the live value; none if no value is live or there is no `replace_if`.
abbrev pub IsSaidOf : {K V F : Type 0} → Mut F (Bor V × Unit {0}) Bool → Option F → Option (Write K V) → Option Bool → Type 0
IsSaidOf call replace_if None said = said ≡ None
IsSaidOf call replace_if (Some w) said = IsSaid call replace_if w.value said

-- A lookup finds no acceptable value: none is live, or the live one was turned down. Or it returns the entry that a
-- begin of any loader would return. Or it finds an acceptable value, and fails with `OutOfMemory`.
abbrev pub GivesLook : {K V E : Type 0} → (K → K → Bool) → (V → V → Type 0) → (V → Type 0) → Settings K V →
    List (AcceptedStep K V E) → K → Option Bool → ℕ → Result (Option (Entry K V)) Refused → Type 0
GivesLook eq is_clone is_infallible settings steps key said at (Ok None) =
    acceptable said (live_at eq settings key at (events_in steps)) ≡ None
GivesLook eq is_clone is_infallible settings steps key said at (Ok (Some entry)) =
    (kind : Kind) → kind ≢ Compute → Gives eq is_clone is_infallible settings steps (Begin key kind said at) (Ok (Entered (entry_of entry)))
GivesLook eq is_clone is_infallible settings steps key said at (Err cause) =
    (cause ≡ causes.OutOfMemory) × IsSome (acceptable said (live_at eq settings key at (events_in steps)))

-- P if the lookup found an entry, Q if it found none or failed.
abbrev pub ByFound : {K V : Type 0} → Type 0 → Type 0 → Result (Option (Entry K V)) Refused → Type 0
ByFound P Q (Ok (Some entry)) = P
ByFound P Q result = Q

-- A lookup ends as `gives` says. If it found an entry, `follows` holds; else nothing has changed.
pub record LookEnds {K V H W X F E : Type 0} (gives : Result (Option (Entry K V)) Refused → Type 0) (follows : Type 0)
    (old new : StateData K V H W X F E) (result : Result (Option (Entry K V)) Refused) : Type 0 where
  pub reply : gives result
  pub stands : ByFound follows (new ≡ old) result

-- Only a begin that may wait returns a ticket. One that may not fails with `TurnIsOpen` exactly where it would have to
-- wait. Any other result is the one of the specification.
abbrev pub GivesBegun : {K V E : Type 0} → (K → K → Bool) → (V → V → Type 0) → (V → Type 0) → Settings K V →
    List (AcceptedStep K V E) → Call K V E → Bool → Result (BegunOf K V) Refused → Type 0
GivesBegun eq is_clone is_infallible settings steps call may_wait (Ok (begins.Wait ticket)) =
    (may_wait ≡ true) × Gives eq is_clone is_infallible settings steps call (of_begin (Ok (begins.Wait ticket)))
GivesBegun eq is_clone is_infallible settings steps call may_wait (Ok begun) =
    Gives eq is_clone is_infallible settings steps call (of_begin (Ok begun))
GivesBegun eq is_clone is_infallible settings steps call may_wait (Err cause) =
    FailsToBegin eq is_clone is_infallible settings steps call may_wait cause

-- A begin ends as `gives` says. If it succeeds, `follows` holds; if it fails, nothing has changed.
pub record BeginEnds {K V H W X F E : Type 0} (gives : Result (BegunOf K V) Refused → Type 0) (follows : Type 0)
    (old new : StateData K V H W X F E) (result : Result (BegunOf K V) Refused) : Type 0 where
  pub reply : gives result
  pub stands : OnOk result follows
  pub refused : OnErr result (new ≡ old)

-- The turn or the ticket that is returned has this kind, and exactly this key.
abbrev pub IsNamed : {K V : Type 0} → Kind → K → BegunOf K V → Type 0
IsNamed kind key (begins.Found entry) = ⊤
IsNamed kind key (begins.Run turn) = (turn.key.kind ≡ kind) × (arc_value turn.key.key ≡ key)
IsNamed kind key (begins.Wait ticket) = (ticket.key.kind ≡ kind) × (arc_value ticket.key.key ≡ key)

-- The value that is found, if any, satisfies the invariant with the stored key.
abbrev pub FoundKeeps : {K V : Type 0} → (K → V → Type 0) → BegunOf K V → Type 0
FoundKeeps keeps (begins.Found entry) = keeps (entry_of entry).key (entry_of entry).value
FoundKeeps keeps begun = ⊤

-- The value of an entry satisfies the invariant with the stored key, and with the key that was looked up.
abbrev pub EntryKeeps : {K V : Type 0} → (K → V → Type 0) → K → Entry K V → Type 0
EntryKeeps keeps key entry = keeps (entry_of entry).key (entry_of entry).value × keeps key (entry_of entry).value

-- P if a ticket is returned.
abbrev pub IfWait : {K V : Type 0} → Type 0 → BegunOf K V → Type 0
IfWait P (begins.Wait ticket) = P
IfWait P begun = ⊤

-- The value that is found, if any, satisfies the invariant with the key that was looked up.
abbrev pub FoundKeepsFor : {K V : Type 0} → (K → V → Type 0) → K → BegunOf K V → Type 0
FoundKeepsFor keeps key (begins.Found entry) = keeps key (entry_of entry).value
FoundKeepsFor keeps key begun = ⊤

-- The key that a call by reference uses: the given one, or a clone, which equals the given one.
abbrev pub IsAsked : {K : Type 0} → (K → K → Bool) → (K → K → Type 0) → K → K → Type 0
IsAsked eq is_clone key asked = (eq key asked ≡ true) × ((asked ≡ key) ⊎ is_clone key asked)
