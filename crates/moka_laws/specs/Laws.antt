-- The terms of the laws over lists of events and of accepted steps.
use Rattle.std.specs.Prelude.{⊤, ◌≡◌, ◌⊎◌, ℕ, ◌+◌, ◌≤◌, ◌++◌, ◌&&◌, ◌||◌, max, Bool, true, false, if◌then◌else◌, Option, Some, None, List}
use Rattle.std.specs.Prelude.{[], ◌∷◌, filter, is_some}
use Rattle.moka_model.specs.declared.notification.RemovalCause.{RemovalCause}
use Rattle.moka_model.specs.declared.notification.RemovalCause.TheVariants.{Explicit, Expired}
use Rattle.moka_model.specs.Lives.{Settings, OwnLife, Write, has_come, deadline, life_given, hidden_by}
use Rattle.moka_model.specs.Events.{Event, Looked, Written, Invalidated, Hidden, Maintained, Drawn, latest}
use Rattle.moka_model.specs.Orders.{is_evicted, standing, live}
use Rattle.moka_model.specs.Removals.{Removal}
use Rattle.moka_model.specs.Steps.{AcceptedStep}
use Rattle.moka_model.specs.Calls.{Call, Get, ContainsKey, Insert, Invalidate, Remove, EntryCount, WeightedSize, OrInsert, Begin}
use Rattle.moka_model.specs.Calls.{BeginCompute, Finish, RunPendingTasks, RunPendingTasksUpTo}
use Rattle.moka_model.specs.Calls.{Reply, accepted, reply_of}

-- What a call returns after some accepted steps; none if it is rejected.
abbrev pub reply : {K V E : Type 0} → (K → K → Bool) → Settings K V → Call K V E → List (AcceptedStep K V E) → Option (Reply K V E)
reply eq settings call steps = reply_of (accepted eq settings steps call)

-- Some accepted steps, and these events as one step more.
abbrev pub and_then : {K V E : Type 0} → List (Event K V) → List (AcceptedStep K V E) → List (AcceptedStep K V E)
and_then events steps = record { events = events; move = None } ∷ steps

-- The moment that a call gives to be recorded, 0 if it gives none.
abbrev pub moment_of : {K V E : Type 0} → Call K V E → ℕ
moment_of (Get k at) = at
moment_of (Insert k v at) = at
moment_of (Invalidate k at) = at
moment_of (Remove k at) = at
moment_of (RunPendingTasks at) = at
moment_of (RunPendingTasksUpTo limit at) = at
moment_of (OrInsert k v at) = at
moment_of (Begin k kind replace at) = at
moment_of (BeginCompute k keep at) = at
moment_of (Finish name outcome at) = at
moment_of call = 0

-- The call may write, or open a turn.
abbrev pub IsWrite : {K V E : Type 0} → Call K V E → Type 0
IsWrite (Insert k v at) = ⊤
IsWrite (OrInsert k v at) = ⊤
IsWrite (Begin k kind replace at) = ⊤
IsWrite (BeginCompute k keep at) = ⊤
IsWrite (Finish name outcome at) = ⊤
IsWrite call = ⊥

-- The call may open a turn.
abbrev pub IsBegin : {K V E : Type 0} → Call K V E → Type 0
IsBegin (Begin k kind replace at) = ⊤
IsBegin (BeginCompute k keep at) = ⊤
IsBegin call = ⊥

-- The call only reads.
abbrev pub IsQuestion : {K V E : Type 0} → Call K V E → Type 0
IsQuestion (ContainsKey k at) = ⊤
IsQuestion EntryCount = ⊤
IsQuestion WeightedSize = ⊤
IsQuestion call = ⊥

-- Whether an event writes a key.
abbrev pub writes : {K V : Type 0} → (K → K → Bool) → K → Event K V → Bool
writes eq k (Written q v at) = eq q k
writes eq k e = false

-- Whether an event after `h` removes a key: by naming it, or as a maintenance that evicts its entry.
abbrev pub removes : {K V : Type 0} → (K → K → Bool) → Settings K V → K → Event K V → List (Event K V) → Bool
removes eq settings k (Invalidated q at) h = eq q k
removes eq settings k (Maintained limit at) h = is_evicted eq settings k limit at h
removes eq settings k e h = false

-- Whether an event after `h` writes, removes or evicts a key, which ends its stored value.
abbrev pub ends : {K V : Type 0} → (K → K → Bool) → Settings K V → K → Event K V → List (Event K V) → Bool
ends eq settings k (Written q v at) h = eq q k
ends eq settings k (Invalidated q at) h = eq q k
ends eq settings k (Maintained limit at) h = is_evicted eq settings k limit at h
ends eq settings k e h = false

-- None of these events writes the key.
abbrev pub IsUnwritten : {K V : Type 0} → (K → K → Bool) → K → List (Event K V) → Type 0
IsUnwritten eq k [] = Unit {0}
IsUnwritten eq k (e ∷ h) = (writes eq k e ≡ false) × IsUnwritten eq k h

-- None of these events, which come after `h`, removes the key.
abbrev pub IsUnremoved : {K V : Type 0} → (K → K → Bool) → Settings K V → K → List (Event K V) → List (Event K V) → Type 0
IsUnremoved eq settings k [] h = Unit {0}
IsUnremoved eq settings k (e ∷ later) h = (removes eq settings k e (later ++ h) ≡ false) × IsUnremoved eq settings k later h

-- None of these events, which come after `h`, writes or removes the key.
abbrev pub IsUntouched : {K V : Type 0} → (K → K → Bool) → Settings K V → K → List (Event K V) → List (Event K V) → Type 0
IsUntouched eq settings k [] h = Unit {0}
IsUntouched eq settings k (e ∷ later) h = (ends eq settings k e (later ++ h) ≡ false) × IsUntouched eq settings k later h

-- The last write of a key, at its place in `h`: nothing later writes or removes the key.
pub record LastWrite {K V : Type 0} (eq : K → K → Bool) (settings : Settings K V) (k : K) (h : List (Event K V)) : Type 0 where
  pub later : List (Event K V)
  pub key : K
  pub value : V
  pub at : ℕ
  pub before : List (Event K V)
  pub place : h ≡ later ++ Written key value at ∷ before
  pub same_key : eq key k ≡ true
  pub untouched : IsUntouched eq settings k later (Written key value at ∷ before)

-- The first of these events, which come after `h`, that writes or removes the key, at its place.
pub record FirstEnd {K V : Type 0} (eq : K → K → Bool) (settings : Settings K V) (k : K) (those h : List (Event K V)) : Type 0 where
  pub later : List (Event K V)
  pub event : Event K V
  pub before : List (Event K V)
  pub place : those ≡ later ++ event ∷ before
  pub ends_it : ends eq settings k event (before ++ h) ≡ true
  pub untouched : IsUntouched eq settings k before h

-- The last removal of a key, at its place in `h`: nothing later writes the key.
pub record LastRemoval {K V : Type 0} (eq : K → K → Bool) (settings : Settings K V) (k : K) (h : List (Event K V)) : Type 0 where
  pub later : List (Event K V)
  pub event : Event K V
  pub before : List (Event K V)
  pub place : h ≡ later ++ event ∷ before
  pub removes_it : removes eq settings k event before ≡ true
  pub unwritten : IsUnwritten eq k later

-- Nothing is stored for the key: it was never written, or was removed after its last write.
abbrev pub NothingStands : {K V : Type 0} → (K → K → Bool) → Settings K V → K → List (Event K V) → Type 0
NothingStands eq settings k h = IsUnwritten eq k h ⊎ LastRemoval eq settings k h

-- The write that created a key's entry, at its place: nothing was stored before it, and nothing later removes the key.
pub record FirstWrite {K V : Type 0} (eq : K → K → Bool) (settings : Settings K V) (k : K) (h : List (Event K V)) : Type 0 where
  pub later : List (Event K V)
  pub key : K
  pub value : V
  pub at : ℕ
  pub before : List (Event K V)
  pub place : h ≡ later ++ Written key value at ∷ before
  pub same_key : eq key k ≡ true
  pub absent : NothingStands eq settings k before
  pub kept : IsUnremoved eq settings k later (Written key value at ∷ before)

-- The events up to and including the last write.
abbrev pub up_to_write : {K V : Type 0} {eq : K → K → Bool} {settings : Settings K V} {k : K} {h : List (Event K V)}
    → LastWrite eq settings k h → List (Event K V)
up_to_write last = Written last.key last.value last.at ∷ last.before

-- The moments of the hits on a key among the events after `before`: its recorded lookups that found it live.
abbrev pub hits : {K V : Type 0} → (K → K → Bool) → Settings K V → K → List (Event K V) → List (Event K V) → List ℕ
hits eq settings k [] before = []
hits eq settings k (Looked q at ∷ later) before =
    let now = latest (Looked q at ∷ later ++ before) in
    if eq q k && is_some (live eq settings k now (later ++ before))
    then now ∷ hits eq settings k later before
    else hits eq settings k later before
hits eq settings k (e ∷ later) before = hits eq settings k later before

-- The greatest of some moments, 0 if there are none.
abbrev pub greatest : List ℕ → ℕ
greatest [] = 0
greatest (m ∷ ms) = max m (greatest ms)

-- Whether one of these events invalidates a value under a stored key.
abbrev pub hides : {K V : Type 0} → K → V → List (Event K V) → Bool
hides k v [] = false
hides k v (Hidden test ∷ later) = hides k v later || test k v
hides k v (e ∷ later) = hides k v later

-- The entry has the value, weight and moment of the last write. It was last accessed at the greatest moment among that
-- one and the hits since, and is invalidated if an event since invalidated it.
pub record IsAsWritten {K V : Type 0} {eq : K → K → Bool} {settings : Settings K V} {k : K} {h : List (Event K V)}
    (last : LastWrite eq settings k h) (w : Write K V) : Type 0 where
  pub value : w.value ≡ last.value
  pub weight : w.policy_weight ≡ settings.behaviour.weight last.key last.value
  pub written : w.last_modified ≡ latest (up_to_write last)
  pub used : w.last_accessed ≡ greatest (latest (up_to_write last) ∷ hits eq settings k last.later (up_to_write last))
  pub hidden : w.is_hidden ≡ hides w.key w.value last.later

-- The entry, invalidated if one of these events invalidates it.
abbrev pub hidden_since : {K V : Type 0} → List (Event K V) → Write K V → Write K V
hidden_since [] w = w
hidden_since (Hidden test ∷ later) w = hidden_by test (hidden_since later w)
hidden_since (e ∷ later) w = hidden_since later w

-- The removal is that of the last write: its value, under the stored key, which equals `k`. The cause is `Explicit` if
-- the entry was invalidated, else `Expired` if its deadline had come at that moment, else the event's own.
pub record IsRemovalOf {K V : Type 0} {eq : K → K → Bool} {settings : Settings K V} {k : K} {h : List (Event K V)}
    (last : LastWrite eq settings k h) (own : RemovalCause) (at : ℕ) (l : Removal K V) : Type 0 where
  pub stood : Write K V
  pub stands : standing eq settings k h ≡ Some stood
  pub as_written : IsAsWritten last stood
  pub key : l.key ≡ stood.key
  pub same_key : eq l.key k ≡ true
  pub value : l.value ≡ last.value
  pub cause : l.cause ≡ (if stood.is_hidden then Explicit else (if has_come (deadline settings stood) at then Expired else own))

-- The lifetime that the expiry gives to the entry at a write after `h`.
abbrev pub life_by_write : {K V : Type 0} → (K → K → Bool) → Settings K V → K → V → ℕ → List (Event K V) → Option ℕ
life_by_write eq settings k v at h = life_given settings k v (latest (Written k v at ∷ h)) (standing eq settings k h)

-- A lifetime that started at `from` has ended at a moment.
abbrev pub HasEnded : Option ℕ → ℕ → ℕ → Type 0
HasEnded life from at = (nanoseconds : ℕ) × (life ≡ Some nanoseconds) × (from + nanoseconds ≤ at)

-- An entry's own lifetime has ended at a moment.
abbrev pub OwnHasEnded : Option OwnLife → ℕ → Type 0
OwnHasEnded own at = (it : OwnLife) × (own ≡ Some it) × (it.from + it.life ≤ at)

-- Whether an event draws a sequence number: a write or a `Drawn`.
abbrev pub draws : {K V : Type 0} → Event K V → Bool
draws (Written q v at) = true
draws Drawn = true
draws e = false

-- The values written to a key, in order.
abbrev pub values_written : {K V : Type 0} → (K → K → Bool) → K → List (Event K V) → List V
values_written eq k [] = []
values_written eq k (Written q v at ∷ h) = values_written eq k h ++ (if eq q k then v ∷ [] else [])
values_written eq k (e ∷ h) = values_written eq k h

-- The values removed under a key, in order.
abbrev pub values_left : {K V : Type 0} → (K → K → Bool) → K → List (Removal K V) → List V
values_left eq k [] = []
values_left eq k (l ∷ ls) = if eq l.key k then l.value ∷ values_left eq k ls else values_left eq k ls

-- The removals of a key, in order.
abbrev pub removals_under : {K V : Type 0} → (K → K → Bool) → K → List (Removal K V) → List (Removal K V)
removals_under eq k ls = filter (λ l. eq l.key k) ls

-- The value of a stored entry, if there is one.
abbrev pub value_standing : {K V : Type 0} → Option (Write K V) → List V
value_standing None = []
value_standing (Some w) = w.value ∷ []
