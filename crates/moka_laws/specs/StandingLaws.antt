-- The laws about what lookups find, what is stored, and what is removed.
use Rattle.std.specs.Prelude.{◌≡◌, ◌≢◌, ◌⊎◌, ◌↔◌, ℕ, ◌+◌, ◌<◌, ◌≤◌, max, Bool, if◌then◌else◌, Option, Some, None, IsSome, option_to_list}
use Rattle.std.specs.Prelude.{true, false, List, [], ◌∷◌, ◌++◌, length, filter, slice_get}
use Rattle.moka_model.specs.declared.notification.RemovalCause.{RemovalCause}
use Rattle.moka_model.specs.declared.notification.RemovalCause.TheVariants.{Explicit, Replaced, Size}
use Rattle.moka_model.specs.declared.turns.Outcome.TheVariants as outcomes
use Rattle.moka_model.specs.Lives.{Settings, Write, is_expired, is_live}
use Rattle.moka_model.specs.Events.{Event, Looked, Written, Invalidated, Maintained, Drawn, latest}
use Rattle.moka_model.specs.Orders.{is_evicted, standing}
use Rattle.moka_model.specs.Removals.{Removal, removals_at, removals, taken, notices_left}
use Rattle.moka_model.specs.Numbers.{next_number, stores_nothing}
use Rattle.moka_model.specs.Turns.{Name}
use Rattle.moka_model.specs.Steps.{AcceptedStep, events_in}
use Rattle.moka_model.specs.Calls.{Call, Get, ContainsKey, Insert, OrInsert, Finish, TakeNotice, Found, Contains, Entered, Noticed}
use Rattle.moka_model.specs.Calls.{accepted, entry_of, fresh_entry, live_at, flush, after, IsLegal}
use Rattle.moka_model.specs.Conserved.{given_out}
use Rattle.moka_laws.specs.Laws.{reply, and_then, IsQuestion, ends, IsUnwritten, IsUntouched, LastWrite, FirstWrite}
use Rattle.moka_laws.specs.Laws.{FirstEnd, NothingStands, up_to_write, IsAsWritten, hidden_since, IsRemovalOf, HasEnded, OwnHasEnded, draws}
use Rattle.moka_laws.specs.Laws.{life_by_write}
use Rattle.moka_laws.specs.Laws.{values_written, values_left, removals_under, value_standing}

module _ {K V E : Type 0} (eq : K → K → Bool) (settings : Settings K V) where
  -- A lookup of the key at this moment returns this value, or none.
  abbrev pub Finds : K → ℕ → Option V → List (AcceptedStep K V E) → Type 0
  Finds k at found steps = reply eq settings (Get k at) steps ≡ Some (Found found)

  -- A `contains_key` at this moment returns this.
  abbrev pub Tells : K → ℕ → Bool → List (AcceptedStep K V E) → Type 0
  Tells k at is steps = reply eq settings (ContainsKey k at) steps ≡ Some (Contains is)

  -- A lookup and a `contains_key` at this moment find nothing.
  abbrev pub Misses : K → ℕ → List (AcceptedStep K V E) → Type 0
  Misses k at steps = Finds k at None steps × Tells k at false steps

module _ {K V : Type 0} (eq : K → K → Bool) (settings : Settings K V) where
  -- The fact, if an entry written so after `h` has no lifetime of 0: neither TTL, TTI, nor one of its own.
  abbrev pub IfItLives : K → V → ℕ → List (Event K V) → Type 0 → Type 0
  IfItLives k v at h fact =
      settings.time_to_live ≢ Some 0 → settings.time_to_idle ≢ Some 0 → life_by_write eq settings k v at h ≢ Some 0 → fact

  -- An entry written so after `h` has a lifetime of 0.
  abbrev pub EndsAtOnce : K → V → ℕ → List (Event K V) → Type 0
  EndsAtOnce k v at h =
      (settings.time_to_live ≡ Some 0) ⊎ (settings.time_to_idle ≡ Some 0) ⊎ (life_by_write eq settings k v at h ≡ Some 0)

  -- The events, and a flush at this moment if one is due.
  abbrev pub flushed : ℕ → List (Event K V) → List (Event K V)
  flushed at h = flush eq settings at h ++ h

module _ {K V E : Type 0} (eq : K → K → Bool) (settings : Settings K V) (steps : List (AcceptedStep K V E)) where
  -- After a write, a lookup at its moment or an earlier one finds its value, unless a lifetime is 0.
  abbrev pub FindsWritten : Type 0
  FindsWritten =
      (k q : K) (v : V) (at now : ℕ) → eq k q ≡ true → now ≤ at
      → IfItLives eq settings k v at (events_in steps) (Finds eq settings q now (Some v) (and_then (Written k v at ∷ []) steps))

  -- After a write of an entry with a lifetime of 0, no lookup finds anything.
  abbrev pub MissesWritten : Type 0
  MissesWritten =
      (k q : K) (v : V) (at now : ℕ) → eq k q ≡ true → EndsAtOnce eq settings k v at (events_in steps)
      → Finds eq settings q now None (and_then (Written k v at ∷ []) steps)

  -- After an `insert`, a lookup at its moment or an earlier one finds its value, unless the capacity or a lifetime is 0.
  abbrev pub FindsInserted : Type 0
  FindsInserted =
      (k q : K) (v : V) (at now : ℕ) → eq k q ≡ true → now ≤ at → stores_nothing settings.max_capacity ≡ false
      → IfItLives eq settings k v at (flushed eq settings at (events_in steps))
      (Finds eq settings q now (Some v) (after eq settings (Insert k v at) steps))

  -- At a capacity of 0, no lookup finds anything after an `insert`.
  abbrev pub MissesInserted : Type 0
  MissesInserted =
      (k q : K) (v : V) (at now : ℕ) → stores_nothing settings.max_capacity ≡ true → IsLegal eq settings steps
      → Finds eq settings q now None (after eq settings (Insert k v at) steps)

  -- After a turn is finished with a value, a lookup at its moment or an earlier one finds it, unless the capacity or a
  -- lifetime is 0.
  abbrev pub FindsFinished : Type 0
  FindsFinished =
      (name : Name K) (q : K) (v : V) (at now : ℕ) → eq name.key q ≡ true → now ≤ at → stores_nothing settings.max_capacity ≡ false
      → IfItLives eq settings name.key v at (flushed eq settings at (events_in steps))
      (IsSome (accepted eq settings steps (Finish name (outcomes.Value v) at))
      → Finds eq settings q now (Some v) (after eq settings (Finish name (outcomes.Value v) at) steps))

  -- An `or_insert` on a live value returns its entry, and is the same step as a `get`, which finds the value.
  abbrev pub OrInsertHits : Type 0
  OrInsertHits =
      (k : K) (v : V) (at : ℕ) (w : Write K V) → live_at eq settings k at (events_in steps) ≡ Some w
      → (reply eq settings (OrInsert k v at) steps ≡ Some (Entered (entry_of w)))
      × Finds eq settings k at (Some w.value) steps
      × (after eq settings (OrInsert k v at) steps ≡ after eq settings (Get k at) steps)

  -- An `or_insert` without a live value returns its own, as fresh.
  abbrev pub OrInsertIsFresh : Type 0
  OrInsertIsFresh =
      (k : K) (v : V) (at : ℕ) → live_at eq settings k at (events_in steps) ≡ None
      → reply eq settings (OrInsert k v at) steps ≡ Some (Entered (fresh_entry k v false))

  -- After that, a lookup at its moment or an earlier one finds the value, unless the capacity or a lifetime is 0.
  abbrev pub FindsOrInserted : Type 0
  FindsOrInserted =
      (k q : K) (v : V) (at now : ℕ) → eq k q ≡ true → now ≤ at → stores_nothing settings.max_capacity ≡ false
      → IfItLives eq settings k v at (flushed eq settings at (Looked k at ∷ events_in steps))
      (live_at eq settings k at (events_in steps) ≡ None
      → Finds eq settings q now (Some v) (after eq settings (OrInsert k v at) steps))

  -- A lookup returns the value of the last write, and `contains_key` that it is there, while the entry is live.
  abbrev pub FindsLastWrite : Type 0
  FindsLastWrite =
      (k : K) (at : ℕ) (last : LastWrite eq settings k (events_in steps)) → (w : Write K V) × IsAsWritten last w
      × Finds eq settings k at (if is_live settings w (max (latest (events_in steps)) at) then Some last.value else None) steps
      × Tells eq settings k at (is_live settings w (max (latest (events_in steps)) at)) steps

  -- If nothing is stored, they find nothing.
  abbrev pub FindsNothing : Type 0
  FindsNothing = (k : K) (at : ℕ) → NothingStands eq settings k (events_in steps) → Misses eq settings k at steps

  -- Lookups of equal keys return the same.
  abbrev pub EqualKeysFindTheSame : Type 0
  EqualKeysFindTheSame =
      (k q : K) (at : ℕ) → eq k q ≡ true
      → (reply eq settings (Get k at) steps ≡ reply eq settings (Get q at) steps)
      × (reply eq settings (ContainsKey k at) steps ≡ reply eq settings (ContainsKey q at) steps)

  -- A call that only reads is a step without events and without a move.
  abbrev pub QuestionIsNoEvent : Type 0
  QuestionIsNoEvent = (call : Call K V E) → IsQuestion call → after eq settings call steps ≡ and_then [] steps

  -- A call that takes a notice returns the first removal that was not taken.
  abbrev pub TakesNext : Type 0
  TakesNext =
      reply eq settings TakeNotice steps
      ≡ Some (Noticed (slice_get (removals eq settings (events_in steps)) (taken eq settings (events_in steps))))

  -- It takes only what it returns.
  abbrev pub TakesWhatItReturns : Type 0
  TakesWhatItReturns =
      (o : Option (Removal K V)) → reply eq settings TakeNotice steps ≡ Some (Noticed o)
      → given_out eq settings (events_in (after eq settings TakeNotice steps))
      ≡ given_out eq settings (events_in steps) ++ option_to_list o

  -- It returns none exactly if all removals were taken.
  abbrev pub TakesNoneAtTheEnd : Type 0
  TakesNoneAtTheEnd =
      (reply eq settings TakeNotice steps ≡ Some (Noticed None))
      ↔ (given_out eq settings (events_in steps) ≡ removals eq settings (events_in steps))

module _ {K V : Type 0} (eq : K → K → Bool) (settings : Settings K V) (h : List (Event K V)) where
  -- The values written to a key are those removed under it, and then the stored one.
  abbrev pub ValuesAreInOrder : Type 0
  ValuesAreInOrder =
      (k : K) → values_written eq k h ≡ values_left eq k (removals eq settings h) ++ value_standing (standing eq settings k h)

  -- As many values that pass a test were written to a key as are stored under it and were removed under it.
  abbrev pub ValuesAreCounted : Type 0
  ValuesAreCounted =
      (k : K) (p : V → Bool) → length (filter p (values_written eq k h))
      ≡ length (filter p (value_standing (standing eq settings k h))) + length (filter p (values_left eq k (removals eq settings h)))

  -- The removals taken, and then the queued notices, are all removals.
  abbrev pub NoticesAreRemovals : Type 0
  NoticesAreRemovals = given_out eq settings h ++ notices_left eq settings h ≡ removals eq settings h

  -- As many removals are taken as notices, and no more than there are.
  abbrev pub TakenAreCounted : Type 0
  TakenAreCounted =
      (length (given_out eq settings h) ≡ taken eq settings h) × (taken eq settings h ≤ length (removals eq settings h))

  -- The last write of a key stands.
  abbrev pub LastWriteStands : Type 0
  LastWriteStands =
      (k : K) (last : LastWrite eq settings k h) → (w : Write K V) × (standing eq settings k h ≡ Some w) × IsAsWritten last w

  -- What stands is the last write of its key.
  abbrev pub StandsByItsLastWrite : Type 0
  StandsByItsLastWrite =
      (k : K) (w : Write K V) → standing eq settings k h ≡ Some w → (last : LastWrite eq settings k h) × IsAsWritten last w

  -- Nothing stands for a key exactly if it was never written, or was removed since.
  abbrev pub NoneStandsExactly : Type 0
  NoneStandsExactly = (k : K) → (standing eq settings k h ≡ None) ↔ NothingStands eq settings k h

  -- The stored key is that of the write that created the entry.
  abbrev pub FirstWriteHasTheKey : Type 0
  FirstWriteHasTheKey =
      (k : K) (first : FirstWrite eq settings k h) → (w : Write K V) × (standing eq settings k h ≡ Some w) × (w.key ≡ first.key)

  -- What stands was created by such a write.
  abbrev pub StandsByItsFirstWrite : Type 0
  StandsByItsFirstWrite =
      (k : K) (w : Write K V) → standing eq settings k h ≡ Some w → (first : FirstWrite eq settings k h) × (w.key ≡ first.key)

  -- A key has one last write.
  abbrev pub LastWriteIsOne : Type 0
  LastWriteIsOne = (k : K) (a b : LastWrite eq settings k h) → (a.later ≡ b.later) × (up_to_write a ≡ up_to_write b)

  -- Equal keys have the same entry.
  abbrev pub EqualKeysStandAlike : Type 0
  EqualKeysStandAlike = (k q : K) → eq k q ≡ true → standing eq settings k h ≡ standing eq settings q h

  -- This event removes the last write of the key, and nothing else, with this cause.
  abbrev pub RemovesJust : {k : K} → LastWrite eq settings k h → RemovalCause → Event K V → Type 0
  RemovesJust last cause e =
      (l : Removal K V) × (removals_at eq settings e h ≡ l ∷ []) × IsRemovalOf last cause (latest (e ∷ h)) l

  -- A write of an equal key removes the last write, as `Replaced`.
  abbrev pub WriteRemoves : Type 0
  WriteRemoves =
      (k q : K) (v : V) (at : ℕ) (last : LastWrite eq settings k h) → eq q k ≡ true → RemovesJust last Replaced (Written q v at)

  -- An invalidation of an equal key removes it, as `Explicit`.
  abbrev pub InvalidationRemoves : Type 0
  InvalidationRemoves =
      (k q : K) (at : ℕ) (last : LastWrite eq settings k h) → eq q k ≡ true → RemovesJust last Explicit (Invalidated q at)

  -- A maintenance that evicts the key's entry removes it, as `Size`, and nothing else of the key.
  abbrev pub EvictionRemoves : Type 0
  EvictionRemoves =
      (k : K) (limit : Option ℕ) (at : ℕ) (last : LastWrite eq settings k h) → is_evicted eq settings k limit at h ≡ true
      → (l : Removal K V) × (removals_under eq k (removals_at eq settings (Maintained limit at) h) ≡ l ∷ [])
      × IsRemovalOf last Size (latest (Maintained limit at ∷ h)) l

  -- A maintenance that does not evict the key's entry removes nothing of the key.
  abbrev pub NoEvictionKeeps : Type 0
  NoEvictionKeeps =
      (k : K) (limit : Option ℕ) (at : ℕ) → is_evicted eq settings k limit at h ≡ false
      → removals_under eq k (removals_at eq settings (Maintained limit at) h) ≡ []

  -- An event that removes something ends the last write of a key.
  abbrev pub RemovesLastWritesAlone : Type 0
  RemovesLastWritesAlone =
      (e : Event K V) → removals_at eq settings e h ≢ [] → (k : K) × (ends eq settings k e h ≡ true) × LastWrite eq settings k h

  -- An event removes nothing of a key for which nothing stands.
  abbrev pub RemovesNothingUnwritten : Type 0
  RemovesNothingUnwritten =
      (e : Event K V) (k : K) → ends eq settings k e h ≡ true → NothingStands eq settings k h → removals_at eq settings e h ≡ []

  -- An event that ends no key's value removes nothing.
  abbrev pub RemovesNothingElse : Type 0
  RemovesNothingElse = (e : Event K V) → ((k : K) → ends eq settings k e h ≡ false) → removals_at eq settings e h ≡ []

module _ {K V : Type 0} (eq : K → K → Bool) (settings : Settings K V) (later h : List (Event K V)) where
  -- The later events leave a key alone, or one of them is the first to end its value.
  abbrev pub IsLeftOrEnded : Type 0
  IsLeftOrEnded = (k : K) → IsUntouched eq settings k later h ⊎ FirstEnd eq settings k later h

  -- A key's value has one first end.
  abbrev pub FirstEndIsOne : Type 0
  FirstEndIsOne =
      (k : K) (a b : FirstEnd eq settings k later h) → (a.later ≡ b.later) × ((a.event ∷ a.before) ≡ (b.event ∷ b.before))

  -- An entry that is not live stays as it is, but that it may be invalidated, until its key is written or removed.
  abbrev pub DeadStays : Type 0
  DeadStays =
      (k : K) (w : Write K V) → standing eq settings k h ≡ Some w → is_live settings w (latest h) ≡ false
      → IsUntouched eq settings k later h → standing eq settings k (later ++ h) ≡ Some (hidden_since later w)

module _ {K V E : Type 0} (eq : K → K → Bool) (settings : Settings K V) (later steps : List (AcceptedStep K V E)) where
  -- After a `get` that finds nothing, no lookup finds anything until the key is written.
  abbrev pub StaysMissed : Type 0
  StaysMissed =
      (k : K) (at now : ℕ) → Finds eq settings k at None steps → IsUnwritten eq k (events_in later)
      → Misses eq settings k now (later ++ after eq settings (Get k at) steps)

module _ {K V : Type 0} (settings : Settings K V) where
  -- An entry is live exactly if it is neither invalidated nor expired.
  abbrev pub IsLiveExactly : Write K V → ℕ → Type 0
  IsLiveExactly w at = (is_live settings w at ≡ true) ↔ ((w.is_hidden ≡ false) × (is_expired settings w at ≡ false))

  -- An entry is expired exactly if its TTL since it was written, its TTI since it was last accessed, or its own lifetime
  -- has ended.
  abbrev pub IsExpiredExactly : Write K V → ℕ → Type 0
  IsExpiredExactly w at =
      (is_expired settings w at ≡ true)
      ↔ (HasEnded settings.time_to_live w.last_modified at ⊎ HasEnded settings.time_to_idle w.last_accessed at
      ⊎ OwnHasEnded w.own_life at)

  -- An entry that is expired at a moment is so at each later one.
  abbrev pub StaysExpired : Write K V → Type 0
  StaysExpired w = (at later : ℕ) → at ≤ later → is_expired settings w at ≡ true → is_expired settings w later ≡ true

  -- An entry that is not live at a moment is not so at any later one.
  abbrev pub StaysDead : Write K V → Type 0
  StaysDead w = (at later : ℕ) → at ≤ later → is_live settings w at ≡ false → is_live settings w later ≡ false

  -- The next number is the first one plus how many were drawn.
  abbrev pub NumbersAreCounted : List (Event K V) → Type 0
  NumbersAreCounted h = next_number settings h ≡ settings.first_number + length (filter draws h)

  -- A write draws one number, and so does a `Drawn`.
  abbrev pub DrawsOne : List (Event K V) → Type 0
  DrawsOne h =
      (k : K) (v : V) (at : ℕ) → (next_number settings (Written k v at ∷ h) ≡ next_number settings h + 1)
      × (next_number settings (Drawn ∷ h) ≡ next_number settings h + 1)

  module _ (later h : List (Event K V)) where
    -- The next number never decreases.
    abbrev pub NumbersNeverFall : Type 0
    NumbersNeverFall = next_number settings h ≤ next_number settings (later ++ h)

    -- After an event that draws one, it is greater.
    abbrev pub NumbersGrow : Type 0
    NumbersGrow = (e : Event K V) → draws e ≡ true → next_number settings h < next_number settings (later ++ e ∷ h)
