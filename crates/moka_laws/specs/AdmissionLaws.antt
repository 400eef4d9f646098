-- The terms of the laws about admission.
use Rattle.std.specs.Prelude.{◌≡◌, ◌⊎◌, ◌↔◌, ◌≤◌, ◌<◌, ◌+◌, ℕ, Bool, true, false, Option, Some, None, List, [], ◌∷◌, ◌++◌}
use Rattle.std.specs.Prelude.{take, drop, map, option_to_list}
use Rattle.std.specs.List.{AllByRecursion}
use Rattle.moka_model.specs.Maintenance.{total, front}
use Rattle.moka_model.specs.Lives.{Settings, Write}
use Rattle.moka_model.specs.MaintenanceLaws.{queues}
use Rattle.moka_model.specs.Events.{Event, Looked, TurnedDown, Maintained}
use Rattle.moka_model.specs.Admission.{notes, frequency}
use Rattle.moka_model.specs.Orders.{standing, orders}
use Rattle.moka_model.specs.OrderLaws.{is_admitted}
use Rattle.moka_model.specs.SizeLaws.{lives, gone}

-- The key that a recorded lookup looks up; none for other events.
abbrev pub looked_for : {K V : Type 0} → Event K V → Option K
looked_for (Looked k at) = Some k
looked_for (TurnedDown k at) = Some k
looked_for e = None

-- The keys that recorded lookups looked up, with or without success, the oldest first.
abbrev pub all_looked_for : {K V : Type 0} → List (Event K V) → List K
all_looked_for [] = []
all_looked_for (e ∷ h) = all_looked_for h ++ option_to_list (looked_for e)

-- The terms of one maintenance at a capacity, after the events `h`.
module _ {K V : Type 0} (eq : K → K → Bool) (settings : Settings K V) (h : List (Event K V)) (capacity : ℕ) where
  -- How many residents have to be evicted, the least recently used first, to make room for a pending entry.
  abbrev pub victim_count : Write K V → ℕ
  victim_count w = front (λ u. u.policy_weight) (Some capacity) w.policy_weight (orders eq settings h).admitted

  -- The victims: the residents that have to be evicted.
  abbrev pub victims : Write K V → List (Write K V)
  victims w = take (victim_count w) (orders eq settings h).admitted

  -- The residents that can stay.
  abbrev pub others : Write K V → List (Write K V)
  others w = drop (victim_count w) (orders eq settings h).admitted

  -- The total weight of the residents.
  abbrev pub admitted_weight : ℕ
  admitted_weight = total (λ u. u.policy_weight) (orders eq settings h).admitted

-- The sum of the estimated frequencies of some entries.
abbrev pub frequencies : {K V : Type 0} → Settings K V → List (Event K V) → List (Write K V) → ℕ
frequencies settings h ws = total (λ u. frequency settings h u.hash) ws

-- The entry is the only pending one before a maintenance. It and all residents are live, and these are within the
-- capacity.
pub record WaitsAlone {K V : Type 0} (eq : K → K → Bool) (settings : Settings K V) (at : ℕ) (h : List (Event K V)) (capacity : ℕ)
    (w : Write K V) : Type 0 where
  pub capacity_is : settings.max_capacity ≡ Some capacity
  pub alone : (orders eq settings h).waiting ≡ w ∷ []
  pub all_live : AllByRecursion (λ u. lives eq settings at h u ≡ true) (w ∷ (orders eq settings h).admitted)
  pub within : admitted_weight eq settings h capacity ≤ capacity

module _ {K V : Type 0} (settings : Settings K V) (h : List (Event K V)) where
  -- The notes are the hashes of the keys that were looked up.
  abbrev pub NotesLooks : Type 0
  NotesLooks = notes settings h ≡ map settings.behaviour.hash (all_looked_for h)

  -- The frequency of a hash once this key's hash is noted too.
  abbrev pub frequency_with : K → ℕ → ℕ
  frequency_with k hash = settings.frequency (notes settings h ++ settings.behaviour.hash k ∷ []) hash

  -- A recorded lookup notes its key's hash, whether or not it finds a value that is not replaced.
  abbrev pub LooksAreNoted : Type 0
  LooksAreNoted =
      (k : K) (at hash : ℕ) → (frequency settings (Looked k at ∷ h) hash ≡ frequency_with k hash)
      × (frequency settings (TurnedDown k at ∷ h) hash ≡ frequency_with k hash)

  -- Another event changes no frequency.
  abbrev pub NothingElseIsNoted : Type 0
  NothingElseIsNoted =
      (e : Event K V) (hash : ℕ) → looked_for e ≡ None → frequency settings (e ∷ h) hash ≡ frequency settings h hash

-- Later lookups are noted behind the earlier ones.
abbrev pub NotesLaterLooks : {K V : Type 0} → Settings K V → List (Event K V) → List (Event K V) → Type 0
NotesLaterLooks settings later h =
    notes settings (later ++ h) ≡ notes settings h ++ map settings.behaviour.hash (all_looked_for later)

module _ {K V : Type 0} (eq : K → K → Bool) (settings : Settings K V) (h : List (Event K V)) where
  -- A stored entry has the hash of its stored key.
  abbrev pub HasItsKeysHash : Type 0
  HasItsKeysHash = (k : K) (w : Write K V) → standing eq settings k h ≡ Some w → w.hash ≡ settings.behaviour.hash w.key

  -- The law holds of each maintenance at a capacity before which one entry is pending and all are live.
  abbrev pub AtEachAlone : (ℕ → ℕ → Write K V → Type 0) → Type 0
  AtEachAlone law = (at capacity : ℕ) (w : Write K V) → WaitsAlone eq settings at h capacity w → law at capacity w

  module _ (at capacity : ℕ) (w : Write K V) where
    -- The entry and all residents together are within the capacity.
    abbrev pub HasRoom : Type 0
    HasRoom = w.policy_weight + admitted_weight eq settings h capacity ≤ capacity

    -- The entry and all residents together exceed the capacity.
    abbrev pub HasNoRoom : Type 0
    HasNoRoom = capacity < w.policy_weight + admitted_weight eq settings h capacity

    -- The estimated frequencies of its victims together.
    abbrev pub victims_frequency : ℕ
    victims_frequency = frequencies settings h (victims eq settings h capacity w)

    -- The maintenance evicts these entries, and leaves these residents and nothing pending.
    abbrev pub Leaves : List (Write K V) → List (Write K V) → Type 0
    Leaves those residents =
        (gone eq settings at h ≡ those) × (orders eq settings (Maintained None at ∷ h) ≡ queues residents [])

    -- The entry is admitted, and its victims are evicted.
    abbrev pub Enters : Type 0
    Enters = Leaves (victims eq settings h capacity w) (others eq settings h capacity w ++ w ∷ [])

    -- The entry is dropped, and the residents stay.
    abbrev pub IsDropped : Type 0
    IsDropped = Leaves (w ∷ []) (orders eq settings h).admitted

  -- With room for it, the entry is admitted, and nothing is evicted.
  abbrev pub EntersWithRoom : Type 0
  EntersWithRoom =
      AtEachAlone (λ at capacity w. HasRoom at capacity w → Leaves at capacity w [] ((orders eq settings h).admitted ++ w ∷ []))

  -- Heavier than the capacity, it is dropped.
  abbrev pub IsDroppedTooHeavy : Type 0
  IsDroppedTooHeavy = AtEachAlone (λ at capacity w. capacity < w.policy_weight → IsDropped at capacity w)

  -- Under LRU it is admitted if it is no heavier than the capacity.
  abbrev pub EntersByUse : Type 0
  EntersByUse =
      AtEachAlone (λ at capacity w. settings.behaviour.is_lru ≡ true → w.policy_weight ≤ capacity → Enters at capacity w)

  -- Under TinyLFU it is admitted exactly if there is room, or if it is no heavier than the capacity and its frequency
  -- exceeds that of its victims together.
  abbrev pub EntersExactly : Type 0
  EntersExactly = AtEachAlone (λ at capacity w. settings.behaviour.is_lru ≡ false
      → (is_admitted eq settings (Maintained None at ∷ h) w.key ≡ true)
      ↔ (HasRoom at capacity w ⊎ ((w.policy_weight ≤ capacity) × (victims_frequency at capacity w < frequency settings h w.hash))))

  -- Under TinyLFU it is admitted if it is asked for more often than its victims together.
  abbrev pub EntersByFrequency : Type 0
  EntersByFrequency = AtEachAlone (λ at capacity w. settings.behaviour.is_lru ≡ false → w.policy_weight ≤ capacity
      → victims_frequency at capacity w < frequency settings h w.hash → Enters at capacity w)

  -- Without room, it is dropped if it is not asked for more often.
  abbrev pub IsDroppedByFrequency : Type 0
  IsDroppedByFrequency = AtEachAlone (λ at capacity w. settings.behaviour.is_lru ≡ false → HasNoRoom at capacity w
      → frequency settings h w.hash ≤ victims_frequency at capacity w → IsDropped at capacity w)

  -- Without room, it is dropped also if it is asked for just as often.
  abbrev pub IsDroppedIfEqual : Type 0
  IsDroppedIfEqual = AtEachAlone (λ at capacity w. settings.behaviour.is_lru ≡ false → HasNoRoom at capacity w
      → frequency settings h w.hash ≡ victims_frequency at capacity w → gone eq settings at h ≡ w ∷ [])
