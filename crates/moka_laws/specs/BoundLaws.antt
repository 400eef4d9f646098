-- The laws about the bounded size of a cache.
use Rattle.std.specs.Prelude.{◌≡◌, ◌≢◌, ℕ, Option, ◌+◌, ◌≤◌, Bool, true, false, Some, None, List, [], ◌∷◌, ◌++◌, length, take, drop, map}
use Rattle.std.specs.Prelude.{filter}
use Rattle.std.specs.List.{AllByRecursion}
use Rattle.moka_model.specs.declared.notification.RemovalCause.TheVariants.{Size}
use Rattle.moka_model.specs.Lives.{Settings, Write, is_live}
use Rattle.moka_model.specs.Events.{Event, Maintained, latest}
use Rattle.moka_model.specs.Maintenance.{Queues, total}
use Rattle.moka_model.specs.MaintenanceLaws.{AreAmong}
use Rattle.moka_model.specs.Numbers.{drawn_in, entry_count, weighted_size, stores_nothing, flush_point}
use Rattle.moka_model.specs.Orders.{is_left_at, orders, standing}
use Rattle.moka_model.specs.Removals.{removals_at, removals}
use Rattle.moka_model.specs.SizeLaws.{WeighsOnes, LimitsSome, lives, dead, living, gone, gone_behind, excess, overweight}
use Rattle.moka_model.specs.SizeLaws.{removal_as, dead_removal}
use Rattle.moka_model.specs.Steps.{AcceptedStep, events_in}
use Rattle.moka_model.specs.Calls.{IsLegal, write_events}
use Rattle.moka_laws.specs.StandingLaws.{Misses}

module _ {K V : Type 0} (eq : K → K → Bool) (settings : Settings K V) (h : List (Event K V)) where
  -- The orders after a full maintenance.
  abbrev pub maintained : ℕ → Queues (Write K V)
  maintained at = orders eq settings (Maintained None at ∷ h)

  -- After a full maintenance nothing is pending.
  abbrev pub NoneWaitsThen : Type 0
  NoneWaitsThen = (at : ℕ) → (maintained at).waiting ≡ []

  -- Then all that stands is live.
  abbrev pub AllIsLiveThen : Type 0
  AllIsLiveThen =
      (at : ℕ) (k : K) (w : Write K V) → standing eq settings k (Maintained None at ∷ h) ≡ Some w
      → is_live settings w (latest (Maintained None at ∷ h)) ≡ true

  -- Then its weight is within the capacity.
  abbrev pub IsWithinThen : Type 0
  IsWithinThen =
      (at capacity : ℕ) → settings.max_capacity ≡ Some capacity → weighted_size eq settings (Maintained None at ∷ h) ≤ capacity

  -- Then no more entries than the capacity are stored, if every entry weighs 1.
  abbrev pub IsCountedWithinThen : Type 0
  IsCountedWithinThen =
      (at capacity : ℕ) → WeighsOnes settings → settings.max_capacity ≡ Some capacity
      → entry_count eq settings (Maintained None at ∷ h) ≤ capacity

  -- Never are more entries resident than the capacity, if every entry weighs 1.
  abbrev pub ResidentsAreBounded : Type 0
  ResidentsAreBounded =
      (capacity : ℕ) → WeighsOnes settings → settings.max_capacity ≡ Some capacity → length (orders eq settings h).admitted ≤ capacity

  -- A maintenance leaves no more entries pending than before.
  abbrev pub NoMoreWait : Type 0
  NoMoreWait =
      (limit : Option ℕ) (at : ℕ)
      → length (orders eq settings (Maintained limit at ∷ h)).waiting ≤ length (orders eq settings h).waiting

  -- It leaves residents within the capacity that were so before.
  abbrev pub StaysWithin : Type 0
  StaysWithin =
      (limit : Option ℕ) (at capacity : ℕ) → settings.max_capacity ≡ Some capacity
      → total (λ w. w.policy_weight) (orders eq settings h).admitted ≤ capacity
      → total (λ w. w.policy_weight) (orders eq settings (Maintained limit at ∷ h)).admitted ≤ capacity

  -- It evicts no more entries than its limit.
  abbrev pub KeepsItsLimit : Type 0
  KeepsItsLimit = (limit at : ℕ) → length (removals_at eq settings (Maintained (Some limit) at) h) ≤ limit

  -- If no part is left undone, it does what a full one does.
  abbrev pub IsFullIfNoneIsLeft : Type 0
  IsFullIfNoneIsLeft =
      (limit : Option ℕ) (at : ℕ) → is_left_at eq settings limit at h ≡ false
      → (orders eq settings (Maintained limit at ∷ h) ≡ maintained at)
      × (removals_at eq settings (Maintained limit at) h ≡ removals_at eq settings (Maintained None at) h)

  -- Without a capacity no entry is ever evicted for size.
  abbrev pub NoneLeavesForSize : Type 0
  NoneLeavesForSize = settings.max_capacity ≡ None → AllByRecursion (λ l. l.cause ≢ Size) (removals eq settings h)

  -- Without a capacity a full maintenance evicts just the entries that are not live.
  abbrev pub JustTheDeadAreEvicted : Type 0
  JustTheDeadAreEvicted =
      (at : ℕ) → settings.max_capacity ≡ None
      → removals_at eq settings (Maintained None at) h ≡ map dead_removal (dead eq settings at h)

  -- Without a capacity it leaves all that are live.
  abbrev pub AllTheLiveStay : Type 0
  AllTheLiveStay = (at : ℕ) → settings.max_capacity ≡ None → (maintained at).admitted ≡ living eq settings at h

  -- A full maintenance evicts the entries that are not live, and then others.
  abbrev pub DeadAreEvictedFirst : Type 0
  DeadAreEvictedFirst = (at : ℕ) → gone eq settings at h ≡ dead eq settings at h ++ gone_behind eq settings at h

  -- It removes these entries for size, after those that are not live.
  abbrev pub RemovesForSize : ℕ → List (Write K V) → Type 0
  RemovesForSize at others =
      removals_at eq settings (Maintained None at) h ≡ map dead_removal (dead eq settings at h) ++ map (removal_as Size) others

  -- The others are removed for size.
  abbrev pub OthersLeaveForSize : Type 0
  OthersLeaveForSize = (at : ℕ) → RemovesForSize at (gone_behind eq settings at h)

  -- The fact, under LRU, if every entry weighs 1.
  abbrev pub IfOnesByUse : ℕ → Type 0 → Type 0
  IfOnesByUse capacity fact =
      settings.behaviour.is_lru ≡ true → WeighsOnes settings → settings.max_capacity ≡ Some capacity → fact

  -- After those that are not live, the least recently used are evicted, as many as exceed the capacity.
  abbrev pub ExcessIsEvicted : Type 0
  ExcessIsEvicted =
      (at capacity : ℕ) → IfOnesByUse capacity
      (gone eq settings at h ≡ dead eq settings at h ++ take (excess eq settings at h capacity) (living eq settings at h))

  -- They are removed for size.
  abbrev pub ExcessLeavesForSize : Type 0
  ExcessLeavesForSize =
      (at capacity : ℕ) → IfOnesByUse capacity (RemovesForSize at (take (excess eq settings at h capacity) (living eq settings at h)))

  -- The rest stays.
  abbrev pub AllButExcessStay : Type 0
  AllButExcessStay =
      (at capacity : ℕ) → IfOnesByUse capacity
      ((maintained at).admitted ≡ drop (excess eq settings at h capacity) (living eq settings at h))

  -- The fact, under LRU, if no live pending entry is heavier than the capacity.
  abbrev pub IfLightByUse : ℕ → ℕ → Type 0 → Type 0
  IfLightByUse at capacity fact =
      settings.behaviour.is_lru ≡ true → settings.max_capacity ≡ Some capacity
      → AllByRecursion (λ w. w.policy_weight ≤ capacity) (filter (lives eq settings at h) (orders eq settings h).waiting) → fact

  -- After those that are not live, the shortest prefix of the live ones is evicted that brings them within the capacity.
  abbrev pub ShortestIsEvicted : Type 0
  ShortestIsEvicted =
      (at capacity : ℕ) → IfLightByUse at capacity
      (gone eq settings at h ≡ dead eq settings at h ++ take (overweight eq settings at h capacity) (living eq settings at h))

  -- The rest stays.
  abbrev pub AllButShortestStay : Type 0
  AllButShortestStay =
      (at capacity : ℕ) → IfLightByUse at capacity
      ((maintained at).admitted ≡ drop (overweight eq settings at h capacity) (living eq settings at h))

  -- What stays is the live residents and then the admitted entries, without a prefix of that list.
  abbrev pub PrefixLeaves : Type 0
  PrefixLeaves =
      (at : ℕ) → (n : ℕ) × (joined : List (Write K V))
      × AreAmong joined (filter (lives eq settings at h) (orders eq settings h).waiting)
      × ((maintained at).admitted ≡ drop n (filter (lives eq settings at h) (orders eq settings h).admitted ++ joined))

  -- At a capacity of 0 a write draws no sequence number.
  abbrev pub DrawsNone : Type 0
  DrawsNone =
      (k : K) (v : V) (at : ℕ) → stores_nothing settings.max_capacity ≡ true → drawn_in (write_events eq settings k v at h) ≡ 0

module _ {K V E : Type 0} (eq : K → K → Bool) (settings : Settings K V) (steps : List (AcceptedStep K V E)) where
  -- Never are more than 64 entries pending without a flush limit.
  abbrev pub PendingAreBounded : Type 0
  PendingAreBounded =
      settings.flush_limit ≡ None → IsLegal eq settings steps → length (orders eq settings (events_in steps)).waiting ≤ flush_point

  -- Never are more entries stored than the capacity and 64, if every entry weighs 1 and the flush limit is not 0.
  abbrev pub EntriesAreBounded : Type 0
  EntriesAreBounded =
      (capacity : ℕ) → WeighsOnes settings → LimitsSome settings.flush_limit → settings.max_capacity ≡ Some capacity
      → IsLegal eq settings steps → entry_count eq settings (events_in steps) ≤ capacity + flush_point

  -- The fact, at a capacity of 0.
  abbrev pub IfNothingIsStored : Type 0 → Type 0
  IfNothingIsStored fact = stores_nothing settings.max_capacity ≡ true → IsLegal eq settings steps → fact

  -- At a capacity of 0 nothing is resident, pending or counted.
  abbrev pub HoldsNothing : Type 0
  HoldsNothing = IfNothingIsStored (
      ((orders eq settings (events_in steps)).admitted ≡ []) × ((orders eq settings (events_in steps)).waiting ≡ [])
      × (entry_count eq settings (events_in steps) ≡ 0))

  -- At a capacity of 0 nothing stands.
  abbrev pub NothingEverStands : Type 0
  NothingEverStands = (k : K) → IfNothingIsStored (standing eq settings k (events_in steps) ≡ None)

  -- At a capacity of 0 nothing is found.
  abbrev pub NothingIsFound : Type 0
  NothingIsFound = (k : K) (at : ℕ) → IfNothingIsStored (Misses eq settings k at steps)

  -- At a capacity of 0 nothing is removed.
  abbrev pub NothingIsRemoved : Type 0
  NothingIsRemoved = IfNothingIsStored (removals eq settings (events_in steps) ≡ [])
