-- The terms of the laws about mass invalidation.
use Rattle.std.specs.Prelude.{⊤, ◌≡◌, ◌↔◌, ◌++◌, ℕ, ◌+◌, Bool, true, false, Some, None, List, [], ◌∷◌}
use Rattle.moka_model.specs.declared.notification.RemovalCause.{RemovalCause}
use Rattle.moka_model.specs.declared.notification.RemovalCause.TheVariants.{Explicit}
use Rattle.moka_model.specs.Lives.{Settings, Write}
use Rattle.moka_model.specs.Events.{Event, Written, Hidden}
use Rattle.moka_model.specs.Admission.{frequency}
use Rattle.moka_model.specs.Orders.{orders, standing}
use Rattle.moka_model.specs.Removals.{removals, removals_at, removal_of, notices_left}
use Rattle.moka_model.specs.Steps.{AcceptedStep, events_in}
use Rattle.moka_model.specs.Conserved.{SeesKeysAlike, count_written, count_standing, count_left, given_out}
use Rattle.moka_model.specs.Calls.{Call, Get, ContainsKey, Invalidate, Remove, InvalidateAll, InvalidateIf, Found, Contains}
use Rattle.moka_model.specs.Calls.{Finish, Abandon, Collect, Leave, accepted, after}
use Rattle.moka_laws.specs.Laws.{reply, IsUnwritten, LastWrite}

-- An event among these that invalidates a value under a stored key, at its place.
pub record HidingEvent {K V : Type 0} (k : K) (v : V) (those : List (Event K V)) : Type 0 where
  pub later : List (Event K V)
  pub test : K → V → Bool
  pub before : List (Event K V)
  pub place : those ≡ later ++ Hidden test ∷ before
  pub holds : test k v ≡ true

-- No lookup or removal finds anything under the key, at any moment.
abbrev pub IsNotFound : {K V E : Type 0} → (K → K → Bool) → Settings K V → K → List (AcceptedStep K V E) → Type 0
IsNotFound eq settings k steps =
    (at : ℕ) → (reply eq settings (Get k at) steps ≡ Some (Found None))
    × (reply eq settings (ContainsKey k at) steps ≡ Some (Contains false))
    × (reply eq settings (Remove k at) steps ≡ Some (Found None))

-- The call removes or invalidates one key or many.
abbrev pub IsInvalidation : {K V E : Type 0} → Call K V E → Type 0
IsInvalidation (Invalidate k at) = ⊤
IsInvalidation (Remove k at) = ⊤
IsInvalidation InvalidateAll = ⊤
IsInvalidation (InvalidateIf test) = ⊤
IsInvalidation call = ⊥

-- The call can be rejected: it invalidates by a test, or names a turn.
abbrev pub IsByName : {K V E : Type 0} → Call K V E → Type 0
IsByName (InvalidateIf test) = ⊤
IsByName (Finish name outcome at) = ⊤
IsByName (Abandon name) = ⊤
IsByName (Collect name) = ⊤
IsByName (Leave name) = ⊤
IsByName call = ⊥

module _ {K V : Type 0} (eq : K → K → Bool) (settings : Settings K V) (h : List (Event K V)) where
  -- What stands is invalidated exactly if an event since its last write invalidates it.
  abbrev pub IsHiddenExactly : Type 0
  IsHiddenExactly =
      (k : K) (w : Write K V) (last : LastWrite eq settings k h) → standing eq settings k h ≡ Some w
      → (w.is_hidden ≡ true) ↔ HidingEvent w.key w.value last.later

  -- What is written now is not invalidated.
  abbrev pub WrittenIsNotHidden : Type 0
  WrittenIsNotHidden =
      (k : K) (v : V) (at : ℕ) (w : Write K V) → standing eq settings k (Written k v at ∷ h) ≡ Some w → w.is_hidden ≡ false

  -- An event that invalidates removes nothing.
  abbrev pub HidingRemovesNothing : Type 0
  HidingRemovesNothing = (test : K → V → Bool) → removals_at eq settings (Hidden test) h ≡ []

  -- As many written pairs pass a test as stand or were removed, if it sees equal keys alike.
  abbrev pub PairsStandOrLeft : Type 0
  PairsStandOrLeft =
      (test : K → V → Bool) → SeesKeysAlike eq test
      → count_written test h ≡ count_standing test (orders eq settings h) + count_left test (removals eq settings h)

  -- As many removed pairs pass a test as are queued as notices or were taken.
  abbrev pub RemovedPairsAreNoticed : Type 0
  RemovedPairsAreNoticed =
      (test : K → V → Bool) → count_left test (removals eq settings h)
      ≡ count_left test (notices_left eq settings h) + count_left test (given_out eq settings h)

module _ {K V E : Type 0} (eq : K → K → Bool) (settings : Settings K V) (later steps : List (AcceptedStep K V E)) where
  -- After `invalidate_all` no key is found until it is written.
  abbrev pub NoneIsFoundAfterAll : Type 0
  NoneIsFoundAfterAll =
      (k : K) → IsUnwritten eq k (events_in later) → IsNotFound eq settings k (later ++ after eq settings InvalidateAll steps)

  -- After an invalidation by a test, no key is found whose entry passes it, until it is written.
  abbrev pub NoneIsFoundAfterTest : Type 0
  NoneIsFoundAfterTest =
      (test : K → V → Bool) (k : K) (w : Write K V) → settings.supports_closures ≡ true
      → standing eq settings k (events_in steps) ≡ Some w → test w.key w.value ≡ true → IsUnwritten eq k (events_in later)
      → IsNotFound eq settings k (later ++ after eq settings (InvalidateIf test) steps)

module _ {K V E : Type 0} (eq : K → K → Bool) (settings : Settings K V) (steps : List (AcceptedStep K V E)) where
  -- An entry that does not pass the test stands as before.
  abbrev pub OthersStand : Type 0
  OthersStand =
      (test : K → V → Bool) (k : K) (w : Write K V) → standing eq settings k (events_in steps) ≡ Some w → test w.key w.value ≡ false
      → standing eq settings k (events_in (after eq settings (InvalidateIf test) steps)) ≡ Some w

  -- No invalidation or removal changes a frequency.
  abbrev pub InvalidationNotesNothing : Type 0
  InvalidationNotesNothing =
      (call : Call K V E) (hash : ℕ) → IsInvalidation call
      → frequency settings (events_in (after eq settings call steps)) hash ≡ frequency settings (events_in steps) hash

  -- An invalidation by a test is rejected exactly if the cache does not support it.
  abbrev pub TestIsRejectedExactly : Type 0
  TestIsRejectedExactly =
      (test : K → V → Bool) → (accepted eq settings steps (InvalidateIf test) ≡ None) ↔ (settings.supports_closures ≡ false)

  -- Another call that is rejected names a turn.
  abbrev pub RejectedIsByName : Type 0
  RejectedIsByName = (call : Call K V E) → accepted eq settings steps call ≡ None → IsByName call

  -- A rejected call changes nothing.
  abbrev pub RejectedChangesNothing : Type 0
  RejectedChangesNothing = (call : Call K V E) → accepted eq settings steps call ≡ None → after eq settings call steps ≡ steps

-- An invalidated entry is removed as `Explicit`, whatever removes it.
abbrev pub LeavesAsRemoved : {K V : Type 0} → Settings K V → Type 0
LeavesAsRemoved {K} {V} settings =
    (own : RemovalCause) (at : ℕ) (w : Write K V) → w.is_hidden ≡ true → (removal_of settings own at w).cause ≡ Explicit
