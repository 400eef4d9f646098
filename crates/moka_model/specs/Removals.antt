-- Which entries were removed, for which cause, and which removals are still queued as notices.
use Rattle.std.specs.Prelude.{ℕ, ◌+◌, min, Bool, true, false, if◌then◌else◌, Option, Some, None, List, [], ◌∷◌, ◌++◌, length, drop, map}
use Rattle.moka_model.specs.declared.notification.RemovalCause.{RemovalCause}
use Rattle.moka_model.specs.declared.notification.RemovalCause.TheVariants.{Expired, Explicit, Replaced, Size}
use Rattle.moka_model.specs.Lives.{Settings, Write, is_expired}
use Rattle.moka_model.specs.Events.{Event, Looked, TurnedDown, Written, Invalidated, Hidden, Maintained, Passed, Drawn, Taken, latest}
use Rattle.moka_model.specs.Orders.{evicted_at, standing}

-- The causes of an eviction, by the cache itself; the other removals are a caller's.
abbrev pub is_evicting : RemovalCause → Bool
is_evicting Expired = true
is_evicting Size = true
is_evicting Explicit = false
is_evicting Replaced = false

pub record Removal (K V : Type 0) : Type 0 where  -- A removed value, with its stored key and the cause.
  pub key : K
  pub value : V
  pub cause : RemovalCause

module _ {K V : Type 0} (settings : Settings K V) where
  -- The cause of a removal: `Explicit` for an invalidated entry, else `Expired` if its deadline has come, else the
  -- event's own.
  abbrev pub cause_of : RemovalCause → Write K V → ℕ → RemovalCause
  cause_of own w at = if w.is_hidden then Explicit else (if is_expired settings w at then Expired else own)

  abbrev pub removal_of : RemovalCause → ℕ → Write K V → Removal K V  -- The removal of an entry at a moment.
  removal_of own at w = record { key = w.key; value = w.value; cause = cause_of own w at }

  -- The removal of an entry at a moment, if there is one.
  abbrev pub removals_of : RemovalCause → ℕ → Option (Write K V) → List (Removal K V)
  removals_of own at None = []
  removals_of own at (Some w) = removal_of own at w ∷ []

module _ {K V : Type 0} (eq : K → K → Bool) (settings : Settings K V) where
  -- The removals at an event after `h`: the entry, live or not, of the key that is written or removed, or what a
  -- maintenance evicts.
  abbrev pub removals_at : Event K V → List (Event K V) → List (Removal K V)
  removals_at (Looked k at) h = []
  removals_at (TurnedDown k at) h = []
  removals_at (Written k v at) h = removals_of settings Replaced (latest (Written k v at ∷ h)) (standing eq settings k h)
  removals_at (Invalidated k at) h = removals_of settings Explicit (latest (Invalidated k at ∷ h)) (standing eq settings k h)
  removals_at (Hidden test) h = []
  removals_at (Maintained limit at) h =
      map (removal_of settings Size (latest (Maintained limit at ∷ h))) (evicted_at eq settings limit at h)
  removals_at (Passed at) h = []
  removals_at Drawn h = []
  removals_at Taken h = []

  abbrev pub removals : List (Event K V) → List (Removal K V)  -- All removals so far, in order.
  removals [] = []
  removals (e ∷ h) = removals h ++ removals_at e h

  -- How many removals were taken as notices: each `Taken` takes the first one that is queued, if there is one.
  abbrev pub taken : List (Event K V) → ℕ
  taken [] = 0
  taken (Taken ∷ h) = min (taken h + 1) (length (removals h))
  taken (e ∷ h) = taken h

  -- The removals that are still queued as notices, in order.
  abbrev pub notices_left : List (Event K V) → List (Removal K V)
  notices_left h = drop (taken h) (removals h)
