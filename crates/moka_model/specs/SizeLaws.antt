-- The terms of the laws about a bounded size.
use Rattle.std.specs.Prelude.{◌≡◌, ℕ, ◌-◌, Bool, if◌then◌else◌, Option, ◌<◌, Some, None, List, ◌∷◌, length}
use Rattle.moka_model.specs.declared.notification.RemovalCause.{RemovalCause}
use Rattle.moka_model.specs.declared.notification.RemovalCause.TheVariants.{Expired, Explicit}
use Rattle.moka_model.specs.Maintenance.{front}
use Rattle.moka_model.specs.MaintenanceLaws.{the_dead, the_living, behind_the_dead}
use Rattle.moka_model.specs.Lives.{Settings, Write, is_live}
use Rattle.moka_model.specs.Events.{Event, Maintained, latest}
use Rattle.moka_model.specs.Orders.{orders, evicted_at}
use Rattle.moka_model.specs.Removals.{Removal}

-- Every entry weighs 1.
abbrev pub WeighsOnes : {K V : Type 0} → Settings K V → Type 0
WeighsOnes {K} {V} settings = (k : K) (v : V) → settings.behaviour.weight k v ≡ 1

-- The limit, if there is one, is not 0.
abbrev pub LimitsSome : Option ℕ → Type 0
LimitsSome None = Unit {0}
LimitsSome (Some limit) = 0 < limit

-- The terms of one maintenance without a limit, at a moment, after the events `h`.
module _ {K V : Type 0} (eq : K → K → Bool) (settings : Settings K V) (at : ℕ) (h : List (Event K V)) where
  -- Whether an entry is live at the maintenance.
  abbrev pub lives : Write K V → Bool
  lives w = is_live settings w (latest (Maintained None at ∷ h))

  -- The entries that are not live, the residents before the pending ones.
  abbrev pub dead : List (Write K V)
  dead = the_dead lives (orders eq settings h)

  -- The live entries: the residents, the least recently used first, then the pending ones.
  abbrev pub living : List (Write K V)
  living = the_living lives (orders eq settings h)

  -- All that the maintenance evicts, in order.
  abbrev pub gone : List (Write K V)
  gone = evicted_at eq settings None at h

  -- What it evicts after the dead.
  abbrev pub gone_behind : List (Write K V)
  gone_behind = behind_the_dead lives (orders eq settings h) gone

  -- The length of the shortest prefix of the live entries whose eviction brings them within a capacity.
  abbrev pub overweight : ℕ → ℕ
  overweight capacity = front (λ w. w.policy_weight) (Some capacity) 0 living

  -- By how many the live entries exceed a capacity.
  abbrev pub excess : ℕ → ℕ
  excess capacity = length living - capacity

-- The removal of an entry with a cause.
abbrev pub removal_as : {K V : Type 0} → RemovalCause → Write K V → Removal K V
removal_as cause w = record { key = w.key; value = w.value; cause = cause }

-- The removal of an entry that is not live: `Explicit` if it is invalidated, else `Expired`.
abbrev pub dead_removal : {K V : Type 0} → Write K V → Removal K V
dead_removal w = removal_as (if w.is_hidden then Explicit else Expired) w
