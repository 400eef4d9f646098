-- The terms of the laws about what calls look up, write and leave undone.
use Rattle.std.specs.Prelude.{◌≡◌, ◌<◌, ◌≤◌, ℕ, Bool, true, false, Option, Some, None, List, [], ◌∷◌, ◌++◌, length}
use Rattle.moka_model.specs.declared.turns.Kind.TheVariants.{Compute}
use Rattle.moka_model.specs.declared.turns.Op.TheVariants as ops
use Rattle.moka_model.specs.declared.turns.Outcome.TheVariants as outcomes
use Rattle.moka_model.specs.Lives.{Settings}
use Rattle.moka_model.specs.Events.{Event, Looked, TurnedDown, Written, Maintained, Passed}
use Rattle.moka_model.specs.Orders.{orders}
use Rattle.moka_model.specs.Removals.{removals_at}
use Rattle.moka_model.specs.Numbers.{stores_nothing, flush_point}
use Rattle.moka_model.specs.Turns.{Name}
use Rattle.moka_model.specs.Steps.{AcceptedStep, events_in}
use Rattle.moka_model.specs.Calls.{Call, Get, Insert, OrInsert, Begin, BeginCompute, Finish, Accepted, Reply, Run, accepted, live_at}
use Rattle.moka_laws.specs.Laws.{moment_of}

module _ {K V : Type 0} where
  -- The recorded lookups among some events.
  abbrev pub looks : List (Event K V) → List (Event K V)
  looks [] = []
  looks (Looked k at ∷ events) = Looked k at ∷ looks events
  looks (TurnedDown k at ∷ events) = TurnedDown k at ∷ looks events
  looks (e ∷ events) = looks events

  -- The lookup of an initializer's begin. It is turned down if the caller replaces what is live.
  abbrev pub look_of_begin : K → Option Bool → ℕ → Event K V
  look_of_begin k (Some true) at = TurnedDown k at
  look_of_begin k replace at = Looked k at

module _ {K V E : Type 0} where
  -- The lookup of a compute's begin. One that has to wait looks nothing up.
  abbrev pub looks_of_compute : K → ℕ → Reply K V E → List (Event K V)
  looks_of_compute k at (Run name shown) = Looked k at ∷ []
  looks_of_compute k at reply = []

  -- The recorded lookups of a call, by its result: one of a `get`, an `or_insert`, an initializer's begin, and a
  -- compute's begin that opens its turn. No other call does one.
  abbrev pub looks_of : Call K V E → Reply K V E → List (Event K V)
  looks_of (Get k at) reply = Looked k at ∷ []
  looks_of (OrInsert k v at) reply = Looked k at ∷ []
  looks_of (Begin k Compute replace at) reply = looks_of_compute k at reply
  looks_of (Begin k kind replace at) reply = look_of_begin k replace at ∷ []
  looks_of (BeginCompute k keep at) reply = looks_of_compute k at reply
  looks_of call reply = []

module _ {K V : Type 0} (eq : K → K → Bool) (settings : Settings K V) where
  -- What a write at a moment does after the events `h`. At a capacity of 0 it records its moment. Else it writes, and
  -- flushes before that if `flush_point` entries are pending, or more: a maintenance within the flush limit.
  pub record IsWritten (k : K) (v : V) (at : ℕ) (h events : List (Event K V)) : Type 0 where
    pub nothing : stores_nothing settings.max_capacity ≡ true → events ≡ Passed at ∷ []
    pub alone : stores_nothing settings.max_capacity ≡ false → length (orders eq settings h).waiting < flush_point
        → events ≡ Written k v at ∷ []
    pub flushed : stores_nothing settings.max_capacity ≡ false → flush_point ≤ length (orders eq settings h).waiting
        → events ≡ Written k v at ∷ Maintained settings.flush_limit at ∷ []

  -- A maintenance with this limit evicts fewer entries than one without a limit.
  abbrev pub EvictsFewer : ℕ → ℕ → List (Event K V) → Type 0
  EvictsFewer limit at h =
      length (removals_at eq settings (Maintained (Some limit) at) h) < length (removals_at eq settings (Maintained None at) h)

  -- It evicts the same.
  abbrev pub EvictsAll : ℕ → ℕ → List (Event K V) → Type 0
  EvictsAll limit at h = removals_at eq settings (Maintained (Some limit) at) h ≡ removals_at eq settings (Maintained None at) h

module _ {K V E : Type 0} (eq : K → K → Bool) (settings : Settings K V) (steps : List (AcceptedStep K V E)) where
  -- The call, if it is accepted, writes this value under this key.
  abbrev pub WritesAs : Call K V E → K → V → Type 0
  WritesAs call k v = (it : Accepted K V E) → accepted eq settings steps call ≡ Some it
      → IsWritten eq settings k v (moment_of call) (events_in steps) it.step.events

  -- The `or_insert`, if it finds nothing, looks up and then writes.
  abbrev pub LooksAndWrites : K → V → ℕ → Type 0
  LooksAndWrites k v at = (it : Accepted K V E) → accepted eq settings steps (OrInsert k v at) ≡ Some it
      → live_at eq settings k at (events_in steps) ≡ None
      → (events : List (Event K V)) × (it.step.events ≡ events ++ Looked k at ∷ [])
      × IsWritten eq settings k v at (Looked k at ∷ events_in steps) events

  -- What each call that writes does.
  pub record FlushesFirst : Type 0 where
    pub insert : (k : K) (v : V) (at : ℕ) → WritesAs (Insert k v at) k v
    pub or_insert : (k : K) (v : V) (at : ℕ) → LooksAndWrites k v at
    pub finish : (name : Name K) (v : V) (at : ℕ) → WritesAs (Finish name (outcomes.Value v) at) name.key v
    pub put : (name : Name K) (v : V) (at : ℕ) → WritesAs (Finish name (outcomes.Op (ops.Put v)) at) name.key v
