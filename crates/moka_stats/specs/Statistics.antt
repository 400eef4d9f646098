-- What is counted of the calls of a cache, by what they return.
use Rattle.std.specs.Prelude.{◌≡◌, ℕ, ◌+◌, min, Bool, true, false, not, List, [], ◌∷◌, Option, Some, None, is_some}
use Rattle.moka_model.specs.declared.notification.RemovalCause.{RemovalCause}
use Rattle.moka_model.specs.declared.notification.RemovalCause.TheVariants.{Expired, Explicit, Replaced, Size}
use Rattle.moka_model.specs.declared.turns.Kind.{Kind}
use Rattle.moka_model.specs.declared.turns.Kind.TheVariants.{With, Optionally, Try, Compute}
use Rattle.moka_model.specs.Lives.{Settings}
use Rattle.moka_model.specs.Events.{Event, Looked, TurnedDown}
use Rattle.moka_model.specs.Steps.{AcceptedStep}
use Rattle.moka_model.specs.Calls.{Call, Get, OrInsert, Begin, BeginCompute, Reply, Found, Entered, Run, Accepted, accepted}
use Rattle.moka_stats.specs.declared.statistics.Statistics.{Statistics}

-- The greatest count.
abbrev pub greatest_count : ℕ
greatest_count = 18_446_744_073_709_551_615

-- The next count. The greatest one stays.
abbrev pub one_more : ℕ → ℕ
one_more count = min (count + 1) greatest_count

-- Counts of 0.
abbrev pub nothing_counted : Statistics
nothing_counted = record {
  hits = 0;
  misses = 0;
  loads = 0;
  failed_loads = 0;
  expired = 0;
  explicit = 0;
  replaced = 0;
  size = 0;
}

-- The counts after a recorded lookup.
abbrev pub after_lookup : Bool → Statistics → Statistics
after_lookup true before = record before { hits = one_more before.hits }
after_lookup false before = record before { misses = one_more before.misses }

-- The counts after an initializer that ran, by whether its value was stored.
abbrev pub after_load : Bool → Statistics → Statistics
after_load true before = record before { loads = one_more before.loads }
after_load false before = record before { failed_loads = one_more before.failed_loads }

-- The counts after a loader that did not fail, by whether its initializer ran, and whether its value was stored.
abbrev pub after_loader : Bool → Bool → Statistics → Statistics
after_loader true is_stored before = after_load is_stored (after_lookup false before)
after_loader false is_stored before = after_lookup true before

-- The counts after a removal.
abbrev pub after_removal : RemovalCause → Statistics → Statistics
after_removal Expired before = record before { expired = one_more before.expired }
after_removal Explicit before = record before { explicit = one_more before.explicit }
after_removal Replaced before = record before { replaced = one_more before.replaced }
after_removal Size before = record before { size = one_more before.size }

module _ {K V : Type 0} where
  -- How many recorded lookups these events are.
  abbrev pub lookups_in : List (Event K V) → ℕ
  lookups_in [] = 0
  lookups_in (Looked k at ∷ events) = lookups_in events + 1
  lookups_in (TurnedDown k at ∷ events) = lookups_in events + 1
  lookups_in (event ∷ events) = lookups_in events

module _ {K V E : Type 0} where
  -- Whether the begin of an initializer was a hit, by its reply.
  abbrev pub begin_hit : Reply K V E → Bool
  begin_hit (Entered entry) = true
  begin_hit reply = false

  -- Whether the begin of a compute was a hit, by its reply. If it has to wait, it looks nothing up.
  abbrev pub compute_lookup : Reply K V E → Option Bool
  compute_lookup (Run name shown) = Some (is_some shown)
  compute_lookup reply = None

  -- Whether a lookup that only reads was a hit, by its reply.
  abbrev pub found_hit : Reply K V E → Bool
  found_hit (Found found) = is_some found
  found_hit reply = false

  -- Whether an `or_insert` was a hit, by its reply: it wrote nothing.
  abbrev pub entered_hit : Reply K V E → Bool
  entered_hit (Entered entry) = not entry.fresh
  entered_hit reply = false

  -- The recorded lookup that a call was, by its reply: whether it was a hit. None if it was none.
  abbrev pub lookup_of : Call K V E → Reply K V E → Option Bool
  lookup_of (Get k at) reply = Some (found_hit reply)
  lookup_of (OrInsert k v at) reply = Some (entered_hit reply)
  lookup_of (Begin k Compute replace at) reply = compute_lookup reply
  lookup_of (Begin k kind replace at) reply = Some (begin_hit reply)
  lookup_of (BeginCompute k keep at) reply = compute_lookup reply
  lookup_of call reply = None

-- How many lookups this is.
abbrev pub lookup_count : Option Bool → ℕ
lookup_count None = 0
lookup_count (Some is_hit) = 1

-- How many hits this is.
abbrev pub hit_count : Option Bool → ℕ
hit_count (Some true) = 1
hit_count lookup = 0

-- How many misses this is.
abbrev pub miss_count : Option Bool → ℕ
miss_count (Some false) = 1
miss_count lookup = 0

-- The counts after a call that may have been a recorded lookup.
abbrev pub after_call : Option Bool → Statistics → Statistics
after_call None before = before
after_call (Some is_hit) before = after_lookup is_hit before

module _ {K V E : Type 0} where
  -- The hits of a run: of calls with their replies, the newest first.
  abbrev pub hits_in : List (Call K V E × Reply K V E) → ℕ
  hits_in [] = 0
  hits_in (made ∷ run) = hits_in run + hit_count (lookup_of made.0 made.1)

  -- The misses of a run.
  abbrev pub misses_in : List (Call K V E × Reply K V E) → ℕ
  misses_in [] = 0
  misses_in (made ∷ run) = misses_in run + miss_count (lookup_of made.0 made.1)

  -- What is counted of a run, by the replies.
  abbrev pub counted : List (Call K V E × Reply K V E) → Statistics
  counted [] = nothing_counted
  counted (made ∷ run) = after_call (lookup_of made.0 made.1) (counted run)

module _ {K V E : Type 0} (eq : K → K → Bool) (settings : Settings K V) where
  -- These calls were accepted one after another, from the first on, with these replies, and are these steps. Calls
  -- that failed are left out: they change nothing.
  abbrev pub IsRun : List (Call K V E × Reply K V E) → List (AcceptedStep K V E) → Type 0
  IsRun [] steps = steps ≡ []
  IsRun (made ∷ run) steps =
      (before : List (AcceptedStep K V E)) × (it : Accepted K V E) × IsRun run before
      × (accepted eq settings before made.0 ≡ Some it) × (made.1 ≡ it.reply) × (steps ≡ it.step ∷ before)
