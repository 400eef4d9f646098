-- Walks over caches, given the history that each of them could have come from.
use Rattle.std.specs.Prelude.{◌≡◌, ℕ, Bool, Option, Some, None, IsSomeAnd, Result, Ok, Err, List, [], length, map, option_map, slice_get}
use Rattle.std.specs.Prelude.{IsPermutation}
use Rattle.std.specs.List.{AllZip}
use Rattle.moka_model.specs.Lives.{Settings}
use Rattle.moka_model.specs.Numbers.{all_standing}
use Rattle.moka_model.specs.Steps.{AcceptedStep, events_in}
use Rattle.moka_model.specs.Calls.{live_at, IsCopyOf}
use Rattle.moka_policy.specs.declared.policy.Refused.{Refused}
use Rattle.moka_policy.specs.declared.policy.Refused.TheVariants.{OutOfMemory}
use Rattle.moka_iter.specs.Walks.{Cursor, Advance, Advances, reply_of}

-- The settings of a cache, and its accepted steps.
pub record History (K V E : Type 0) : Type 0 where
  pub settings : Settings K V
  pub steps : List (AcceptedStep K V E)

-- Each state could have come from the history at its place.
abbrev pub AllStandFor : {K V E S : Type 0} → (Settings K V → S → List (AcceptedStep K V E) → Type 0) →
    List S → List (History K V E) → Type 0
AllStandFor stands_for states histories = AllZip (λ state history. stands_for history.settings state history.steps) states histories

module _ {K V E : Type 0} (eq : K → K → Bool) where
  -- The keys that are stored in a segment. There are none if there is no such segment.
  abbrev pub keys_of : Option (History K V E) → List K
  keys_of None = []
  keys_of (Some history) = map (λ w. w.key) (all_standing eq history.settings (events_in history.steps))

  -- The keys that are stored in the segment at a place.
  abbrev pub standing_in : List (History K V E) → ℕ → List K
  standing_in histories i = keys_of (slice_get histories i)

  -- The value that is live for a key in a segment at a moment, if there is one.
  abbrev pub value_of : ℕ → K → Option (History K V E) → Option V
  value_of now k None = None
  value_of now k (Some history) = option_map (λ w. w.value) (live_at eq history.settings k now (events_in history.steps))

  -- The value that is live for a key in the segment at a place.
  abbrev pub live_in : List (History K V E) → ℕ → ℕ → K → Option V
  live_in histories now i k = value_of now k (slice_get histories i)

-- At one moment, over segments with these histories. The values' type says what a clone is, and clones of which values
-- never fail.
module _ {K V E : Type 0} (eq : K → K → Bool) (is_clone : V → V → Type 0) (is_infallible : V → Type 0)
    (histories : List (History K V E)) (now : ℕ) where
  -- A segment that is asked for its keys returns those that are stored, in some order, or it is out of memory.
  abbrev pub StandsIn : ℕ → Result (List K) Refused → Type 0
  StandsIn i (Ok keys) = IsPermutation (standing_in eq histories i) keys
  StandsIn i (Err e) = e ≡ OutOfMemory

  -- A segment that is asked for a key returns a clone of its live value, or none if none is live. It may be out of
  -- memory only if cloning a live value can fail.
  abbrev pub FindsIn : ℕ → K → Result (Option V) Refused → Type 0
  FindsIn i k (Ok found) = IsCopyOf is_clone (live_in eq histories now i k) found
  FindsIn i k (Err e) = IsSomeAnd (live_in eq histories now i k) (λ v. ¬ (is_infallible v)) × (e ≡ OutOfMemory)

  -- A call of a walk.
  abbrev pub WalksOn : Cursor K → Advance K V Refused → Cursor K → Type 0
  WalksOn old it new = Advances (length histories) StandsIn FindsIn old it new

  -- A call of a walk that returns this.
  abbrev pub RepliesNext : Cursor K → Option (Result (K × V) Refused) → Cursor K → Type 0
  RepliesNext old result new = (it : Advance K V Refused) × WalksOn old it new × (result ≡ reply_of it.ending)
