-- The data of a cache of several segments, and what it means.
use Rattle.std.specs.Prelude.{◌≡◌, ℕ, Bool, false, not, List, map, length, slice_get, Option, Some, None}
use Rattle.std.specs.List.{AllByRecursion}
use Rattle.moka_model.specs.Lives.{Behaviour}
use Rattle.moka_model.specs.Maintenance.{total}
use Rattle.moka_model.specs.Calls.{Call, Reply}
use Rattle.moka_expiration.specs.Behaviour.{BehaviourData}
use Rattle.moka_expiration.specs.StateData.{SettingsData, StateData, settings_by, view_by}
use Rattle.moka_state.specs.State.{all_writes}
pub use Rattle.moka_state.specs.Settings.{data_of}
use Rattle.moka_segment_model.specs.Segments.{SegmentedSettings, SegmentedView, is_empty, sum_below}
use Rattle.moka_segment_model.specs.Segments.{AllStandFor, AtEachList, FollowsIn, RepliesIn}

-- What a cache of several segments keeps: how many bits choose a segment, the settings of the whole, and the segments'
-- states.
pub record SegmentedData (K V H W X F E : Type 0) : Type 0 where
  pub bits : ℕ
  pub settings : SettingsData H W X
  pub segments : List (StateData K V H W X F E)

module _ {K V H W X : Type 0} (behaviour_in : BehaviourData H W X → Behaviour K V) where
  -- What the cache is built with, given the behaviour that its settings mean and what a new frequency source estimates.
  abbrev pub segmented_settings_by : {F E : Type 0} → (List ℕ → ℕ → ℕ) → SegmentedData K V H W X F E → SegmentedSettings K V
  segmented_settings_by frequency it = record { bits = it.bits; whole = settings_by behaviour_in frequency it.settings }

  -- The cache's view, made of the views of its states.
  abbrev pub segmented_view_by : {F E : Type 0} → (F → List ℕ → ℕ → ℕ) → F → SegmentedData K V H W X F E → SegmentedView K V E
  segmented_view_by frequency_in opened it = record {
    settings = segmented_settings_by (frequency_in opened) it;
    segments = map (view_by behaviour_in frequency_in opened) it.segments;
  }

-- The relations of caches of several segments, over the view of each.
module _ {K V E S : Type 0} (eq : K → K → Bool) (is_clone : V → V → Type 0) (view : S → SegmentedView K V E) where
  -- The cache could have come from these calls.
  abbrev pub AllStandForBy : SegmentedSettings K V → S → List (Call K V E) → Type 0
  AllStandForBy settings it calls = AllStandFor eq is_clone settings (view it) calls

  -- This holds for all settings and calls that the cache could have come from.
  abbrev pub AtEachListBy : S → (SegmentedSettings K V → List (Call K V E) → Type 0) → Type 0
  AtEachListBy it P = AtEachList eq is_clone (view it) P

  -- The new cache could have come from the calls of the old one followed by this one.
  abbrev pub FollowsInBy : S → Call K V E → S → Type 0
  FollowsInBy old call new = FollowsIn eq is_clone (view old) call (view new)

  -- This is what the call returns, whatever calls the cache could have come from.
  abbrev pub RepliesInBy : S → Call K V E → Reply K V E → Type 0
  RepliesInBy it call answer = RepliesIn eq is_clone (view it) call answer

-- Each state hashes by this hasher.
abbrev pub AllHashBy : {K V H W X F E : Type 0} → H → List (StateData K V H W X F E) → Type 0
AllHashBy hasher states = AllByRecursion (λ state. state.settings.behaviour.hasher ≡ hasher) states

-- What a function gives for the state at a place, or else a default if there is none.
abbrev pub state_at : {S Y : Type 0} → (S → Y) → Y → Option S → Y
state_at f other None = other
state_at f other (Some state) = f state

module _ {K V H W X F E : Type 0} (states : List (StateData K V H W X F E)) where
  abbrev pub has_notice : ℕ → Bool  -- whether the state at a place has a notice
  has_notice i = state_at (λ state. not (is_empty state.books.notices)) false (slice_get states i)

  abbrev pub stored_at : ℕ → ℕ  -- how many entries it stores
  stored_at i = state_at (λ state. length (all_writes state)) 0 (slice_get states i)

  abbrev pub weight_at : ℕ → ℕ  -- their total weight
  weight_at i = state_at (λ state. total (λ w. w.policy_weight) (all_writes state)) 0 (slice_get states i)

  abbrev pub notices_at : ℕ → ℕ  -- how many notices it has
  notices_at i = state_at (λ state. length state.books.notices) 0 (slice_get states i)

  abbrev pub notices_queued : ℕ  -- how many notices all states have
  notices_queued = sum_below notices_at (length states)
