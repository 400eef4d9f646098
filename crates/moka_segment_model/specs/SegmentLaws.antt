-- The words of the laws of segments.
use Rattle.std.specs.Prelude.{◌≡◌, ℕ, ◌+◌, Bool, Option, Some, None, List, [], ◌∷◌}
use Rattle.moka_model.specs.Events.{Event}
use Rattle.moka_model.specs.Lives.{Settings}
use Rattle.moka_model.specs.Calls.{Call, Accepted, accepted}
use Rattle.moka_model.specs.Removals.{notices_left}
use Rattle.moka_model.specs.Conserved.{count_written, count_standing, count_left, given_out}
use Rattle.moka_model.specs.Orders.{orders}
use Rattle.moka_segment_model.specs.Segments.{SegmentedSettings, share, share_settings, segments_of, sum_below, segment_of_place, place_of}
use Rattle.moka_segment_model.specs.Segments.{steps_in, events_of}

-- The events of the step that a call is. There are none if it fails by its name.
abbrev pub events_by : {K V E : Type 0} → Option (Accepted K V E) → List (Event K V)
events_by None = []
events_by (Some it) = it.step.events

-- The settings of one segment are those of the whole. Only of the capacity, if there is one, it has a share.
pub record HasItsShare {K V : Type 0} (settings : SegmentedSettings K V) (own : Settings K V) : Type 0 where
  pub time_to_live : own.time_to_live ≡ settings.whole.time_to_live
  pub time_to_idle : own.time_to_idle ≡ settings.whole.time_to_idle
  pub first_number : own.first_number ≡ settings.whole.first_number
  pub supports_closures : own.supports_closures ≡ settings.whole.supports_closures
  pub flush_limit : own.flush_limit ≡ settings.whole.flush_limit
  pub behaviour : own.behaviour ≡ settings.whole.behaviour
  pub frequency : own.frequency ≡ settings.whole.frequency
  pub unbounded : settings.whole.max_capacity ≡ None → own.max_capacity ≡ None
  pub bounded : (capacity : ℕ) → settings.whole.max_capacity ≡ Some capacity
      → own.max_capacity ≡ Some (share (segments_of settings) capacity)

module _ {K V : Type 0} (E : Type 0) (eq : K → K → Bool) (settings : SegmentedSettings K V) where
  -- What a call returns and which step it is, in the segment of the call.
  abbrev pub accepted_in : List (Call K V E) → Call K V E → Option (Accepted K V E)
  accepted_in calls call =
      accepted eq (share_settings settings) (steps_in E eq settings calls (segment_of_place (place_of E eq settings calls call))) call

module _ {K V : Type 0} (E : Type 0) (eq : K → K → Bool) (settings : SegmentedSettings K V) (test : K → V → Bool) where
  -- How many of the pairs that calls write pass a test. Each call counts by its own step, in its segment.
  abbrev pub pairs_written : List (Call K V E) → ℕ
  pairs_written [] = 0
  pairs_written (call ∷ calls) = count_written test (events_by (accepted_in E eq settings calls call)) + pairs_written calls

  -- How many of the pairs that are stored in all segments pass it.
  abbrev pub pairs_standing : List (Call K V E) → ℕ
  pairs_standing calls =
      sum_below (λ i. count_standing test (orders eq (share_settings settings) (events_of E eq settings calls i))) (segments_of settings)

  -- How many of those whose notice was not taken pass it.
  abbrev pub pairs_waiting : List (Call K V E) → ℕ
  pairs_waiting calls =
      sum_below (λ i. count_left test (notices_left eq (share_settings settings) (events_of E eq settings calls i)))
      (segments_of settings)

  -- How many of those whose notice was taken pass it.
  abbrev pub pairs_given : List (Call K V E) → ℕ
  pairs_given calls =
      sum_below (λ i. count_left test (given_out eq (share_settings settings) (events_of E eq settings calls i))) (segments_of settings)
