-- What a maintenance leaves in each segment.
use Rattle.std.specs.Prelude.{◌≡◌, ℕ, ◌+◌, ◌≤◌, Bool, true, None, List, ◌∷◌, IfSome, slice_get}
use Rattle.std.specs.List.{AllByRecursion}
use Rattle.moka_model.specs.Lives.{is_live}
use Rattle.moka_model.specs.Events.{Maintained, latest}
use Rattle.moka_model.specs.Calls.{Call}
use Rattle.moka_expiration.specs.StateData.{StateData}
use Rattle.moka_state.specs.State.{all_writes}
use Rattle.moka_segment_model.specs.Segments.{SegmentedSettings, share, share_settings, segments_of, events_of}
use Rattle.moka_segmented.specs.SegmentedData.{SegmentedData, stored_at, weight_at, notices_at}

module _ {K V H W X F E : Type 0} where
  -- Each entry that is stored is live once a maintenance of this moment has followed these calls.
  abbrev pub AllLiveIn : (K → K → Bool) → SegmentedSettings K V → List (Call K V E) → ℕ → SegmentedData K V H W X F E → Type 0
  AllLiveIn eq settings calls now cache = (i : ℕ) → IfSome (slice_get cache.segments i) (λ state. AllByRecursion
      (λ w. is_live (share_settings settings) w (latest (Maintained None now ∷ events_of E eq settings calls i)) ≡ true)
      (all_writes state))

  -- The entries of each segment weigh at most its share of the capacity.
  abbrev pub WeighWithinShares : SegmentedSettings K V → SegmentedData K V H W X F E → Type 0
  WeighWithinShares settings cache = IfSome cache.settings.max_capacity (λ capacity.
      (i : ℕ) → weight_at cache.segments i ≤ share (segments_of settings) capacity)

  -- Each segment stores at most its share of the capacity.
  abbrev pub CountWithinShares : SegmentedSettings K V → SegmentedData K V H W X F E → Type 0
  CountWithinShares settings cache = IfSome cache.settings.max_capacity (λ capacity.
      (i : ℕ) → stored_at cache.segments i ≤ share (segments_of settings) capacity)

  -- From each segment at most so many entries have left.
  abbrev pub FewLeft : ℕ → List (StateData K V H W X F E) → List (StateData K V H W X F E) → Type 0
  FewLeft limit old new = (i : ℕ) → stored_at old i ≤ stored_at new i + limit

  -- In each segment at most so many notices were queued.
  abbrev pub FewNoticed : ℕ → List (StateData K V H W X F E) → List (StateData K V H W X F E) → Type 0
  FewNoticed limit old new = (i : ℕ) → notices_at new i ≤ notices_at old i + limit
