-- What the calls of turns give if there are several segments.
use Rattle.std.specs.Prelude.{◌≡◌, ℕ, Bool, Option, Some, List, slice_get, Result}
use Rattle.std.specs.Fn.{Mut}
use denote.Ref.{Bor}
use Rattle.moka_policy.specs.declared.policy.Refused.{Refused}
use Rattle.moka_model.specs.Calls.{Call, Reply}
use Rattle.moka_model.specs.Lives.{Settings}
use Rattle.moka_expiration.specs.StateData.{SettingsData, StateData}
use Rattle.moka_state.specs.BegunOf.{BegunOf}
use Rattle.moka_state.specs.Given.{FailsAtOnce, Gives}
use Rattle.moka_state.specs.Begin.{GivesBegun, TakesLive}
use Rattle.moka_segment_model.specs.Segments.{SegmentedSettings, segment_of_place, place_of, share_settings, steps_in}
use Rattle.moka_segmented.specs.SegmentedData.{SegmentedData}

-- The closure may be called at the value that is live for the key in a segment, which satisfies the invariant with the
-- key.
abbrev pub TakesLiveIn : {K V H W X F E P : Type 0} → (K → K → Bool) → (K → V → Type 0) → (SettingsData H W X → Settings K V) →
    Mut P (Bor V × Unit {0}) Bool → K → ℕ → SegmentedData K V H W X F E → P → Type 0
TakesLiveIn {K} {V} {H} {W} {X} {F} {E} eq keeps settings_in call key at cache f =
    (i : ℕ) (state : StateData K V H W X F E) → slice_get cache.segments i ≡ Some state
    → TakesLive eq keeps settings_in call key at state f

module _ {K V E : Type 0} (eq : K → K → Bool) (is_clone : V → V → Type 0) (is_infallible : V → Type 0)
    (settings : SegmentedSettings K V) (calls : List (Call K V E)) (call : Call K V E) where
  -- What a call gives after others: what the call's segment gives, as a state with its share and its own list.
  abbrev pub GivesIn : Result (Reply K V E) Refused → Type 0
  GivesIn result =
      Gives eq is_clone is_infallible (share_settings settings)
      (steps_in E eq settings calls (segment_of_place (place_of E eq settings calls call))) call result

  -- What a begin that never waits fails with so.
  abbrev pub FailsAtOnceIn : Refused → Type 0
  FailsAtOnceIn cause =
      FailsAtOnce eq is_clone is_infallible (share_settings settings)
      (steps_in E eq settings calls (segment_of_place (place_of E eq settings calls call))) call cause

  -- What a begin gives so, with a flag for whether it may wait.
  abbrev pub GivesBegunIn : Bool → Result (BegunOf K V) Refused → Type 0
  GivesBegunIn may_wait result =
      GivesBegun eq is_clone is_infallible (share_settings settings)
      (steps_in E eq settings calls (segment_of_place (place_of E eq settings calls call))) call may_wait result
