-- What contracts know of a shared cache of several segments: the part of it that never changes.
use Rattle.std.specs.Prelude.{◌≡◌, ℕ, ◌^◌, List, slice_get, Option, Some, None, option_map}
use Rattle.std.specs.List.{AllByRecursion}
use Rattle.moka_segment_model.specs.Segments.{bits_for, segment_of, share}
use Rattle.moka_state.specs.StateData.{SettingsData}
use Rattle.moka_sync.specs.Builder.{BuilderData, settings_built}
use Rattle.moka_sync.specs.Cache.{CacheData, IsMadeOf}

-- How many bits of a hash choose a segment, the settings of the whole, and the segments, each a shared cache.
pub record SegmentedCacheData (K V H W X F E L T : Type 0) : Type 0 where
  pub bits : ℕ
  pub settings : SettingsData H W X
  pub segments : List (CacheData K V H W X F E L T)

-- The settings of one of `count` segments: those of the whole without its name, and with a share of its capacity.
abbrev pub settings_of_one : {H W X : Type 0} → ℕ → SettingsData H W X → SettingsData H W X
settings_of_one count whole = record whole { name = None; max_capacity = option_map (share count) whole.max_capacity }

-- Each segment has its share of these settings, and all have one clock and one listener.
abbrev pub AreMadeOf : {K V H W X F E L T : Type 0} → ℕ → SettingsData H W X → T → Option L → List (CacheData K V H W X F E L T) →
    Type 0
AreMadeOf bits whole clock listener segments =
    AllByRecursion (IsMadeOf (settings_of_one (2 ^ bits) whole) clock listener) segments

-- The cache is what a builder with these settings makes, with this hasher and this clock.
abbrev pub IsBuiltInSegments : {K V H W X F E L T : Type 0} → BuilderData W X L → H → T → SegmentedCacheData K V H W X F E L T → Type 0
IsBuiltInSegments builder hasher clock cache =
    (cache.bits ≡ bits_for builder.num_segments) × (cache.settings ≡ settings_built builder hasher)
    × AreMadeOf (bits_for builder.num_segments) (settings_built builder hasher) clock builder.listener cache.segments

-- This is the segment that the highest bits of a hash choose.
abbrev pub IsSegmentOf : {S : Type 0} → ℕ → ℕ → List S → S → Type 0
IsSegmentOf bits hash segments segment = slice_get segments (segment_of bits hash) ≡ Some segment
