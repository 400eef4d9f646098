-- The settings of a builder, and those of what it builds.
use Rattle.std.specs.Prelude.{ℕ, ◌^◌, Bool, false, List, Option, Some, None, is_some, option_map, nat_eq, nat_lt, if◌then◌else◌}
use Rattle.std.specs.Option.{option_or}
use Rattle.std.specs.Duration.{as_nanos}
use Rattle.std.specs.declared.time.Duration.{Duration}
use Rattle.moka_policy.specs.Building.{too_long_of, flush_refused_of}
use Rattle.moka_policy.specs.declared.builder_utils.BuildError.{BuildError}
use Rattle.moka_policy.specs.declared.builder_utils.BuildError.TheVariants.{NoSegments, TooManySegments}
use Rattle.moka_state.specs.StateData.{SettingsData}

-- The settings of a builder. Its weigher is a W, its expiry an X and its listener an L.
pub record BuilderData (W X L : Type 0) : Type 0 where
  pub name : Option (List ℕ)
  pub max_capacity : Option ℕ
  pub initial_capacity : ℕ
  pub is_lru : Bool
  pub time_to_live : Option Duration
  pub time_to_idle : Option Duration
  pub weigher : Option W
  pub expiry : Option X
  pub listener : Option L
  pub closures : Bool
  pub flush_limit : Option ℕ
  pub first_number : ℕ
  pub num_segments : ℕ

-- A builder with no settings: one segment, no bound, TinyLFU, and sequence numbers from 0.
abbrev pub default_settings : {W X L : Type 0} → BuilderData W X L
default_settings = record {
  name = None;
  max_capacity = None;
  initial_capacity = 0;
  is_lru = false;
  time_to_live = None;
  time_to_idle = None;
  weigher = None;
  expiry = None;
  listener = None;
  closures = false;
  flush_limit = None;
  first_number = 0;
  num_segments = 1;
}

-- The error of a builder that is asked for so many segments, if it fails.
abbrev pub segments_refused : ℕ → Option BuildError
segments_refused count =
    if nat_eq count 0 then Some NoSegments else (if nat_lt (2 ^ 63) count then Some TooManySegments else None)

-- The error of building, if it fails: a lifetime that is too long, else what is wrong with the flush limit.
abbrev pub build_refused : {W X L : Type 0} → BuilderData W X L → Option BuildError
build_refused builder =
    option_or (too_long_of (option_map as_nanos builder.time_to_live) (option_map as_nanos builder.time_to_idle))
    (flush_refused_of builder.flush_limit (is_some builder.weigher))

-- The settings of a state that a builder with these settings makes, with this hasher.
abbrev pub settings_built : {H W X L : Type 0} → BuilderData W X L → H → SettingsData H W X
settings_built builder hasher = record {
  name = builder.name;
  time_to_live = option_map as_nanos builder.time_to_live;
  time_to_idle = option_map as_nanos builder.time_to_idle;
  max_capacity = builder.max_capacity;
  first_number = builder.first_number;
  supports_closures = builder.closures;
  flush_limit = builder.flush_limit;
  behaviour = record { is_lru = builder.is_lru; hasher = hasher; weigher = builder.weigher; expiry = builder.expiry };
}
