-- What contracts know of a shared cache: the part of it that never changes.
use Rattle.std.specs.Prelude.{◌≡◌, Option, option_map, String}
use Rattle.std.specs.Duration.{as_nanos}
use Rattle.std.specs.String.{string_bytes}
use Rattle.std.specs.declared.alloc.Global.{Global}
use Rattle.moka_policy.specs.declared.policy.Policy.{Policy}
use Rattle.moka_state.specs.StateData.{SettingsData, StateData}
use Rattle.moka_sync.specs.Builder.{BuilderData, settings_built}

-- What is known of a shared cache without its lock: its listener, and its state and clock as they went under the lock.
-- The settings of that state never change.
pub record CacheData (K V H W X F E L T : Type 0) : Type 0 where
  pub opening : StateData K V H W X F E
  pub clock : T
  pub listener : Option L

-- The cache's state has these settings, its moments come from this clock, and it has this listener.
abbrev pub IsMadeOf : {K V H W X F E L T : Type 0} → SettingsData H W X → T → Option L → CacheData K V H W X F E L T → Type 0
IsMadeOf settings clock listener cache = (cache.opening.settings ≡ settings) × (cache.clock ≡ clock) × (cache.listener ≡ listener)

-- The cache is what a builder with these settings makes, with this hasher and this clock.
abbrev pub IsBuilt : {K V H W X F E L T : Type 0} → BuilderData W X L → H → T → CacheData K V H W X F E L T → Type 0
IsBuilt builder hasher clock cache = IsMadeOf (settings_built builder hasher) clock builder.listener cache

-- A name and a policy show these settings.
abbrev pub Shows : {H W X : Type 0} → SettingsData H W X → Option (String Global) → Policy → Type 0
Shows settings name policy =
    (option_map string_bytes name ≡ settings.name) × (policy.max_capacity ≡ settings.max_capacity) × (policy.num_segments ≡ 1)
    × (option_map as_nanos policy.time_to_live ≡ settings.time_to_live)
    × (option_map as_nanos policy.time_to_idle ≡ settings.time_to_idle)
