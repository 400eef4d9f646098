-- The settings of a cache, as C gives them.
use Rattle.std.specs.Prelude.{◌≡◌, ◌≤◌, ℕ, ◌==◌, nat_lt, if◌then◌else◌, Bool, Option, Some, None}
use Rattle.moka_expiration.specs.StateData.{StateData}
use Rattle.moka_policy.specs.Building.{flush_refused_of}
use Rattle.moka_policy.specs.declared.builder_utils.BuildError.{BuildError}
use Rattle.moka_policy.specs.declared.builder_utils.BuildError.TheVariants as errors
use Rattle.moka_c.specs.declared.settings.CacheSettings.{CacheSettings}
use Rattle.moka_c.specs.declared.settings.Limit.{Limit}

-- The number of a limit, if it has one.
abbrev pub limit_of : Limit → Option ℕ
limit_of limit = if limit.is_set then Some limit.value else None

-- Whether the policy is LRU.
abbrev pub is_lru_of : CacheSettings → Bool
is_lru_of settings = settings.policy == 1

-- The number of the error of a flush limit, if there is one, and else of an allocation.
abbrev pub flush_number : Option BuildError → ℕ
flush_number None = 2
flush_number (Some errors.ZeroFlushLimit) = 7
flush_number (Some _) = 8

-- The number with which opening a cache fails. Only if memory runs out does it fail with settings that are allowed.
abbrev pub refused_of : CacheSettings → Bool → ℕ
refused_of settings has_weigher =
    if nat_lt 1 settings.policy then 9 else flush_number (flush_refused_of (limit_of settings.flush_limit) has_weigher)

-- A cache has the settings that were given.
pub record HasSettings {K V H W X F E : Type 0} (given : CacheSettings) (cache : StateData K V H W X F E) : Type 0 where
  pub max_capacity : cache.settings.max_capacity ≡ limit_of given.max_capacity
  pub time_to_live : cache.settings.time_to_live ≡ limit_of given.time_to_live
  pub time_to_idle : cache.settings.time_to_idle ≡ limit_of given.time_to_idle
  pub flush_limit : cache.settings.flush_limit ≡ limit_of given.flush_limit
  pub first_number : cache.settings.first_number ≡ given.first_number
  pub policy : cache.settings.behaviour.is_lru ≡ is_lru_of given
  pub room : given.initial_capacity ≤ cache.initial_room
