-- The settings that a state is built from.
use Rattle.std.specs.Prelude.{◌≡◌, ◌≢◌, Some, None, IsSome, IfSome, option_map}
use Rattle.std.specs.Arc.{arc_value}
use Rattle.moka_policy.specs.Policy.{is_lru}
use Rattle.moka_state.specs.State.{SettingsData, settings_of}
use Rattle.moka_state.specs.declared.state.Settings.{Settings}

module _ {K V C H W X P F L T E S : Type 0} where
  -- The settings as data.
  abbrev pub data_of : Settings K V C H W X P F L T E S → SettingsData H W X
  data_of settings =
      settings_of settings.name settings.time_to_live settings.time_to_idle settings.max_capacity settings.first_number
      settings.closures settings.flush_limit (record {
        is_lru = is_lru settings.eviction_policy;
        hasher = arc_value settings.hasher;
        weigher = option_map arc_value settings.weigher;
        expiry = option_map arc_value settings.expiry;
      })

  -- A state can be built from the settings. The weigher and the expiry, if there are any, compute what the cache's types
  -- declare: `computes` and `gives` say what they compute, `weight` and `lifetimes` what is declared. A flush limit is
  -- not 0, and there is no weigher beside it.
  pub record IsUsable {A B : Type 0} (computes : W → A → Type 0) (weight : W → A) (gives : X → B → Type 0) (lifetimes : X → B)
      (settings : Settings K V C H W X P F L T E S) : Type 0 where
    pub weighs : IfSome settings.weigher (λ weigher. computes (arc_value weigher) (weight (arc_value weigher)))
    pub expires : IfSome settings.expiry (λ expiry. gives (arc_value expiry) (lifetimes (arc_value expiry)))
    pub limits : settings.flush_limit ≢ Some 0
    pub unweighed : IsSome settings.flush_limit → settings.weigher ≡ None
