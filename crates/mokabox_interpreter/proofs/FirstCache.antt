-- A cache that was just built is where a script begins.
use Rattle.std.proofs.Common.{◌≡◌, ◌%◌, ◌^◌, ◌<◌, ℕ, Bool, is_some, [], Option, Some, None, option_map, nat_eq, refl, ap, ◌∙◌, subst}
use Rattle.std.proofs.Math.Nat.{mod-lt}
use Rattle.std.proofs.Math.Path.{fun_ext}
use Rattle.std.proofs.lemmas.Nat.{pow_pos}
use Rattle.std.specs.Duration.{as_nanos}
use Rattle.std.specs.Hash.BuildHasherDefault.{initial_hasher}
use Rattle.std.specs.String.{string_bytes}
use Rattle.moka_policy.proofs.Callers.{number_hash-remainder}
use Rattle.moka_policy.specs.Frequency.{none_noted, noted, estimated, estimate_after}
use Rattle.moka_model.specs.Lives.{Settings as WholeSettings, Lifetimes, no_lifetimes}
use Rattle.moka_policy.specs.declared.expiry.NoExpiry.{NoExpiry}
use Rattle.moka_segment_model.specs.Segments.{bits_for, AllStandFor}
use Rattle.moka_segment_model.proofs.Callers.{bits_for-few}
use Rattle.moka_segmented.specs.SegmentedData.{segmented_settings_by}
use Rattle.moka_state.specs.Behaviour as behaviours
use Rattle.moka_state.specs.StateData.{SettingsData, estimates, settings_by}
use Rattle.moka_sync.specs.Builder.{settings_built}
use Rattle.mokabox_syntax.specs.declared.settings.Settings.{Settings}
use Rattle.mokabox_syntax.specs.declared.settings.Weighing.{Weighing}
use Rattle.mokabox_syntax.specs.declared.settings.Weighing.TheVariants as weighings
use Rattle.mokabox_syntax.specs.Settings.{byte_weight}
use Rattle.mokabox_interpreter.specs.declared.session.Bytes.{Bytes}
use Rattle.mokabox_interpreter.specs.Script.{Text, CacheHasher, is_copy, CacheSettings, beginning, is_lru_by, weight_by, whole_settings, wanted_segments, cache_settings}
use Rattle.mokabox_interpreter.specs.Session.{CacheData, cache_hash, cache_behaviour, view, IsAt, ScriptBuilder, HasSettings}

-- the weight of a text, by the weigher of a cache
abbrev text_weight : Option Bytes → ℕ → Text → ℕ
text_weight weigher = behaviours.weight_by (λ it key text. byte_weight (string_bytes text)) weigher

-- the weight of a text as the settings say
abbrev weight_given : Option Weighing → ℕ → Text → ℕ
weight_given weighing key text = weight_by weighing (string_bytes text)

-- the lives of their own that texts have
abbrev own_lives : Option NoExpiry → Lifetimes ℕ Text
own_lives expiry = behaviours.lifetimes_by (λ it. no_lifetimes) expiry

weighed_by : (weigher : Option Bytes) (weighing : Option Weighing) → is_some weigher ≡ is_some weighing → text_weight weigher ≡ weight_given weighing
weighed_by None None same = refl
weighed_by None (Some weighings.Bytes) same = cc
weighed_by (Some weigher) None same = cc
weighed_by (Some weigher) (Some weighings.Bytes) same = refl

-- a key is its own hash
hashed_by : (hasher : CacheHasher) → (initial_hasher hasher).hash < 2 ^ 64 → cache_hash hasher ≡ (λ key. key % 2 ^ 64)
hashed_by hasher small = fun_ext (λ key. number_hash-remainder (initial_hasher hasher).hash key small)

-- what a cache of texts is built with
abbrev settings_with : Option ℕ → Option ℕ → Option ℕ → ℕ → Bool → Option ℕ → Bool → (ℕ → ℕ) → (ℕ → Text → ℕ) → Lifetimes ℕ Text → WholeSettings ℕ Text
settings_with live idle capacity first closures flush is_lru hash weight own = record {
  time_to_live = live;
  time_to_idle = idle;
  max_capacity = capacity;
  first_number = first;
  supports_closures = closures;
  flush_limit = flush;
  behaviour = record { is_lru = is_lru; hash = hash; weight = weight; lifetimes = own };
  frequency = estimate_after 6;
}

-- what the data of a cache's settings mean
abbrev meant : SettingsData CacheHasher Bytes NoExpiry → WholeSettings ℕ Text
meant kept = settings_by cache_behaviour (estimates (noted 6) (estimated 6) (none_noted 6)) kept

-- a cache whose builder was given these settings has them
built_so : (given : Settings) (builder : ScriptBuilder) (hasher : CacheHasher) → HasSettings given builder → (initial_hasher hasher).hash < 2 ^ 64 → meant (settings_built builder hasher) ≡ whole_settings given
built_so given builder hasher is small =
    let wanted : WholeSettings ℕ Text = whole_settings given in
    let live : Option ℕ = option_map as_nanos builder.time_to_live in
    let idle : Option ℕ = option_map as_nanos builder.time_to_idle in
    let hash : ℕ → ℕ = λ key. key % 2 ^ 64 in
    let weight : ℕ → Text → ℕ = weight_given given.weigher in
    ap (λ l. settings_with l idle builder.max_capacity builder.first_number builder.closures builder.flush_limit builder.is_lru (cache_hash hasher) (text_weight builder.weigher) (own_lives builder.expiry)) is.time_to_live
    ∙ ap (λ l. settings_with wanted.time_to_live l builder.max_capacity builder.first_number builder.closures builder.flush_limit builder.is_lru (cache_hash hasher) (text_weight builder.weigher) (own_lives builder.expiry)) is.time_to_idle
    ∙ ap (λ c. settings_with wanted.time_to_live wanted.time_to_idle c builder.first_number builder.closures builder.flush_limit builder.is_lru (cache_hash hasher) (text_weight builder.weigher) (own_lives builder.expiry)) is.max_capacity
    ∙ ap (λ n. settings_with wanted.time_to_live wanted.time_to_idle given.capacity n builder.closures builder.flush_limit builder.is_lru (cache_hash hasher) (text_weight builder.weigher) (own_lives builder.expiry)) is.first_number
    ∙ ap (λ b. settings_with wanted.time_to_live wanted.time_to_idle given.capacity wanted.first_number b builder.flush_limit builder.is_lru (cache_hash hasher) (text_weight builder.weigher) (own_lives builder.expiry)) is.closures
    ∙ ap (λ l. settings_with wanted.time_to_live wanted.time_to_idle given.capacity wanted.first_number given.closures l builder.is_lru (cache_hash hasher) (text_weight builder.weigher) (own_lives builder.expiry)) is.flush_limit
    ∙ ap (λ b. settings_with wanted.time_to_live wanted.time_to_idle given.capacity wanted.first_number given.closures given.flush_limit b (cache_hash hasher) (text_weight builder.weigher) (own_lives builder.expiry)) is.is_lru
    ∙ ap (λ h. settings_with wanted.time_to_live wanted.time_to_idle given.capacity wanted.first_number given.closures given.flush_limit (is_lru_by given.policy) h (text_weight builder.weigher) (own_lives builder.expiry)) (hashed_by hasher small)
    ∙ ap (λ w. settings_with wanted.time_to_live wanted.time_to_idle given.capacity wanted.first_number given.closures given.flush_limit (is_lru_by given.policy) hash w (own_lives builder.expiry)) (weighed_by builder.weigher given.weigher is.weigher)
    ∙ ap (λ e. settings_with wanted.time_to_live wanted.time_to_idle given.capacity wanted.first_number given.closures given.flush_limit (is_lru_by given.policy) hash weight (own_lives e)) is.expiry

-- the cache of a session that was just built
pub begins : (given : Settings) (cache : CacheData) (builder : ScriptBuilder) (hasher : CacheHasher) → HasSettings given builder → (initial_hasher hasher).hash < 2 ^ 64 → cache.settings ≡ settings_built builder hasher → cache.bits ≡ bits_for (wanted_segments given)
    → AllStandFor nat_eq is_copy (segmented_settings_by cache_behaviour (estimates (noted 6) (estimated 6) (none_noted 6)) cache) (view cache) [] → IsAt cache 0 (cache_settings given) beginning
begins given cache builder hasher is small built parted stands =
    let same : segmented_settings_by cache_behaviour (estimates (noted 6) (estimated 6) (none_noted 6)) cache ≡ cache_settings given =
    ap (λ b. let s : CacheSettings = record { bits = b; whole = meant cache.settings } in s) parted
    ∙ ap (λ w. let s : CacheSettings = record { bits = bits_for (wanted_segments given); whole = w } in s) (ap meant built ∙ built_so given builder hasher is small) in
    record { stands = subst (λ settings. AllStandFor nat_eq is_copy settings (view cache) []) same stands; parted = (bits_for-few (wanted_segments given), λ key. mod-lt key (pow_pos 64)); now = refl }
