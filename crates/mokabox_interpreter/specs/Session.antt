-- Which point of a script a session has reached, and what the session prints.
use Rattle.std.specs.Prelude.{◌≡◌, ◌<◌, ◌^◌, ℕ, Bool, List, [], ◌∷◌, Option, None, is_some, option_map, unwrap_or, nat_eq}
use Rattle.std.specs.Duration.{as_nanos}
use Rattle.std.specs.Hash.{u64 as number_writes}
use Rattle.std.specs.Hash.BuildHasherDefault.{initial_hasher}
use Rattle.std.specs.Io.KnownBytes.{Appends}
use Rattle.std.specs.String.{string_bytes}
use Rattle.moka_policy.specs.declared.expiry.NoExpiry.{NoExpiry}
use Rattle.moka_policy.specs.declared.listener.NoListener.{NoListener}
use Rattle.moka_policy.specs.Frequency.{Counts, none_noted, noted, estimated}
use Rattle.moka_policy.specs.NumberHash.{number_hash}
use Rattle.moka_model.specs.Lives.{Settings as Whole, Behaviour, no_lifetimes}
use Rattle.moka_model.specs.Steps.{AcceptedStep}
use Rattle.moka_model.specs.StandsFor.{WholeView, StandsFor}
use Rattle.moka_segment_model.specs.Segments.{SegmentedView, AllStandFor}
use Rattle.moka_segmented.specs.SegmentedData.{SegmentedData, segmented_view_by}
use Rattle.moka_state.specs.Behaviour.{BehaviourData, hash_by, behaviour_by}
use Rattle.moka_state.specs.StateData.{StateData, estimates, view_by}
use Rattle.moka_state.specs.Step.{call_of, StepKeeps}
use Rattle.mokabox_syntax.specs.Command.{PlainCommand, command_by_line}
use Rattle.moka_sync.specs.Builder.{BuilderData}
use Rattle.mokabox_syntax.specs.Settings.{byte_weight}
use Rattle.mokabox_syntax.specs.declared.settings.Settings.{Settings}
use Rattle.moka_iter.specs.Histories.{History, AllStandFor as AllHaveHistories}
use Rattle.moka_iter.specs.Walks.{start}
use Rattle.moka_iter.specs.WalkLaws.{YieldsJust}
use Rattle.mokabox_interpreter.specs.Script.{Text, is_copy, is_surely_copied, is_among, CacheSettings, Course, CommandPrints, LinePrints}
use Rattle.mokabox_interpreter.specs.Script.{CacheHasher, ScriptStep, Makes, PrintsOwn, moment_after, whole_settings}
use Rattle.mokabox_interpreter.specs.Script.{is_lru_by, lines_text}
use Rattle.mokabox_interpreter.specs.declared.one_of.OneOf.{OneOf}
use Rattle.mokabox_interpreter.specs.declared.session.Bytes.{Bytes}

-- What contracts see of a script's cache.
abbrev pub CacheData : Type 0
CacheData = SegmentedData ℕ Text CacheHasher Bytes NoExpiry Counts Text

-- The hash of a key.
abbrev pub cache_hash : CacheHasher → ℕ → ℕ
cache_hash = hash_by initial_hasher (λ hasher bytes. record { hash = number_hash hasher.hash bytes }) (λ hasher. hasher.hash) number_writes

-- The behaviour of a script's cache.
abbrev pub cache_behaviour : BehaviourData CacheHasher Bytes NoExpiry → Behaviour ℕ Text
cache_behaviour = behaviour_by cache_hash (λ weigher key text. byte_weight (string_bytes text)) (λ expiry. no_lifetimes)

-- A script's cache as the definitions see it.
abbrev pub view : CacheData → SegmentedView ℕ Text Text
view = segmented_view_by cache_behaviour (estimates (noted 6) (estimated 6)) (none_noted 6)

-- What contracts see of one of its segments.
abbrev pub SegmentState : Type 0
SegmentState = StateData ℕ Text CacheHasher Bytes NoExpiry Counts Text

-- One of its segments as the definitions see it.
abbrev pub segment_view : SegmentState → WholeView ℕ Text Text
segment_view = view_by cache_behaviour (estimates (noted 6) (estimated 6)) (none_noted 6)

-- What contracts see of the builder of a script's cache.
abbrev pub ScriptBuilder : Type 0
ScriptBuilder = BuilderData Bytes NoExpiry NoListener

-- What a predicate of a script computes: whether a value is one of its texts.
abbrev pub holds_of : OneOf → ℕ → Text → Bool
holds_of it key text = is_among (string_bytes it.texts) text

-- The builder was given these settings, and nothing else.
pub record HasSettings (given : Settings) (builder : ScriptBuilder) : Type 0 where
  pub name : builder.name ≡ None
  pub max_capacity : builder.max_capacity ≡ given.capacity
  pub time_to_live : option_map as_nanos builder.time_to_live ≡ (whole_settings given).time_to_live
  pub time_to_idle : option_map as_nanos builder.time_to_idle ≡ (whole_settings given).time_to_idle
  pub is_lru : builder.is_lru ≡ is_lru_by given.policy
  pub weigher : is_some builder.weigher ≡ is_some given.weigher
  pub expiry : builder.expiry ≡ None
  pub closures : builder.closures ≡ given.closures
  pub flush_limit : builder.flush_limit ≡ given.flush_limit
  pub first_number : builder.first_number ≡ unwrap_or given.first_number 0

-- Each key belongs to one of the segments: some bits of its hash name it, and each hash has that many bits.
abbrev pub PartsHashes : CacheSettings → Type 0
PartsHashes settings = (settings.bits < 64) × ((key : ℕ) → settings.whole.behaviour.hash key < 2 ^ 64)

-- The session is at this point of the script: its cache stands for the calls done, and its moment is the script's.
pub record IsAt (cache : CacheData) (moment : ℕ) (settings : CacheSettings) (course : Course) : Type 0 where
  pub stands : AllStandFor nat_eq is_copy settings (view cache) course.done
  pub parted : PartsHashes settings
  pub now : moment ≡ course.moment

-- The command is one step: the step's call is all that the command makes, the moment stays, and what the step requires
-- holds.
pub record IsStepOf (moment : ℕ) (command : PlainCommand) (step : ScriptStep) : Type 0 where
  pub makes : (notices : ℕ) → Makes notices moment command (call_of holds_of step ∷ [])
  pub stays : (at : ℕ) → moment_after command at ≡ at
  pub prints_no_own : (settings : CacheSettings) (before : Course) → PrintsOwn settings before command []
  pub owed : StepKeeps (λ key text. Unit {0}) (λ it test. test ≡ holds_of it) holds_of step

-- For each point of the script that the session may be at: the command prints these lines, and leads to the session's
-- new point.
abbrev pub Prints : CacheData → ℕ → PlainCommand → List (List ℕ) → CacheData → ℕ → Type 0
Prints cache moment command printed cache_after moment_after =
    (settings : CacheSettings) (before : Course) → IsAt cache moment settings before →
    (after : Course) × CommandPrints settings before command printed after × IsAt cache_after moment_after settings after

-- For which history a segment of a session's cache stands.
abbrev pub segment_stands_for : Whole ℕ Text → SegmentState → List (AcceptedStep ℕ Text Text) → Type 0
segment_stands_for settings state steps = StandsFor nat_eq is_copy settings (segment_view state) steps

-- Iterating over the cache at a moment, without errors, yields these pairs, and then ends.
abbrev pub IsWholeWalk : CacheData → ℕ → List (ℕ × Text) → Type 0
IsWholeWalk cache moment pairs =
    (histories : List (History ℕ Text Text))
    → AllHaveHistories segment_stands_for cache.segments histories
    → YieldsJust nat_eq is_copy is_surely_copied histories moment start pairs

-- For each point of the script that the session may be at: the line prints what is written, and leads to the session's
-- new point.
abbrev pub DoesLine : CacheData → ℕ → List ℕ → Bool → CacheData → ℕ → Option (List ℕ) → Option (List ℕ) → Type 0
DoesLine cache moment line bad cache_after moment_after held held_after =
    (settings : CacheSettings) (before : Course) → IsAt cache moment settings before →
    (printed : List (List ℕ)) × (after : Course) × LinePrints settings before (command_by_line line) printed after bad
    × IsAt cache_after moment_after settings after × Appends held held_after (lines_text printed)
