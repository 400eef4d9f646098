-- What a script prints, by the calls of its cache.
use Rattle.std.specs.Prelude.{◌≡◌, ℕ, ◌+◌, ◌*◌, ◌/◌, ◌%◌, ◌^◌, Bool, true, false, ◌||◌, List, [], ◌∷◌, ◌++◌, flat_map, replicate}
use Rattle.std.specs.Prelude.{Option, Some, None, IsSome, String, option_map, unwrap_or, nat_eq, codes, ◌⊎◌, if◌then◌else◌, is_some}
use Rattle.std.specs.Arc.{arc_value}
use Rattle.std.specs.Fmt.{decimal}
use Rattle.std.specs.List.{onto_first, All}
use Rattle.std.specs.Option.{option_or}
use Rattle.std.specs.List.Sorted.{IsNonDecreasingBy}
use Rattle.std.specs.String.{string_bytes}
use Rattle.std.specs.declared.alloc.Global.{Global}
use Rattle.moka_model.specs.Lives as lives
use Rattle.moka_model.specs.Lives.{no_lifetimes}
use Rattle.moka_model.specs.MaintenanceLaws.{count}
use Rattle.moka_model.specs.Calls as calls
use Rattle.moka_model.specs.Calls.{Call, IsCopyOf}
use Rattle.moka_model.specs.Entries.{entry_of}
use Rattle.moka_model.specs.Turns.{Name}
use Rattle.moka_model.specs.declared.comp_result.CompResult.{CompResult}
use Rattle.moka_model.specs.declared.comp_result.CompResult.TheVariants as results
use Rattle.moka_model.specs.declared.turns.Kind.{Kind}
use Rattle.moka_model.specs.declared.turns.Kind.TheVariants.{Compute}
use Rattle.moka_model.specs.declared.turns.Op.TheVariants as ops
use Rattle.moka_model.specs.declared.turns.Outcome.{Outcome}
use Rattle.moka_model.specs.declared.turns.Outcome.TheVariants as outcomes
use Rattle.moka_policy.specs.Frequency.{Counts, estimate_after}
use Rattle.moka_policy.specs.declared.clock.ManualClock.{ManualClock}
use Rattle.moka_policy.specs.declared.expiry.NoExpiry.{NoExpiry}
use Rattle.moka_policy.specs.declared.listener.NoListener.{NoListener}
use Rattle.moka_policy.specs.declared.policy.NumberHash.{NumberHash}
use Rattle.std.specs.declared.hash.BuildHasherDefault.{BuildHasherDefault}
use Rattle.moka_segment_model.specs.Segments.{SegmentedSettings, segments_of, bits_for, live_in, notices_in}
use Rattle.moka_segmented.specs.Step.{IsReplyIn, after_reply_in}
use Rattle.moka_state.specs.declared.step.Step.{Step}
use Rattle.moka_state.specs.declared.step.Reply.{Reply}
use Rattle.moka_state.specs.declared.step.Reply.TheVariants as replies
use Rattle.moka_policy.specs.Building.{too_long_of, flush_refused_of}
use Rattle.moka_sync.specs.Builder.{segments_refused}
use Rattle.moka_policy.specs.declared.builder_utils.BuildError.{BuildError}
use Rattle.moka_policy.specs.declared.builder_utils.BuildError.TheVariants.{OutOfMemory}
use Rattle.mokabox_syntax.specs.OutputLine.{output_text, measure_text, pairs_text}
use Rattle.mokabox_syntax.specs.declared.output_line.OutputLine.{OutputLine}
use Rattle.mokabox_syntax.specs.declared.output_line.OutputLine.TheVariants as outputs
use Rattle.mokabox_syntax.specs.declared.output_line.Became.{Became}
use Rattle.mokabox_syntax.specs.declared.output_line.Became.TheVariants as fates
use Rattle.mokabox_syntax.specs.Command.{PlainCommand, command_by_line}
use Rattle.mokabox_syntax.specs.Fields.{fields_of, is_one_of}
use Rattle.mokabox_syntax.specs.Settings.{settings_by, byte_weight}
use Rattle.mokabox_syntax.specs.declared.command.Command.TheVariants.{At, Insert, Get, Has, Invalidate, Tasks, Count, Weight, Notices}
use Rattle.mokabox_syntax.specs.declared.command.Command.TheVariants.{Remove, InvalidateAll, InvalidateIf, TasksUpTo, Policy, Walk}
use Rattle.mokabox_syntax.specs.declared.command.Command.TheVariants.{OrInsert, Begin, BeginCompute, Finish, Abandon, Collect, Leave}
use Rattle.mokabox_syntax.specs.declared.turn.Ending.TheVariants as endings
use Rattle.mokabox_syntax.specs.declared.turn.TurnOf.{TurnOf}
use Rattle.mokabox_syntax.specs.Turn.{PlainEnding}
use Rattle.mokabox_syntax.specs.declared.settings.Eviction.{Eviction}
use Rattle.mokabox_syntax.specs.declared.settings.Eviction.TheVariants.{Lru, TinyLfu}
use Rattle.mokabox_syntax.specs.declared.settings.Settings.{Settings}
use Rattle.mokabox_syntax.specs.declared.settings.Weighing.{Weighing}
use Rattle.mokabox_syntax.specs.declared.settings.Weighing.TheVariants as weighings
use Rattle.mokabox_interpreter.specs.declared.one_of.OneOf.{OneOf}
use Rattle.mokabox_interpreter.specs.declared.session.Bytes.{Bytes}
use Rattle.mokabox_interpreter.specs.declared.session.ScriptTypes.{ScriptTypes}

-- The type of the values of a script's cache. Its keys are numbers.
abbrev pub Text : Type 0
Text = String Global

-- A clone of a text has the same bytes.
abbrev pub is_copy : Text → Text → Type 0
is_copy text copy = string_bytes copy ≡ string_bytes text

-- What makes the hashers of a script's cache.
abbrev pub CacheHasher : Type 0
CacheHasher = BuildHasherDefault NumberHash

-- A step of a script's cache.
abbrev pub ScriptStep : Type 0
ScriptStep = Step ℕ Text ScriptTypes CacheHasher Bytes NoExpiry OneOf Counts NoListener ManualClock Text NumberHash

-- The reply to a step of a script's cache.
abbrev pub ScriptReply : Type 0
ScriptReply = Reply ℕ Text ScriptTypes CacheHasher Bytes NoExpiry OneOf Counts NoListener ManualClock Text NumberHash

-- The texts whose clones never fail: none.
abbrev pub is_surely_copied : Text → Type 0
is_surely_copied text = ⊥

-- What a script's cache is built with: the settings of the whole, and the number of its segments.
abbrev pub CacheSettings : Type 0
CacheSettings = SegmentedSettings ℕ Text

-- A point of a script: the calls of its cache that did not fail, the newest first, and the moment of its commands.
pub record Course : Type 0 where
  pub done : List (Call ℕ Text Text)
  pub moment : ℕ

-- Whether the bytes of a text are those of one of some texts, which are separated by single spaces.
abbrev pub is_among : List ℕ → Text → Bool
is_among texts text = is_one_of (string_bytes text) (fields_of texts)

-- The turn that a command names.
abbrev pub name_of_turn : TurnOf → Name ℕ
name_of_turn turn = record { number = turn.number; kind = turn.kind; key = turn.key }

-- The ending of a command that gives this outcome. Its texts have the same bytes.
abbrev pub ending_by : Outcome Text Text → PlainEnding
ending_by (outcomes.Value text) = endings.Value (string_bytes text)
ending_by outcomes.Nothing = endings.Nothing
ending_by (outcomes.Failed error) = endings.Failed (string_bytes error)
ending_by (outcomes.Op (ops.Put text)) = endings.Put (string_bytes text)
ending_by (outcomes.Op ops.Remove) = endings.Remove
ending_by (outcomes.Op ops.Nop) = endings.Nop

-- The calls that a command makes at a moment, when so many notices are queued. A text in a call has the bytes that the
-- command has. `notices` takes all of them, and once more when there is none.
abbrev pub Makes : ℕ → ℕ → PlainCommand → List (Call ℕ Text Text) → Type 0
Makes notices moment (At later) made = made ≡ []
Makes notices moment (Insert key value) made = (text : Text) × (string_bytes text ≡ value) × (made ≡ calls.Insert key text moment ∷ [])
Makes notices moment (OrInsert key value) made =
    (text : Text) × (string_bytes text ≡ value) × (made ≡ calls.OrInsert key text moment ∷ [])
Makes notices moment (Get key) made = made ≡ calls.Get key moment ∷ []
Makes notices moment (Has key) made = made ≡ calls.ContainsKey key moment ∷ []
Makes notices moment (Invalidate key) made = made ≡ calls.Invalidate key moment ∷ []
Makes notices moment (Remove key) made = made ≡ calls.Remove key moment ∷ []
Makes notices moment InvalidateAll made = made ≡ calls.InvalidateAll ∷ []
Makes notices moment (InvalidateIf texts) made = made ≡ calls.InvalidateIf (λ key text. is_among texts text) ∷ []
Makes notices moment Tasks made = made ≡ calls.RunPendingTasks moment ∷ []
Makes notices moment (TasksUpTo limit) made = made ≡ calls.RunPendingTasksUpTo limit moment ∷ []
Makes notices moment Count made = made ≡ calls.EntryCount ∷ []
Makes notices moment Weight made = made ≡ calls.WeightedSize ∷ []
Makes notices moment Notices made = made ≡ replicate (notices + 1) calls.TakeNotice
Makes notices moment Policy made = made ≡ []
Makes notices moment Walk made = made ≡ []
Makes notices moment (Begin kind key replace) made = made ≡ calls.Begin key kind replace moment ∷ []
Makes notices moment (BeginCompute key) made = made ≡ calls.BeginCompute key true moment ∷ []
Makes notices moment (Finish turn ending) made =
    (outcome : Outcome Text Text) × (ending_by outcome ≡ ending) × (made ≡ calls.Finish (name_of_turn turn) outcome moment ∷ [])
Makes notices moment (Abandon turn) made = made ≡ calls.Abandon (name_of_turn turn) ∷ []
Makes notices moment (Collect turn) made = made ≡ calls.Collect (name_of_turn turn) ∷ []
Makes notices moment (Leave turn) made = made ≡ calls.Leave (name_of_turn turn) ∷ []

-- The moment of the commands after a command.
abbrev pub moment_after : PlainCommand → ℕ → ℕ
moment_after (At later) moment = later
moment_after command moment = moment

-- What is printed for an entry.
abbrev pub entered_of : calls.Entry ℕ Text → OutputLine
entered_of entry = outputs.Entered entry.key entry.value entry.fresh entry.replaced

-- What is printed for a turn that was opened: for a compute with the live value that it is shown.
abbrev pub run_of : Kind → ℕ → Option (calls.Entry ℕ Text) → OutputLine
run_of Compute number shown = outputs.Shown number (record { 0 = option_map (λ entry. entry.value) shown })
run_of kind number shown = outputs.Run number

-- What is printed for the result of a compute.
abbrev pub became_of : CompResult ℕ Text → Became
became_of (results.StillNone key) = fates.StillNone (arc_value key)
became_of (results.Unchanged entry) = fates.Unchanged (entry_of entry).key (entry_of entry).value
became_of (results.Inserted entry) = fates.Inserted (entry_of entry).key (entry_of entry).value
became_of (results.ReplacedWith entry) = fates.ReplacedWith (entry_of entry).key (entry_of entry).value
became_of (results.Removed entry) = fates.Removed (entry_of entry).key (entry_of entry).value

-- What is printed for the reply to a call.
abbrev pub output_of : ScriptReply → OutputLine
output_of (replies.Found None) = outputs.NotFound
output_of (replies.Found (Some text)) = outputs.Found text
output_of (replies.Contains is_there) = outputs.Whether is_there
output_of replies.Done = outputs.Done
output_of (replies.Counted count) = outputs.Counted count
output_of (replies.Left b) = outputs.Unfinished b
output_of (replies.Noticed None) = outputs.End
output_of (replies.Noticed (Some notice)) = outputs.Left (arc_value notice.key) notice.value notice.cause
output_of (replies.Entered entry) = entered_of (entry_of entry)
output_of (replies.Run name entry) = run_of name.kind name.number (option_map entry_of entry)
output_of (replies.Wait name) = outputs.Waits name.number
output_of replies.Nothing = outputs.Nothing
output_of (replies.Failed error) = outputs.Failed (arc_value error)
output_of (replies.Computed result) = outputs.Computed (became_of result)
output_of replies.NotYet = outputs.NotYet
output_of replies.Abandoned = outputs.Abandoned
output_of replies.Ended = outputs.Ended
output_of (replies.Refused cause) = outputs.Refused cause
output_of (replies.PredicateRefused cause) = outputs.NotHidden cause

-- What calls print, one line for each reply, and the calls done after them. A call that fails leaves these as they are.
abbrev pub CallsPrint : CacheSettings → List (Call ℕ Text Text) → List (Call ℕ Text Text) →
    List (List ℕ) → List (Call ℕ Text Text) → Type 0
CallsPrint settings done [] printed after = (printed ≡ []) × (after ≡ done)
CallsPrint settings done (call ∷ more) printed after =
    (reply : ScriptReply) × (rest : List (List ℕ)) × IsReplyIn Text nat_eq is_copy is_surely_copied settings done call reply
    × (printed ≡ output_text (output_of reply) ∷ rest) × CallsPrint settings (after_reply_in call reply done) more rest after

-- A moment in whole seconds.
abbrev pub in_seconds : Option ℕ → Option ℕ
in_seconds nanos = option_map (λ n. n / 1_000_000_000) nanos

-- The line of a cache's policy, with its lifetimes in seconds and its number of segments.
abbrev pub policy_line : CacheSettings → List ℕ
policy_line settings =
    codes "policy capacity " ++ (measure_text settings.whole.max_capacity
    ++ (codes " ttl " ++ (measure_text (in_seconds settings.whole.time_to_live)
    ++ (codes " tti " ++ (measure_text (in_seconds settings.whole.time_to_idle)
    ++ (codes " segments " ++ decimal (segments_of settings)))))))

-- The live value of a key at a point of a script.
abbrev pub live_value : CacheSettings → Course → ℕ → Option Text
live_value settings before key = option_map (λ w. w.value) (live_in Text nat_eq settings before.done key before.moment)

-- These are all live pairs at that point, by increasing key: each live key once, with a clone of its value, and no
-- other.
pub record AreTheLive (settings : CacheSettings) (before : Course) (pairs : List (ℕ × Text)) : Type 0 where
  pub rising : IsNonDecreasingBy (λ pair. pair.0) pairs
  pub live : All (λ pair. IsCopyOf is_copy (live_value settings before pair.0) (Some pair.1)) pairs
  pub each_once : (key : ℕ) → IsSome (live_value settings before key) → count (λ pair. nat_eq pair.0 key) pairs ≡ 1

-- What a command prints that makes no call. `policy` prints what the settings say. `walk` prints all live pairs, or an
-- error if memory ran out.
abbrev pub PrintsOwn : CacheSettings → Course → PlainCommand → List (List ℕ) → Type 0
PrintsOwn settings before Policy lines = lines ≡ policy_line settings ∷ []
PrintsOwn settings before Walk lines =
    ((pairs : List (ℕ × Text)) × AreTheLive settings before pairs × (lines ≡ (codes "walk" ++ pairs_text pairs) ∷ []))
    ⊎ (lines ≡ (codes "refused " ++ decimal 1) ∷ [])
PrintsOwn settings before command lines = lines ≡ []

-- What a command prints, and the point of the script after it.
abbrev pub CommandPrints : CacheSettings → Course → PlainCommand → List (List ℕ) → Course → Type 0
CommandPrints settings before command printed after =
    (made : List (Call ℕ Text Text)) × (outputs : List (List ℕ)) × (own : List (List ℕ))
    × Makes (notices_in Text nat_eq settings before.done) before.moment command made
    × CallsPrint settings before.done made outputs after.done × PrintsOwn settings before command own × (printed ≡ own ++ outputs)
    × (after.moment ≡ moment_after command before.moment)

-- What a line prints, the point of the script after it, and whether the line is bad.
abbrev pub LinePrints : CacheSettings → Course → Option PlainCommand → List (List ℕ) → Course → Bool → Type 0
LinePrints settings before None printed after bad = (printed ≡ codes "bad line" ∷ []) × (after ≡ before) × (bad ≡ true)
LinePrints settings before (Some command) printed after bad = CommandPrints settings before command printed after × (bad ≡ false)

-- What the lines print, one after the other, and whether one of them is bad.
abbrev pub LinesPrint : CacheSettings → Course → List (List ℕ) → List (List ℕ) → Bool → Type 0
LinesPrint settings before [] printed bad = (printed ≡ []) × (bad ≡ false)
LinesPrint settings before (line ∷ lines) printed bad =
    (first : List (List ℕ)) × (after : Course) × (bad_first : Bool) × (rest : List (List ℕ)) × (bad_rest : Bool)
    × LinePrints settings before (command_by_line line) first after bad_first × LinesPrint settings after lines rest bad_rest
    × (printed ≡ first ++ rest) × (bad ≡ (bad_first || bad_rest))

-- Whether the policy is LRU: only if the settings say so, else it is TinyLFU.
abbrev pub is_lru_by : Option Eviction → Bool
is_lru_by None = false
is_lru_by (Some Lru) = true
is_lru_by (Some TinyLfu) = false

-- The weight of a value by its bytes: 1 without a weigher.
abbrev pub weight_by : Option Weighing → List ℕ → ℕ
weight_by None value = 1
weight_by (Some weighings.Bytes) value = byte_weight value

-- The settings of the cache, in nanoseconds. A key is its own hash, since keys are below 2^64.
abbrev pub whole_settings : Settings → lives.Settings ℕ Text
whole_settings settings = record {
  time_to_live = option_map (λ seconds. seconds * 1_000_000_000) settings.time_to_live;
  time_to_idle = option_map (λ seconds. seconds * 1_000_000_000) settings.time_to_idle;
  max_capacity = settings.capacity;
  first_number = unwrap_or settings.first_number 0;
  supports_closures = settings.closures;
  flush_limit = settings.flush_limit;
  behaviour = record {
    is_lru = is_lru_by settings.policy;
    hash = λ key. key % 2 ^ 64;
    weight = λ key text. weight_by settings.weigher (string_bytes text);
    lifetimes = no_lifetimes;
  };
  frequency = estimate_after 6;
}

-- The number of segments asked for: one unless the settings say otherwise.
abbrev pub wanted_segments : Settings → ℕ
wanted_segments settings = unwrap_or settings.segments 1

-- The settings of the cache with its number of segments, the next power of two: how many bits of a hash name one.
abbrev pub cache_settings : Settings → CacheSettings
cache_settings settings = record { bits = bits_for (wanted_segments settings); whole = whole_settings settings }

-- Why a cache with these settings cannot be built, memory aside: its number of segments, else too long a lifetime, else
-- its flush limit.
abbrev pub settings_refused : Settings → Option BuildError
settings_refused settings =
    option_or (segments_refused (wanted_segments settings))
    (option_or (too_long_of (whole_settings settings).time_to_live (whole_settings settings).time_to_idle)
    (flush_refused_of settings.flush_limit (is_some settings.weigher)))

-- What is printed if the cache is not built.
abbrev pub not_built : BuildError → List ℕ
not_built cause = output_text (outputs.NotBuilt cause)

-- The point where a script begins.
abbrev pub beginning : Course
beginning = record { done = []; moment = 0 }

-- The exit status, by whether a line was bad.
abbrev pub status_of : Bool → ℕ
status_of bad = if bad then 2 else 0

-- What the first line and those after it print, and the exit status. Even with good settings the cache may not be
-- built, for lack of memory.
abbrev pub FirstPrints : Option Settings → List (List ℕ) → List (List ℕ) → ℕ → Type 0
FirstPrints None lines printed status = (printed ≡ codes "bad line" ∷ []) × (status ≡ 2)
FirstPrints (Some settings) lines printed status =
    ((rest : List (List ℕ)) × (bad : Bool) × (settings_refused settings ≡ None) × (printed ≡ codes "ok" ∷ rest)
    × LinesPrint (cache_settings settings) beginning lines rest bad
    × (status ≡ status_of bad))
    ⊎ ((printed ≡ not_built (unwrap_or (settings_refused settings) OutOfMemory) ∷ []) × (status ≡ 2))

-- The lines of an input: a line feed ends a line. What follows the last one is a line if it is not empty.
abbrev pub lines_of : List ℕ → List (List ℕ)
lines_of [] = []
lines_of (byte ∷ bytes) = if nat_eq byte 10 then [] ∷ lines_of bytes else onto_first byte (lines_of bytes)

-- What a script prints, and the exit status.
abbrev pub ScriptPrints : List (List ℕ) → List (List ℕ) → ℕ → Type 0
ScriptPrints [] printed status = (printed ≡ []) × (status ≡ 0)
ScriptPrints (line ∷ lines) printed status = FirstPrints (settings_by line) lines printed status

-- The bytes of printed lines.
abbrev pub lines_text : List (List ℕ) → List ℕ
lines_text printed = flat_map (λ line. line ++ (10 ∷ [])) printed
