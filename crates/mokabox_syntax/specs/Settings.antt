-- How settings are written as a first line, and how a first line is read.
use Rattle.std.specs.Prelude.{◌==◌, ◌^◌, ◌<◌, ℕ, true, false, List, [], ◌∷◌, ◌++◌, length, min}
use Rattle.std.specs.Prelude.{Option, Some, None, is_some, map, option_map}
use Rattle.std.specs.Prelude.{option_and_then, codes, if◌then◌else◌}
use Rattle.std.specs.Fmt.{decimal}
use Rattle.std.specs.List.{join_with_byte}
use Rattle.std.specs.Str.{bytes_eq}
use Rattle.mokabox_syntax.specs.Fields.{line_reading, number_of}
use Rattle.mokabox_syntax.specs.declared.settings.Eviction.{Eviction}
use Rattle.mokabox_syntax.specs.declared.settings.Eviction.TheVariants.{Lru, TinyLfu}
use Rattle.mokabox_syntax.specs.declared.settings.Setting.{Setting}
use Rattle.mokabox_syntax.specs.declared.settings.Setting.TheVariants.{TimeToLive, TimeToIdle, FirstNumber, Capacity}
use Rattle.mokabox_syntax.specs.declared.settings.Setting.TheVariants.{InitialCapacity, Segments, Policy, Weigher, Closures, FlushLimit}
use Rattle.mokabox_syntax.specs.declared.settings.Settings.{Settings}
use Rattle.mokabox_syntax.specs.declared.settings.Weighing.{Weighing}
use Rattle.mokabox_syntax.specs.declared.settings.Weighing.TheVariants.{Bytes}

-- The name of an eviction policy in a line.
abbrev pub eviction_text : Eviction → List ℕ
eviction_text Lru = codes "lru"
eviction_text TinyLfu = codes "tinylfu"

-- The name of a weigher in a line.
abbrev pub weighing_text : Weighing → List ℕ
weighing_text Bytes = codes "bytes"

-- The weight of a value by its length in bytes, at most 2^32 - 1.
abbrev pub byte_weight : List ℕ → ℕ
byte_weight value = min (length value) 4_294_967_295

-- The field that a setting is written as.
abbrev pub setting_text : Setting → List ℕ
setting_text (TimeToLive seconds) = codes "ttl=" ++ decimal seconds
setting_text (TimeToIdle seconds) = codes "tti=" ++ decimal seconds
setting_text (FirstNumber number) = codes "first=" ++ decimal number
setting_text (Capacity most) = codes "capacity=" ++ decimal most
setting_text (InitialCapacity count) = codes "initial=" ++ decimal count
setting_text (Segments count) = codes "segments=" ++ decimal count
setting_text (Policy eviction) = codes "policy=" ++ eviction_text eviction
setting_text (Weigher weighing) = codes "weigher=" ++ weighing_text weighing
setting_text Closures = codes "closures"
setting_text (FlushLimit most) = codes "flush=" ++ decimal most

-- The first line with these settings, in this order.
abbrev pub first_line_of : List Setting → List ℕ
first_line_of settings = join_with_byte 32 (codes "new" ∷ map setting_text settings)

-- A line can express the setting: its number is below 2^64.
abbrev pub IsGivable : Setting → Type 0
IsGivable (TimeToLive seconds) = seconds < 2 ^ 64
IsGivable (TimeToIdle seconds) = seconds < 2 ^ 64
IsGivable (FirstNumber number) = number < 2 ^ 64
IsGivable (Capacity most) = most < 2 ^ 64
IsGivable (InitialCapacity count) = count < 2 ^ 64
IsGivable (Segments count) = count < 2 ^ 64
IsGivable (Policy eviction) = Unit {0}
IsGivable (Weigher weighing) = Unit {0}
IsGivable Closures = Unit {0}
IsGivable (FlushLimit most) = most < 2 ^ 64

-- No settings.
abbrev pub none_given : Settings
none_given = record {
  time_to_live = None;
  time_to_idle = None;
  first_number = None;
  capacity = None;
  initial_capacity = None;
  segments = None;
  policy = None;
  weigher = None;
  closures = false;
  flush_limit = None;
}

-- The settings and one more, which is not set yet.
abbrev pub with_setting : Settings → Setting → Option Settings
with_setting settings (TimeToLive seconds) =
    if is_some settings.time_to_live then None else Some (record settings { time_to_live = Some seconds })
with_setting settings (TimeToIdle seconds) =
    if is_some settings.time_to_idle then None else Some (record settings { time_to_idle = Some seconds })
with_setting settings (FirstNumber number) =
    if is_some settings.first_number then None else Some (record settings { first_number = Some number })
with_setting settings (Capacity most) = if is_some settings.capacity then None else Some (record settings { capacity = Some most })
with_setting settings (InitialCapacity count) =
    if is_some settings.initial_capacity then None else Some (record settings { initial_capacity = Some count })
with_setting settings (Segments count) = if is_some settings.segments then None else Some (record settings { segments = Some count })
with_setting settings (Policy eviction) = if is_some settings.policy then None else Some (record settings { policy = Some eviction })
with_setting settings (Weigher weighing) = if is_some settings.weigher then None else Some (record settings { weigher = Some weighing })
with_setting settings Closures = if settings.closures then None else Some (record settings { closures = true })
with_setting settings (FlushLimit most) =
    if is_some settings.flush_limit then None else Some (record settings { flush_limit = Some most })

-- The settings and all of these, if no setting is twice among them.
abbrev pub settings_with_all : Settings → List Setting → Option Settings
settings_with_all settings [] = Some settings
settings_with_all settings (setting ∷ more) = option_and_then (λ now. settings_with_all now more) (with_setting settings setting)

-- All of these settings together, if none is twice among them.
abbrev pub settings_together : List Setting → Option Settings
settings_together given = settings_with_all none_given given

-- What is before the first equals sign, and what is after it.
abbrev pub halves : List ℕ → Option (List ℕ × List ℕ)
halves [] = None
halves (byte ∷ bytes) = if byte == 61 then Some ([], bytes) else option_map (λ parts. (byte ∷ parts.0, parts.1)) (halves bytes)

-- The eviction policy of a name.
abbrev pub eviction_of : List ℕ → Option Eviction
eviction_of name = if bytes_eq name (codes "lru") then Some Lru else (if bytes_eq name (codes "tinylfu") then Some TinyLfu else None)

-- The weigher of a name.
abbrev pub weighing_of : List ℕ → Option Weighing
weighing_of name = if bytes_eq name (codes "bytes") then Some Bytes else None

-- The names of the settings, each with the reader of its value.
abbrev pub names : List (List ℕ × (List ℕ → Option Setting))
names = (codes "ttl", λ value. option_map TimeToLive (number_of value))
    ∷ (codes "tti", λ value. option_map TimeToIdle (number_of value))
    ∷ (codes "first", λ value. option_map FirstNumber (number_of value))
    ∷ (codes "capacity", λ value. option_map Capacity (number_of value))
    ∷ (codes "initial", λ value. option_map InitialCapacity (number_of value))
    ∷ (codes "segments", λ value. option_map Segments (number_of value))
    ∷ (codes "policy", λ value. option_map Policy (eviction_of value))
    ∷ (codes "weigher", λ value. option_map Weigher (weighing_of value))
    ∷ (codes "flush", λ value. option_map FlushLimit (number_of value))
    ∷ []

-- The setting of a name and a value.
abbrev pub value_by : List (List ℕ × (List ℕ → Option Setting)) → List ℕ → List ℕ → Option Setting
value_by [] name value = None
value_by (entry ∷ entries) name value = if bytes_eq name entry.0 then entry.1 value else value_by entries name value

-- The setting that a field gives: the word `closures`, or a name and a value.
unfoldable pub setting_of : List ℕ → Option Setting
setting_of field =
    if bytes_eq field (codes "closures") then Some Closures else option_and_then (λ parts. value_by names parts.0 parts.1) (halves field)

-- The settings and those that the fields give.
abbrev pub settings_from : Settings → List (List ℕ) → Option Settings
settings_from settings [] = Some settings
settings_from settings (field ∷ fields) =
    option_and_then (λ setting. option_and_then (λ now. settings_from now fields) (with_setting settings setting)) (setting_of field)

-- The settings that the fields of a first line give.
abbrev pub settings_of : List (List ℕ) → Option Settings
settings_of [] = None
settings_of (word ∷ fields) = if bytes_eq word (codes "new") then settings_from none_given fields else None

-- The settings that a first line gives, if it is UTF-8.
abbrev pub settings_by : List ℕ → Option Settings
settings_by = line_reading settings_of
