-- How commands are written as lines, and how lines are read as commands.
use Rattle.std.specs.Prelude.{ℕ, ◌^◌, ◌<◌, Bool, true, false, List, [], ◌∷◌, ◌++◌}
use Rattle.std.specs.Prelude.{Option, Some, None, option_map, option_and_then, codes, if◌then◌else◌}
use Rattle.std.specs.Borrow.{Bor}
use Rattle.std.specs.Fmt.{decimal}
use Rattle.std.specs.List.{AllByRecursion, join_with_byte}
use Rattle.std.specs.Str.{bytes_eq}
use Rattle.mokabox_syntax.specs.Fields.{line_reading, fields_of, number_of, sole_number_of, sole_text_of, texts_of, IsText}
use Rattle.mokabox_syntax.specs.Fields.{alone, first_of, none_left, read_by}
use Rattle.moka_model.specs.declared.turns.Kind.{Kind}
use Rattle.moka_model.specs.declared.turns.Kind.TheVariants.{Compute}
use Rattle.mokabox_syntax.specs.Turn.{kind_word, kind_of, turn_fields, IsNamable, turn_of, sole_turn_of}
use Rattle.mokabox_syntax.specs.Turn.{plain_ending, ending_fields, IsSayable, ending_of}
use Rattle.mokabox_syntax.specs.declared.command.Command.{Command}
use Rattle.mokabox_syntax.specs.declared.command.Command.TheVariants.{At, Insert, Get, Has, Invalidate, Tasks, Count, Weight, Notices}
use Rattle.mokabox_syntax.specs.declared.command.Command.TheVariants.{Remove, InvalidateAll, InvalidateIf, TasksUpTo, Policy, Walk}
use Rattle.mokabox_syntax.specs.declared.command.Command.TheVariants.{OrInsert, Begin, BeginCompute, Finish, Abandon, Collect, Leave}

-- A command with the bytes of its texts.
abbrev pub PlainCommand : Type 0
PlainCommand = Command (List ℕ)

-- The command with the bytes of its texts in place of the texts.
abbrev pub plain_command : Command (Bor (List ℕ)) → PlainCommand
plain_command (At moment) = At moment
plain_command (Insert key value) = Insert key value.now
plain_command (OrInsert key value) = OrInsert key value.now
plain_command (Get key) = Get key
plain_command (Has key) = Has key
plain_command (Invalidate key) = Invalidate key
plain_command (Remove key) = Remove key
plain_command InvalidateAll = InvalidateAll
plain_command (InvalidateIf values) = InvalidateIf values.now
plain_command Tasks = Tasks
plain_command (TasksUpTo limit) = TasksUpTo limit
plain_command Count = Count
plain_command Weight = Weight
plain_command Notices = Notices
plain_command Policy = Policy
plain_command Walk = Walk
plain_command (Begin kind key replace) = Begin kind key replace
plain_command (BeginCompute key) = BeginCompute key
plain_command (Finish turn ending) = Finish turn (plain_ending ending)
plain_command (Abandon turn) = Abandon turn
plain_command (Collect turn) = Collect turn
plain_command (Leave turn) = Leave turn

-- The fields that say whether to replace a live value: one, or none.
abbrev pub replace_fields : Option Bool → List (List ℕ)
replace_fields None = []
replace_fields (Some true) = codes "replace=yes" ∷ []
replace_fields (Some false) = codes "replace=no" ∷ []

-- The fields of the line that a command is written as.
abbrev pub command_fields : PlainCommand → List (List ℕ)
command_fields (At moment) = codes "at" ∷ decimal moment ∷ []
command_fields (Insert key value) = codes "insert" ∷ decimal key ∷ value ∷ []
command_fields (OrInsert key value) = codes "or-insert" ∷ decimal key ∷ value ∷ []
command_fields (Get key) = codes "get" ∷ decimal key ∷ []
command_fields (Has key) = codes "has" ∷ decimal key ∷ []
command_fields (Invalidate key) = codes "invalidate" ∷ decimal key ∷ []
command_fields (Remove key) = codes "remove" ∷ decimal key ∷ []
command_fields InvalidateAll = codes "invalidate-all" ∷ []
command_fields (InvalidateIf values) = codes "invalidate-if" ∷ fields_of values
command_fields Tasks = codes "tasks" ∷ []
command_fields (TasksUpTo limit) = codes "tasks-up-to" ∷ decimal limit ∷ []
command_fields Count = codes "count" ∷ []
command_fields Weight = codes "weight" ∷ []
command_fields Notices = codes "notices" ∷ []
command_fields Policy = codes "policy" ∷ []
command_fields Walk = codes "walk" ∷ []
command_fields (Begin kind key replace) = codes "begin" ∷ kind_word kind ∷ decimal key ∷ replace_fields replace
command_fields (BeginCompute key) = codes "begin" ∷ kind_word Compute ∷ decimal key ∷ []
command_fields (Finish turn ending) = codes "finish" ∷ turn_fields turn ++ ending_fields ending
command_fields (Abandon turn) = codes "abandon" ∷ turn_fields turn
command_fields (Collect turn) = codes "collect" ∷ turn_fields turn
command_fields (Leave turn) = codes "leave" ∷ turn_fields turn

-- The line that a command is written as: its fields, separated by single spaces.
abbrev pub line_of : PlainCommand → List ℕ
line_of command = join_with_byte 32 (command_fields command)

-- Every kind but `Compute`, which has a command of its own.
abbrev pub IsNoCompute : Kind → Type 0
IsNoCompute Compute = ⊥
IsNoCompute kind = Unit {0}

-- A line can express the command. Its numbers are below 2^64, its texts are texts, and a `Begin` is not of the kind
-- `Compute`.
abbrev pub IsExpressible : PlainCommand → Type 0
IsExpressible (At moment) = moment < 2 ^ 64
IsExpressible (Insert key value) = (key < 2 ^ 64) × IsText value
IsExpressible (OrInsert key value) = (key < 2 ^ 64) × IsText value
IsExpressible (Get key) = key < 2 ^ 64
IsExpressible (Has key) = key < 2 ^ 64
IsExpressible (Invalidate key) = key < 2 ^ 64
IsExpressible (Remove key) = key < 2 ^ 64
IsExpressible InvalidateAll = Unit {0}
IsExpressible (InvalidateIf values) = AllByRecursion IsText (fields_of values)
IsExpressible Tasks = Unit {0}
IsExpressible (TasksUpTo limit) = limit < 2 ^ 64
IsExpressible Count = Unit {0}
IsExpressible Weight = Unit {0}
IsExpressible Notices = Unit {0}
IsExpressible Policy = Unit {0}
IsExpressible Walk = Unit {0}
IsExpressible (Begin kind key replace) = IsNoCompute kind × (key < 2 ^ 64)
IsExpressible (BeginCompute key) = key < 2 ^ 64
IsExpressible (Finish turn ending) = IsNamable turn × IsSayable ending
IsExpressible (Abandon turn) = IsNamable turn
IsExpressible (Collect turn) = IsNamable turn
IsExpressible (Leave turn) = IsNamable turn

-- Reads the command from the fields after its word.
abbrev pub Reader : Type 0
Reader = List (List ℕ) → Option PlainCommand

-- Reads a command of a key and a value.
abbrev pub insert_of : (ℕ → List ℕ → PlainCommand) → Reader
insert_of make [] = None
insert_of make (key ∷ rest) = option_and_then (λ number. option_map (make number) (sole_text_of rest)) (number_of key)

-- Reads whether to replace a live value from a field.
abbrev pub replace_of : List ℕ → Option Bool
replace_of field =
    if bytes_eq field (codes "replace=yes") then Some true else (if bytes_eq field (codes "replace=no") then Some false else None)

-- Reads whether to replace a live value from the fields that are left: none, or one.
abbrev pub replaces_of : List (List ℕ) → Option (Option Bool)
replaces_of [] = Some None
replaces_of (field ∷ rest) = option_and_then (λ none. option_map Some (replace_of field)) (none_left rest)

-- Reads the command that begins a turn from the fields after its kind and key: a compute has none.
abbrev pub begin_by : Kind → ℕ → Reader
begin_by Compute key rest = alone (BeginCompute key) rest
begin_by kind key rest = option_map (Begin kind key) (replaces_of rest)

-- Reads the command that begins a turn from its kind on.
abbrev pub begin_of : Reader
begin_of fields =
    option_and_then (λ kind. option_and_then (λ key. begin_by kind.0 key.0 key.1) (first_of number_of kind.1)) (first_of kind_of fields)

-- Reads the command that finishes a turn.
abbrev pub finish_of : Reader
finish_of fields = option_and_then (λ named. option_map (Finish named.0) (ending_of named.1)) (turn_of fields)

-- The words of the commands of turns, each with the reader of the fields after it.
unfoldable pub turn_words : List (List ℕ × Reader)
turn_words = (codes "begin", begin_of)
    ∷ (codes "finish", finish_of)
    ∷ (codes "abandon", λ rest. option_map Abandon (sole_turn_of rest))
    ∷ (codes "collect", λ rest. option_map Collect (sole_turn_of rest))
    ∷ (codes "leave", λ rest. option_map Leave (sole_turn_of rest))
    ∷ []

-- The words of the commands of the whole cache and of turns, each with its reader.
unfoldable pub whole_words : List (List ℕ × Reader)
whole_words = (codes "invalidate-all", alone InvalidateAll)
    ∷ (codes "invalidate-if", λ rest. option_map InvalidateIf (texts_of rest))
    ∷ (codes "tasks", alone Tasks)
    ∷ (codes "tasks-up-to", λ rest. option_map TasksUpTo (sole_number_of rest))
    ∷ (codes "count", alone Count)
    ∷ (codes "weight", alone Weight)
    ∷ (codes "notices", alone Notices)
    ∷ (codes "policy", alone Policy)
    ∷ (codes "walk", alone Walk)
    ∷ turn_words

-- The words of all commands, each with the reader of the fields after it.
abbrev pub words : List (List ℕ × Reader)
words = (codes "at", λ rest. option_map At (sole_number_of rest))
    ∷ (codes "insert", insert_of Insert)
    ∷ (codes "or-insert", insert_of OrInsert)
    ∷ (codes "get", λ rest. option_map Get (sole_number_of rest))
    ∷ (codes "has", λ rest. option_map Has (sole_number_of rest))
    ∷ (codes "invalidate", λ rest. option_map Invalidate (sole_number_of rest))
    ∷ (codes "remove", λ rest. option_map Remove (sole_number_of rest))
    ∷ whole_words

-- The command that the fields of a line give.
abbrev pub command_of : List (List ℕ) → Option PlainCommand
command_of [] = None
command_of (word ∷ rest) = read_by words word rest

-- The command of a line, if it is UTF-8.
abbrev pub command_by_line : List ℕ → Option PlainCommand
command_by_line = line_reading command_of
