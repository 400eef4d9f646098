-- How turns, and what they are finished with, are written as fields and read from them.
use Rattle.std.specs.Prelude.{ℕ, ◌^◌, ◌<◌, List, [], ◌∷◌, Option, Some, None, option_map, option_and_then, codes, if◌then◌else◌}
use Rattle.std.specs.Borrow.{Bor}
use Rattle.std.specs.Fmt.{decimal}
use Rattle.std.specs.Str.{bytes_eq}
use Rattle.moka_model.specs.declared.turns.Kind.{Kind}
use Rattle.moka_model.specs.declared.turns.Kind.TheVariants.{With, Optionally, Try, Compute}
use Rattle.mokabox_syntax.specs.Fields.{alone, first_of, number_of, read_by, sole_text_of, IsText}
use Rattle.mokabox_syntax.specs.declared.turn.Ending.{Ending}
use Rattle.mokabox_syntax.specs.declared.turn.Ending.TheVariants.{Value, Nothing, Failed, Put, Remove, Nop}
use Rattle.mokabox_syntax.specs.declared.turn.TurnOf.{TurnOf}

-- The word of a kind.
abbrev pub kind_word : Kind → List ℕ
kind_word With = codes "with"
kind_word Optionally = codes "optionally"
kind_word Try = codes "try"
kind_word Compute = codes "compute"

-- The kind of a word.
abbrev pub kind_of : List ℕ → Option Kind
kind_of word =
    if bytes_eq word (codes "with") then Some With
    else (if bytes_eq word (codes "optionally") then Some Optionally
    else (if bytes_eq word (codes "try") then Some Try else (if bytes_eq word (codes "compute") then Some Compute else None)))

-- The fields that name a turn.
abbrev pub turn_fields : TurnOf → List (List ℕ)
turn_fields turn = kind_word turn.kind ∷ decimal turn.key ∷ decimal turn.number ∷ []

-- A line can name the turn: its numbers are below 2^64.
abbrev pub IsNamable : TurnOf → Type 0
IsNamable turn = (turn.key < 2 ^ 64) × (turn.number < 2 ^ 64)

-- The turn that the first fields name, and the fields after them.
abbrev pub turn_of : List (List ℕ) → Option (TurnOf × List (List ℕ))
turn_of fields =
    option_and_then (λ kind. option_and_then (λ key. option_map (λ number.
    (record { kind = kind.0; key = key.0; number = number.0 }, number.1))
    (first_of number_of key.1)) (first_of number_of kind.1)) (first_of kind_of fields)

-- The turn that the fields name, if they are no more than its name.
abbrev pub sole_turn_of : List (List ℕ) → Option TurnOf
sole_turn_of fields = option_and_then (λ named. alone named.0 named.1) (turn_of fields)

-- An ending with the bytes of its texts.
abbrev pub PlainEnding : Type 0
PlainEnding = Ending (List ℕ)

-- The ending with the bytes of its texts in place of the texts.
abbrev pub plain_ending : Ending (Bor (List ℕ)) → PlainEnding
plain_ending (Value value) = Value value.now
plain_ending Nothing = Nothing
plain_ending (Failed text) = Failed text.now
plain_ending (Put value) = Put value.now
plain_ending Remove = Remove
plain_ending Nop = Nop

-- The fields that an ending is written as.
abbrev pub ending_fields : PlainEnding → List (List ℕ)
ending_fields (Value value) = codes "value" ∷ value ∷ []
ending_fields Nothing = codes "nothing" ∷ []
ending_fields (Failed text) = codes "failed" ∷ text ∷ []
ending_fields (Put value) = codes "put" ∷ value ∷ []
ending_fields Remove = codes "remove" ∷ []
ending_fields Nop = codes "nop" ∷ []

-- A line can express the ending: its texts are texts.
abbrev pub IsSayable : PlainEnding → Type 0
IsSayable (Value value) = IsText value
IsSayable Nothing = Unit {0}
IsSayable (Failed text) = IsText text
IsSayable (Put value) = IsText value
IsSayable Remove = Unit {0}
IsSayable Nop = Unit {0}

-- The words of the endings, each with the reader of the fields after it.
abbrev pub ending_words : List (List ℕ × (List (List ℕ) → Option PlainEnding))
ending_words = (codes "value", λ rest. option_map Value (sole_text_of rest))
    ∷ (codes "nothing", alone Nothing)
    ∷ (codes "failed", λ rest. option_map Failed (sole_text_of rest))
    ∷ (codes "put", λ rest. option_map Put (sole_text_of rest))
    ∷ (codes "remove", alone Remove)
    ∷ (codes "nop", alone Nop)
    ∷ []

-- The ending that the fields give.
abbrev pub ending_of : List (List ℕ) → Option PlainEnding
ending_of [] = None
ending_of (word ∷ rest) = read_by ending_words word rest
