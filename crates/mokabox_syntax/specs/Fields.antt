-- The fields of a line, and what is read from them.
use Rattle.std.specs.Prelude.{◌≡◌, ◌<◌, ◌⊎◌, length, slice_index, ℕ, ◌^◌, ◌==◌, nat_lt, Bool, true, false, ◌&&◌, ◌||◌}
use Rattle.std.specs.Prelude.{List, [], ◌∷◌, Option, Some, None}
use Rattle.std.specs.Prelude.{option_and_then, option_map, All, ◌≢◌, if◌then◌else◌}
use Rattle.std.specs.Borrow.{Bor}
use Rattle.std.specs.List.{slice_split, join_with_byte}
use Rattle.std.specs.Fmt.{decimal}
use Rattle.std.specs.Str.{bytes_eq, is_utf8, IsUtf8}
use Rattle.std.specs.Str.Parse.{digits_value}

-- Whether a byte is the space between two fields.
abbrev pub is_space : ℕ → Bool
is_space byte = byte == 32

-- The fields of a line: its parts between single spaces.
abbrev pub fields_of : List ℕ → List (List ℕ)
fields_of line = slice_split is_space line

-- The fields of what follows a space; none if nothing does.
abbrev pub fields_in : Option (Bor (List ℕ)) → List (List ℕ)
fields_in None = []
fields_in (Some line) = fields_of line.now

-- The number that a field spells in decimal digits, below 2^64.
unfoldable pub number_of : List ℕ → Option ℕ
number_of field = let number = digits_value 10 field in
    if nat_lt number (2 ^ 64) && bytes_eq field (decimal number) then Some number else None

-- The field begins with a plus sign, or with a zero that is not its only byte.
abbrev pub IsPadded : List ℕ → Type 0
IsPadded field = ((0 < length field) × (slice_index field 0 ≡ 43)) ⊎ ((1 < length field) × (slice_index field 0 ≡ 48))

-- The field as a text, if it is not empty.
abbrev pub text_of : List ℕ → Option (List ℕ)
text_of [] = None
text_of (byte ∷ bytes) = Some (byte ∷ bytes)

-- The only field, if there is exactly one.
abbrev pub sole_of : List (List ℕ) → Option (List ℕ)
sole_of [] = None
sole_of (field ∷ []) = Some field
sole_of (field ∷ other ∷ more) = None

-- The only field as a number.
abbrev pub sole_number_of : List (List ℕ) → Option ℕ
sole_number_of fields = option_and_then number_of (sole_of fields)

-- The only field as a text.
abbrev pub sole_text_of : List (List ℕ) → Option (List ℕ)
sole_text_of fields = option_and_then text_of (sole_of fields)

-- What the first field says, and the fields after it.
abbrev pub first_of : {A : Type 0} → (List ℕ → Option A) → List (List ℕ) → Option (A × List (List ℕ))
first_of read [] = None
first_of read (field ∷ rest) = option_map (λ what. (what, rest)) (read field)

-- `Some` exactly if no field is left.
abbrev pub none_left : List (List ℕ) → Option (Unit {0})
none_left [] = Some tt
none_left (field ∷ more) = None

-- The thing, if no field is left.
abbrev pub alone : {A : Type 0} → A → List (List ℕ) → Option A
alone what rest = option_map (λ none. what) (none_left rest)

-- What the fields after a word say, by the reader of that word.
abbrev pub read_by : {A : Type 0} → List (List ℕ × (List (List ℕ) → Option A)) → List ℕ → List (List ℕ) → Option A
read_by [] word rest = None
read_by (entry ∷ entries) word rest = if bytes_eq word entry.0 then entry.1 rest else read_by entries word rest

-- Whether no field is empty.
abbrev pub none_empty : List (List ℕ) → Bool
none_empty [] = true
none_empty ([] ∷ more) = false
none_empty ((byte ∷ bytes) ∷ more) = none_empty more

-- The fields as texts, separated by single spaces, if there are any and none is empty.
abbrev pub texts_of : List (List ℕ) → Option (List ℕ)
texts_of [] = None
texts_of (field ∷ more) = if none_empty (field ∷ more) then Some (join_with_byte 32 (field ∷ more)) else None

-- Whether one of the fields is this text.
abbrev pub is_one_of : List ℕ → List (List ℕ) → Bool
is_one_of text [] = false
is_one_of text (field ∷ more) = bytes_eq field text || is_one_of text more

-- These are the bytes of a text: not empty, without a space, and UTF-8.
pub record IsText (bytes : List ℕ) : Type 0 where
  pub some : 0 < length bytes
  pub spaceless : All (λ byte. byte ≢ 32) bytes
  pub utf8 : IsUtf8 bytes

-- What the fields of a line say, if it is UTF-8.
abbrev pub line_reading : {A : Type 0} → (List (List ℕ) → Option A) → List ℕ → Option A
line_reading read line = if is_utf8 line then read (fields_of line) else None
