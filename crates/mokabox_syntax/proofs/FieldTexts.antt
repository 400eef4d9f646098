use Rattle.std.proofs.Common.{Option, Some, None, zero, suc, ◌≡◌, ◌≢◌, ◌+◌, ◌<◌, ◌^◌, ℕ, ◌∷◌, ◌++◌, [], List, length, eqb, get_or, Bool, true, false, cond, not, ◌&&◌, nat_lt, refl, ap, ◌∙◌, arith, lit<}
use Rattle.std.proofs.Math.Seq.{take-append_seam, drop-append-add}
use Rattle.std.specs.List.{onto_first, join_with_byte, All, AllByRecursion}
use Rattle.std.specs.Fmt.{decimal}
use Rattle.std.specs.Str.{IsUtf8, is_utf8, IsAscii}
use Rattle.std.proofs.lemmas.Bool.{eqb-false, eq-eqb, ne_eqb, and_parts, ltb-true}
use Rattle.std.proofs.lemmas.Fmt.{digits_decimal, IsAscii-decimal}
use Rattle.std.proofs.lemmas.Grind.{common_steps}
use Rattle.std.proofs.lemmas.List.{length-append}
use Rattle.std.proofs.lemmas.List.Elements.{All-append, All-from_recursion, All-from_get_or}
use Rattle.std.proofs.lemmas.List.Splits.{slice_split_none, slice_split_at, join_with_byte-slice_split}
use Rattle.std.proofs.lemmas.Str.{IsUtf8-from_is_utf8, is_utf8-from_IsUtf8, IsUtf8-nil, IsUtf8-append, IsUtf8-from_ascii, IsUtf8-take, IsUtf8-drop, IsCharBoundary-before_ascii, IsCharBoundary-after_ascii}
use Rattle.std.proofs.lemmas.Str.Parse.{digit_at}
use Rattle.mokabox_syntax.proofs.NumberLaws.{own}
use Rattle.mokabox_syntax.proofs.Truth.{untrue}
use Rattle.mokabox_syntax.specs.Fields.{line_reading, fields_of, IsText}

-- no byte is a space
abbrev pub IsSpaceless : List ℕ → Type 0
IsSpaceless = All (λ byte. byte ≢ 32)

not_spaces : (field : List ℕ) → IsSpaceless field → All (λ byte. eqb byte 32 ≡ false) field
not_spaces field spaceless k d within = ne_eqb _ 32 (spaceless k d within)

-- the fields of a line have no spaces
front_spaceless : (byte : ℕ) (fields : List (List ℕ)) → byte ≢ 32 → AllByRecursion (AllByRecursion (λ b. b ≢ 32)) fields → AllByRecursion (AllByRecursion (λ b. b ≢ 32)) (onto_first byte fields)
front_spaceless byte [] other each = ((other, tt), tt)
front_spaceless byte (field ∷ fields) other each = ((other, each.0), each.1)

fields_spaceless_at : (byte : ℕ) (line : List ℕ) (test : Bool) → eqb byte 32 ≡ test → AllByRecursion (AllByRecursion (λ b. b ≢ 32)) (fields_of line) → AllByRecursion (AllByRecursion (λ b. b ≢ 32)) (cond test ([] ∷ fields_of line) (onto_first byte (fields_of line)))
fields_spaceless_at byte line true e each = (tt, each)
fields_spaceless_at byte line false e each = front_spaceless byte (fields_of line) (eqb-false byte 32 e) each

fields_spaceless : (line : List ℕ) → AllByRecursion (AllByRecursion (λ b. b ≢ 32)) (fields_of line)
fields_spaceless [] = (tt, tt)
fields_spaceless (byte ∷ line) = fields_spaceless_at byte line (eqb byte 32) refl (fields_spaceless line)

space_utf8 : IsUtf8 (32 ∷ [])
space_utf8 = IsUtf8-from_ascii (32 ∷ []) ascii where
  ascii : IsAscii (32 ∷ [])
  ascii zero = lit< tt
  ascii (suc i) = lit< tt

-- what stands before an ASCII byte of UTF-8 and after it is UTF-8
utf8_parts : (front : List ℕ) (byte : ℕ) (back : List ℕ) → byte < 128 → IsUtf8 (front ++ byte ∷ back) → IsUtf8 front × IsUtf8 back
utf8_parts front byte back ascii whole =
    let line = front ++ byte ∷ back in
    let at : get_or line (length front) 0 ≡ byte = grind (arith, common_steps) in
    let within : length front < length line = simp length-append (omega arith) in
    let before = IsUtf8-take line (length front) whole (IsCharBoundary-before_ascii line (length front) within (omega (arith, at))) in
    let after = IsUtf8-drop line (length front + 1) whole (IsCharBoundary-after_ascii line (length front) whole within (omega (arith, at))) in
    (rw take-append_seam at before, rw drop-append-add at after)

-- the fields of UTF-8 are UTF-8
utf8_fields : (fields : List (List ℕ)) → IsUtf8 (join_with_byte 32 fields) → AllByRecursion IsUtf8 fields
utf8_fields [] whole = tt
utf8_fields (field ∷ []) whole = (whole, tt)
utf8_fields (field ∷ other ∷ fields) whole =
    let parts = utf8_parts field 32 (join_with_byte 32 (other ∷ fields)) (lit< tt) whole in
    (parts.0, utf8_fields (other ∷ fields) parts.1)

-- a field of a line that is UTF-8
pub record IsField (field : List ℕ) : Type 0 where
  pub spaceless : IsSpaceless field
  pub utf8 : IsUtf8 field

both : (fields : List (List ℕ)) → AllByRecursion (AllByRecursion (λ b. b ≢ 32)) fields → AllByRecursion IsUtf8 fields → AllByRecursion IsField fields
both [] spaceless utf8 = tt
both (field ∷ fields) spaceless utf8 = (record { spaceless = All-from_recursion (λ b. b ≢ 32) field spaceless.0; utf8 = utf8.0 }, both fields spaceless.1 utf8.1)

fields_are : (line : List ℕ) → IsUtf8 line → AllByRecursion IsField (fields_of line)
fields_are line utf8 =
    let whole : join_with_byte 32 (fields_of line) ≡ line = join_with_byte-slice_split 32 line in
    let joined : IsUtf8 (join_with_byte 32 (fields_of line)) = rw whole utf8 in
    both (fields_of line) (fields_spaceless line) (utf8_fields (fields_of line) joined)

-- such fields, joined by spaces, make a line that has them
pub line_fields : (field : List ℕ) (fields : List (List ℕ)) → AllByRecursion IsField (field ∷ fields) → fields_of (join_with_byte 32 (field ∷ fields)) ≡ field ∷ fields
line_fields field [] each = slice_split_none (λ b. eqb b 32) field (not_spaces field each.0.spaceless)
line_fields field (other ∷ fields) each =
    slice_split_at (λ b. eqb b 32) field 32 (join_with_byte 32 (other ∷ fields)) (not_spaces field each.0.spaceless) refl
    ∙ ap (λ rest. field ∷ rest) (line_fields other fields each.1)

line_utf8 : (fields : List (List ℕ)) → AllByRecursion IsField fields → IsUtf8 (join_with_byte 32 fields)
line_utf8 [] each = IsUtf8-nil
line_utf8 (field ∷ []) each = each.0.utf8
line_utf8 (field ∷ other ∷ fields) each =
    IsUtf8-append field (32 ∷ join_with_byte 32 (other ∷ fields)) each.0.utf8
    (IsUtf8-append (32 ∷ []) (join_with_byte 32 (other ∷ fields)) space_utf8 (line_utf8 (other ∷ fields) each.1))

some_fields : (fields : List (List ℕ)) → 0 < length fields → AllByRecursion IsField fields → fields_of (join_with_byte 32 fields) ≡ fields
some_fields [] some each = absurd (omega arith)
some_fields (field ∷ fields) some each = line_fields field fields each

-- a line that says something has fields that say it
pub says_takes : {A : Type 0} (read : List (List ℕ) → Option A) (line : List ℕ) (what : A) → line_reading read line ≡ Some what → AllByRecursion IsField (fields_of line) × (read (fields_of line) ≡ Some what)
says_takes {A} read line what h = chosen (is_utf8 line) refl h where
  chosen : (test : Bool) → is_utf8 line ≡ test → cond test (read (fields_of line)) None ≡ Some what → AllByRecursion IsField (fields_of line) × (read (fields_of line) ≡ Some what)
  chosen true e given = (fields_are line (IsUtf8-from_is_utf8 line e), given)
  chosen false e given = cc

-- a line that is made of fields says what they say
pub says_again : {A : Type 0} (read : List (List ℕ) → Option A) (fields : List (List ℕ)) → 0 < length fields → AllByRecursion IsField fields → line_reading read (join_with_byte 32 fields) ≡ read fields
says_again read fields some each =
    let utf8 : is_utf8 (join_with_byte 32 fields) ≡ true = is_utf8-from_IsUtf8 (join_with_byte 32 fields) (line_utf8 fields each) in
    let same : fields_of (join_with_byte 32 fields) ≡ fields = some_fields fields some each in
    rw (utf8, same) refl

pub utf8_says : {A : Type 0} (read : List (List ℕ) → Option A) (line : List ℕ) → IsUtf8 line → read (fields_of line) ≡ line_reading read line
utf8_says read line utf8 = rw (is_utf8-from_IsUtf8 line utf8) refl

pub other_says : {A : Type 0} (read : List (List ℕ) → Option A) (line : List ℕ) → (IsUtf8 line → ⊥) → None ≡ line_reading read line
other_says {A} read line other = chosen (is_utf8 line) refl where
  chosen : (test : Bool) → is_utf8 line ≡ test → None ≡ cond test (read (fields_of line)) None
  chosen true e = absurd (other (IsUtf8-from_is_utf8 line e))
  chosen false e = refl

-- a text is a field
pub text_field : (text : List ℕ) → IsText text → IsField text
text_field text is = record { spaceless = is.spaceless; utf8 = is.utf8 }

pub text_fields : (texts : List (List ℕ)) → AllByRecursion IsText texts → AllByRecursion IsField texts
text_fields [] each = tt
text_fields (text ∷ more) each = (text_field text each.0, text_fields more each.1)

-- the digits of a number are a field
pub number_field : (n : ℕ) → n < 2 ^ 64 → IsField (decimal n)
number_field n small =
    let digits = digits_decimal own n small in
    record {
      spaceless = All-from_get_or (λ b. b ≢ 32) (decimal n) 0 (λ i within e. omega (arith, (digit_at (decimal n) i digits within).0, e));
      utf8 = IsUtf8-from_ascii (decimal n) (IsAscii-decimal n small);
    }

-- ASCII without a space, as a test
abbrev pub is_plain : List ℕ → Bool
is_plain [] = true
is_plain (byte ∷ bytes) = nat_lt byte 128 && (not (eqb byte 32) && is_plain bytes)

plain_spaceless : (word : List ℕ) → is_plain word ≡ true → AllByRecursion (λ b. b ≢ 32) word
plain_spaceless [] plain = tt
plain_spaceless (byte ∷ bytes) plain =
    let rest = and_parts (not (eqb byte 32)) (is_plain bytes) (and_parts (nat_lt byte 128) (not (eqb byte 32) && is_plain bytes) plain).1 in
    (λ e. let same = eq-eqb byte 32 e in let other = rest.0 in untrue (rw same at other), plain_spaceless bytes rest.1)

plain_ascii : (word : List ℕ) → is_plain word ≡ true → IsAscii word
plain_ascii [] plain i = lit< tt
plain_ascii (byte ∷ bytes) plain zero = ltb-true byte 128 (and_parts (nat_lt byte 128) (not (eqb byte 32) && is_plain bytes) plain).0
plain_ascii (byte ∷ bytes) plain (suc i) =
    plain_ascii bytes (and_parts (not (eqb byte 32)) (is_plain bytes) (and_parts (nat_lt byte 128) (not (eqb byte 32) && is_plain bytes) plain).1).1 i

-- a plain word is a field
pub word_field : (word : List ℕ) → is_plain word ≡ true → IsField word
word_field word plain = record { spaceless = All-from_recursion (λ b. b ≢ 32) word (plain_spaceless word plain); utf8 = IsUtf8-from_ascii word (plain_ascii word plain) }

-- a field behind a field is one
pub joined_field : (front back : List ℕ) → IsField front → IsField back → IsField (front ++ back)
joined_field front back one other = record {
  spaceless = All-append (λ b. b ≢ 32) front back one.spaceless other.spaceless;
  utf8 = IsUtf8-append front back one.utf8 other.utf8;
}
