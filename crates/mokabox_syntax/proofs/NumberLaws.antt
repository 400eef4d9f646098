use Rattle.std.proofs.Common.{zero, suc, ◌≡◌, ℕ, ◌<◌, ◌^◌, ◌∷◌, [], List, Bool, true, false, cond, ◌&&◌, nat_lt, length, get_or, Option, Some, None, Result, Ok, Err, refl, sym, ap, ◌∙◌, arith, ◌⊎◌, inl, inr, lit<}
use Rattle.std.specs.Fmt.{decimal}
use Rattle.std.specs.Str.{bytes_eq}
use Rattle.std.specs.Str.Parse.{ParsesUnsigned, digits_value, AllDigits, IsNumeral, without_leading_plus}
use Rattle.std.specs.Result.{result_ok}
use Rattle.std.proofs.lemmas.Fmt.{decimal_digit, digits_value-decimal, decimal-digits_value, first_decimal, parse-decimal}
use Rattle.std.proofs.lemmas.Bool.{ltb-true, lt-ltb}
use Rattle.std.proofs.lemmas.Slice.Eq.{bytes_eq-Decides}
use Rattle.std.proofs.lemmas.Str.Parse.{IsNumeralModel, numerals_by_value, tells_digits, without_leading_plus_none}
use Rattle.mokabox_syntax.specs.Fields.{number_of, IsPadded}

-- digits and their value, in std's own words
pub own : IsNumeralModel (AllDigits 10) (digits_value 10)
own = numerals_by_value (AllDigits 10) tells_digits

chosen : (a b : Bool) (n m : ℕ) → cond (a && b) (Some n) None ≡ Some m → (a ≡ true) × (b ≡ true) × (n ≡ m)
chosen true true n m h = (refl, refl, cc)
chosen true false n m h = cc
chosen false b n m h = cc

-- a field that is read as a number is its decimal digits
pub number_takes : (field : List ℕ) (n : ℕ) → number_of field ≡ Some n → (field ≡ decimal n) × (n < 2 ^ 64)
unfolding number_of
number_takes field n h =
    let value = digits_value 10 field in
    let parts = chosen (nat_lt value (2 ^ 64)) (bytes_eq field (decimal value)) value n h in
    let same : value ≡ n = parts.2 in
    let small : value < 2 ^ 64 = ltb-true value (2 ^ 64) parts.0 in
    let spelled : field ≡ decimal value = (bytes_eq-Decides field (decimal value)).0 parts.1 in
    (spelled ∙ ap decimal same, omega arith)

-- the decimal digits of a number are read as that number
pub number_again : (n : ℕ) → n < 2 ^ 64 → number_of (decimal n) ≡ Some n
unfolding number_of
number_again n small =
    let within : nat_lt n (2 ^ 64) ≡ true = lt-ltb n (2 ^ 64) small in
    let spelled : bytes_eq (decimal n) (decimal n) ≡ true = (bytes_eq-Decides (decimal n) (decimal n)).1 refl in
    rw (digits_value-decimal own n small, within, spelled) refl

none_by : (o : Option ℕ) → ((n : ℕ) → o ≡ Some n → ⊥) → None ≡ o
none_by None h = refl
none_by (Some n) h = absurd (h n refl)

-- a number begins with a zero only where it is 0
decimal_first : (n : ℕ) → n < 2 ^ 64 → (decimal n ≡ 48 ∷ []) ⊎ (48 < get_or (decimal n) 0 0)
decimal_first zero small = inl (decimal_digit 0 (lit< tt))
decimal_first (suc n) small = inr (first_decimal (suc n) (omega arith) small)

-- no number is padded
not_padded : (n : ℕ) → n < 2 ^ 64 → IsPadded (decimal n) → ⊥
not_padded n small padded = elim (decimal_first n small) [
  | inl zero_digit ↦ (let at : IsPadded (48 ∷ []) = rw zero_digit at padded in elim at [ inl sign ↦ omega (arith, sign.1) | inr more ↦ omega (arith, more.0) ])
  | inr above ↦ elim padded [ inl sign ↦ omega (arith, sign.1) | inr more ↦ omega (arith, more.1) ]
]

-- what is padded is no number
pub padded_none : (field : List ℕ) → IsPadded field → None ≡ number_of field
padded_none field padded = none_by (number_of field) (λ n e.
    let parts = number_takes field n e in
    not_padded n parts.1 (rw parts.0 at padded))

-- a field with no sign in front is parsed without one
unsigned : (field : List ℕ) → (IsPadded field → ⊥) → without_leading_plus field ≡ field
unsigned [] plain = without_leading_plus_none [] (λ e. omega (arith, e))
unsigned (byte ∷ bytes) plain = without_leading_plus_none (byte ∷ bytes) (λ e. plain (inl (omega arith, e)))

-- a zero in front is all of the field
unpadded : (field : List ℕ) → (IsPadded field → ⊥) → 0 < length field → get_or field 0 0 ≡ 48 → length field ≡ 1
unpadded [] plain some first = absurd (omega arith)
unpadded (byte ∷ []) plain some first = refl
unpadded (byte ∷ other ∷ bytes) plain some first = absurd (plain (inr (omega arith, first)))

-- a field that isn't padded is parsed as the number that it is
pub parsed_number : {E : Type 0} (field : List ℕ) (r : Result ℕ E) → ParsesUnsigned 64 10 field r → (IsPadded field → ⊥) → result_ok r ≡ number_of field
parsed_number {E} field (Ok n) r plain =
    let value = digits_value 10 field in
    let same = unsigned field plain in
    let read : (IsNumeral 10 field × (digits_value 10 field < 2 ^ 64)) × (n ≡ digits_value 10 field) = rw same at r in
    let spelled = decimal-digits_value own field read.0.0.1 read.0.0.0 (unpadded field plain read.0.0.0) read.0.1 in
    let again : number_of field ≡ Some value = rw spelled at (number_again value read.0.1) in
    ap Some read.1 ∙ sym again
parsed_number {E} field (Err e') r plain = none_by (number_of field) (λ n e.
    let parts = number_takes field n e in
    let same : Err e' ≡ Ok n = parse-decimal {E = E} 64 n field (Err e') parts.1 parts.1 parts.0 r in
    cc)
