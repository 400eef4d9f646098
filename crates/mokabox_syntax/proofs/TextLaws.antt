use Rattle.std.proofs.Common.{◌≡◌, ◌<◌, ◌^◌, ℕ, ◌∷◌, [], List, Some, refl, ap, subst, arith}
use Rattle.std.specs.List.{AllByRecursion}
use Rattle.std.specs.Fmt.{decimal}
use Rattle.mokabox_syntax.specs.Fields.{text_of, sole_number_of, sole_text_of, IsText}
use Rattle.mokabox_syntax.proofs.NumberLaws.{number_takes}
use Rattle.mokabox_syntax.proofs.FieldTexts.{IsField}

-- a number is the one field that is left
pub sole_number_takes : (rest : List (List ℕ)) (n : ℕ) → sole_number_of rest ≡ Some n → (rest ≡ decimal n ∷ []) × (n < 2 ^ 64)
sole_number_takes [] n h = cc
sole_number_takes (field ∷ []) n h = let parts = number_takes field n h in (ap (λ digits. digits ∷ []) parts.0, parts.1)
sole_number_takes (field ∷ other ∷ more) n h = cc

text_takes : (field : List ℕ) (text : List ℕ) → IsField field → text_of field ≡ Some text → (field ≡ text) × IsText text
text_takes [] text is h = cc
text_takes (byte ∷ bytes) text is h =
    let same : byte ∷ bytes ≡ text = cc in
    let text_is : IsText (byte ∷ bytes) = record { some = omega arith; spaceless = is.spaceless; utf8 = is.utf8 } in
    (same, subst IsText same text_is)

pub text_again : (text : List ℕ) → IsText text → text_of text ≡ Some text
text_again [] is = absurd (omega (arith, is.some))
text_again (byte ∷ bytes) is = refl

-- a text is the one field that is left
pub sole_text_takes : (rest : List (List ℕ)) (text : List ℕ) → AllByRecursion IsField rest → sole_text_of rest ≡ Some text → (rest ≡ text ∷ []) × IsText text
sole_text_takes [] text each h = cc
sole_text_takes (field ∷ []) text each h = let parts = text_takes field text each.0 h in (ap (λ one. one ∷ []) parts.0, parts.1)
sole_text_takes (field ∷ other ∷ more) text each h = cc
