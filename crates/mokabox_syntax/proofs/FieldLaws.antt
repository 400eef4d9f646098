use Rattle.std.proofs.Common.{◌≡◌, ◌<◌, ℕ, ◌∷◌, [], List, true, false, length, eqb, Option, Some, None, MatchOption, refl, sym, ap, ◌∙◌, arith, Bor, lit<}
use Rattle.std.specs.List.{position_or_len, join_with_byte}
use Rattle.std.proofs.lemmas.List.Splits.{slice_split_none, slice_split_first, length-slice_split, join_with_byte-slice_split}
use Rattle.std.proofs.lemmas.List.Sums.{fails_before_first}
use Rattle.std.proofs.lemmas.Str.Pattern.{IsSplitOnceResult, split_once_first}
use Rattle.mokabox_syntax.specs.Fields.{is_space, fields_of, none_empty, texts_of}

-- a line in which no space stands is one field
one_field : (line : List ℕ) → position_or_len (λ b. eqb b 32) line ≡ length line → fields_of line ≡ line ∷ []
one_field line none = slice_split_none (λ b. eqb b 32) line (λ k d within. fails_before_first (λ b. eqb b 32) line k d (omega arith))

-- what `split_once` says of a line's fields
pub cut_fields : (line : List ℕ) (r : Option (Bor (List ℕ) × Bor (List ℕ))) → IsSplitOnceResult 32 line r → MatchOption r (fields_of line ≡ line ∷ []) (λ x. fields_of line ≡ x.0.now ∷ fields_of x.1.now)
cut_fields line None h = one_field line (split_once_first 32 line None h (lit< tt))
cut_fields line (Some x) h =
    let parts = split_once_first 32 line (Some x) h (lit< tt) in
    let whole = slice_split_first (λ b. eqb b 32) line 0 parts.0 in
    rw (parts.1, parts.2) whole

-- fields of which one is empty are no texts
pub texts_none : (fields : List (List ℕ)) → none_empty fields ≡ false → None ≡ texts_of fields
texts_none [] one = refl
texts_none (field ∷ more) one = rw one refl

texts_join : (fields : List (List ℕ)) → 0 < length fields → none_empty fields ≡ true → texts_of fields ≡ Some (join_with_byte 32 fields)
texts_join [] some none = absurd (omega arith)
texts_join (field ∷ more) some none = rw none refl

-- the fields of a line of which none is empty are texts, as they stand in it
pub texts_whole : (line : List ℕ) → none_empty (fields_of line) ≡ true → Some line ≡ texts_of (fields_of line)
texts_whole line none =
    let some : 0 < length (fields_of line) = omega (arith, length-slice_split is_space line) in
    sym (texts_join (fields_of line) some none ∙ ap Some (join_with_byte-slice_split 32 line))
