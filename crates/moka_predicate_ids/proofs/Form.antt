-- The text of each version 4 UUID has the form of an id.
use Rattle.std.proofs.Common.{◌≡◌, ℕ, zero, suc, ◌+◌, ◌-◌, ◌<◌, ◌≤◌, ◌==◌, Bool, true, false, cond, List, [], ◌∷◌, ◌++◌, inl, slice_index, refl, sym, subst, arith}
use Rattle.std.specs.Prelude.{Contains, codes}
use Rattle.std.specs.List.{AllZip}
use Rattle.std.proofs.lemmas.Bool.Decides.{nat_tests}
use Rattle.uuid.specs.Uuid.{version_num}
use Rattle.uuid.specs.Parts.{variant_of}
use Rattle.uuid.specs.declared.Variant.TheVariants.{RFC4122}
use Rattle.uuid.specs.Text.{by_index, hex_digit, nibble, lower, hyphen, is_hyphen_place, digit_place, hyphenated_text}
use Rattle.uuid.proofs.TextLemmas.{nibble_small, table_at}
use Rattle.moka_predicate_ids.specs.PredicateId.{digits, places, IsIdText}

-- a digit below sixteen is one of the digits
digit_among : (n : ℕ) → n < 16 → Contains digits (hex_digit lower n)
digit_among n small = (n, small, table_at lower n (hex_digit lower n) (inl refl) small)

-- what may stand at a place, by its number
abbrev place_at : ℕ → List ℕ
place_at k = cond (is_hyphen_place k) (codes "-") (cond (k == 14) (codes "4") (cond (k == 19) (codes "89ab") digits))

module _ {A B : Type 0} (R : A → B → Type 0) where
  AllZip-push : (xs : List A) (ys : List B) (x : A) (y : B) → AllZip R xs ys → R x y → AllZip R (xs ++ x ∷ []) (ys ++ y ∷ [])
  AllZip-push [] [] x y all here = (here, tt)
  AllZip-push [] (b ∷ ys) x y all here = absurd all
  AllZip-push (a ∷ xs) [] x y all here = absurd all
  AllZip-push (a ∷ xs) (b ∷ ys) x y all here = (all.0, AllZip-push xs ys x y all.1 here)

  -- two lists by place stand in a relation where their values do at each place
  AllZip-by_index : (n : ℕ) (f : ℕ → A) (g : ℕ → B) → ((k : ℕ) → k < n → R (f k) (g k)) → AllZip R (by_index n f) (by_index n g)
  unfolding by_index
  AllZip-by_index zero f g each = tt
  AllZip-by_index (suc n) f g each = AllZip-push (by_index n f) (by_index n g) (f n) (g n) (AllZip-by_index n f g (λ k less. each k (omega arith))) (each n (omega arith))

places-by_index : places ≡ by_index 36 place_at
unfolding by_index
places-by_index = refl

-- a byte of the variant lies from 128 on, and below 192
variant_bounds : (b : ℕ) → variant_of b ≡ RFC4122 → (128 ≤ b) × (b < 192)
variant_bounds b is = grind (arith, nat_tests)

-- a digit from 8 on, and below 12, may begin the group of the variant
variant_digit : (n : ℕ) → n < 4 → Contains (codes "89ab") (hex_digit lower (n + 8))
variant_digit zero small = (0, omega arith, refl)
variant_digit (suc zero) small = (1, omega arith, refl)
variant_digit (suc (suc zero)) small = (2, omega arith, refl)
variant_digit (suc (suc (suc zero))) small = (3, omega arith, refl)
variant_digit (suc (suc (suc (suc n)))) small = absurd (omega arith)

module _ (xs : List ℕ) (version : version_num xs ≡ 4) (variant : variant_of (slice_index xs 8) ≡ RFC4122) where
  abbrev character : ℕ → ℕ
  character k = cond (is_hyphen_place k) hyphen (hex_digit lower (nibble xs (digit_place k)))

  version_stands : Contains (codes "4") (hex_digit lower (nibble xs 12))
  version_stands = rw version (0, omega arith, refl)

  variant_stands : Contains (codes "89ab") (hex_digit lower (nibble xs 16))
  variant_stands =
      let bounds = variant_bounds (slice_index xs 8) variant in
      let is_above : nibble xs 16 - 8 + 8 ≡ nibble xs 16 = omega arith in
      subst (λ d. Contains (codes "89ab") (hex_digit lower d)) is_above (variant_digit (nibble xs 16 - 8) (omega arith))

  each_stands : (k : ℕ) → Contains (place_at k) (character k)
  each_stands k = go (is_hyphen_place k) (k == 14) refl (k == 19) refl
    where
      go : (h v : Bool) → (k == 14) ≡ v → (r : Bool) → (k == 19) ≡ r
          → Contains (cond h (codes "-") (cond v (codes "4") (cond r (codes "89ab") digits))) (cond h hyphen (hex_digit lower (nibble xs (digit_place k))))
      go true v fourteen r nineteen = (0, omega arith, refl)
      go false true fourteen r nineteen = subst (λ n. Contains (codes "4") (hex_digit lower (nibble xs (digit_place n)))) {x = 14} {y = k} (grind (arith, nat_tests)) version_stands
      go false false fourteen true nineteen = subst (λ n. Contains (codes "89ab") (hex_digit lower (nibble xs (digit_place n)))) {x = 19} {y = k} (grind (arith, nat_tests)) variant_stands
      go false false fourteen false nineteen = digit_among (nibble xs (digit_place k)) (nibble_small xs (digit_place k))

  pub is_id_text : IsIdText (hyphenated_text lower xs)
  is_id_text = subst (λ p. AllZip Contains p (by_index 36 character)) (sym places-by_index) (AllZip-by_index Contains 36 place_at character (λ k _. each_stands k))
