-- A walk over the admitted rows to the first that is expired.
use Rattle.std.proofs.Common.{◌≡◌, ◌≢◌, ℕ, ◌+◌, ◌<◌, true, false, Option, Some, None, List, [], ◌∷◌, ◌++◌, length, refl, sym, ap, subst, ◌∙◌, arith, inl, inr, append_assoc}
use Rattle.std.proofs.lemmas.Bool.{eq-eqb, ne_eqb}
use Rattle.std.proofs.lemmas.List.{append-nil, length-append}
use Rattle.std.proofs.lemmas.List.Elements.{filter-append}
use Rattle.slab.specs.Slab.{Slab}
use Rattle.moka_rows.specs.declared.rows.Row.{Row}
use Rattle.moka_rows.specs.Rows.{first_number, is_expired, expired_at}
use Rattle.moka_index.specs.Paths.{IsAmong, first_of, number_behind}
use Rattle.moka_index.specs.declared.row_index.RowIndex.{RowIndex}
use Rattle.moka_index.specs.RowIndex.{IsLinked, admitted_of}
use Rattle.moka_index.proofs.Callers.{IsApart, admitted-apart}
use Rattle.moka_slab.specs.NumberedRows.{row_at, numbered}
use Rattle.moka_slab.specs.Tied.{admitted_rows}
use Rattle.moka_slab.proofs.NumberedLemmas.{numbered-append}

-- a number behind others is among them all, and the one behind it is the first of the rest
among-at : (n : ℕ) (passed back : List ℕ) → IsAmong n (passed ++ n ∷ back)
among-at n [] back = inl refl
among-at n (k ∷ ks) back = inr (among-at n ks back)

behind-at : (n : ℕ) (passed back : List ℕ) → IsApart (passed ++ n ∷ back) → number_behind n (passed ++ n ∷ back) ≡ first_of back
behind-at n [] back apart = let is = eq-eqb n n refl in rw is refl
behind-at n (k ∷ ks) back apart =
    let other : k ≢ n = λ same. apart.0 (subst (λ m. IsAmong m (ks ++ n ∷ back)) (sym same) (among-at n ks back)) in
    rw (ne_eqb k n other) (behind-at n ks back apart.1)

module _ {K V : Type 0} (rows : Slab (Row K V)) (links : RowIndex) (now : ℕ) where
  -- so many admitted rows were passed, none of them expired, and the cursor stands at the first of the rest
  pub record Walks (cursor : Option ℕ) (count : ℕ) (passed rest : List ℕ) : Type 0 where
    pub whole : admitted_of links ≡ passed ++ rest
    pub at : cursor ≡ first_of rest
    pub counted : length passed ≡ count
    pub alive : expired_at now (numbered (row_at rows) passed) ≡ []

  pub walks-first : (cursor : Option ℕ) → cursor ≡ first_of (admitted_of links) → Walks cursor 0 [] (admitted_of links)
  walks-first cursor first = record { whole = refl; at = first; counted = refl; alive = refl }

  -- where all are passed, none is expired
  pub walks-end : (cursor : Option ℕ) (count : ℕ) (passed rest : List ℕ) → Walks cursor count passed rest → count ≡ length (admitted_of links) → None ≡ first_number (expired_at now (admitted_rows rows links))
  walks-end cursor count passed [] walks all =
      sym (ap (λ ks. first_number (expired_at now (numbered (row_at rows) ks))) (walks.whole ∙ append-nil passed) ∙ ap first_number walks.alive)
  walks-end cursor count passed (n ∷ back) walks all =
      let whole = ap length walks.whole ∙ length-append passed (n ∷ back) in
      let counted = walks.counted in
      absurd (omega (arith, whole, counted, all))

  -- before that there is one more
  pub walks-more : (count : ℕ) (passed rest : List ℕ) → Walks None count passed rest → count < length (admitted_of links) → ⊥
  walks-more count passed [] walks less =
      let whole = ap length (walks.whole ∙ append-nil passed) in
      let counted = walks.counted in
      omega (arith, whole, counted, less)
  walks-more count passed (n ∷ back) walks less = let none = walks.at in cc

  module _ (n count : ℕ) (passed rest : List ℕ) (walks : Walks (Some n) count passed rest) where
    pub walks-here : (back : List ℕ) × (rest ≡ n ∷ back)
    walks-here = go rest walks.at
      where
        go : (ks : List ℕ) → Some n ≡ first_of ks → (back : List ℕ) × (ks ≡ n ∷ back)
        go [] is = cc
        go (k ∷ ks) is = let same : k ≡ n = cc in (ks, ap (λ m. m ∷ ks) same)

    walks-whole : admitted_of links ≡ passed ++ n ∷ walks-here.0
    walks-whole = walks.whole ∙ ap (λ ks. passed ++ ks) walks-here.1

    -- the number at the cursor is linked, and the next one is the first of the rest
    pub walks-linked : IsLinked links n
    walks-linked = inl (subst (IsAmong n) (sym walks-whole) (among-at n passed walks-here.0))

    pub walks-admitted : IsAmong n (admitted_of links)
    walks-admitted = subst (IsAmong n) (sym walks-whole) (among-at n passed walks-here.0)

    module _ (row : Row K V) (there : row_at rows n ≡ Some row) where
      expired-here : expired_at now (admitted_rows rows links) ≡ expired_at now ((n, row) ∷ numbered (row_at rows) walks-here.0)
      expired-here =
          ap (λ ks. expired_at now (numbered (row_at rows) ks)) walks-whole
          ∙ ap (expired_at now) (numbered-append (row_at rows) passed (n ∷ walks-here.0))
          ∙ filter-append (is_expired now) (numbered (row_at rows) passed) (numbered (row_at rows) (n ∷ walks-here.0))
          ∙ ap (λ l. l ++ expired_at now (numbered (row_at rows) (n ∷ walks-here.0))) walks.alive
          ∙ (rw there refl)

      -- an expired row at the cursor is the first
      pub walks-expired : is_expired now (n, row) ≡ true → Some n ≡ first_number (expired_at now (admitted_rows rows links))
      walks-expired come = sym (ap first_number expired-here ∙ (rw come refl))

      -- and the walk goes on behind one that lives
      pub walks-alive : is_expired now (n, row) ≡ false → (cursor : Option ℕ) → cursor ≡ number_behind n (admitted_of links) → Walks cursor (count + 1) (passed ++ n ∷ []) walks-here.0
      walks-alive alive cursor behind = record {
        whole = walks-whole ∙ sym (append_assoc passed (n ∷ []) walks-here.0);
        at = behind ∙ ap (number_behind n) walks-whole ∙ behind-at n passed walks-here.0 (subst IsApart walks-whole (admitted-apart links));
        counted = let more = length-append passed (n ∷ []) in let counted = walks.counted in omega (arith, more, counted);
        alive = ap (expired_at now) (numbered-append (row_at rows) passed (n ∷ []))
            ∙ filter-append (is_expired now) (numbered (row_at rows) passed) (numbered (row_at rows) (n ∷ []))
            ∙ ap (λ l. l ++ expired_at now (numbered (row_at rows) (n ∷ []))) walks.alive
            ∙ (rw (there, alive) refl);
      }
