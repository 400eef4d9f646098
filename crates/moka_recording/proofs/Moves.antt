-- Each step preserves the one history.
use Rattle.std.proofs.Common.{◌≡◌, ◌≢◌, ℕ, zero, suc, ◌<◌, List, [], ◌∷◌, ◌++◌, length, set, Option, Some, None, true, false, true≢false, refl, sym, ap, ◌∙◌, subst, ⊎_elim}
use Rattle.std.specs.Prelude.{slice_get}
use mathlib.Core.Option.{some, none, some-ne-none, some-injective}
use lib.ListN.{get_elem?}
use Rattle.atomic_table.specs.Table.{step, opening, Allows, Splits, Joins, keeps}
use Rattle.atomic_table.proofs.Lists.{at_set, at_snoc}
use Rattle.moka_recording.specs.declared.law.Claim.{Claim}
use Rattle.moka_recording.specs.declared.law.View.{View}
use Rattle.moka_recording.specs.History.{claim, recorder, nobody, with_claims, without_claims, claims_of, Stands, Fits, IsAnnounced, HasOneHistory, Added, Announced, Compared}
use Rattle.moka_recording.proofs.Places.{get_front, get_last, get_below, each_nil, each_snoc, each_more}

off : false ≡ true → ⊥
off e = true≢false (sym e)

none_announced : {B : Type 0} (built : Option B) → IsAnnounced built None
none_announced built b e = absurd (cc)

module _ {S R B : Type 0} where
  fits_set : (seat : ℕ) (log : List (ℕ × S × R)) (built : Option B) (views : List (View S R B)) (by : ℕ) (w : View S R B) → ((j : ℕ) (u : View S R B) → j ≢ by → get_elem? views j ≡ some u → Fits seat log built j u) → Fits seat log built by w → (j : ℕ) (u : View S R B) → get_elem? (set views by w) j ≡ some u → Fits seat log built j u
  fits_set seat log built views by w others mine j u e =
      ⊎_elim
      (λ (x : (j ≡ by) × (w ≡ u)). subst (λ (y : ℕ × View S R B). Fits seat log built y.0 y.1) (λ i. (sym x.0 i, x.1 i)) mine)
      (λ (x : (j ≢ by) × (get_elem? views j ≡ some u)). others j u x.0 x.1)
      (at_set views by j w u e)

  pub begins : (words : List ℕ) (xs : List (ℕ × S × R)) → HasOneHistory (opening words xs (recorder {S = S} {R = R} {B = B} None [] [] None))
  begins words xs = (0, [], None, one)
    where
      one : (by : ℕ) (v : View S R B) → get_elem? (recorder {S = S} {R = R} {B = B} None [] [] None ∷ []) by ≡ some v → Fits 0 [] None by v
      one zero v e = subst (Fits 0 [] None 0) (some-injective _ _ e) ((λ _. (refl, refl, refl)), each_nil _, none_announced None)
      one (suc by) v e = absurd (some-ne-none v (sym e))

  pub adds : (slots by word a b : ℕ) (v : View S R B) (held : List (ℕ × (ℕ × S × R))) (f : ℕ → ℕ) (e : ℕ × S × R) → v.is_recorder ≡ true
      → Allows HasOneHistory slots by (v, held) word f (Added (step slots word a b (some e)) (v, held))
  adds slots by word a b v held f e whole s h size at fits =
      let mine = h.3 by v at in
      let known = mine.0 whole in
      let log = h.1 ++ e ∷ [] in
      let w : View S R B = record { is_recorder = v.is_recorder; all = v.all ++ e ∷ []; built = v.built; claims = v.claims ++ claim (length v.all) e ∷ []; heard = v.heard } in
      let last : slice_get log (length v.all) ≡ Some e = subst (λ l. slice_get (h.1 ++ e ∷ []) (length l) ≡ Some e) (sym known.1) (get_last h.1 e) in
      let older : (c : Claim S R) → slice_get h.1 c.place ≡ Some c.entry → slice_get log c.place ≡ Some c.entry = λ c d. get_front h.1 (e ∷ []) c.place c.entry d in (
        w,
        keeps,
        tt,
        (
          h.0,
          log,
          h.2,
          fits_set h.0 log h.2 s.views by w
              (λ j u apart d. let old = h.3 j u d in ((λ k. absurd (apart ((old.0 k).0 ∙ sym known.0))), each_more _ _ u.claims older old.1, old.2))
              ((λ _. (known.0, ap (λ l. l ++ e ∷ []) known.1, known.2)), each_snoc _ v.claims (claim (length v.all) e) (each_more _ _ v.claims older mine.1) last, mine.2),
        ),
        ((refl, λ k c d. subst (λ l. c.place < length l) (sym known.1) (get_below h.1 c.place c.entry (mine.1 k c d))), refl),
      )

  pub announces : (slots by word : ℕ) (v : View S R B) (held : List (ℕ × (ℕ × S × R))) (built : Option B) → v.is_recorder ≡ true → v.built ≡ None
      → Allows HasOneHistory slots by (v, held) word (λ n. n) (Announced built (step slots word 0 0 none) (v, held))
  announces slots by word v held built whole unannounced s h size at fits =
      let mine = h.3 by v at in
      let known = mine.0 whole in
      let silent : h.2 ≡ None = sym known.2 ∙ unannounced in
      let w : View S R B = record { is_recorder = v.is_recorder; all = v.all; built = built; claims = v.claims; heard = built } in (
        w,
        keeps,
        tt,
        (
          h.0,
          h.1,
          built,
          fits_set h.0 h.1 built s.views by w
              (λ j u apart d. let old = h.3 j u d in ((λ k. absurd (apart ((old.0 k).0 ∙ sym known.0))), old.1, λ b e. let f = sym (old.2 b e) ∙ silent in absurd (cc)))
              ((λ _. (known.0, known.1, refl)), mine.1, λ b e. e),
        ),
        refl,
      )

  pub compares : (slots by word : ℕ) (v : View S R B) (held : List (ℕ × (ℕ × S × R))) → v.is_recorder ≡ true
      → Allows HasOneHistory slots by (v, held) word (λ n. n) (Compared (step slots word 0 0 none) (v, held))
  compares slots by word v held whole s h size at fits =
      let mine = h.3 by v at in
      let known = mine.0 whole in (
        v,
        keeps,
        tt,
        (h.0, h.1, h.2, fits_set h.0 h.1 h.2 s.views by v (λ j u _ d. h.3 j u d) mine),
        (refl, subst (λ l. Stands l v.claims) (sym known.1) mine.1, λ b e. known.2 ∙ mine.2 b e),
      )

  pub gives : (by : ℕ) (v : View S R B) → Splits HasOneHistory by v (without_claims v) (claims_of v)
  gives by v s h at =
      let mine = h.3 by v at in (
        h.0,
        h.1,
        h.2,
        λ j u e. ⊎_elim
            (λ was. fits_set h.0 h.1 h.2 s.views by (without_claims v) (λ i y _ d. h.3 i y d) (mine.0, each_nil _, none_announced h.2) j u was)
            (λ (same : claims_of v ≡ u). subst (Fits h.0 h.1 h.2 j) same ((λ k. absurd (off k)), mine.1, mine.2))
            (at_snoc (set s.views by (without_claims v)) (claims_of v) u j e),
      )

  pub takes : (by : ℕ) (v : View S R B) (other : ℕ) (u : View S R B) → Joins HasOneHistory by v other u (with_claims v u) nobody
  takes by v other u s h at apart there =
      let w = with_claims v u in
      let mine = h.3 by v at in
      let theirs = ⊎_elim (λ (t : (other ≡ by) × (w ≡ u)). absurd (apart t.0)) (λ (t : (other ≢ by) × (get_elem? s.views other ≡ some u)). h.3 other u t.1) (at_set s.views by other w u there) in
      (h.0, h.1, h.2, fits_set h.0 h.1 h.2 (set s.views by w) other nobody (λ j x _ e. fits_set h.0 h.1 h.2 s.views by w (λ i y _ d. h.3 i y d) (mine.0, theirs.1, theirs.2) j x e) ((λ k. absurd (off k)), each_nil _, none_announced h.2))
