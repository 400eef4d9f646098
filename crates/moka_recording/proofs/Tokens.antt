-- The tokens through one call, and a history that grows.
use Rattle.std.proofs.Common.{◌≡◌, ℕ, zero, suc, ◌<◌, List, [], ◌∷◌, ◌++◌, length, Option, Some, None, refl, sym, ap, ◌∙◌, subst}
use Rattle.std.specs.Prelude.{slice_get, IsSome, IsSomeAnd}
use mathlib.Core.Option.{some}
use Rattle.atomic_table.specs.Table.{Me, step}
use Rattle.moka_recording.specs.declared.law.Claim.{Claim}
use Rattle.moka_recording.specs.declared.law.View.{View}
use Rattle.moka_recording.specs.declared.receipt.StoredReceipt.{StoredReceipt}
use Rattle.moka_recording.specs.History.{Each, claim, recorder, with_claims, without_claims, IsAnnounced, Added}
use Rattle.moka_recording.specs.Receipts.{PassData, pairs, IsOf, AreOf, Stand}

-- what the witness claims is what the recorder announced
pub heard_is_built : {B : Type 0} (Q : B → Type 0) (claimed built heard : Option B) (b : B) → Q b → IsSome claimed → built ≡ Some b → heard ≡ claimed → IsAnnounced built heard → IsSomeAnd claimed Q
heard_is_built Q None built heard b q is known same told = absurd (cc)
heard_is_built Q (Some x) built heard b q is known same told = let e = sym known ∙ told x same in subst Q (cc) q

module _ {S R : Type 0} where
  -- the recorder while it has the claims of a pass
  pub borrowed : {B : Type 0} (built : Option B) (all : List (ℕ × S × R)) (theirs pass : View S R B) (a b m : Me (ℕ × S × R) (View S R B)) → a ≡ (recorder built all [] None, []) → b ≡ (without_claims a.0, a.1) → theirs ≡ pass
      → m ≡ (with_claims b.0 theirs, b.1) → m ≡ (recorder built all pass.claims pass.heard, [])
  borrowed {B} built all theirs pass a b m ha hb ht hm =
      hm
      ∙ ap (λ (x : Me (ℕ × S × R) (View S R B)). (with_claims x.0 theirs, x.1)) (hb ∙ ap (λ (x : Me (ℕ × S × R) (View S R B)). (without_claims x.0, x.1)) ha)
      ∙ ap (λ (v : View S R B). (recorder built all v.claims v.heard, [])) ht

  pub added : {B : Type 0} (slots : ℕ) (built : Option B) (all : List (ℕ × S × R)) (claims : List (Claim S R)) (heard : Option B) (e : ℕ × S × R) (m n : Me (ℕ × S × R) (View S R B)) (found : ℕ) → m ≡ (recorder built all claims heard, []) → Added (step slots 0 0 0 (some e)) m found n
      → (n ≡ (recorder built (all ++ e ∷ []) (claims ++ claim (length all) e ∷ []) heard, [])) × Each (λ (c : Claim S R). c.place < length all) claims
  added {B} slots built all claims heard e m n found h a =
      let d = subst (λ (x : Me (ℕ × S × R) (View S R B)). Added (step slots 0 0 0 (some e)) x found n) h a in ((λ i. (d.0.0 i, d.1 i)), d.0.1)

  pairs_more : (xs : List (ℕ × S × R)) (e : ℕ × S × R) → pairs (xs ++ e ∷ []) ≡ pairs xs ++ (e.1, e.2) ∷ []
  pairs_more [] e = refl
  pairs_more (x ∷ xs) e = ap (λ l. (x.1, x.2) ∷ l) (pairs_more xs e)

  pub grown : {M : Type 0} (stands : M → List (S × R) → Type 0) (m : M) (xs ys zs : List (ℕ × S × R)) (e : ℕ × S × R) → stands m (pairs xs ++ (e.1, e.2) ∷ []) → ys ≡ xs → zs ≡ ys ++ e ∷ [] → stands m (pairs zs)
  grown stands m xs ys zs e h ay az = subst (λ l. stands m l) (sym (ap pairs (az ∙ ap (λ l. l ++ e ∷ []) ay) ∙ pairs_more xs e)) h

module _ {S R : Type 0} (one_step : S → S → S → Type 0) (one_reply : R → R → R → Type 0) where
  pub of_more : (number : ℕ) (cs : List (Claim S R)) (ks : List (StoredReceipt S R)) (c : Claim S R) (k : StoredReceipt S R) → AreOf one_step one_reply number cs ks → IsOf one_step one_reply number c k → AreOf one_step one_reply number (cs ++ c ∷ []) (ks ++ k ∷ [])
  of_more number [] [] c k h one = (one, tt)
  of_more number (d ∷ cs) (j ∷ ks) c k h one = (h.0, of_more number cs ks c k h.1 one)
  of_more number [] (j ∷ ks) c k h one = absurd h
  of_more number (d ∷ cs) [] c k h one = absurd h

  -- each receipt has its claim
  at_claims : (number : ℕ) (cs : List (Claim S R)) (ks : List (StoredReceipt S R)) → AreOf one_step one_reply number cs ks → (j : ℕ) (y : StoredReceipt S R) → slice_get ks j ≡ Some y → (c : Claim S R) × (slice_get cs j ≡ Some c) × IsOf one_step one_reply number c y
  at_claims number [] [] h j y e = absurd (cc)
  at_claims number (d ∷ cs) (z ∷ ks) h zero y e = (d, refl, subst (λ (k : StoredReceipt S R). IsOf one_step one_reply number d k) (cc) h.0)
  at_claims number (d ∷ cs) (z ∷ ks) h (suc j) y e = at_claims number cs ks h.1 j y e
  at_claims number [] (z ∷ ks) h j y e = absurd h
  at_claims number (d ∷ cs) [] h j y e = absurd h

  -- what is claimed lies below n, so the receipts do
  pub below : (number n : ℕ) (cs : List (Claim S R)) (ks : List (StoredReceipt S R)) → AreOf one_step one_reply number cs ks → Each (λ (c : Claim S R). c.place < n) cs → Each (λ (k : StoredReceipt S R). k.place < n) ks
  below number n cs ks are h j y e =
      let c = at_claims number cs ks are j y e in
      subst (λ p. p < n) (sym c.2.at) (h j c.0 c.1)

  -- the entry at the place of a receipt
  pub entry_at : (log : List (ℕ × S × R)) (pass : PassData S R) → Stand one_step one_reply log pass → (k : ℕ) (y : StoredReceipt S R) → slice_get pass.receipts k ≡ Some y → (e : ℕ × S × R) × (slice_get log y.place ≡ Some e) × (e.0 ≡ pass.number)
  entry_at log pass stand k y at =
      let c = at_claims pass.number pass.claims pass.receipts stand.receipts k y at in
      (c.0.entry, subst (λ p. slice_get log p ≡ Some c.0.entry) (sym c.2.at) (stand.claims k c.0 c.1), c.2.by)
