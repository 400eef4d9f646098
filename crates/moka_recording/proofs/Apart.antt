-- Receipts that are apart, and a history that they cover.
use Rattle.std.proofs.Common.{◌≡◌, ◌≢◌, ◌⊎◌, ℕ, zero, suc, ◌+◌, ◌<◌, ◌≤◌, Bool, true, false, true≢false, List, [], ◌∷◌, ◌++◌, map, length, Some, refl, sym, ap, ◌∙◌, subst, inl, inr, ⊎_elim, eqb, eq-eqb, arith, length-append, sum_by}
use mathlib.Core.Logic.{dite}
use native.Mathlib.Decide.{dec_le, ℕ_discrete}
use Rattle.std.specs.Prelude.{slice_get, ◌||◌}
use Rattle.std.specs.List.{IsDistinct, list_any, AllByRecursion}
use Rattle.std.proofs.lemmas.Bool.Decides.{eqb_tells}
use Rattle.std.proofs.lemmas.List.{length-map}
use Rattle.std.proofs.lemmas.List.Folds.{list_any-append}
use Rattle.std.proofs.lemmas.List.Sums.{sum_by-cons}
use Rattle.std.proofs.lemmas.Map.Steps.{length-le_from_distinct_below, le-length_from_below}
use Rattle.moka_recording.specs.declared.receipt.StoredReceipt.{StoredReceipt}
use Rattle.moka_recording.specs.History.{Each}
use Rattle.moka_recording.specs.Receipts.{PassData, IsWhole, PlacesRise, HasReceipt, AreApart, IsCovered, Stand}
use Rattle.moka_recording.proofs.Places.{get_below}
use Rattle.moka_recording.proofs.Tokens.{entry_at}

later : (b c : Bool) → c ≡ true → (b || c) ≡ true
later true c e = refl
later false c e = e

at_head : (b c : Bool) → b ≡ true → (b || c) ≡ true
at_head true c e = refl
at_head false c e = absurd (true≢false (sym e))

either_one : (b c : Bool) → (b || c) ≡ true → (b ≡ true) ⊎ (c ≡ true)
either_one true c e = inl refl
either_one false c e = inr e

module _ {A : Type 0} where
  some_is : (x y : A) → Some x ≡ Some y → x ≡ y
  some_is x y e = cc

  -- one of a list with one more is one of the list, or that one
  at_snoc : (xs : List A) (x : A) (k : ℕ) (y : A) → slice_get (xs ++ x ∷ []) k ≡ Some y → (slice_get xs k ≡ Some y) ⊎ ((k ≡ length xs) × (x ≡ y))
  at_snoc [] x zero y e = inr (refl, cc)
  at_snoc [] x (suc k) y e = absurd (cc)
  at_snoc (z ∷ xs) x zero y e = inl e
  at_snoc (z ∷ xs) x (suc k) y e = ⊎_elim (λ there. inl there) (λ last. inr (ap suc last.0, last.1)) (at_snoc xs x k y e)

  get_map : {B : Type 0} (f : A → B) (xs : List A) (k : ℕ) (x : A) → slice_get xs k ≡ Some x → slice_get (map f xs) k ≡ Some (f x)
  get_map f [] k x e = absurd (cc)
  get_map f (y ∷ xs) zero x e = ap (λ z. Some (f z)) (some_is y x e)
  get_map f (y ∷ xs) (suc k) x e = get_map f xs k x e

  -- a number of the list comes from an element
  from_map : (f : A → ℕ) (xs : List A) (q : ℕ) → list_any (eqb q) (map f xs) ≡ true → (k : ℕ) × (x : A) × (slice_get xs k ≡ Some x) × (f x ≡ q)
  from_map f [] q e = absurd (true≢false (sym e))
  from_map f (x ∷ xs) q e =
      ⊎_elim
      (λ (yes : (eqb q (f x) ≡ true) × (q ≡ f x)). (0, x, refl, sym yes.1))
      (λ (no : (eqb q (f x) ≡ false) × (q ≢ f x)).
      let h = from_map f xs q (subst (λ b. (b || list_any (eqb q) (map f xs)) ≡ true) no.0 e) in (suc h.0, h.1, h.2, h.3))
      (eqb_tells q (f x))

  every_append : (P : A → Type 0) (xs ys : List A) → AllByRecursion P xs → AllByRecursion P ys → AllByRecursion P (xs ++ ys)
  every_append P [] ys h g = g
  every_append P (x ∷ xs) ys h g = (h.0, every_append P xs ys h.1 g)

found : (xs : List ℕ) (i x : ℕ) → slice_get xs i ≡ Some x → list_any (eqb x) xs ≡ true
found [] i x e = absurd (cc)
found (y ∷ xs) zero x e = at_head (eqb x y) _ (eq-eqb x y (sym (some_is y x e)))
found (y ∷ xs) (suc i) x e = later (eqb x y) _ (found xs i x e)

-- the list without its element k
abbrev without : ℕ → List ℕ → List ℕ
without zero [] = []
without (suc k) [] = []
without zero (x ∷ xs) = xs
without (suc k) (x ∷ xs) = x ∷ without k xs

length_without : (xs : List ℕ) (k : ℕ) → k < length xs → length (without k xs) + 1 ≡ length xs
length_without [] k h = absurd (omega arith)
length_without (x ∷ xs) zero h = omega arith
length_without (x ∷ xs) (suc k) h = let rest = length_without xs k (omega arith) in omega arith

found_without : (xs : List ℕ) (j i x : ℕ) → slice_get xs i ≡ Some x → i ≢ j → list_any (eqb x) (without j xs) ≡ true
found_without [] j i x e apart = absurd (cc)
found_without (y ∷ xs) zero zero x e apart = absurd (apart refl)
found_without (y ∷ xs) zero (suc i) x e apart = found xs i x e
found_without (y ∷ xs) (suc j) zero x e apart = at_head (eqb x y) _ (eq-eqb x y (sym (some_is y x e)))
found_without (y ∷ xs) (suc j) (suc i) x e apart = later (eqb x y) _ (found_without xs j i x e (λ h. apart (ap suc h)))

-- a list that has each number below its length has none twice
numbers_apart : (xs : List ℕ) → ((q : ℕ) → q < length xs → (k : ℕ) × (slice_get xs k ≡ Some q)) → (i j x : ℕ) → slice_get xs i ≡ Some x → slice_get xs j ≡ Some x → i ≡ j
numbers_apart xs all i j x at_i at_j =
    dite (ℕ_discrete i j) (λ (e : i ≡ j). e) (λ (other : i ≢ j).
    let many = le-length_from_below (without j xs) (length xs) (λ q below.
    let h = all q below in
    dite (ℕ_discrete h.0 j)
    (λ here. subst (λ y. list_any (eqb y) (without j xs) ≡ true) (some_is x q (sym at_j ∙ ap (slice_get xs) (sym here) ∙ h.1)) (found_without xs j i x at_i other))
    (λ there. found_without xs j h.0 q h.1 there))
    in
    let size = length_without xs j (get_below xs j x at_j) in
    absurd (omega arith))

none : (q : ℕ) (ys : List ℕ) → (list_any (eqb q) ys ≡ true → ⊥) → AllByRecursion (λ y. eqb q y ≡ false) ys
none q [] h = tt
none q (y ∷ ys) h = (
  ⊎_elim
      (λ (yes : (eqb q y ≡ true) × (q ≡ y)). absurd (h (at_head (eqb q y) _ yes.0)))
      (λ (no : (eqb q y ≡ false) × (q ≢ y)). no.0)
      (eqb_tells q y),
  none q ys (λ e. h (later (eqb q y) _ e)),
)

distinct_append : (xs ys : List ℕ) → IsDistinct eqb xs → IsDistinct eqb ys → ((q : ℕ) → list_any (eqb q) xs ≡ true → list_any (eqb q) ys ≡ true → ⊥) → IsDistinct eqb (xs ++ ys)
unfolding IsDistinct
distinct_append [] ys d e h = e
distinct_append (x ∷ xs) ys d e h = (
  every_append (λ y. eqb x y ≡ false) xs ys d.0 (none x ys (h x (at_head (eqb x x) _ (eq-eqb x x refl)))),
  distinct_append xs ys d.1 e (λ q m. h q (later (eqb q x) _ m)),
)

distinct_cons : (x : ℕ) (xs : List ℕ) → (list_any (eqb x) xs ≡ true → ⊥) → IsDistinct eqb xs → IsDistinct eqb (x ∷ xs)
unfolding IsDistinct
distinct_cons x xs new d = (none x xs new, d)

distinct_nil : IsDistinct eqb []
unfolding IsDistinct
distinct_nil = tt

module _ {S R : Type 0} where
  pub rise_nil : PlacesRise {S = S} {R = R} []
  rise_nil j k a b less at_j at_k = absurd (cc)

  pub rise_snoc : (xs : List (StoredReceipt S R)) (x : StoredReceipt S R)
      → PlacesRise xs → Each (λ (o : StoredReceipt S R). o.place < x.place) xs → PlacesRise (xs ++ x ∷ [])
  rise_snoc xs x rise below j k a b less at_j at_k =
      ⊎_elim
      (λ (there : slice_get xs j ≡ Some a). ⊎_elim
      (λ (also : slice_get xs k ≡ Some b). rise j k a b less there also)
      (λ (last : (k ≡ length xs) × (x ≡ b)). subst (λ (y : StoredReceipt S R). a.place < y.place) last.1 (below j a there))
      (at_snoc xs x k b at_k))
      (λ (end : (j ≡ length xs) × (x ≡ a)). ⊎_elim
      (λ (also : slice_get xs k ≡ Some b). let inside = get_below xs k b also in let is = end.0 in absurd (omega arith))
      (λ (last : (k ≡ length xs) × (x ≡ b)). let i = end.0 in let is = last.0 in absurd (omega arith))
      (at_snoc xs x k b at_k))
      (at_snoc xs x j a at_j)

  -- the places of the receipts of these passes
  abbrev places : List (PassData S R) → List ℕ
  places [] = []
  places (p ∷ ps) = map (λ (k : StoredReceipt S R). k.place) p.receipts ++ places ps

  length_places : (ps : List (PassData S R)) → length (places ps) ≡ sum_by (λ (p : PassData S R). length p.receipts) ps
  length_places [] = refl
  length_places (p ∷ ps) =
      let places_of = map (λ (k : StoredReceipt S R). k.place) p.receipts in
      let own : length places_of ≡ length p.receipts = length-map p.receipts (λ (k : StoredReceipt S R). k.place) in
      let both = length-append places_of (places ps) in
      let rest = length_places ps in
      let sum = sum_by-cons (λ (q : PassData S R). length q.receipts) p ps in
      omega arith

  from_places : (ps : List (PassData S R)) (q : ℕ) → list_any (eqb q) (places ps) ≡ true → (i k : ℕ) × (a : StoredReceipt S R) × HasReceipt ps i k a × (a.place ≡ q)
  from_places [] q e = absurd (true≢false (sym e))
  from_places (p ∷ ps) q e =
      let places_of = map (λ (k : StoredReceipt S R). k.place) p.receipts in
      ⊎_elim
      (λ (here : list_any (eqb q) places_of ≡ true). let h = from_map (λ (k : StoredReceipt S R). k.place) p.receipts q here in (0, h.0, h.1, (p, refl, h.2), h.3))
      (λ (there : list_any (eqb q) (places ps) ≡ true). let h = from_places ps q there in (suc h.0, h.1, h.2, h.3, h.4))
      (either_one _ _ (sym (list_any-append (eqb q) places_of (places ps)) ∙ e))

  distinct_one : (ks : List (StoredReceipt S R)) → ((j k : ℕ) (a b : StoredReceipt S R) → slice_get ks j ≡ Some a → slice_get ks k ≡ Some b → a.place ≡ b.place → j ≡ k)
      → IsDistinct eqb (map (λ (k : StoredReceipt S R). k.place) ks)
  distinct_one [] apart = distinct_nil
  distinct_one (x ∷ ks) apart =
      distinct_cons x.place (map (λ (k : StoredReceipt S R). k.place) ks)
      (λ again. let h = from_map (λ (k : StoredReceipt S R). k.place) ks x.place again in let e = apart 0 (suc h.0) x h.1 refl h.2 (sym h.3) in absurd (omega arith))
      (distinct_one ks (λ j k a b at_j at_k same. let e = apart (suc j) (suc k) a b at_j at_k same in omega arith))

  distinct_places : (ps : List (PassData S R)) → AreApart ps → IsDistinct eqb (places ps)
  distinct_places [] apart = distinct_nil
  distinct_places (p ∷ ps) apart =
      distinct_append (map (λ (k : StoredReceipt S R). k.place) p.receipts) (places ps)
      (distinct_one p.receipts (λ j k a b at_j at_k same. (apart 0 0 j k a b (p, refl, at_j) (p, refl, at_k) same).1))
      (distinct_places ps (λ i j k l a b in_i in_j same. let e = apart (suc i) (suc j) k l a b in_i in_j same in let f = e.0 in (omega arith, e.1)))
      (λ q here there.
      let h = from_map (λ (k : StoredReceipt S R). k.place) p.receipts q here in
      let t = from_places ps q there in
      let e = apart 0 (suc t.0) h.0 t.1 h.1 t.2 (p, refl, h.2) t.3 (h.3 ∙ sym t.4) in
      let f = e.0 in
      absurd (omega arith))

  module _ (one_step : S → S → S → Type 0) (one_reply : R → R → R → Type 0) (log : List (ℕ × S × R)) (passes : List (PassData S R)) where
    pub apart : (count : ℕ) → IsWhole count passes → Each (λ (p : PassData S R). Stand one_step one_reply log p) passes → Each (λ (p : PassData S R). PlacesRise p.receipts) passes → AreApart passes
    apart count whole stand rise i j k l a b in_i in_j same =
        let p = in_i.0 in
        let q = in_j.0 in
        let numbers = map (λ (x : PassData S R). x.number) passes in
        let one = entry_at one_step one_reply log p (stand i p in_i.1) k a in_i.2 in
        let other = entry_at one_step one_reply log q (stand j q in_j.1) l b in_j.2 in
        let entries = some_is one.0 other.0 (sym one.1 ∙ ap (slice_get log) same ∙ other.1) in
        let number : p.number ≡ q.number = sym one.2 ∙ ap (λ (e : ℕ × S × R). e.0) entries ∙ other.2 in
        let size : length numbers ≡ length passes = length-map passes (λ (x : PassData S R). x.number) in
        let i_is_j = numbers_apart numbers
        (λ n below. let w = whole.0 in let h = whole.1 n (omega arith) in (h.0, get_map (λ (x : PassData S R). x.number) passes h.0 h.1 h.2 ∙ ap Some h.3))
        i j q.number
        (get_map (λ (x : PassData S R). x.number) passes i p in_i.1 ∙ ap Some number)
        (get_map (λ (x : PassData S R). x.number) passes j q in_j.1)
        in
        let p_is_q = some_is p q (sym in_i.1 ∙ ap (slice_get passes) i_is_j ∙ in_j.1) in
        let at_l : slice_get p.receipts l ≡ Some b = subst (λ (x : PassData S R). slice_get x.receipts l ≡ Some b) (sym p_is_q) in_j.2 in (
          i_is_j,
          dite (ℕ_discrete k l) (λ (e : k ≡ l). e) (λ (differ : k ≢ l).
              dite (dec_le (suc k) l)
              (λ (less : suc k ≤ l). let h = rise i p in_i.1 k l a b (omega arith) in_i.2 at_l in absurd (omega arith))
              (λ (more : ¬ (suc k ≤ l)). let h = rise i p in_i.1 l k b a (omega arith) at_l in_i.2 in absurd (omega arith))),
        )

    pub covered : AreApart passes → Each (λ (p : PassData S R). Stand one_step one_reply log p) passes → length log ≡ sum_by (λ (p : PassData S R). length p.receipts) passes → IsCovered log passes
    covered apart stand count place e at =
        let below_all : (q : ℕ) → list_any (eqb q) (places passes) ≡ true → q < length log =
        λ q m. let h = from_places passes q m in
        let entry = entry_at one_step one_reply log h.3.0 (stand h.0 h.3.0 h.3.1) h.1 h.2 h.3.2 in
        subst (λ n. n < length log) h.4 (get_below log h.2.place entry.0 entry.1)
        in
        let inside = get_below log place e at in
        let size = length_places passes in
        let many : list_any (eqb place) (places passes) ≡ false → ⊥ =
        λ absent.
        let least = length-le_from_distinct_below (place ∷ places passes) (length log)
        (distinct_cons place (places passes) (λ m. true≢false (sym m ∙ absent)) (distinct_places passes apart))
        (λ q m. ⊎_elim
        (λ (here : eqb q place ≡ true). ⊎_elim
        (λ (yes : (eqb q place ≡ true) × (q ≡ place)). subst (λ n. n < length log) (sym yes.1) inside)
        (λ (no : (eqb q place ≡ false) × (q ≢ place)). absurd (true≢false (sym here ∙ no.0)))
        (eqb_tells q place))
        (λ (there : list_any (eqb q) (places passes) ≡ true). below_all q there)
        (either_one (eqb q place) _ m))
        in
        absurd (omega arith)
        in
        let h = from_places passes place (there (list_any (eqb place) (places passes)) many) in
        let entry = entry_at one_step one_reply log h.3.0 (stand h.0 h.3.0 h.3.1) h.1 h.2 h.3.2 in
        let same = some_is entry.0 e (sym entry.1 ∙ ap (slice_get log) h.4 ∙ at) in
        (h.0, h.1, h.3.0, h.2, h.3.1, sym entry.2 ∙ ap (λ (x : ℕ × S × R). x.0) same, h.3.2, h.4)
      where
        there : (b : Bool) → (b ≡ false → ⊥) → b ≡ true
        there true h = refl
        there false h = absurd (h refl)
