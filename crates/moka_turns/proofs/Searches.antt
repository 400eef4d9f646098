-- Searches among turns with different numbers, and how the end of a turn changes their results.
use Rattle.std.proofs.Common.{◌≡◌, ◌≢◌, inl, inr, ⊎_elim, ℕ, ◌==◌, ◌≤◌, Bool, true, false, cond, not, ◌&&◌, nat_le, Option, Some, None, List, [], ◌∷◌, map, filter, length, refl, sym, ap, ◌∙◌, subst, arith}
use Rattle.std.proofs.lemmas.Bool.{and_parts, and_from, cond-true, cond-false, eq-eqb, ne_eqb, eqb-true}
use Rattle.std.proofs.lemmas.Bool.Decides.{eqb_tells}
use Rattle.moka_model.specs.declared.turns.Kind.{Kind}
use Rattle.moka_model.specs.Turns.{Turn, Name, End, Ended, numbered, ended_with, moved, is_open, has_ticket, is_for, is_open_for, is_open_as, is_ended_as, same_name, first_of, found, IsIn, AreApart}
use Rattle.moka_model.proofs.Callers.{in_map, found-is, first-none, Was, changed, left, in_numbered, apart-changed, numbered-alone, numbered-number}

module _ {A : Type 0} where
  in_filtered : (test : A → Bool) (x : A) (xs : List A) → IsIn x xs → test x ≡ true → IsIn x (filter test xs)
  in_filtered test x [] is passes = absurd is
  in_filtered test x (y ∷ ys) (inl e) passes = rw (ap test e ∙ passes) (inl e)
  in_filtered test x (y ∷ ys) (inr is) passes = go (test y) (in_filtered test x ys is passes)
    where
      go : (t : Bool) → IsIn x (filter test ys) → IsIn x (cond t (y ∷ filter test ys) (filter test ys))
      go true there = inr there
      go false there = there

  pub in_mapped : (f : A → A) (x : A) (xs : List A) → IsIn x xs → IsIn (f x) (map f xs)
  in_mapped f x [] is = absurd is
  in_mapped f x (y ∷ ys) (inl e) = inl (ap f e)
  in_mapped f x (y ∷ ys) (inr is) = inr (in_mapped f x ys is)

  filter-none : (test : A → Bool) (xs : List A) → ((x : A) → IsIn x xs → test x ≡ false) → filter test xs ≡ []
  filter-none test [] none = refl
  filter-none test (x ∷ xs) none = rw (none x (inl refl)) (filter-none test xs (λ y is. none y (inr is)))

  pub at_most_one : (test : A → Bool) (xs : List A) → length (filter test xs) ≤ 1 → (a b : A) → IsIn a xs → IsIn b xs → test a ≡ true → test b ≡ true → a ≡ b
  at_most_one test xs few a b is_a is_b on_a on_b = go (filter test xs) few (in_filtered test a xs is_a on_a) (in_filtered test b xs is_b on_b)
    where
      go : (ys : List A) → length ys ≤ 1 → IsIn a ys → IsIn b ys → a ≡ b
      go [] le here there = absurd here
      go (y ∷ []) le (inl e) (inl d) = sym e ∙ d
      go (y ∷ []) le (inl e) (inr d) = absurd d
      go (y ∷ []) le (inr e) there = absurd e
      go (y ∷ z ∷ zs) le here there = absurd (omega (arith, le))

module _ {K V E : Type 0} where
  pub found-none : (test : Turn K V E → Bool) (ts : List (Turn K V E)) → ((u : Turn K V E) → IsIn u ts → test u ≡ false) → found test ts ≡ None
  found-none test ts none = ap first_of (filter-none test ts none)

  -- if exactly one turn passes a test, it is the one found
  pub found-one : (test : Turn K V E → Bool) (ts : List (Turn K V E)) (t : Turn K V E) → IsIn t ts → test t ≡ true → ((u : Turn K V E) → IsIn u ts → test u ≡ true → u ≡ t) → found test ts ≡ Some t
  found-one test ts t is passes alone_there = go (found test ts) refl
    where
      go : (o : Option (Turn K V E)) → found test ts ≡ o → found test ts ≡ Some t
      go (Some u) e = let it = found-is test ts u e in e ∙ ap (λ v. Some v) (alone_there u it.0 it.1)
      go None e = absurd (subst (IsIn t) (first-none (filter test ts) e) (in_filtered test t ts is passes))

  -- a change of the turn with a number does not change what a test finds, if that turn fails it before and after
  pub found-other : (test : Turn K V E → Bool) (number : ℕ) (change : Turn K V E → Turn K V E) (ts : List (Turn K V E)) → ((u : Turn K V E) → IsIn u ts → u.name.number ≡ number → (test u ≡ false) × (test (change u) ≡ false))
      → filter test (map (numbered number change) ts) ≡ filter test ts
  found-other test number change [] fails = refl
  found-other test number change (t ∷ ts) fails =
      let more : filter test (map (numbered number change) ts) ≡ filter test ts = found-other test number change ts (λ u is. fails u (inr is)) in
      ⊎_elim
      (λ yes. let it = fails t (inl refl) yes.1 in rw (cond-true (t.name.number == number) (change t) t yes.0, it.0, it.1) more)
      (λ differs. rw (cond-false (t.name.number == number) (change t) t differs.0) (ap (λ l. cond (test t) (t ∷ l) l) more))
      (eqb_tells t.name.number number)

-- how searches change if the open turn t ends
module _ {K V E : Type 0} (eq : K → K → Bool) (ts : List (Turn K V E)) (apart : AreApart ts) (one : (kind : Kind) (k : K) → length (filter (is_open_for eq kind k) ts) ≤ 1)
    (t : Turn K V E) (is : IsIn t ts) (open_now : is_open t ≡ true) (end : End V E) where
  abbrev pub after_end : List (Turn K V E)
  after_end = map (numbered t.name.number (ended_with end)) ts

  same_turn : (u : Turn K V E) → IsIn u ts → u.name.number ≡ t.name.number → u ≡ t
  same_turn u is_u same = numbered-alone ts apart u t is_u is same

  -- no turn of its kind and key is open any more,
  pub none-open : (kind : Kind) (k : K) → is_open_for eq kind k t ≡ true → found (is_open_for eq kind k) after_end ≡ None
  none-open kind k passes = found-none (is_open_for eq kind k) after_end each
    where
      each : (u : Turn K V E) → IsIn u after_end → is_open_for eq kind k u ≡ false
      each u is_u = go (in_numbered t.name.number (ended_with end) u ts is_u)
        where
          go : (v : Turn K V E) × IsIn v ts × Was t.name.number (ended_with end) v u → is_open_for eq kind k u ≡ false
          go (v, is_v, changed here e) = ap (is_open_for eq kind k) (sym e)
          go (v, is_v, left other e) = cases (is_open_for eq kind k u) refl
            where
              cases : (b : Bool) → is_open_for eq kind k u ≡ b → is_open_for eq kind k u ≡ false
              cases false h = h
              cases true h = absurd (other (ap (λ (w : Turn K V E). w.name.number) (at_most_one (is_open_for eq kind k) ts (one kind k) v t is_v is (ap (is_open_for eq kind k) e ∙ h) passes)))

  -- and for every other kind and key the same turn is open.
  pub others-open : (kind : Kind) (k : K) → is_open_for eq kind k t ≡ false → found (is_open_for eq kind k) after_end ≡ found (is_open_for eq kind k) ts
  others-open kind k fails = ap first_of (found-other (is_open_for eq kind k) t.name.number (ended_with end) ts (λ u is_u same. (ap (is_open_for eq kind k) (same_turn u is_u same) ∙ fails, refl)))

  -- For every other number the same ended turn is found,
  pub others-ended : (number : ℕ) → number ≢ t.name.number → found (is_ended_as number) after_end ≡ found (is_ended_as number) ts
  others-ended number other = ap first_of (found-other (is_ended_as number) t.name.number (ended_with end) ts (λ u is_u same. (fails u same, fails (ended_with end u) same)))
    where
      fails : (u : Turn K V E) → u.name.number ≡ t.name.number → is_ended_as number u ≡ false
      fails u same = ap (λ b. b && (not (is_open u) && has_ticket u)) (ne_eqb u.name.number number (λ e. other (sym e ∙ same)))

  -- and for its own number it is found if it has unspent tickets.
  pub own-ended : has_ticket t ≡ true → found (is_ended_as t.name.number) after_end ≡ Some (ended_with end t)
  own-ended has = found-one (is_ended_as t.name.number) after_end (ended_with end t) there passes each
    where
      here : numbered t.name.number (ended_with end) t ≡ ended_with end t
      here = cond-true (t.name.number == t.name.number) (ended_with end t) t (eq-eqb t.name.number t.name.number refl)

      there : IsIn (ended_with end t) after_end
      there = subst (λ u. IsIn u after_end) here (in_mapped (numbered t.name.number (ended_with end)) t ts is)

      passes : is_ended_as t.name.number (ended_with end t) ≡ true
      passes = and_from (t.name.number == t.name.number) (has_ticket t) (eq-eqb t.name.number t.name.number refl) has

      each : (u : Turn K V E) → IsIn u after_end → is_ended_as t.name.number u ≡ true → u ≡ ended_with end t
      each u is_u on_u =
          numbered-alone after_end (apart-changed (numbered t.name.number (ended_with end)) (numbered-number t.name.number (ended_with end) (λ v. refl)) ts apart) u (ended_with end t) is_u there
          (eqb-true u.name.number t.name.number (and_parts (u.name.number == t.name.number) (not (is_open u) && has_ticket u) on_u).0)

  pub own-gone : has_ticket t ≡ false → found (is_ended_as t.name.number) after_end ≡ None
  own-gone none = found-none (is_ended_as t.name.number) after_end each
    where
      each : (u : Turn K V E) → IsIn u after_end → is_ended_as t.name.number u ≡ false
      each u is_u = go (in_numbered t.name.number (ended_with end) u ts is_u)
        where
          go : (v : Turn K V E) × IsIn v ts × Was t.name.number (ended_with end) v u → is_ended_as t.name.number u ≡ false
          go (v, is_v, changed here e) =
              ap (is_ended_as t.name.number) (sym e ∙ ap (ended_with end) (same_turn v is_v here))
              ∙ ap (λ b. (t.name.number == t.name.number) && b) none ∙ ap (λ b. b && false) (eq-eqb t.name.number t.name.number refl)
          go (v, is_v, left other e) = ap (is_ended_as t.name.number) (sym e) ∙ ap (λ b. b && (not (is_open v) && has_ticket v)) (ne_eqb v.name.number t.name.number other)

  -- before that no ended turn had its number
  pub own-before : found (is_ended_as t.name.number) ts ≡ None
  own-before = found-none (is_ended_as t.name.number) ts each
    where
      each : (u : Turn K V E) → IsIn u ts → is_ended_as t.name.number u ≡ false
      each u is_u =
          ⊎_elim
          (λ yes. ap (is_ended_as t.name.number) (same_turn u is_u yes.1) ∙ ap (λ b. (t.name.number == t.name.number) && (not b && has_ticket t)) open_now ∙ ap (λ b. b && false) (eq-eqb t.name.number t.name.number refl))
          (λ differs. ap (λ b. b && (not (is_open u) && has_ticket u)) differs.0)
          (eqb_tells u.name.number t.name.number)
