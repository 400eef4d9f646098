-- What waits stands in the order of its opening writes.
use Rattle.std.proofs.Common.{◌≡◌, subst, ⊎_elim, ℕ, Bool, true, false, not, cond, ◌&&◌, ◌||◌, is_some, List, [], ◌∷◌, ◌++◌, Option, Some, None, refl, sym, ap, ◌∙◌}
use Rattle.std.specs.Option.{option_to_list}
use Rattle.std.specs.List.{filter, list_any}
use Rattle.std.specs.Cmp.{IsEquivalence}
use Rattle.std.proofs.lemmas.List.{map-append}
use Rattle.std.proofs.lemmas.List.Elements.{filter-append, filter_agree}
use Rattle.std.proofs.lemmas.Map.Views.{any-filter_same}
use Rattle.moka_model.specs.Maintenance.{Queues}
use Rattle.moka_model.specs.Lives.{Settings, Write, is_live}
use Rattle.moka_model.specs.Events.{Event, Looked, TurnedDown, Written, Invalidated, Hidden, Maintained, Passed, Drawn, Taken, latest}
use Rattle.moka_model.specs.Admission.{frequency, wins}
use Rattle.moka_model.specs.Orders.{standing, orders}
use Rattle.moka_model.specs.OrderLaws.{writes_of, keys, lasts, openings, waits}
use Rattle.moka_model.proofs.Callers.{filter-both, and_comm, list_any-map, map-filter, one_side, opening, held-orders, held-append}
use Rattle.moka_laws.proofs.Rests.{IsRestOf, rest-waiting}
use Rattle.moka_laws.proofs.RestOnes.{HasOne, filter-is_in}
use Rattle.moka_laws.proofs.Moves.{none_held, hidden-keys, written_in-anew, look-waiting_keys, overwrite-waiting_keys, removed_in-waiting_keys}

-- one more element that a test may find
list_any-push : {K : Type 0} (p : K → Bool) (ks : List K) (k : K) → list_any p (ks ++ k ∷ []) ≡ (list_any p ks || p k)
list_any-push p [] k = go (p k)
  where
    go : (t : Bool) → (t || false) ≡ t
    go true = refl
    go false = refl
list_any-push p (x ∷ ks) k = rw (list_any-push p ks k) (go (p x))
  where
    go : (t : Bool) → (t || (list_any p ks || p k)) ≡ ((t || list_any p ks) || p k)
    go true = refl
    go false = refl

module _ {K : Type 0} (eq : K → K → Bool) where
  -- one more key stands behind all others, and nowhere else
  pub lasts-push : (ks : List K) (k : K) → lasts eq (ks ++ k ∷ []) ≡ filter (λ x. not (eq x k)) (lasts eq ks) ++ k ∷ []
  lasts-push [] k = refl
  lasts-push (x ∷ ks) k = rw (list_any-push (eq x) ks k, lasts-push ks k) (go (list_any (eq x) ks) (eq x k) refl)
    where
      go : (s t : Bool) → eq x k ≡ t → cond (s || t) (filter (λ y. not (eq y k)) (lasts eq ks) ++ k ∷ []) (x ∷ (filter (λ y. not (eq y k)) (lasts eq ks) ++ k ∷ [])) ≡ filter (λ y. not (eq y k)) (cond s (lasts eq ks) (x ∷ lasts eq ks)) ++ k ∷ []
      go true t e = refl
      go false true e = rw e
      go false false e = rw e

-- of a test with a known one
and_false : (t : Bool) → (t && false) ≡ false
and_false true = refl
and_false false = refl

and_true : (t : Bool) → (t && true) ≡ t
and_true true = refl
and_true false = refl

and_not : (t : Bool) → (t && not t) ≡ false
and_not true = refl
and_not false = refl

pub or_false : (t : Bool) → (t || false) ≡ t
or_false true = refl
or_false false = refl

or_true : (t : Bool) → (t || true) ≡ true
or_true true = refl
or_true false = refl

-- a test finds an element where a filter keeps one
abbrev pub is_some_of : {A : Type 0} → List A → Bool
is_some_of [] = false
is_some_of (x ∷ xs) = true

pub list_any-filter : {A : Type 0} (p : A → Bool) (xs : List A) → list_any p xs ≡ is_some_of (filter p xs)
list_any-filter p [] = refl
list_any-filter p (x ∷ xs) = rw (list_any-filter p xs) (go (p x))
  where
    go : (t : Bool) → (t || is_some_of (filter p xs)) ≡ is_some_of (cond t (x ∷ filter p xs) (filter p xs))
    go true = refl
    go false = refl

module _ {K : Type 0} (eq : K → K → Bool) where
  -- a key is among others
  abbrev pub is_among : List K → K → Bool
  is_among ks k = list_any (λ x. eq x k) ks

  -- a list has the last places of those of its keys, among all that came
  abbrev pub KeepsArrival : List K → List K → Type 0
  KeepsArrival ks all = ks ≡ filter (is_among ks) (lasts eq all)

  module _ (laws : IsEquivalence eq) where
    -- equal keys are among the same
    pub is_among-congr : (p x : K) (ks : List K) → eq p x ≡ true → is_among ks x ≡ is_among ks p
    is_among-congr p x [] same = refl
    is_among-congr p x (y ∷ ks) same = rw (is_among-congr p x ks same, laws.symm y x, sym (laws.congr p x y same), laws.symm p y)

    -- where a key is taken out, it is not among the others
    is_among-filter : (p x : K) (ks : List K) → is_among (filter (λ y. not (eq y p)) ks) x ≡ (is_among ks x && not (eq x p))
    is_among-filter p x [] = refl
    is_among-filter p x (y ∷ ks) = go (eq y x) refl (eq y p) refl (eq x p) refl (is_among-filter p x ks)
      where
        go : (s : Bool) → eq y x ≡ s → (t : Bool) → eq y p ≡ t → (u : Bool) → eq x p ≡ u → is_among (filter (λ z. not (eq z p)) ks) x ≡ (is_among ks x && not (eq x p))
            → is_among (filter (λ z. not (eq z p)) (y ∷ ks)) x ≡ (is_among (y ∷ ks) x && not (eq x p))
        go true e true d true f ih = rw (d, e, f) (ih ∙ ap (λ t. is_among ks x && not t) f ∙ and_false (is_among ks x))
        go true e true d false f ih = let no = sym d ∙ laws.congr y x p e ∙ f in cc
        go true e false d true f ih = let no = sym d ∙ laws.congr y x p e ∙ f in cc
        go true e false d false f ih = rw (d, e, f)
        go false e true d u f ih = rw (d, e) ih
        go false e false d u f ih = rw (d, e) ih

    -- a new key comes last
    pub KeepsArrival-push : (ks all : List K) (p : K) → is_among ks p ≡ false → KeepsArrival ks all → KeepsArrival (ks ++ p ∷ []) (all ++ p ∷ [])
    KeepsArrival-push ks all p new kept =
        ap (λ l. l ++ p ∷ []) kept
        ∙ ap (λ l. l ++ p ∷ []) (sym (filter_agree (λ x. not (eq x p) && is_among (ks ++ p ∷ []) x) (is_among ks) others (lasts eq all)) ∙ filter-both (λ x. not (eq x p)) (is_among (ks ++ p ∷ [])) (lasts eq all))
        ∙ ap (λ t. filter (is_among (ks ++ p ∷ [])) (filter (λ x. not (eq x p)) (lasts eq all)) ++ cond t (p ∷ []) []) (sym last)
        ∙ sym (filter-append (is_among (ks ++ p ∷ [])) (filter (λ x. not (eq x p)) (lasts eq all)) (p ∷ []))
        ∙ sym (ap (filter (is_among (ks ++ p ∷ []))) (lasts-push eq all p))
      where
        last : is_among (ks ++ p ∷ []) p ≡ true
        last = list_any-push (λ x. eq x p) ks p ∙ ap (λ t. is_among ks p || t) (laws.refl p) ∙ or_true (is_among ks p)

        others : (x : K) → (not (eq x p) && is_among (ks ++ p ∷ []) x) ≡ is_among ks x
        others x = rw (list_any-push (λ y. eq y x) ks p, laws.symm x p) (go (eq p x) refl)
          where
            go : (t : Bool) → eq p x ≡ t → (not t && (is_among ks x || t)) ≡ is_among ks x
            go true e = sym (is_among-congr p x ks e ∙ new)
            go false e = or_false (is_among ks x)

    -- a key is taken out
    pub KeepsArrival-filter : (ks all : List K) (p : K) → KeepsArrival ks all → KeepsArrival (filter (λ x. not (eq x p)) ks) all
    KeepsArrival-filter ks all p kept =
        ap (filter (λ x. not (eq x p))) kept
        ∙ sym (filter-both (is_among ks) (λ x. not (eq x p)) (lasts eq all))
        ∙ filter_agree (λ x. is_among ks x && not (eq x p)) (is_among (filter (λ x. not (eq x p)) ks)) (λ x. sym (is_among-filter p x ks)) (lasts eq all)

    -- keys are taken out by a test that cannot tell equal keys apart
    pub KeepsArrival-test : (t : K → Bool) → ((a b : K) → eq a b ≡ true → t a ≡ t b) → (ks all : List K) → KeepsArrival ks all → KeepsArrival (filter t ks) all
    KeepsArrival-test t alike ks all kept =
        ap (filter t) kept
        ∙ sym (filter-both (is_among ks) t (lasts eq all))
        ∙ filter_agree (λ x. is_among ks x && t x) (is_among (filter t ks)) (λ x. and_comm (is_among ks x) (t x) ∙ sym (any-filter_same (λ y. eq y x) t (t x) (λ y same. alike y x same) ks)) (lasts eq all)

module _ {K V : Type 0} (eq : K → K → Bool) (settings : Settings K V) (laws : IsEquivalence eq) where
  -- a write of a key that does not stand puts it behind those that wait
  pub opening-waiting_keys : (p : K) (v : V) (at : ℕ) (h : List (Event K V)) → standing eq settings p h ≡ None → keys (orders eq settings (Written p v at ∷ h)).waiting ≡ keys (orders eq settings h).waiting ++ p ∷ []
  opening-waiting_keys p v at h none =
      ap (λ (r : Queues (Write K V)). keys r.waiting) (written_in-anew eq settings p (orders eq settings h) v (latest (Written p v at ∷ h)) (held-orders eq settings laws p h ∙ ap option_to_list none))
      ∙ map-append (λ (w : Write K V). w.key) (orders eq settings h).waiting (opening eq settings p v (latest (Written p v at ∷ h)) ∷ [])

  -- and a write of a key that stands leaves them
  pub standing-waiting_keys : (p : K) (v : V) (at : ℕ) (h : List (Event K V)) (w : Write K V) → standing eq settings p h ≡ Some w → keys (orders eq settings (Written p v at ∷ h)).waiting ≡ keys (orders eq settings h).waiting
  standing-waiting_keys p v at h w there =
      overwrite-waiting_keys eq settings p (orders eq settings h) v (latest (Written p v at ∷ h)) (λ none. let no : w ∷ [] ≡ [] = sym (held-orders eq settings laws p h ∙ ap option_to_list there) ∙ none in cc)

  -- a key is among those that wait where one of its writes waits
  is_among-waiting : (h : List (Event K V)) (k : K) → is_among eq (keys (orders eq settings h).waiting) k ≡ is_some_of (writes_of eq k (orders eq settings h).waiting)
  is_among-waiting h k = list_any-map (λ (w : Write K V). w.key) (λ x. eq x k) (orders eq settings h).waiting ∙ list_any-filter (λ (w : Write K V). eq w.key k) (orders eq settings h).waiting

  -- a key that does not stand is not among them
  is_among-none : (h : List (Event K V)) (p : K) → standing eq settings p h ≡ None → is_among eq (keys (orders eq settings h).waiting) p ≡ false
  is_among-none h p none = is_among-waiting h p ∙ ap is_some_of (none_held eq settings p (orders eq settings h) (held-orders eq settings laws p h ∙ ap option_to_list none)).1

  -- a key waits where it is among them
  pub waits-is_among : (h : List (Event K V)) (k : K) → waits eq settings h k ≡ is_among eq (keys (orders eq settings h).waiting) k
  waits-is_among h k =
      ap (λ t. is_some (standing eq settings k h) && not t) (list_any-filter (λ (w : Write K V). eq w.key k) (orders eq settings h).admitted)
      ∙ go (standing eq settings k h) (writes_of eq k (orders eq settings h).admitted) (writes_of eq k (orders eq settings h).waiting) (sym (held-append eq settings k (orders eq settings h)) ∙ held-orders eq settings laws k h)
      ∙ sym (is_among-waiting h k)
    where
      is_some_of-option : (o : Option (Write K V)) → is_some_of (option_to_list o) ≡ is_some o
      is_some_of-option None = refl
      is_some_of-option (Some w) = refl

      go : (o : Option (Write K V)) (xs ys : List (Write K V)) → xs ++ ys ≡ option_to_list o → (is_some o && not (is_some_of xs)) ≡ is_some_of ys
      go o xs ys e =
          ⊎_elim
          (λ (s : (xs ≡ []) × (ys ≡ option_to_list o)). rw (s.0, s.1) (and_true (is_some o) ∙ sym (is_some_of-option o)))
          (λ (s : (xs ≡ option_to_list o) × (ys ≡ [])). rw (s.0, s.1, is_some_of-option o) (and_not (is_some o)))
          (one_side xs ys o e)

  -- a key has a write among these
  abbrev pub waits_in : List (Write K V) → K → Bool
  waits_in ws k = list_any (λ w. eq w.key k) ws

  waits_in-congr : (ws : List (Write K V)) (a b : K) → eq a b ≡ true → waits_in ws a ≡ waits_in ws b
  waits_in-congr ws a b same = sym (list_any-map (λ (w : Write K V). w.key) (λ x. eq x a) ws) ∙ sym (is_among-congr eq laws a b (keys ws) same) ∙ list_any-map (λ (w : Write K V). w.key) (λ x. eq x b) ws

  -- each key has one write at most among those that wait
  one_waits : (h : List (Event K V)) → HasOne eq (orders eq settings h).waiting
  one_waits h k =
      ⊎_elim
      (λ (s : (writes_of eq k (orders eq settings h).admitted ≡ []) × (writes_of eq k (orders eq settings h).waiting ≡ option_to_list (standing eq settings k h))). (standing eq settings k h, s.1))
      (λ (s : (writes_of eq k (orders eq settings h).admitted ≡ option_to_list (standing eq settings k h)) × (writes_of eq k (orders eq settings h).waiting ≡ [])). (None, s.1))
      (one_side (writes_of eq k (orders eq settings h).admitted) (writes_of eq k (orders eq settings h).waiting) (standing eq settings k h) (sym (held-append eq settings k (orders eq settings h)) ∙ held-orders eq settings laws k h))

  -- the keys that wait after a maintenance within any limit are those of before that still wait
  pub maintained-waiting_keys : (h : List (Event K V)) (limit : Option ℕ) (at : ℕ) → keys (orders eq settings (Maintained limit at ∷ h)).waiting ≡ filter (waits_in (orders eq settings (Maintained limit at ∷ h)).waiting) (keys (orders eq settings h).waiting)
  maintained-waiting_keys h limit at =
      let q : Queues (Write K V) = orders eq settings h in
      let after : List (Write K V) = (orders eq settings (Maintained limit at ∷ h)).waiting in
      let is_rest : IsRestOf after q.waiting = rest-waiting (λ w. w.policy_weight) settings.max_capacity (wins settings (frequency settings h)) (λ w. is_live settings w (latest (Maintained limit at ∷ h))) limit q in
      ap keys (sym (filter-is_in eq laws after q.waiting is_rest (one_waits h))) ∙ map-filter (λ (w : Write K V). w.key) (waits_in after) q.waiting

  -- the waiting keys keep the order in which their last openings came
  keeps_arrival : (h : List (Event K V)) → KeepsArrival eq (keys (orders eq settings h).waiting) (openings eq settings h)
  keeps_arrival [] = refl
  keeps_arrival (Looked p at ∷ h) = subst (λ ks. KeepsArrival eq ks (openings eq settings h)) (sym (look-waiting_keys eq settings p (orders eq settings h) (latest (Looked p at ∷ h)))) (keeps_arrival h)
  keeps_arrival (TurnedDown p at ∷ h) = keeps_arrival h
  keeps_arrival (Written p v at ∷ h) = go (standing eq settings p h) refl (keeps_arrival h)
    where
      go : (o : Option (Write K V)) → standing eq settings p h ≡ o → KeepsArrival eq (keys (orders eq settings h).waiting) (openings eq settings h)
          → KeepsArrival eq (keys (orders eq settings (Written p v at ∷ h)).waiting) (cond (is_some o) (openings eq settings h) (openings eq settings h ++ p ∷ []))
      go None e kept = subst (λ ks. KeepsArrival eq ks (openings eq settings h ++ p ∷ [])) (sym (opening-waiting_keys p v at h e)) (KeepsArrival-push eq laws (keys (orders eq settings h).waiting) (openings eq settings h) p (is_among-none h p e) kept)
      go (Some w) e kept = subst (λ ks. KeepsArrival eq ks (openings eq settings h)) (sym (standing-waiting_keys p v at h w e)) kept
  keeps_arrival (Invalidated p at ∷ h) = subst (λ ks. KeepsArrival eq ks (openings eq settings h)) (sym (removed_in-waiting_keys eq settings p (orders eq settings h))) (KeepsArrival-filter eq laws (keys (orders eq settings h).waiting) (openings eq settings h) p (keeps_arrival h))
  keeps_arrival (Hidden test ∷ h) = subst (λ ks. KeepsArrival eq ks (openings eq settings h)) (sym (hidden-keys test (orders eq settings h).waiting)) (keeps_arrival h)
  keeps_arrival (Maintained limit at ∷ h) = subst (λ ks. KeepsArrival eq ks (openings eq settings h)) (sym (maintained-waiting_keys h limit at)) (KeepsArrival-test eq laws (waits_in (orders eq settings (Maintained limit at ∷ h)).waiting) (waits_in-congr (orders eq settings (Maintained limit at ∷ h)).waiting) (keys (orders eq settings h).waiting) (openings eq settings h) (keeps_arrival h))
  keeps_arrival (Passed at ∷ h) = keeps_arrival h
  keeps_arrival (Drawn ∷ h) = keeps_arrival h
  keeps_arrival (Taken ∷ h) = keeps_arrival h

  -- so they are the last openings of the keys that wait
  pub waiting_in_order : (h : List (Event K V)) → keys (orders eq settings h).waiting ≡ filter (waits eq settings h) (lasts eq (openings eq settings h))
  waiting_in_order h = keeps_arrival h ∙ filter_agree (is_among eq (keys (orders eq settings h).waiting)) (waits eq settings h) (λ k. sym (waits-is_among h k)) (lasts eq (openings eq settings h))
