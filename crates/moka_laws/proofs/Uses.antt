-- What is admitted stands in the order of use.
use Rattle.std.proofs.Common.{◌≡◌, ⊎_elim, ℕ, ◌+◌, ◌<◌, ◌≤◌, Bool, true, false, not, cond, ◌&&◌, ◌||◌, Option, Some, None, List, [], ◌∷◌, ◌++◌, length, refl, sym, ap, ◌∙◌, subst, append-nil, append_assoc, arith}
use Rattle.std.specs.Option.{option_to_list}
use Rattle.std.specs.List.{filter, list_any}
use Rattle.std.specs.Cmp.{IsEquivalence}
use Rattle.std.proofs.lemmas.Bool.{cond_both, cases_Bool, cond-true, cond-false, or_left, or_right, and_parts, and_from}
use Rattle.std.proofs.lemmas.List.{map-append}
use Rattle.std.proofs.lemmas.List.Elements.{filter-append, filter_agree}
use Rattle.std.proofs.lemmas.Map.Views.{any-filter_same}
use Rattle.moka_model.specs.Maintenance.{Queues}
use Rattle.moka_model.specs.Lives.{Settings, Write, is_live, live_one, after_look, after_write}
use Rattle.moka_model.specs.Events.{Event, Looked, TurnedDown, Written, Invalidated, Hidden, Maintained, Passed, Drawn, Taken, latest}
use Rattle.moka_model.specs.Admission.{frequency, wins}
use Rattle.moka_model.specs.Orders.{moved_last, is_of, is_hit, used_where, orders, standing}
use Rattle.moka_model.specs.OrderLaws.{writes_of, keys, held, HasOneEach, lasts, admitted_in, uses, is_admitted, LastUse}
use Rattle.moka_model.proofs.Callers.{filter-both, list_any-map, filter-narrower, alone, moved_last-none, map-filter, list_any-filtered, IsStoredUnder, stored_key, overwrite, overwritten, held-append, held-orders, one_side, after_look-key}
use Rattle.moka_laws.proofs.Moves.{none_held, look-none, hidden-keys, written_in-anew, written_in-over, used-admitted, removed-admitted}
use Rattle.moka_laws.proofs.Rests.{IsRestOf, rest-after}
use Rattle.moka_laws.proofs.RestOnes.{HasOne, filter-is_in, in_one_order}
use Rattle.moka_laws.proofs.InOrder.{Each, InOrder, Each-from, Each-filter, InOrder-filter, InOrder-same, InOrder-at, Each-at}
use Rattle.moka_laws.proofs.Arrivals.{or_false, lasts-push, is_among, KeepsArrival, is_among-congr, KeepsArrival-push, KeepsArrival-filter, KeepsArrival-test}

-- where one alone passes a test, it has a place in the list
record At {A : Type 0} (xs : List A) (x : A) : Type 0 where
  before : List A
  after : List A
  place : xs ≡ before ++ x ∷ after

place_of : {A : Type 0} (p : A → Bool) (xs ys : List A) (x : A) → filter p xs ≡ x ∷ ys → At xs x
place_of p [] ys x e = cc
place_of {A} p (z ∷ xs) ys x e =
    ⊎_elim
    (λ is. let found : z ∷ filter p xs ≡ x ∷ ys = rw is at e in record { before = []; after = xs; place = cc })
    (λ is. let more = place_of p xs ys x (rw is at e) in record { before = z ∷ more.before; after = more.after; place = ap (λ l. z ∷ l) more.place })
    (cases_Bool (p z))

module _ {K : Type 0} (eq : K → K → Bool) (laws : IsEquivalence eq) where
  -- a key that is not in the list is used
  KeepsArrival-skip : (ks all : List K) (p : K) → is_among eq ks p ≡ false → KeepsArrival eq ks all → KeepsArrival eq ks (all ++ p ∷ [])
  KeepsArrival-skip ks all p new kept =
      kept
      ∙ sym (filter_agree (λ x. not (eq x p) && is_among eq ks x) (is_among eq ks) others (lasts eq all))
      ∙ filter-both (λ x. not (eq x p)) (is_among eq ks) (lasts eq all)
      ∙ sym (append-nil (filter (is_among eq ks) (filter (λ x. not (eq x p)) (lasts eq all))))
      ∙ ap (λ t. filter (is_among eq ks) (filter (λ x. not (eq x p)) (lasts eq all)) ++ cond t (p ∷ []) []) (sym new)
      ∙ sym (filter-append (is_among eq ks) (filter (λ x. not (eq x p)) (lasts eq all)) (p ∷ []))
      ∙ sym (ap (filter (is_among eq ks)) (lasts-push eq all p))
    where
      others : (x : K) → (not (eq x p) && is_among eq ks x) ≡ is_among eq ks x
      others x = go (eq x p) refl
        where
          go : (t : Bool) → eq x p ≡ t → (not t && is_among eq ks x) ≡ is_among eq ks x
          go true e = sym (sym (is_among-congr eq laws x p ks e) ∙ new)
          go false e = refl

  -- a key that is in the list is used: it goes behind all others
  KeepsArrival-moved : (ks all : List K) (p : K) → KeepsArrival eq ks all → KeepsArrival eq (filter (λ x. not (eq x p)) ks ++ p ∷ []) (all ++ p ∷ [])
  KeepsArrival-moved ks all p kept = KeepsArrival-push eq laws (filter (λ x. not (eq x p)) ks) all p gone (KeepsArrival-filter eq laws ks all p kept)
    where
      gone : is_among eq (filter (λ x. not (eq x p)) ks) p ≡ false
      gone = any-filter_same (λ x. eq x p) (λ x. not (eq x p)) false (λ x same. ap not same) ks

  -- each of these is not among those before it
  abbrev AllNew : List K → List K → Type 0
  AllNew ks [] = Unit {0}
  AllNew ks (p ∷ ps) = (is_among eq ks p ≡ false) × AllNew (ks ++ p ∷ []) ps

  -- new keys come last
  KeepsArrival-append : (ks all ps : List K) → AllNew ks ps → KeepsArrival eq ks all → KeepsArrival eq (ks ++ ps) (all ++ ps)
  KeepsArrival-append ks all [] new kept = rw (append-nil ks, append-nil all) kept
  KeepsArrival-append ks all (p ∷ ps) new kept =
      let more : KeepsArrival eq ((ks ++ p ∷ []) ++ ps) ((all ++ p ∷ []) ++ ps) = KeepsArrival-append (ks ++ p ∷ []) (all ++ p ∷ []) ps new.1 (KeepsArrival-push eq laws ks all p new.0 kept) in
      subst (λ ls. KeepsArrival eq (ks ++ p ∷ ps) ls) (append_assoc all (p ∷ []) ps) (subst (λ ls. KeepsArrival eq ls ((all ++ p ∷ []) ++ ps)) (append_assoc ks (p ∷ []) ps) more)

module _ {K V : Type 0} (eq : K → K → Bool) where
  -- a key of which the list has no write is not among its keys
  is_among-no_write : (k : K) (ws : List (Write K V)) → writes_of eq k ws ≡ [] → is_among eq (keys ws) k ≡ false
  is_among-no_write k ws none = list_any-map (λ (w : Write K V). w.key) (λ x. eq x k) ws ∙ list_any-filtered (λ (w : Write K V). eq w.key k) ws none

  module _ (laws : IsEquivalence eq) where
    -- so of two parts of it the second has new keys
    AllNew-from_one : (us ws : List (Write K V)) → HasOne eq (us ++ ws) → AllNew eq laws (keys us) (keys ws)
    AllNew-from_one us [] one = tt
    AllNew-from_one us (w ∷ ws) one =
        let around : writes_of eq w.key (us ++ w ∷ ws) ≡ writes_of eq w.key us ++ w ∷ writes_of eq w.key ws =
        filter-append (λ (u : Write K V). eq u.key w.key) us (w ∷ ws) ∙ ap (λ t. writes_of eq w.key us ++ cond t (w ∷ writes_of eq w.key ws) (writes_of eq w.key ws)) (laws.refl w.key) in
        let others = alone (writes_of eq w.key us) (writes_of eq w.key ws) w (one w.key).0 (sym around ∙ (one w.key).1) in (
          is_among-no_write w.key us others.0,
          subst (λ ks. AllNew eq laws ks (keys ws)) (map-append (λ (u : Write K V). u.key) us (w ∷ [])) (AllNew-from_one (us ++ w ∷ []) ws (subst (HasOne eq) (sym (append_assoc us (w ∷ []) ws)) one)),
        )

module _ {K V : Type 0} (eq : K → K → Bool) (settings : Settings K V) (laws : IsEquivalence eq) where
  -- a use of a write that stands for a key
  used_where-keeps : (k : K) (h : List (Event K V)) (w : Write K V) (p : Write K V → Bool) (change : Write K V → Write K V) (all : List K) → standing eq settings k h ≡ Some w
      → ((u : Write K V) → p u ≡ true → eq u.key k ≡ true) → p w ≡ true → (change w).key ≡ w.key
      → KeepsArrival eq (keys (orders eq settings h).admitted) all → KeepsArrival eq (keys (used_where eq settings p change (orders eq settings h)).admitted) (all ++ w.key ∷ [])
  used_where-keeps k h w p change all stands narrow passes kept_key kept =
      ⊎_elim
      (λ (s : (writes_of eq k q.admitted ≡ w ∷ []) × (writes_of eq k q.waiting ≡ [])). admitted (place_of (λ (u : Write K V). eq u.key k) q.admitted [] w s.0))
      (λ (s : (writes_of eq k q.admitted ≡ []) × (writes_of eq k q.waiting ≡ w ∷ [])). waits s.0)
      (in_one_order eq settings laws h k w stands)
    where
      q : Queues (Write K V)
      q = orders eq settings h

      one : HasOneEach eq q
      one p = (standing eq settings p h, held-orders eq settings laws p h)

      same : eq w.key k ≡ true
      same = subst (IsStoredUnder eq k) stands (stored_key eq settings k h)

      admitted : At q.admitted w → KeepsArrival eq (keys (used_where eq settings p change q).admitted) (all ++ w.key ∷ [])
      admitted at =
          let others : keys (at.before ++ at.after) ≡ filter (λ x. not (eq x w.key)) (keys q.admitted) =
          ap (λ (r : Queues (Write K V)). keys r.admitted) (sym (removed-admitted eq settings w.key q one at.before at.after w (laws.refl w.key) at.place)) ∙ map-filter (λ (u : Write K V). u.key) (λ x. not (eq x w.key)) q.admitted in
          let moved : keys (used_where eq settings p change q).admitted ≡ filter (λ x. not (eq x w.key)) (keys q.admitted) ++ w.key ∷ [] =
          ap (λ (r : Queues (Write K V)). keys r.admitted) (used-admitted eq settings k q one at.before at.after w same at.place p change narrow passes)
          ∙ map-append (λ (u : Write K V). u.key) (at.before ++ at.after) (change w ∷ [])
          ∙ ap (λ ks. ks ++ (change w).key ∷ []) others
          ∙ ap (λ x. filter (λ y. not (eq y w.key)) (keys q.admitted) ++ x ∷ []) kept_key in
          subst (λ ks. KeepsArrival eq ks (all ++ w.key ∷ [])) (sym moved) (KeepsArrival-moved eq laws (keys q.admitted) all w.key kept)

      waits : writes_of eq k q.admitted ≡ [] → KeepsArrival eq (keys (used_where eq settings p change q).admitted) (all ++ w.key ∷ [])
      waits none =
          let still : moved_last p change q.admitted ≡ q.admitted = moved_last-none p change q.admitted (filter-narrower (λ (u : Write K V). eq u.key k) p q.admitted narrow none) in
          let new : is_among eq (keys q.admitted) w.key ≡ false = sym (is_among-congr eq laws w.key k (keys q.admitted) same) ∙ is_among-no_write eq k q.admitted none in
          subst (λ ws. KeepsArrival eq (keys ws) (all ++ w.key ∷ [])) (sym still) (KeepsArrival-skip eq laws (keys q.admitted) all w.key new kept)

  -- the admitted after a maintenance within any limit are those of both orders that are admitted after it
  maintained-filtered : (h : List (Event K V)) (limit : Option ℕ) (at : ℕ)
      → (orders eq settings (Maintained limit at ∷ h)).admitted ≡ filter (λ w. is_admitted eq settings (Maintained limit at ∷ h) w.key) (orders eq settings h).admitted ++ filter (λ w. is_admitted eq settings (Maintained limit at ∷ h) w.key) (orders eq settings h).waiting
  maintained-filtered h limit at =
      let q : Queues (Write K V) = orders eq settings h in
      let all : List (Write K V) = q.admitted ++ q.waiting in
      let after : List (Write K V) = (orders eq settings (Maintained limit at ∷ h)).admitted in
      let is_rest : IsRestOf after all = rest-after (λ w. w.policy_weight) settings.max_capacity (wins settings (frequency settings h)) (λ w. is_live settings w (latest (Maintained limit at ∷ h))) limit q in
      sym (filter-is_in eq laws after all is_rest (λ k. (standing eq settings k h, held-orders eq settings laws k h)))
      ∙ filter-append (λ w. is_admitted eq settings (Maintained limit at ∷ h) w.key) q.admitted q.waiting

  -- whether a key is admitted does not tell equal keys apart
  is_admitted-congr : (h : List (Event K V)) (a b : K) → eq a b ≡ true → is_admitted eq settings h a ≡ is_admitted eq settings h b
  is_admitted-congr h a b same =
      let ws : List (Write K V) = (orders eq settings h).admitted in
      sym (list_any-map (λ (w : Write K V). w.key) (λ x. eq x a) ws) ∙ sym (is_among-congr eq laws a b (keys ws) same) ∙ list_any-map (λ (w : Write K V). w.key) (λ x. eq x b) ws

  -- each key has one write at most among the admitted
  one_admitted : (h : List (Event K V)) → HasOne eq (orders eq settings h).admitted
  one_admitted h k =
      ⊎_elim
      (λ (s : (writes_of eq k (orders eq settings h).admitted ≡ []) × (writes_of eq k (orders eq settings h).waiting ≡ option_to_list (standing eq settings k h))). (None, s.0))
      (λ (s : (writes_of eq k (orders eq settings h).admitted ≡ option_to_list (standing eq settings k h)) × (writes_of eq k (orders eq settings h).waiting ≡ [])). (standing eq settings k h, s.0))
      (one_side (writes_of eq k (orders eq settings h).admitted) (writes_of eq k (orders eq settings h).waiting) (standing eq settings k h) (sym (held-append eq settings k (orders eq settings h)) ∙ held-orders eq settings laws k h))

  -- a maintenance
  maintained-keeps : (h : List (Event K V)) (limit : Option ℕ) (at : ℕ) (all : List K) → KeepsArrival eq (keys (orders eq settings h).admitted) all → KeepsArrival eq (keys (orders eq settings (Maintained limit at ∷ h)).admitted) (all ++ admitted_in eq settings limit at h)
  maintained-keeps h limit at all kept =
      let q : Queues (Write K V) = orders eq settings h in
      let is_in_then : K → Bool = is_admitted eq settings (Maintained limit at ∷ h) in
      let stay : List (Write K V) = filter (λ w. is_in_then w.key) q.admitted in
      let come : List (Write K V) = filter (λ w. is_in_then w.key) q.waiting in
      let is : (orders eq settings (Maintained limit at ∷ h)).admitted ≡ stay ++ come = maintained-filtered h limit at in
      let one : HasOne eq (stay ++ come) = subst (HasOne eq) is (one_admitted (Maintained limit at ∷ h)) in
      let kept_stay : KeepsArrival eq (keys stay) all =
      subst (λ ks. KeepsArrival eq ks all) (sym (map-filter (λ (w : Write K V). w.key) is_in_then q.admitted))
      (KeepsArrival-test eq laws is_in_then (is_admitted-congr (Maintained limit at ∷ h)) (keys q.admitted) all kept) in
      subst (λ ks. KeepsArrival eq ks (all ++ keys come)) (sym (ap keys is ∙ map-append (λ (w : Write K V). w.key) stay come)) (KeepsArrival-append eq laws (keys stay) all (keys come) (AllNew-from_one eq laws stay come one) kept_stay)

  -- the admitted keys keep the order in which their last uses came
  keeps_use : (h : List (Event K V)) → KeepsArrival eq (keys (orders eq settings h).admitted) (uses eq settings h)
  keeps_use [] = refl
  keeps_use (Looked p at ∷ h) = go (standing eq settings p h) refl (keeps_use h)
    where
      now : ℕ
      now = latest (Looked p at ∷ h)

      q : Queues (Write K V)
      q = orders eq settings h

      missed : (o : Option (Write K V)) → standing eq settings p h ≡ o → live_one settings now o ≡ None → filter (λ w. is_live settings w now) (option_to_list o) ≡ [] → KeepsArrival eq (keys q.admitted) (uses eq settings h)
          → KeepsArrival eq (keys (orders eq settings (Looked p at ∷ h)).admitted) (uses eq settings h ++ keys (option_to_list (live_one settings now (standing eq settings p h))))
      missed o e none nobody kept =
          let still : orders eq settings (Looked p at ∷ h) ≡ q = look-none eq settings p q now (ap (filter (λ w. is_live settings w now)) (held-orders eq settings laws p h ∙ ap option_to_list e) ∙ nobody) in
          let more : uses eq settings h ++ keys (option_to_list (live_one settings now (standing eq settings p h))) ≡ uses eq settings h = ap (λ u. uses eq settings h ++ keys (option_to_list (live_one settings now u))) e ∙ ap (λ u. uses eq settings h ++ keys (option_to_list u)) none ∙ append-nil (uses eq settings h) in
          subst (λ ks. KeepsArrival eq (keys (orders eq settings (Looked p at ∷ h)).admitted) ks) (sym more) (subst (λ (r : Queues (Write K V)). KeepsArrival eq (keys r.admitted) (uses eq settings h)) (sym still) kept)

      go : (o : Option (Write K V)) → standing eq settings p h ≡ o → KeepsArrival eq (keys q.admitted) (uses eq settings h)
          → KeepsArrival eq (keys (orders eq settings (Looked p at ∷ h)).admitted) (uses eq settings h ++ keys (option_to_list (live_one settings now (standing eq settings p h))))
      go None e kept = missed None e refl refl kept
      go (Some w) e kept =
          let same : eq w.key p ≡ true = subst (IsStoredUnder eq p) e (stored_key eq settings p h) in
          ⊎_elim
          (λ lives.
          let more : uses eq settings h ++ keys (option_to_list (live_one settings now (standing eq settings p h))) ≡ uses eq settings h ++ w.key ∷ [] = ap (λ u. uses eq settings h ++ keys (option_to_list (live_one settings now u))) e ∙ ap (λ t. uses eq settings h ++ keys (option_to_list (cond t (Some w) None))) lives in
          subst (λ ks. KeepsArrival eq (keys (orders eq settings (Looked p at ∷ h)).admitted) ks) (sym more)
          (used_where-keeps p h w (is_hit eq settings p now) (after_look settings now) (uses eq settings h) e (λ u hit. (and_parts (eq u.key p) (is_live settings u now) hit).0) (and_from (eq w.key p) (is_live settings w now) same lives) (after_look-key eq settings now w) kept))
          (λ dead. missed (Some w) e (rw dead refl) (rw dead refl) kept)
          (cases_Bool (is_live settings w now))
  keeps_use (TurnedDown p at ∷ h) = keeps_use h
  keeps_use (Written p v at ∷ h) = go (standing eq settings p h) refl (keeps_use h)
    where
      now : ℕ
      now = latest (Written p v at ∷ h)

      q : Queues (Write K V)
      q = orders eq settings h

      go : (o : Option (Write K V)) → standing eq settings p h ≡ o → KeepsArrival eq (keys q.admitted) (uses eq settings h)
          → KeepsArrival eq (keys (orders eq settings (Written p v at ∷ h)).admitted) (uses eq settings h ++ (after_write settings p v at (standing eq settings p h)).key ∷ [])
      go None e kept =
          let nothing : held eq p q ≡ [] = held-orders eq settings laws p h ∙ ap option_to_list e in
          let still : orders eq settings (Written p v at ∷ h) ≡ _ = written_in-anew eq settings p q v now nothing in
          subst (λ u. KeepsArrival eq (keys (orders eq settings (Written p v at ∷ h)).admitted) (uses eq settings h ++ (after_write settings p v at u).key ∷ [])) (sym e)
          (subst (λ (r : Queues (Write K V)). KeepsArrival eq (keys r.admitted) (uses eq settings h ++ p ∷ [])) (sym still) (KeepsArrival-skip eq laws (keys q.admitted) (uses eq settings h) p (is_among-no_write eq p q.admitted (none_held eq settings p q nothing).0) kept))
      go (Some w) e kept =
          let over : orders eq settings (Written p v at ∷ h) ≡ overwritten eq settings p v now q = written_in-over eq settings p q v now (λ none. let no : w ∷ [] ≡ [] = sym (held-orders eq settings laws p h ∙ ap option_to_list e) ∙ none in cc) in
          subst (λ u. KeepsArrival eq (keys (orders eq settings (Written p v at ∷ h)).admitted) (uses eq settings h ++ (after_write settings p v at u).key ∷ [])) (sym e)
          (subst (λ (r : Queues (Write K V)). KeepsArrival eq (keys r.admitted) (uses eq settings h ++ w.key ∷ [])) (sym over)
          (used_where-keeps p h w (is_of eq settings p) (overwrite eq settings p v now) (uses eq settings h) e (λ u of. of) (subst (IsStoredUnder eq p) e (stored_key eq settings p h)) refl kept))
  keeps_use (Invalidated p at ∷ h) =
      subst (λ ks. KeepsArrival eq ks (uses eq settings h)) (sym (map-filter (λ (w : Write K V). w.key) (λ x. not (eq x p)) (orders eq settings h).admitted)) (KeepsArrival-filter eq laws (keys (orders eq settings h).admitted) (uses eq settings h) p (keeps_use h))
  keeps_use (Hidden test ∷ h) = subst (λ ks. KeepsArrival eq ks (uses eq settings h)) (sym (hidden-keys test (orders eq settings h).admitted)) (keeps_use h)
  keeps_use (Maintained limit at ∷ h) = maintained-keeps h limit at (uses eq settings h) (keeps_use h)
  keeps_use (Passed at ∷ h) = keeps_use h
  keeps_use (Drawn ∷ h) = keeps_use h
  keeps_use (Taken ∷ h) = keeps_use h

  -- so they are the last uses of the keys that are admitted
  pub admitted_in_order : (h : List (Event K V)) → keys (orders eq settings h).admitted ≡ filter (is_admitted eq settings h) (lasts eq (uses eq settings h))
  admitted_in_order h =
      keeps_use h ∙ filter_agree (is_among eq (keys (orders eq settings h).admitted)) (is_admitted eq settings h) (λ k. list_any-map (λ (w : Write K V). w.key) (λ x. eq x k) (orders eq settings h).admitted) (lasts eq (uses eq settings h))

module _ {K : Type 0} (eq : K → K → Bool) where
  -- the place of the last one of a key, counted from a number on
  abbrev last_at : ℕ → List K → K → ℕ
  last_at n [] k = n
  last_at n (x ∷ xs) k = cond (is_among eq xs k) (last_at (n + 1) xs k) n

  last_at-ge : (n : ℕ) (xs : List K) (k : K) → n ≤ last_at n xs k
  last_at-ge n [] k = omega arith
  last_at-ge n (x ∷ xs) k = cond_both (is_among eq xs k) (last_at (n + 1) xs k) n (λ m. n ≤ m) (λ _. let le = last_at-ge (n + 1) xs k in omega arith) (λ _. omega arith)

  -- it is that of its last use
  last_at-place : (n : ℕ) (xs ys : List K) (x k : K) → eq x k ≡ true → is_among eq ys k ≡ false → last_at n (xs ++ x ∷ ys) k ≡ n + length xs
  last_at-place n [] ys x k same unused = cond-false (is_among eq ys k) (last_at (n + 1) ys k) n unused ∙ (omega arith)
  last_at-place n (z ∷ xs) ys x k same unused =
      let ih = last_at-place (n + 1) xs ys x k same unused in
      cond-true (is_among eq (xs ++ x ∷ ys) k) (last_at (n + 1) (xs ++ x ∷ ys) k) n (found xs) ∙ (omega arith)
    where
      found : (zs : List K) → is_among eq (zs ++ x ∷ ys) k ≡ true
      found [] = or_left (eq x k) (is_among eq ys k) same
      found (z ∷ zs) = or_right (eq z k) (is_among eq (zs ++ x ∷ ys) k) (found zs)

  -- a key that was used has a last use
  last_use : (k : K) (xs : List K) → is_among eq xs k ≡ true → LastUse eq k xs
  last_use k [] used = cc
  last_use k (x ∷ xs) used =
      ⊎_elim
      (λ more. let last = last_use k xs more in record { before = x ∷ last.before; key = last.key; later = last.later; place = ap (λ l. x ∷ l) last.place; same_key = last.same_key; unused = last.unused })
      (λ none. record { before = []; key = x; later = xs; place = refl; same_key = sym (or_false (eq x k)) ∙ ap (λ t. eq x k || t) (sym none) ∙ used; unused = none })
      (cases_Bool (is_among eq xs k))

  module _ (laws : IsEquivalence eq) where
    -- each of the last ones is one that came
    lasts_came : (xs : List K) → Each (λ k. is_among eq xs k ≡ true) (lasts eq xs)
    lasts_came [] = tt
    lasts_came (x ∷ xs) =
        let more : Each (λ k. is_among eq (x ∷ xs) k ≡ true) (lasts eq xs) =
        Each-from (λ k. is_among eq xs k ≡ true) (λ k. is_among eq xs k ≡ true) (λ k. is_among eq (x ∷ xs) k ≡ true) (λ k came _. or_right (eq x k) (is_among eq xs k) came) (lasts eq xs) (lasts_came xs) (lasts_came xs) in
        cond_both (list_any (eq x) xs) (lasts eq xs) (x ∷ lasts eq xs) (Each (λ k. is_among eq (x ∷ xs) k ≡ true)) (λ _. more) (λ _. (or_left (eq x x) (is_among eq xs x) (laws.refl x), more))

    -- they stand in the order of their places
    lasts_in_order : (n : ℕ) (xs : List K) → InOrder (last_at n xs) (lasts eq xs)
    lasts_in_order n [] = tt
    lasts_in_order n (x ∷ xs) =
        let came = lasts_came xs in
        let later : Each (λ k. last_at n (x ∷ xs) k ≡ last_at (n + 1) xs k) (lasts eq xs) =
        Each-from (λ k. is_among eq xs k ≡ true) (λ k. is_among eq xs k ≡ true) (λ k. last_at n (x ∷ xs) k ≡ last_at (n + 1) xs k) (λ k is _. cond-true (is_among eq xs k) (last_at (n + 1) xs k) n is) (lasts eq xs) came came in
        let rest : InOrder (last_at n (x ∷ xs)) (lasts eq xs) = InOrder-same (last_at (n + 1) xs) (last_at n (x ∷ xs)) (lasts eq xs) later (lasts_in_order (n + 1) xs) in
        cond_both (list_any (eq x) xs) (lasts eq xs) (x ∷ lasts eq xs) (InOrder (last_at n (x ∷ xs))) (λ _. rest) (λ none. (first none later, rest))
      where
        among : (ys : List K) → list_any (eq x) ys ≡ is_among eq ys x
        among [] = refl
        among (y ∷ ys) = rw (among ys, laws.symm x y) refl

        first : list_any (eq x) xs ≡ false → Each (λ k. last_at n (x ∷ xs) k ≡ last_at (n + 1) xs k) (lasts eq xs) → Each (λ k. last_at n (x ∷ xs) x < last_at n (x ∷ xs) k) (lasts eq xs)
        first none later =
            let here : last_at n (x ∷ xs) x ≡ n = cond-false (is_among eq xs x) (last_at (n + 1) xs x) n (sym (among xs) ∙ none) in
            Each-from (λ k. last_at n (x ∷ xs) k ≡ last_at (n + 1) xs k) (λ k. last_at n (x ∷ xs) k ≡ last_at (n + 1) xs k) (λ k. last_at n (x ∷ xs) x < last_at n (x ∷ xs) k)
            (λ k is _. let ge = last_at-ge (n + 1) xs k in let b : last_at n (x ∷ xs) x < last_at n (x ∷ xs) k = omega arith in b)
            (lasts eq xs) later later

module _ {K V : Type 0} (eq : K → K → Bool) (settings : Settings K V) (laws : IsEquivalence eq) (h : List (Event K V)) where
  -- each that is admitted has a last use
  pub each_used : (before after : List (Write K V)) (w : Write K V) → (orders eq settings h).admitted ≡ before ++ w ∷ after → LastUse eq w.key (uses eq settings h)
  each_used before after w is =
      let names : filter (is_admitted eq settings h) (lasts eq (uses eq settings h)) ≡ keys before ++ w.key ∷ keys after = sym (admitted_in_order eq settings laws h) ∙ ap keys is ∙ map-append (λ (u : Write K V). u.key) before (w ∷ after) in
      let came = Each-filter (λ k. is_among eq (uses eq settings h) k ≡ true) (is_admitted eq settings h) (lasts eq (uses eq settings h)) (lasts_came eq laws (uses eq settings h)) in
      last_use eq w.key (uses eq settings h) (Each-at (λ k. is_among eq (uses eq settings h) k ≡ true) (keys before) (keys after) w.key (subst (Each (λ k. is_among eq (uses eq settings h) k ≡ true)) names came))

  -- of two that are admitted the one with the later last use stands behind
  pub later_behind : (before middle after : List (Write K V)) (a b : Write K V) → (orders eq settings h).admitted ≡ before ++ a ∷ (middle ++ b ∷ after)
      → (x : LastUse eq a.key (uses eq settings h)) (y : LastUse eq b.key (uses eq settings h)) → length x.before < length y.before
  later_behind before middle after a b is x y =
      let read = λ (w : Write K V). w.key in
      let place : K → ℕ = last_at eq 0 (uses eq settings h) in
      let names : filter (is_admitted eq settings h) (lasts eq (uses eq settings h)) ≡ keys before ++ a.key ∷ (keys middle ++ b.key ∷ keys after) =
      sym (admitted_in_order eq settings laws h) ∙ ap keys is ∙ map-append read before (a ∷ (middle ++ b ∷ after)) ∙ ap (λ l. keys before ++ a.key ∷ l) (map-append read middle (b ∷ after)) in
      let order = InOrder-filter place (is_admitted eq settings h) (lasts eq (uses eq settings h)) (lasts_in_order eq laws 0 (uses eq settings h)) in
      let older : place a.key < place b.key = InOrder-at place (keys before) (keys middle) (keys after) a.key b.key (subst (InOrder place) names order) in
      let at_a : place a.key ≡ 0 + length x.before = ap (λ l. last_at eq 0 l a.key) x.place ∙ last_at-place eq 0 x.before x.later x.key a.key x.same_key x.unused in
      let at_b : place b.key ≡ 0 + length y.before = ap (λ l. last_at eq 0 l b.key) y.place ∙ last_at-place eq 0 y.before y.later y.key b.key y.same_key y.unused in
      omega arith
