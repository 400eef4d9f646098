-- No pair of a key and a value is lost or doubled.
use Rattle.std.proofs.Common.{◌≡◌, ℕ, ◌+◌, suc, Bool, true, false, not, if◌then◌else◌, cond, Option, Some, None, List, [], ◌∷◌, ◌++◌, map, length, filter, length-append, append_assoc, refl, sym, ap, ◌∙◌, arith}
use Rattle.std.specs.Cmp.{IsEquivalence}
use Rattle.std.specs.Option.{option_to_list}
use Rattle.std.proofs.lemmas.List.{map-append}
use Rattle.std.proofs.lemmas.List.Elements.{filter-append}
use Rattle.moka_model.specs.declared.notification.RemovalCause.{RemovalCause}
use Rattle.moka_model.specs.declared.notification.RemovalCause.TheVariants.{Explicit, Replaced, Size}
use Rattle.moka_model.specs.Lives.{Settings, Write, is_live, hit, after_look, after_write, hidden_by}
use Rattle.moka_model.specs.Events.{Event, Looked, TurnedDown, Written, Invalidated, Hidden, Maintained, Passed, Drawn, Taken, latest}
use Rattle.moka_model.specs.Admission.{frequency, wins}
use Rattle.moka_model.specs.Maintenance.{Queues}
use Rattle.moka_model.specs.MaintenanceLaws.{count, everything}
use Rattle.moka_model.specs.Orders.{changed_where, moved_last, is_of, is_hit, used_where, opened_by, removed_in, hidden_in, evicted_at, orders, standing}
use Rattle.moka_model.specs.Removals.{Removal, removal_of, removals_of, removals_at, removals}
use Rattle.moka_model.proofs.MaintenanceCounted.{count-maintenance}
use Rattle.moka_model.proofs.OrdersHold.{held-orders}
use Rattle.moka_model.proofs.Standing.{IsStoredUnder, stored_key}
use Rattle.moka_model.specs.Conserved.{SeesKeysAlike, count_written, count_standing, count_left}

module _ {A : Type 0} (t : A → Bool) where
  pub count-append : (xs ys : List A) → count t (xs ++ ys) ≡ count t xs + count t ys
  count-append xs ys = ap length (filter-append t xs ys) ∙ length-append (filter t xs) (filter t ys)

  count-cons : (x : A) (xs : List A) → count t (x ∷ xs) ≡ count t (x ∷ []) + count t xs
  count-cons x xs = count-append (x ∷ []) xs

  -- what passes a test and what does not are all
  count-split : (p : A → Bool) (xs : List A) → count t xs ≡ count t (filter (λ x. not (p x)) xs) + count t (filter p xs)
  count-split p [] = refl
  count-split p (x ∷ xs) = go (count-split p xs) (p x)
    where
      go : count t xs ≡ count t (filter (λ y. not (p y)) xs) + count t (filter p xs) → (s : Bool) → count t (x ∷ xs) ≡ count t (cond (not s) (x ∷ filter (λ y. not (p y)) xs) (filter (λ y. not (p y)) xs)) + count t (cond s (x ∷ filter p xs) (filter p xs))
      go rest true =
          let here = count-cons x xs in
          let there = count-cons x (filter p xs) in
          omega arith
      go rest false =
          let here = count-cons x xs in
          let there = count-cons x (filter (λ y. not (p y)) xs) in
          omega arith

  -- in both kinds of use the changed ones are those that pass
  count-moved_last : (p : A → Bool) (change : A → A) (xs : List A) → count t (moved_last p change xs) ≡ count t (filter (λ x. not (p x)) xs) + count t (map change (filter p xs))
  count-moved_last p change xs = count-append (filter (λ x. not (p x)) xs) (map change (filter p xs))

  count-changed_where : (p : A → Bool) (change : A → A) (xs : List A) → count t (changed_where p change xs) ≡ count t (filter (λ x. not (p x)) xs) + count t (map change (filter p xs))
  count-changed_where p change [] = refl
  count-changed_where p change (x ∷ xs) = go (count-changed_where p change xs) (p x)
    where
      go : count t (changed_where p change xs) ≡ count t (filter (λ y. not (p y)) xs) + count t (map change (filter p xs)) → (s : Bool) → count t (cond s (change x) x ∷ changed_where p change xs) ≡ count t (cond (not s) (x ∷ filter (λ y. not (p y)) xs) (filter (λ y. not (p y)) xs)) + count t (map change (cond s (x ∷ filter p xs) (filter p xs)))
      go rest true =
          let here = count-cons (change x) (changed_where p change xs) in
          let there = count-cons (change x) (map change (filter p xs)) in
          omega arith
      go rest false =
          let here = count-cons x (changed_where p change xs) in
          let there = count-cons x (filter (λ y. not (p y)) xs) in
          omega arith

-- what is read of each element is counted alike
count-map : {A B : Type 0} (t : A → Bool) (s : B → Bool) (f : A → B) → ((x : A) → s (f x) ≡ t x) → (xs : List A) → count s (map f xs) ≡ count t xs
count-map t s f same [] = refl
count-map t s f same (x ∷ xs) = rw (same x) (go (count-map t s f same xs) (t x))
  where
    go : count s (map f xs) ≡ count t xs → (b : Bool) → length (cond b (f x ∷ filter s (map f xs)) (filter s (map f xs))) ≡ length (cond b (x ∷ filter t xs) (filter t xs))
    go rest true = ap suc rest
    go rest false = rest

module _ {K V : Type 0} (eq : K → K → Bool) (settings : Settings K V) (test : K → V → Bool) where
  abbrev passes : Write K V → Bool
  passes w = test w.key w.value

  -- a use changes those that pass, in both orders
  count-used : (p : Write K V → Bool) (change : Write K V → Write K V) (q : Queues (Write K V))
      → count_standing test (used_where eq settings p change q) ≡ count passes (filter (λ w. not (p w)) (everything q)) + count passes (map change (filter p (everything q)))
  count-used p change q =
      let both = count-append passes (moved_last p change q.admitted) (changed_where p change q.waiting) in
      let one = count-moved_last passes p change q.admitted in
      let other = count-changed_where passes p change q.waiting in
      let rest : count passes (filter (λ w. not (p w)) (everything q)) ≡ count passes (filter (λ w. not (p w)) q.admitted) + count passes (filter (λ w. not (p w)) q.waiting) =
      ap (count passes) (filter-append (λ w. not (p w)) q.admitted q.waiting) ∙ count-append passes (filter (λ w. not (p w)) q.admitted) (filter (λ w. not (p w)) q.waiting) in
      let apart : count passes (map change (filter p (everything q))) ≡ count passes (map change (filter p q.admitted)) + count passes (map change (filter p q.waiting)) =
      ap (λ ws. count passes (map change ws)) (filter-append p q.admitted q.waiting) ∙ ap (count passes) (map-append change (filter p q.admitted) (filter p q.waiting)) ∙ count-append passes (map change (filter p q.admitted)) (map change (filter p q.waiting)) in
      omega arith

  -- a look keeps keys and values
  after_look-passes : (at : ℕ) (w : Write K V) → passes (after_look settings at w) ≡ passes w
  after_look-passes at w = go (is_live settings w at)
    where
      go : (b : Bool) → passes (cond b (hit settings at w) w) ≡ passes w
      go true = refl
      go false = refl

  count-looked : (k : K) (at : ℕ) (q : Queues (Write K V)) → count_standing test (used_where eq settings (is_hit eq settings k at) (after_look settings at) q) ≡ count_standing test q
  count-looked k at q =
      let p : Write K V → Bool = is_hit eq settings k at in
      let used = count-used p (after_look settings at) q in
      let same = count-map passes passes (after_look settings at) (after_look-passes at) (filter p (everything q)) in
      let split = count-split passes p (everything q) in
      omega arith

  -- what leaves, counted as what stood
  count-removed : (own : RemovalCause) (at : ℕ) (ws : List (Write K V)) → count_left test (map (removal_of settings own at) ws) ≡ count passes ws
  count-removed own at ws = count-map passes (λ (l : Removal K V). test l.key l.value) (removal_of settings own at) (λ w. refl) ws

  removals-option : (own : RemovalCause) (at : ℕ) (o : Option (Write K V)) → removals_of settings own at o ≡ map (removal_of settings own at) (option_to_list o)
  removals-option own at None = refl
  removals-option own at (Some w) = refl

  count-gone : (own : RemovalCause) (at : ℕ) (o : Option (Write K V)) → count_left test (removals_of settings own at o) ≡ count passes (option_to_list o)
  count-gone own at o = ap (count_left test) (removals-option own at o) ∙ count-removed own at (option_to_list o)

  -- one that passes, or does not
  abbrev one_if : Bool → ℕ
  one_if b = cond b 1 0

  count-one : (w : Write K V) → count passes (w ∷ []) ≡ one_if (passes w)
  count-one w = go (passes w)
    where
      go : (b : Bool) → length (cond b (w ∷ []) []) ≡ one_if b
      go true = refl
      go false = refl

  -- What an event writes comes to what stands and what leaves.
  abbrev IsConserved : Event K V → List (Event K V) → Type 0
  IsConserved e h = count_written test (e ∷ h) + count_standing test (orders eq settings h) ≡ count_written test h + (count_standing test (orders eq settings (e ∷ h)) + count_left test (removals_at eq settings e h))

  module _ (laws : IsEquivalence eq) (alike : SeesKeysAlike eq test) where
    written : (k : K) (v : V) (at : ℕ) (h : List (Event K V)) → IsConserved (Written k v at) h
    written k v at h = go (standing eq settings k h) refl (held-orders eq settings laws k h) (stored_key eq settings k h)
      where
        now : ℕ
        now = latest (Written k v at ∷ h)

        q : Queues (Write K V)
        q = orders eq settings h

        change : Write K V → Write K V
        change w = after_write settings k v now (Some w)

        used : Queues (Write K V)
        used = used_where eq settings (is_of eq settings k) change q

        drawn : count_written test (Written k v at ∷ h) ≡ one_if (test k v) + count_written test h
        drawn = one (test k v)
          where
            one : (b : Bool) → (if b then suc (count_written test h) else count_written test h) ≡ one_if b + count_written test h
            one true = omega arith
            one false = omega arith

        go : (o : Option (Write K V)) → standing eq settings k h ≡ o → filter (is_of eq settings k) (everything q) ≡ option_to_list (standing eq settings k h) → IsStoredUnder eq k (standing eq settings k h) → IsConserved (Written k v at) h
        go None is held under =
            let none : filter (is_of eq settings k) (everything q) ≡ [] = held ∙ ap option_to_list is in
            let opening : Write K V = after_write settings k v now None in
            let after : orders eq settings (Written k v at ∷ h) ≡ record { admitted = used.admitted; waiting = used.waiting ++ opening ∷ [] } = ap (λ ws. opened_by eq settings opening ws used) none in
            let standing_then : count_standing test (orders eq settings (Written k v at ∷ h)) ≡ count_standing test used + count passes (opening ∷ []) =
            ap (count_standing test) after ∙ ap (count passes) (sym (append_assoc used.admitted used.waiting (opening ∷ []))) ∙ count-append passes (everything used) (opening ∷ []) in
            let opened = count-one opening in
            let using = count-used (is_of eq settings k) change q in
            let unchanged : count passes (map change (filter (is_of eq settings k) (everything q))) ≡ 0 = ap (λ ws. count passes (map change ws)) none in
            let split = count-split passes (is_of eq settings k) (everything q) in
            let untouched : count passes (filter (is_of eq settings k) (everything q)) ≡ 0 = ap (count passes) none in
            let gone : count_left test (removals_at eq settings (Written k v at) h) ≡ 0 = ap (λ o. count_left test (removals_of settings Replaced now o)) is in
            let writes = drawn in
            omega arith
        go (Some w) is held under =
            let one : filter (is_of eq settings k) (everything q) ≡ w ∷ [] = held ∙ ap option_to_list is in
            let after : orders eq settings (Written k v at ∷ h) ≡ used = ap (λ ws. opened_by eq settings (after_write settings k v now None) ws used) one in
            let standing_then = ap (count_standing test) after in
            let using = count-used (is_of eq settings k) change q in
            let changed : count passes (map change (filter (is_of eq settings k) (everything q))) ≡ one_if (test w.key v) = ap (λ ws. count passes (map change ws)) one ∙ count-one (change w) in
            let stored : eq w.key k ≡ true = rw is at under in
            let alike_then : one_if (test w.key v) ≡ one_if (test k v) = ap one_if (alike w.key k v stored) in
            let split = count-split passes (is_of eq settings k) (everything q) in
            let stood : count passes (filter (is_of eq settings k) (everything q)) ≡ count passes (w ∷ []) = ap (count passes) one in
            let gone : count_left test (removals_at eq settings (Written k v at) h) ≡ count passes (w ∷ []) = count-gone Replaced now (standing eq settings k h) ∙ ap (λ o. count passes (option_to_list o)) is in
            let writes = drawn in
            omega arith

    removed : (k : K) (at : ℕ) (h : List (Event K V)) → IsConserved (Invalidated k at) h
    removed k at h =
        let q : Queues (Write K V) = orders eq settings h in
        let p : Write K V → Bool = is_of eq settings k in
        let rest : count_standing test (removed_in eq settings k q) ≡ count passes (filter (λ w. not (p w)) (everything q)) = ap (count passes) (sym (filter-append (λ w. not (p w)) q.admitted q.waiting)) in
        let split = count-split passes p (everything q) in
        let held : count passes (filter p (everything q)) ≡ count passes (option_to_list (standing eq settings k h)) = ap (count passes) (held-orders eq settings laws k h) in
        let gone = count-gone Explicit (latest (Invalidated k at ∷ h)) (standing eq settings k h) in
        omega arith

    evicted : (limit : Option ℕ) (at : ℕ) (h : List (Event K V)) → IsConserved (Maintained limit at) h
    evicted limit at h =
        let q : Queues (Write K V) = orders eq settings h in
        let now : ℕ = latest (Maintained limit at ∷ h) in
        let moved = count-maintenance passes (λ (w : Write K V). w.policy_weight) settings.max_capacity (λ (w : Write K V). is_live settings w now) (wins settings (frequency settings h)) limit q in
        let gone = count-removed Size now (evicted_at eq settings limit at h) in
        omega arith

    conserved : (e : Event K V) (h : List (Event K V)) → IsConserved e h
    conserved (Looked k at) h = let same = count-looked k (latest (Looked k at ∷ h)) (orders eq settings h) in omega arith
    conserved (TurnedDown k at) h = omega arith
    conserved (Written k v at) h = written k v at h
    conserved (Invalidated k at) h = removed k at h
    conserved (Hidden hide) h =
        let q : Queues (Write K V) = orders eq settings h in
        let same : count_standing test (hidden_in hide q) ≡ count_standing test q = ap (count passes) (sym (map-append (hidden_by hide) q.admitted q.waiting)) ∙ count-map passes passes (hidden_by hide) (λ w. refl) (everything q) in
        omega arith
    conserved (Maintained limit at) h = evicted limit at h
    conserved (Passed at) h = omega arith
    conserved Drawn h = omega arith
    conserved Taken h = omega arith

    pub pairs_conserved : (h : List (Event K V)) → count_written test h ≡ count_standing test (orders eq settings h) + count_left test (removals eq settings h)
    pairs_conserved [] = refl
    pairs_conserved (e ∷ h) =
        let before = pairs_conserved h in
        let here = conserved e h in
        let left = count-append (λ (l : Removal K V). test l.key l.value) (removals eq settings h) (removals_at eq settings e h) in
        omega arith
