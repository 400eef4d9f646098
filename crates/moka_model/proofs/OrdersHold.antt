-- The two orders hold what stands, and nothing else.
use Rattle.std.proofs.Common.{◌≡◌, ℕ, Bool, true, false, not, cond, ◌&&◌, List, [], ◌∷◌, ◌++◌, map, Option, Some, None, option_map, refl, sym, ap, ◌∙◌, append_assoc}
use Rattle.std.specs.Option.{option_to_list}
use Rattle.std.specs.List.{filter, list_any}
use Rattle.std.specs.Cmp.{IsEquivalence}
use Rattle.std.proofs.lemmas.List.{map-append}
use Rattle.std.proofs.lemmas.List.Elements.{filter-append}
use Rattle.moka_model.specs.Maintenance.{Queues}
use Rattle.moka_model.specs.Lives.{Settings, Write, is_live, hit, after_look, after_write, hidden_by}
use Rattle.moka_model.specs.Events.{Event, Looked, TurnedDown, Written, Invalidated, Hidden, Maintained, Passed, Drawn, Taken, latest}
use Rattle.moka_model.specs.Admission.{frequency, wins}
use Rattle.moka_model.specs.Orders.{standing, changed_where, moved_last, is_of, is_hit, used_where, opened_by, written_in, removed_in, hidden_in, evicted, maintained, orders}
use Rattle.moka_model.specs.OrderLaws.{writes_of, held}
use Rattle.moka_model.proofs.Standing.{IsStoredUnder, stored_key, standing_congr}
use Rattle.moka_model.proofs.Maintenance.{after-parts}
use Rattle.moka_model.proofs.MaintenanceKept.{one_leaves_or_stays}
use Rattle.moka_model.proofs.ListLemmas.{filter_comm, filter-changed_where, filter-moved_last, changed_if, used-option}

module _ {K V : Type 0} (eq : K → K → Bool) (settings : Settings K V) where
  -- the write of a key that does not stand
  abbrev pub opening : K → V → ℕ → Write K V
  opening p v at = after_write settings p v at None

  -- the write of a key over one that stands
  abbrev pub overwrite : K → V → ℕ → Write K V → Write K V
  overwrite p v at w = after_write settings p v at (Some w)

  -- the queues after it
  abbrev pub overwritten : K → V → ℕ → Queues (Write K V) → Queues (Write K V)
  overwritten p v at q = used_where eq settings (is_of eq settings p) (overwrite p v at) q

  -- the writes of a key, of each order
  pub held-append : (k : K) (q : Queues (Write K V)) → held eq k q ≡ writes_of eq k q.admitted ++ writes_of eq k q.waiting
  held-append k q = filter-append (λ (w : Write K V). eq w.key k) q.admitted q.waiting

  -- a use that keeps the keys changes the write of a key where it passes
  pub held-used_where : (k : K) (p : Write K V → Bool) (change : Write K V → Write K V) (q : Queues (Write K V)) (o : Option (Write K V)) → ((w : Write K V) → eq (change w).key k ≡ eq w.key k)
      → held eq k q ≡ option_to_list o → held eq k (used_where eq settings p change q) ≡ option_to_list (option_map (changed_if p change) o)
  held-used_where k p change q o kept one =
      held-append k (used_where eq settings p change q)
      ∙ ap (λ l. l ++ writes_of eq k (changed_where p change q.waiting)) (filter-moved_last p change (λ (w : Write K V). eq w.key k) kept q.admitted)
      ∙ ap (λ l. moved_last p change (writes_of eq k q.admitted) ++ l) (filter-changed_where p change (λ (w : Write K V). eq w.key k) kept q.waiting)
      ∙ used-option p change (writes_of eq k q.admitted) (writes_of eq k q.waiting) o (sym (held-append k q) ∙ one)

  -- a removal takes out the writes of its key
  pub held-removed_in : (k p : K) (q : Queues (Write K V)) → held eq k (removed_in eq settings p q) ≡ filter (λ (w : Write K V). not (eq w.key p)) (held eq k q)
  held-removed_in k p q =
      held-append k (removed_in eq settings p q)
      ∙ ap (λ l. l ++ writes_of eq k (filter (λ (w : Write K V). not (eq w.key p)) q.waiting)) (filter_comm (λ (w : Write K V). not (eq w.key p)) (λ (w : Write K V). eq w.key k) q.admitted)
      ∙ ap (λ l. filter (λ (w : Write K V). not (eq w.key p)) (writes_of eq k q.admitted) ++ l) (filter_comm (λ (w : Write K V). not (eq w.key p)) (λ (w : Write K V). eq w.key k) q.waiting)
      ∙ sym (filter-append (λ (w : Write K V). not (eq w.key p)) (writes_of eq k q.admitted) (writes_of eq k q.waiting))
      ∙ ap (filter (λ (w : Write K V). not (eq w.key p))) (sym (held-append k q))

  -- a write at the end is that of its key
  pub held-push : (k : K) (q : Queues (Write K V)) (w : Write K V) (r : Queues (Write K V)) → r ≡ record { admitted = q.admitted; waiting = q.waiting ++ w ∷ [] } → held eq k r ≡ held eq k q ++ cond (eq w.key k) (w ∷ []) []
  held-push k q w r e =
      ap (held eq k) e
      ∙ ap (writes_of eq k) (sym (append_assoc q.admitted q.waiting (w ∷ [])))
      ∙ filter-append (λ (v : Write K V). eq v.key k) (q.admitted ++ q.waiting) (w ∷ [])

  -- a look keeps the keys
  pub after_look-key : (at : ℕ) (w : Write K V) → (after_look settings at w).key ≡ w.key
  after_look-key at w = go (is_live settings w at)
    where
      go : (t : Bool) → (cond t (hit settings at w) w).key ≡ w.key
      go true = refl
      go false = refl

  -- nothing waits after a maintenance
  pub maintained-none_waits : (frequency_of : ℕ → ℕ) (at : ℕ) (q : Queues (Write K V)) → (maintained settings frequency_of None at q).waiting ≡ []
  maintained-none_waits frequency_of at q = ap (λ (r : Queues (Write K V)). r.waiting) (after-parts (λ (w : Write K V). w.policy_weight) settings.max_capacity (λ (w : Write K V). is_live settings w at) (wins settings frequency_of) q)

  -- in a maintenance the write of a key leaves, or it stays as it is
  pub held-maintained : (frequency_of : ℕ → ℕ) (k : K) (limit : Option ℕ) (at : ℕ) (q : Queues (Write K V)) (o : Option (Write K V)) → held eq k q ≡ option_to_list o
      → (writes_of eq k (evicted settings frequency_of limit at q) ≡ option_to_list (cond (list_any (λ (w : Write K V). eq w.key k) (evicted settings frequency_of limit at q)) o None))
      × (held eq k (maintained settings frequency_of limit at q) ≡ option_to_list (cond (list_any (λ (w : Write K V). eq w.key k) (evicted settings frequency_of limit at q)) None o))
  held-maintained frequency_of k limit at q o here = one_leaves_or_stays (λ (w : Write K V). eq w.key k) (λ (w : Write K V). w.policy_weight) settings.max_capacity (λ (w : Write K V). is_live settings w at) (wins settings frequency_of) limit q o here

  -- hiding keeps the keys
  filter-hidden_by : (k : K) (test : K → V → Bool) (ws : List (Write K V)) → writes_of eq k (map (hidden_by test) ws) ≡ map (hidden_by test) (writes_of eq k ws)
  filter-hidden_by k test [] = refl
  filter-hidden_by k test (w ∷ ws) = rw (filter-hidden_by k test ws) (go (eq w.key k))
    where
      go : (t : Bool) → cond t (hidden_by test w ∷ map (hidden_by test) (writes_of eq k ws)) (map (hidden_by test) (writes_of eq k ws)) ≡ map (hidden_by test) (cond t (w ∷ writes_of eq k ws) (writes_of eq k ws))
      go true = refl
      go false = refl

  map-option : {A : Type 0} (f : A → A) (o : Option A) → map f (option_to_list o) ≡ option_to_list (option_map f o)
  map-option f None = refl
  map-option f (Some x) = refl

  held-hidden_in : (k : K) (test : K → V → Bool) (q : Queues (Write K V)) (o : Option (Write K V)) → held eq k q ≡ option_to_list o → held eq k (hidden_in test q) ≡ option_to_list (option_map (hidden_by test) o)
  held-hidden_in k test q o here =
      ap (writes_of eq k) (sym (map-append (hidden_by test) q.admitted q.waiting))
      ∙ filter-hidden_by k test (q.admitted ++ q.waiting)
      ∙ ap (map (hidden_by test)) here
      ∙ map-option (hidden_by test) o

  module _ (laws : IsEquivalence eq) where
    -- what is stored under a key is of another key where those are equal
    pub key_test : (w : Write K V) (k p : K) → eq w.key k ≡ true → eq w.key p ≡ eq p k
    key_test w k p under = laws.congr w.key k p under ∙ laws.symm k p

    -- a look
    held-look : (k p : K) (at : ℕ) (o : Option (Write K V)) → IsStoredUnder eq k o
        → option_map (changed_if (is_hit eq settings p at) (after_look settings at)) o ≡ cond (eq p k) (option_map (after_look settings at) o) o
    held-look k p at None under = go (eq p k)
      where
        go : (t : Bool) → ◌≡◌ {A = Option (Write K V)} None (cond t None None)
        go true = refl
        go false = refl
    held-look k p at (Some w) under = rw (key_test w k p under) (go (eq p k) (is_live settings w at))
      where
        go : (t live : Bool) → ◌≡◌ {A = Option (Write K V)} (Some (cond (t && live) (cond live (hit settings at w) w) w)) (cond t (Some (cond live (hit settings at w) w)) (Some w))
        go true true = refl
        go true false = refl
        go false live = refl

    -- a removal
    held-removal : (k p : K) (o : Option (Write K V)) → IsStoredUnder eq k o
        → filter (λ (w : Write K V). not (eq w.key p)) (option_to_list o) ≡ option_to_list (cond (eq p k) None o)
    held-removal k p None under = go (eq p k)
      where
        go : (t : Bool) → ◌≡◌ {A = List (Write K V)} [] (option_to_list (cond t None None))
        go true = refl
        go false = refl
    held-removal k p (Some w) under = rw (key_test w k p under) (go (eq p k))
      where
        go : (t : Bool) → cond (not t) (w ∷ []) [] ≡ option_to_list (cond t None (Some w))
        go true = refl
        go false = refl

    -- a write over one that stands, which is the one of the key where the keys are equal
    held-overwrite : (k p : K) (v : V) (at : ℕ) (o : Option (Write K V)) (w : Write K V) → IsStoredUnder eq k o → (eq p k ≡ true → o ≡ Some w)
        → option_map (changed_if (is_of eq settings p) (overwrite p v at)) o ≡ cond (eq p k) (Some (after_write settings p v at o)) o
    held-overwrite k p v at None w under same = go (eq p k) same
      where
        go : (t : Bool) → (t ≡ true → None ≡ Some w) → ◌≡◌ {A = Option (Write K V)} None (cond t (Some (after_write settings p v at None)) None)
        go true none = let no = none refl in cc
        go false none = refl
    held-overwrite k p v at (Some u) w under same = rw (key_test u k p under) (go (eq p k))
      where
        go : (t : Bool) → ◌≡◌ {A = Option (Write K V)} (Some (cond t (after_write settings p v at (Some u)) u)) (cond t (Some (after_write settings p v at (Some u))) (Some u))
        go true = refl
        go false = refl

    -- a write of a key that does not stand
    held-opening : (k p : K) (v : V) (at : ℕ) (o : Option (Write K V)) → IsStoredUnder eq k o → (eq p k ≡ true → o ≡ None)
        → option_to_list (option_map (changed_if (is_of eq settings p) (overwrite p v at)) o) ++ cond (eq p k) (after_write settings p v at None ∷ []) [] ≡ option_to_list (cond (eq p k) (Some (after_write settings p v at o)) o)
    held-opening k p v at None under same = go (eq p k)
      where
        go : (t : Bool) → cond t (after_write settings p v at None ∷ []) [] ≡ option_to_list (cond t (Some (after_write settings p v at None)) None)
        go true = refl
        go false = refl
    held-opening k p v at (Some u) under same = rw (key_test u k p under) (go (eq p k) same)
      where
        go : (t : Bool) → (t ≡ true → Some u ≡ None) → (cond t (after_write settings p v at (Some u)) u ∷ []) ++ cond t (after_write settings p v at None ∷ []) [] ≡ option_to_list (cond t (Some (after_write settings p v at (Some u))) (Some u))
        go true none = let no = none refl in cc
        go false none = refl

    -- a write
    pub held-written_in : (k p : K) (v : V) (at : ℕ) (q : Queues (Write K V)) (o s : Option (Write K V)) → IsStoredUnder eq k o → held eq k q ≡ option_to_list o → held eq p q ≡ option_to_list s → (eq p k ≡ true → o ≡ s)
        → held eq k (written_in eq settings p v at q) ≡ option_to_list (cond (eq p k) (Some (after_write settings p v at o)) o)
    held-written_in k p v at q o s under here there same = go s there same
      where
        go : (s : Option (Write K V)) → held eq p q ≡ option_to_list s → (eq p k ≡ true → o ≡ s) → held eq k (written_in eq settings p v at q) ≡ option_to_list (cond (eq p k) (Some (after_write settings p v at o)) o)
        go None there same =
            ap (λ l. held eq k (opened_by eq settings (opening p v at) l (overwritten p v at q))) there
            ∙ held-push k (overwritten p v at q) (opening p v at) (opened_by eq settings (opening p v at) [] (overwritten p v at q)) refl
            ∙ ap (λ l. l ++ cond (eq p k) (opening p v at ∷ []) []) (held-used_where k (is_of eq settings p) (overwrite p v at) q o (λ w. refl) here)
            ∙ held-opening k p v at o under same
        go (Some w) there same =
            ap (λ l. held eq k (opened_by eq settings (opening p v at) l (overwritten p v at q))) there
            ∙ held-used_where k (is_of eq settings p) (overwrite p v at) q o (λ w. refl) here
            ∙ ap option_to_list (held-overwrite k p v at o w under same)

    -- the two orders hold for each key the write that stands
    pub held-orders : (k : K) (h : List (Event K V)) → held eq k (orders eq settings h) ≡ option_to_list (standing eq settings k h)
    held-orders k [] = refl
    held-orders k (Looked p at ∷ h) =
        held-used_where k (is_hit eq settings p (latest (Looked p at ∷ h))) (after_look settings (latest (Looked p at ∷ h))) (orders eq settings h) (standing eq settings k h) (λ w. ap (λ x. eq x k) (after_look-key (latest (Looked p at ∷ h)) w)) (held-orders k h)
        ∙ ap option_to_list (held-look k p (latest (Looked p at ∷ h)) (standing eq settings k h) (stored_key eq settings k h))
    held-orders k (TurnedDown p at ∷ h) = held-orders k h
    held-orders k (Written p v at ∷ h) =
        held-written_in k p v (latest (Written p v at ∷ h)) (orders eq settings h) (standing eq settings k h) (standing eq settings p h) (stored_key eq settings k h) (held-orders k h) (held-orders p h) (λ same. sym (standing_congr eq settings laws p k h same))
    held-orders k (Invalidated p at ∷ h) =
        held-removed_in k p (orders eq settings h) ∙ ap (filter (λ (w : Write K V). not (eq w.key p))) (held-orders k h) ∙ held-removal k p (standing eq settings k h) (stored_key eq settings k h)
    held-orders k (Hidden test ∷ h) = held-hidden_in k test (orders eq settings h) (standing eq settings k h) (held-orders k h)
    held-orders k (Maintained limit at ∷ h) = (held-maintained (frequency settings h) k limit (latest (Maintained limit at ∷ h)) (orders eq settings h) (standing eq settings k h) (held-orders k h)).1
    held-orders k (Passed at ∷ h) = held-orders k h
    held-orders k (Drawn ∷ h) = held-orders k h
    held-orders k (Taken ∷ h) = held-orders k h
