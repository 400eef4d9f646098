-- What a use, a write and a removal make of two orders in which each key has one write at most.
use Rattle.std.proofs.Common.{◌≡◌, ◌≢◌, ℕ, Bool, true, not, cond, Some, None, List, [], ◌∷◌, ◌++◌, map, refl, sym, ap, ◌∙◌, append_assoc}
use Rattle.std.specs.List.{filter}
use Rattle.std.proofs.lemmas.Bool.{and_parts, and_from, cond-true}
use Rattle.std.proofs.lemmas.List.Elements.{filter-append}
use Rattle.moka_model.specs.Maintenance.{Queues}
use Rattle.moka_model.specs.Lives.{Settings, Write, is_live, hit, after_look, after_write, hidden_by}
use Rattle.moka_model.specs.Orders.{changed_where, moved_last, is_of, is_hit, used_where, opened_by, written_in, removed_in}
use Rattle.moka_model.specs.OrderLaws.{writes_of, keys, held, HasOneEach, with_admitted, with_waiting}
use Rattle.moka_model.proofs.Callers.{filter-both, rest-all, changed_where-none, moved_last-none, rest-one, moved_last-one, changed_where-one, filter-narrower, alone, empty_parts, map-changed_where, map-filter, opening, overwrite, overwritten, held-append, after_look-key}

-- queues with the same parts
same_queues : {K V : Type 0} (us vs xs ys : List (Write K V)) → us ≡ vs → xs ≡ ys → ◌≡◌ {A = Queues (Write K V)} (record { admitted = us; waiting = xs }) (record { admitted = vs; waiting = ys })
same_queues us vs xs ys e d = rw (e, d)

-- hiding keeps the keys
pub hidden-keys : {K V : Type 0} (test : K → V → Bool) (ws : List (Write K V)) → keys (map (hidden_by test) ws) ≡ keys ws
hidden-keys test [] = refl
hidden-keys test (w ∷ ws) = ap (λ ks. w.key ∷ ks) (hidden-keys test ws)

module _ {K V : Type 0} (eq : K → K → Bool) (settings : Settings K V) (k : K) (q : Queues (Write K V)) where
  -- each order has no write of a key that neither has
  pub none_held : held eq k q ≡ [] → (writes_of eq k q.admitted ≡ []) × (writes_of eq k q.waiting ≡ [])
  none_held none = empty_parts (writes_of eq k q.admitted) (writes_of eq k q.waiting) (sym (held-append eq settings k q) ∙ none)

  -- where none passes, both orders stay
  pub used_where-none : (p : Write K V → Bool) (change : Write K V → Write K V) → filter p (q.admitted ++ q.waiting) ≡ [] → used_where eq settings p change q ≡ q
  used_where-none p change none =
      let parts = empty_parts (filter p q.admitted) (filter p q.waiting) (sym (filter-append p q.admitted q.waiting) ∙ none) in
      same_queues _ _ _ _ (moved_last-none p change q.admitted parts.0) (changed_where-none p change q.waiting parts.1)

  -- a look that hits nothing leaves both as they are
  pub look-none : (at : ℕ) → filter (λ w. is_live settings w at) (held eq k q) ≡ [] → used_where eq settings (is_hit eq settings k at) (after_look settings at) q ≡ q
  look-none at none = used_where-none (is_hit eq settings k at) (after_look settings at) (filter-both (λ (w : Write K V). eq w.key k) (λ w. is_live settings w at) (q.admitted ++ q.waiting) ∙ none)

  -- a removal of a key without a write leaves both as they are
  pub removed_in-none : held eq k q ≡ [] → removed_in eq settings k q ≡ q
  removed_in-none none = let parts = none_held none in same_queues _ _ _ _ (rest-all (λ (w : Write K V). eq w.key k) q.admitted parts.0) (rest-all (λ (w : Write K V). eq w.key k) q.waiting parts.1)

  -- a write of a key without one waits behind all others
  pub written_in-anew : (v : V) (at : ℕ) → held eq k q ≡ [] → written_in eq settings k v at q ≡ with_waiting q (q.waiting ++ after_write settings k v at None ∷ [])
  written_in-anew v at none =
      ap (λ l. opened_by eq settings (opening eq settings k v at) l (overwritten eq settings k v at q)) none
      ∙ ap (opened_by eq settings (opening eq settings k v at) []) (used_where-none (is_of eq settings k) (overwrite eq settings k v at) none)

  -- a write of a key with one changes that one
  pub written_in-over : (v : V) (at : ℕ) → held eq k q ≢ [] → written_in eq settings k v at q ≡ overwritten eq settings k v at q
  written_in-over v at some = go (held eq k q) refl
    where
      go : (ws : List (Write K V)) → held eq k q ≡ ws → written_in eq settings k v at q ≡ overwritten eq settings k v at q
      go [] e = absurd (some e)
      go (w ∷ ws) e = ap (λ l. opened_by eq settings (opening eq settings k v at) l (overwritten eq settings k v at q)) e

  -- a look keeps the waiting keys in place,
  pub look-waiting_keys : (at : ℕ) → keys (used_where eq settings (is_hit eq settings k at) (after_look settings at) q).waiting ≡ keys q.waiting
  look-waiting_keys at = map-changed_where (λ (w : Write K V). w.key) (is_hit eq settings k at) (after_look settings at) (after_look-key eq settings at) q.waiting

  -- so does an overwrite,
  pub overwrite-waiting_keys : (v : V) (at : ℕ) → held eq k q ≢ [] → keys (written_in eq settings k v at q).waiting ≡ keys q.waiting
  overwrite-waiting_keys v at some =
      ap (λ (r : Queues (Write K V)). keys r.waiting) (written_in-over v at some) ∙ map-changed_where (λ (w : Write K V). w.key) (is_of eq settings k) (overwrite eq settings k v at) (λ w. refl) q.waiting

  -- and a removal takes out its key
  pub removed_in-waiting_keys : keys (removed_in eq settings k q).waiting ≡ filter (λ p. not (eq p k)) (keys q.waiting)
  removed_in-waiting_keys = map-filter (λ (w : Write K V). w.key) (λ p. not (eq p k)) q.waiting

  module _ (one : HasOneEach eq q) (before after : List (Write K V)) (w : Write K V) (same : eq w.key k ≡ true) where
    -- the writes of a key around one of them
    held-around : (xs ys : List (Write K V)) → q.admitted ++ q.waiting ≡ xs ++ w ∷ ys → held eq k q ≡ writes_of eq k xs ++ w ∷ writes_of eq k ys
    held-around xs ys place = ap (writes_of eq k) place ∙ filter-append (λ (u : Write K V). eq u.key k) xs (w ∷ ys) ∙ ap (λ t. writes_of eq k xs ++ cond t (w ∷ writes_of eq k ys) (writes_of eq k ys)) same

    -- so the key has one,
    held-some : (xs ys : List (Write K V)) → q.admitted ++ q.waiting ≡ xs ++ w ∷ ys → held eq k q ≢ []
    held-some xs ys place none = let some = empty_parts (writes_of eq k xs) (w ∷ writes_of eq k ys) (sym (held-around xs ys place) ∙ none) in let no : w ∷ writes_of eq k ys ≡ [] = some.1 in cc

    -- and no other
    rest_empty : (xs ys : List (Write K V)) → q.admitted ++ q.waiting ≡ xs ++ w ∷ ys → (writes_of eq k xs ≡ []) × (writes_of eq k ys ≡ [])
    rest_empty xs ys place = alone (writes_of eq k xs) (writes_of eq k ys) w (one k).0 (sym (held-around xs ys place) ∙ (one k).1)

    -- so its write is all that is held for it
    pub held-alone : (xs ys : List (Write K V)) → q.admitted ++ q.waiting ≡ xs ++ w ∷ ys → held eq k q ≡ w ∷ []
    held-alone xs ys place = let others = rest_empty xs ys place in held-around xs ys place ∙ ap (λ l. l ++ w ∷ writes_of eq k ys) others.0 ∙ ap (λ l. w ∷ l) others.1

    -- a hit on the key is of its write
    hit_is_of : (at : ℕ) (u : Write K V) → is_hit eq settings k at u ≡ true → eq u.key k ≡ true
    hit_is_of at u is = (and_parts (eq u.key k) (is_live settings u at) is).0

    module _ (place : q.admitted ≡ before ++ w ∷ after) where
      whole_admitted : q.admitted ++ q.waiting ≡ before ++ w ∷ (after ++ q.waiting)
      whole_admitted = ap (λ a. a ++ q.waiting) place ∙ append_assoc before (w ∷ after) q.waiting

      -- around an admitted one, and among those that wait
      others_of_admitted : (writes_of eq k before ≡ []) × (writes_of eq k after ≡ []) × (writes_of eq k q.waiting ≡ [])
      others_of_admitted =
          let parts = rest_empty before (after ++ q.waiting) whole_admitted in
          let behind = empty_parts (writes_of eq k after) (writes_of eq k q.waiting) (sym (filter-append (λ (u : Write K V). eq u.key k) after q.waiting) ∙ parts.1) in
          (parts.0, behind.0, behind.1)

      -- an admitted one that is used goes behind all others
      pub used-admitted : (p : Write K V → Bool) (change : Write K V → Write K V) → ((u : Write K V) → p u ≡ true → eq u.key k ≡ true) → p w ≡ true
          → used_where eq settings p change q ≡ with_admitted q ((before ++ after) ++ change w ∷ [])
      used-admitted p change narrow passes =
          let others = others_of_admitted in
          let none = λ (ws : List (Write K V)) (e : writes_of eq k ws ≡ []). filter-narrower (λ (u : Write K V). eq u.key k) p ws narrow e in
          same_queues _ _ _ _ (ap (moved_last p change) place ∙ moved_last-one p before after w passes (none before others.0) (none after others.1) change) (changed_where-none p change q.waiting (none q.waiting others.2))

      -- where it is hit
      pub hit-admitted : (at : ℕ) → is_live settings w at ≡ true → used_where eq settings (is_hit eq settings k at) (after_look settings at) q ≡ with_admitted q ((before ++ after) ++ hit settings at w ∷ [])
      hit-admitted at live =
          used-admitted (is_hit eq settings k at) (after_look settings at) (hit_is_of at) (and_from (eq w.key k) (is_live settings w at) same live)
          ∙ ap (λ (u : Write K V). with_admitted q ((before ++ after) ++ u ∷ [])) (cond-true (is_live settings w at) (hit settings at w) w live)

      -- and where it is written over
      pub written-admitted : (v : V) (at : ℕ) → written_in eq settings k v at q ≡ with_admitted q ((before ++ after) ++ after_write settings k v at (Some w) ∷ [])
      written-admitted v at = written_in-over v at (held-some before (after ++ q.waiting) whole_admitted) ∙ used-admitted (is_of eq settings k) (overwrite eq settings k v at) (λ u h. h) same

      -- an admitted one that is removed is taken out
      pub removed-admitted : removed_in eq settings k q ≡ with_admitted q (before ++ after)
      removed-admitted =
          let others = others_of_admitted in
          same_queues _ _ _ _ (ap (filter (λ (u : Write K V). not (eq u.key k))) place ∙ rest-one (λ (u : Write K V). eq u.key k) before after w same others.0 others.1) (rest-all (λ (u : Write K V). eq u.key k) q.waiting others.2)

    module _ (place : q.waiting ≡ before ++ w ∷ after) where
      whole_waiting : q.admitted ++ q.waiting ≡ (q.admitted ++ before) ++ w ∷ after
      whole_waiting = ap (λ a. q.admitted ++ a) place ∙ sym (append_assoc q.admitted before (w ∷ after))

      -- among the admitted, and around one that waits
      others_of_waiting : (writes_of eq k q.admitted ≡ []) × (writes_of eq k before ≡ []) × (writes_of eq k after ≡ [])
      others_of_waiting =
          let parts = rest_empty (q.admitted ++ before) after whole_waiting in
          let front = empty_parts (writes_of eq k q.admitted) (writes_of eq k before) (sym (filter-append (λ (u : Write K V). eq u.key k) q.admitted before) ∙ parts.0) in
          (front.0, front.1, parts.1)

      -- one that waits and is used changes in its place
      pub used-waiting : (p : Write K V → Bool) (change : Write K V → Write K V) → ((u : Write K V) → p u ≡ true → eq u.key k ≡ true) → p w ≡ true
          → used_where eq settings p change q ≡ with_waiting q (before ++ change w ∷ after)
      used-waiting p change narrow passes =
          let others = others_of_waiting in
          let none = λ (ws : List (Write K V)) (e : writes_of eq k ws ≡ []). filter-narrower (λ (u : Write K V). eq u.key k) p ws narrow e in
          same_queues _ _ _ _ (moved_last-none p change q.admitted (none q.admitted others.0)) (ap (changed_where p change) place ∙ changed_where-one p before after w passes (none before others.1) (none after others.2) change)

      -- where it is hit
      pub hit-waiting : (at : ℕ) → is_live settings w at ≡ true → used_where eq settings (is_hit eq settings k at) (after_look settings at) q ≡ with_waiting q (before ++ hit settings at w ∷ after)
      hit-waiting at live =
          used-waiting (is_hit eq settings k at) (after_look settings at) (hit_is_of at) (and_from (eq w.key k) (is_live settings w at) same live)
          ∙ ap (λ (u : Write K V). with_waiting q (before ++ u ∷ after)) (cond-true (is_live settings w at) (hit settings at w) w live)

      -- and where it is written over
      pub written-waiting : (v : V) (at : ℕ) → written_in eq settings k v at q ≡ with_waiting q (before ++ after_write settings k v at (Some w) ∷ after)
      written-waiting v at = written_in-over v at (held-some (q.admitted ++ before) after whole_waiting) ∙ used-waiting (is_of eq settings k) (overwrite eq settings k v at) (λ u h. h) same

      -- one that waits and is removed is taken out
      pub removed-waiting : removed_in eq settings k q ≡ with_waiting q (before ++ after)
      removed-waiting =
          let others = others_of_waiting in
          same_queues _ _ _ _ (rest-all (λ (u : Write K V). eq u.key k) q.admitted others.0) (ap (filter (λ (u : Write K V). not (eq u.key k))) place ∙ rest-one (λ (u : Write K V). eq u.key k) before after w same others.1 others.2)
