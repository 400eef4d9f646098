-- The two orders of writes, from the rows of the two orders.
use Rattle.std.proofs.Common.{◌≡◌, ℕ, Bool, true, not, List, [], ◌∷◌, ◌++◌, Option, Some, None, MatchOption, refl, sym, ap, ◌∙◌, append_assoc}
use Rattle.std.specs.Arc.{arc_value}
use Rattle.std.specs.List.{filter}
use Rattle.std.proofs.lemmas.List.Elements.{filter-append}
use Rattle.moka_model.specs.Lives.{Settings, Write, after_write}
use Rattle.moka_model.specs.Maintenance.{Queues}
use Rattle.moka_model.specs.Orders.{changed_where, moved_last, is_of, used_where, opened_by, written_in, removed_in}
use Rattle.moka_model.specs.OrderLaws.{writes_of, held, HasOneEach}
use Rattle.moka_model.proofs.Callers.{rest-all, changed_where-none, moved_last-none, rest-one, moved_last-one, changed_where-one, filter-narrower, empty_parts}
use Rattle.moka_rows.specs.declared.rows.Row.{Row}
use Rattle.moka_rows.specs.Rows.{row_under, with_row, without_row}
use Rattle.moka_rows.proofs.Callers.{row_under-append_left, row_under-append_right, split_at_row}
use Rattle.moka_table.specs.Table.{Contents, entries, stored_write, stored_writes, UsesRow, TakesRow}
use Rattle.moka_state.specs.State.{stored_orders}
use Rattle.moka_state.proofs.Held.{stored-append, stored-around, rest-empty, one-rows}

-- orders of the same parts are the same
pub same-orders : {X : Type 0} (a b : Queues X) → a.admitted ≡ b.admitted → a.waiting ≡ b.waiting → a ≡ b
same-orders {X} a b admitted waiting =
    ap (λ x. let q : Queues X = record { admitted = x; waiting = a.waiting } in q) admitted
    ∙ ap (λ x. let q : Queues X = record { admitted = b.admitted; waiting = x } in q) waiting

module _ {K V : Type 0} (eq : K → K → Bool) (k : K) where
  -- each list of a join without a write of the key has none
  none-front : (xs ys : List (Write K V)) → writes_of eq k (xs ++ ys) ≡ [] → writes_of eq k xs ≡ []
  none-front xs ys none = (empty_parts (writes_of eq k xs) (writes_of eq k ys) (sym (filter-append (λ (w : Write K V). eq w.key k) xs ys) ∙ none)).0

  none-back : (xs ys : List (Write K V)) → writes_of eq k (xs ++ ys) ≡ [] → writes_of eq k ys ≡ []
  none-back xs ys none = (empty_parts (writes_of eq k xs) (writes_of eq k ys) (sym (filter-append (λ (w : Write K V). eq w.key k) xs ys) ∙ none)).1

  module _ (n : ℕ) (row : Row K V) (old new : Contents K V) (ones : HasOneEach eq (stored_orders old)) (there : row_under n (entries old) ≡ Some row) (same : eq (arc_value row.key) k ≡ true) where
    pub orders-used : (settings : Settings K V) (p : Write K V → Bool) (change : Row K V → Row K V) (change' : Write K V → Write K V)
        → ((w : Write K V) → p w ≡ true → eq w.key k ≡ true) → p (stored_write row) ≡ true → change' (stored_write row) ≡ stored_write (change row) → UsesRow n change old new → stored_orders new ≡ used_where eq settings p change' (stored_orders old)
    orders-used settings p change change' narrow passes changes used = go (row_under n old.admitted) refl used
      where
        none : (xs : List (Write K V)) → writes_of eq k xs ≡ [] → filter p xs ≡ []
        none xs h = filter-narrower (λ (w : Write K V). eq w.key k) p xs narrow h

        go : (o : Option (Row K V)) → row_under n old.admitted ≡ o
            → MatchOption o
            ((new.admitted ≡ old.admitted) × (new.waiting ≡ with_row n change old.waiting))
            (λ r. (new.admitted ≡ without_row n old.admitted ++ (n, change r) ∷ []) × (new.waiting ≡ old.waiting))
            → stored_orders new ≡ used_where eq settings p change' (stored_orders old)
        go None e h =
            let c = split_at_row n row old.waiting (sym (row_under-append_right n old.admitted old.waiting e) ∙ there) in
            let whole = ap (λ w. stored_writes (old.admitted ++ w)) c.2.whole ∙ ap stored_writes (sym (append_assoc old.admitted c.0 ((n, row) ∷ c.1))) ∙ stored-around n (old.admitted ++ c.0) c.1 row in
            let others = rest-empty eq k (stored_writes (old.admitted ++ c.0)) (stored_writes c.1) (stored_write row) (rw whole at (one-rows eq old ones)) same in
            let front = rw (stored-append old.admitted c.0) at (none-front (stored_writes (old.admitted ++ c.0)) (stored_writes c.1) others) in
            let in_admitted = none-front (stored_writes old.admitted) (stored_writes c.0) front in
            let in_before = none-back (stored_writes old.admitted) (stored_writes c.0) front in
            let in_after = none-back (stored_writes (old.admitted ++ c.0)) (stored_writes c.1) others in
            same-orders _ _
            (ap stored_writes h.0 ∙ sym (moved_last-none p change' (stored_writes old.admitted) (none _ in_admitted)))
            (ap stored_writes (h.1 ∙ c.2.changed change) ∙ stored-around n c.0 c.1 (change row) ∙ ap (λ w. stored_writes c.0 ++ w ∷ stored_writes c.1) (sym changes)
            ∙ sym (changed_where-one p (stored_writes c.0) (stored_writes c.1) (stored_write row) passes (none _ in_before) (none _ in_after) change')
            ∙ sym (ap (λ ws. changed_where p change' ws) (ap stored_writes c.2.whole ∙ stored-around n c.0 c.1 row)))
        go (Some r) e h =
            let found : Some r ≡ Some row = sym (row_under-append_left n old.admitted old.waiting r e) ∙ there in
            let it : r ≡ row = cc in
            let c = split_at_row n row old.admitted (e ∙ found) in
            let whole = ap (λ a. stored_writes (a ++ old.waiting)) c.2.whole ∙ ap stored_writes (append_assoc c.0 ((n, row) ∷ c.1) old.waiting) ∙ stored-around n c.0 (c.1 ++ old.waiting) row in
            let others = rest-empty eq k (stored_writes c.0) (stored_writes (c.1 ++ old.waiting)) (stored_write row) (rw whole at (one-rows eq old ones)) same in
            let in_before = none-front (stored_writes c.0) (stored_writes (c.1 ++ old.waiting)) others in
            let back = rw (stored-append c.1 old.waiting) at (none-back (stored_writes c.0) (stored_writes (c.1 ++ old.waiting)) others) in
            let in_after = none-front (stored_writes c.1) (stored_writes old.waiting) back in
            let in_waiting = none-back (stored_writes c.1) (stored_writes old.waiting) back in
            same-orders _ _
            (ap stored_writes (h.0 ∙ ap (λ b. b ++ (n, change r) ∷ []) c.2.rest ∙ ap (λ (s : Row K V). (c.0 ++ c.1) ++ (n, change s) ∷ []) it) ∙ stored-append (c.0 ++ c.1) ((n, change row) ∷ [])
            ∙ ap (λ ws. ws ++ stored_write (change row) ∷ []) (stored-append c.0 c.1) ∙ ap (λ w. (stored_writes c.0 ++ stored_writes c.1) ++ w ∷ []) (sym changes)
            ∙ sym (moved_last-one p (stored_writes c.0) (stored_writes c.1) (stored_write row) passes (none _ in_before) (none _ in_after) change')
            ∙ sym (ap (λ ws. moved_last p change' ws) (ap stored_writes c.2.whole ∙ stored-around n c.0 c.1 row)))
            (ap stored_writes h.1 ∙ sym (changed_where-none p change' (stored_writes old.waiting) (none _ in_waiting)))

    pub orders-taken : (settings : Settings K V) → TakesRow n old new → stored_orders new ≡ removed_in eq settings k (stored_orders old)
    orders-taken settings taken = go (row_under n old.admitted) refl taken
      where
        go : (o : Option (Row K V)) → row_under n old.admitted ≡ o
            → MatchOption o
            ((new.admitted ≡ old.admitted) × (new.waiting ≡ without_row n old.waiting))
            (λ _. (new.admitted ≡ without_row n old.admitted) × (new.waiting ≡ old.waiting))
            → stored_orders new ≡ removed_in eq settings k (stored_orders old)
        go None e h =
            let c = split_at_row n row old.waiting (sym (row_under-append_right n old.admitted old.waiting e) ∙ there) in
            let whole = ap (λ w. stored_writes (old.admitted ++ w)) c.2.whole ∙ ap stored_writes (sym (append_assoc old.admitted c.0 ((n, row) ∷ c.1))) ∙ stored-around n (old.admitted ++ c.0) c.1 row in
            let others = rest-empty eq k (stored_writes (old.admitted ++ c.0)) (stored_writes c.1) (stored_write row) (rw whole at (one-rows eq old ones)) same in
            let front = rw (stored-append old.admitted c.0) at (none-front (stored_writes (old.admitted ++ c.0)) (stored_writes c.1) others) in
            let in_admitted = none-front (stored_writes old.admitted) (stored_writes c.0) front in
            let in_before = none-back (stored_writes old.admitted) (stored_writes c.0) front in
            let in_after = none-back (stored_writes (old.admitted ++ c.0)) (stored_writes c.1) others in
            same-orders _ _
            (ap stored_writes h.0 ∙ sym (rest-all (λ (w : Write K V). eq w.key k) (stored_writes old.admitted) in_admitted))
            (ap stored_writes (h.1 ∙ c.2.rest) ∙ stored-append c.0 c.1
            ∙ sym (rest-one (λ (w : Write K V). eq w.key k) (stored_writes c.0) (stored_writes c.1) (stored_write row) same in_before in_after)
            ∙ sym (ap (filter (λ (w : Write K V). not (eq w.key k))) (ap stored_writes c.2.whole ∙ stored-around n c.0 c.1 row)))
        go (Some r) e h =
            let found : Some r ≡ Some row = sym (row_under-append_left n old.admitted old.waiting r e) ∙ there in
            let c = split_at_row n row old.admitted (e ∙ found) in
            let whole = ap (λ a. stored_writes (a ++ old.waiting)) c.2.whole ∙ ap stored_writes (append_assoc c.0 ((n, row) ∷ c.1) old.waiting) ∙ stored-around n c.0 (c.1 ++ old.waiting) row in
            let others = rest-empty eq k (stored_writes c.0) (stored_writes (c.1 ++ old.waiting)) (stored_write row) (rw whole at (one-rows eq old ones)) same in
            let in_before = none-front (stored_writes c.0) (stored_writes (c.1 ++ old.waiting)) others in
            let back = rw (stored-append c.1 old.waiting) at (none-back (stored_writes c.0) (stored_writes (c.1 ++ old.waiting)) others) in
            let in_after = none-front (stored_writes c.1) (stored_writes old.waiting) back in
            let in_waiting = none-back (stored_writes c.1) (stored_writes old.waiting) back in
            same-orders _ _
            (ap stored_writes (h.0 ∙ c.2.rest) ∙ stored-append c.0 c.1
            ∙ sym (rest-one (λ (w : Write K V). eq w.key k) (stored_writes c.0) (stored_writes c.1) (stored_write row) same in_before in_after)
            ∙ sym (ap (filter (λ (w : Write K V). not (eq w.key k))) (ap stored_writes c.2.whole ∙ stored-around n c.0 c.1 row)))
            (ap stored_writes h.1 ∙ sym (rest-all (λ (w : Write K V). eq w.key k) (stored_writes old.waiting) in_waiting))

module _ {K V : Type 0} (eq : K → K → Bool) (settings : Settings K V) where
  -- where none passes, both orders stay
  pub used_where-none : (p : Write K V → Bool) (change : Write K V → Write K V) (q : Queues (Write K V)) → filter p (q.admitted ++ q.waiting) ≡ [] → used_where eq settings p change q ≡ q
  used_where-none p change q none =
      let parts = sym (filter-append p q.admitted q.waiting) ∙ none in
      let in_admitted = (empty_parts (filter p q.admitted) (filter p q.waiting) parts).0 in
      let in_waiting = (empty_parts (filter p q.admitted) (filter p q.waiting) parts).1 in
      ap (λ a. let r : Queues (Write K V) = record { admitted = a; waiting = changed_where p change q.waiting } in r) (moved_last-none p change q.admitted in_admitted)
      ∙ ap (λ w. let r : Queues (Write K V) = record { admitted = q.admitted; waiting = w } in r) (changed_where-none p change q.waiting in_waiting)

  -- a removal of a key without a write leaves both
  pub removed_in-none : (k : K) (q : Queues (Write K V)) → held eq k q ≡ [] → removed_in eq settings k q ≡ q
  removed_in-none k q none =
      let parts = sym (filter-append (λ (w : Write K V). eq w.key k) q.admitted q.waiting) ∙ none in
      let in_admitted = (empty_parts (writes_of eq k q.admitted) (writes_of eq k q.waiting) parts).0 in
      let in_waiting = (empty_parts (writes_of eq k q.admitted) (writes_of eq k q.waiting) parts).1 in
      ap (λ a. let r : Queues (Write K V) = record { admitted = a; waiting = filter (λ (w : Write K V). not (eq w.key k)) q.waiting } in r) (rest-all (λ (w : Write K V). eq w.key k) q.admitted in_admitted)
      ∙ ap (λ w. let r : Queues (Write K V) = record { admitted = q.admitted; waiting = w } in r) (rest-all (λ (w : Write K V). eq w.key k) q.waiting in_waiting)

  -- a write of a key with a write changes that one
  pub written_in-over : (k : K) (v : V) (at : ℕ) (q : Queues (Write K V)) (w : Write K V) → held eq k q ≡ w ∷ []
      → written_in eq settings k v at q ≡ used_where eq settings (is_of eq settings k) (λ old. after_write settings k v at (Some old)) q
  written_in-over k v at q w one = ap (λ l. opened_by eq settings (after_write settings k v at None) l (used_where eq settings (is_of eq settings k) (λ old. after_write settings k v at (Some old)) q)) one

  -- a write of a key without one waits behind all others
  pub written_in-anew : (k : K) (v : V) (at : ℕ) (q : Queues (Write K V)) → held eq k q ≡ []
      → written_in eq settings k v at q ≡ record { admitted = q.admitted; waiting = q.waiting ++ after_write settings k v at None ∷ [] }
  written_in-anew k v at q none =
      ap (λ l. opened_by eq settings (after_write settings k v at None) l (used_where eq settings (is_of eq settings k) (λ old. after_write settings k v at (Some old)) q)) none
      ∙ ap (opened_by eq settings (after_write settings k v at None) []) (used_where-none (is_of eq settings k) (λ old. after_write settings k v at (Some old)) q none)
