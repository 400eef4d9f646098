-- What each event makes of the view of a state, by what became of its table.
use Rattle.std.proofs.Common.{◌≡◌, ℕ, ◌+◌, max, Bool, true, false, cond, ◌&&◌, List, [], ◌∷◌, ◌++◌, map, drop, Some, None, refl, sym, ap, ◌∙◌}
use Rattle.std.specs.Arc.{arc_value}
use Rattle.std.specs.List.{filter}
use Rattle.std.proofs.lemmas.List.{map-append, append-nil}
use Rattle.moka_model.specs.declared.notification.Notice.{Notice}
use Rattle.moka_model.specs.declared.notification.RemovalCause.{RemovalCause}
use Rattle.moka_model.specs.declared.notification.RemovalCause.TheVariants.{Explicit, Replaced}
use Rattle.moka_model.specs.Lives.{Settings, Write, is_live, hit, after_look, after_write}
use Rattle.moka_model.specs.Events.{Looked, Written, Invalidated, Passed, Taken}
use Rattle.moka_model.specs.Orders.{is_of, is_hit}
use Rattle.moka_model.specs.OrderLaws.{held, HasOneEach}
use Rattle.moka_model.specs.Removals.{Removal, cause_of, removal_of as write_removal}
use Rattle.moka_model.proofs.Callers.{filter-both}
use Rattle.moka_expiration.specs.StateData.{estimates}
use Rattle.moka_rows.specs.declared.rows.Row.{Row}
use Rattle.moka_rows.specs.declared.rows.EntryInfo.{EntryInfo}
use Rattle.moka_rows.specs.declared.rows.Access.{Access}
use Rattle.moka_rows.specs.Rows.{row_under, touched, overwritten}
use Rattle.moka_expiration.specs.ExpirationPolicy.{own_of}
use Rattle.moka_table.specs.Table.{Contents, entries, stored_write, stored_writes, removal_of, UsesRow, TakesRow}
use Rattle.moka_state.specs.State.{stored_orders}
use Rattle.moka_state.proofs.Held.{and-first, held-row, stored-append}
use Rattle.moka_state.proofs.Orders.{same-orders, orders-used, orders-taken, used_where-none, removed_in-none, written_in-over, written_in-anew}
use Rattle.moka_state.proofs.Views.{view_with, Becomes}

-- notices that grow by one
noticed-one : {K V : Type 0} (old new : List (Notice K V)) (notice : Notice K V) → new ≡ old ++ notice ∷ [] → map removal_of new ≡ map removal_of old ++ removal_of notice ∷ []
noticed-one {K} {V} old new notice grown = ap (map removal_of) grown ∙ map-append (removal_of {K = K} {V = V}) old (notice ∷ [])

-- a source that has noted one hash more estimates as the one before does, once it notes that hash first
pub estimates-noted : {F : Type 0} (noted : F → ℕ → F) (count : F → ℕ → ℕ) (old new : F) (asked hash : ℕ) → new ≡ noted old asked → asked ≡ hash
    → (more : List ℕ) (of : ℕ) → estimates noted count new more of ≡ estimates noted count old (hash ∷ more) of
estimates-noted noted count old new asked hash is same more of = ap (λ source. estimates noted count source more of) (is ∙ ap (noted old) same)

-- a row stores this write, where its parts are those of the write
pub stored-same : {K V : Type 0} (a : Write K V) (row : Row K V) → a.key ≡ arc_value row.key → a.hash ≡ row.hash → a.value ≡ row.value → a.policy_weight ≡ row.info.policy_weight
    → a.last_modified ≡ row.info.last_modified → a.last_accessed ≡ row.info.last_accessed → a.own_life ≡ own_of row.info → a.is_hidden ≡ row.info.is_hidden → a ≡ stored_write row
stored-same {K} {V} a row key hash value weight modified accessed own hidden =
    let b : Write K V = stored_write row in
    ap (λ x. let w : Write K V = record a { key = x } in w) key
    ∙ ap (λ x. let w : Write K V = record a { key = b.key; hash = x } in w) hash
    ∙ ap (λ x. let w : Write K V = record a { key = b.key; hash = b.hash; value = x } in w) value
    ∙ ap (λ x. let w : Write K V = record a { key = b.key; hash = b.hash; value = b.value; policy_weight = x } in w) weight
    ∙ ap (λ x. let w : Write K V = record a { key = b.key; hash = b.hash; value = b.value; policy_weight = b.policy_weight; last_modified = x } in w) modified
    ∙ ap (λ x. let w : Write K V = record b { last_accessed = x; own_life = a.own_life; is_hidden = a.is_hidden } in w) accessed
    ∙ ap (λ x. let w : Write K V = record b { own_life = x; is_hidden = a.is_hidden } in w) own
    ∙ ap (λ x. let w : Write K V = record b { is_hidden = x } in w) hidden

module _ {K V : Type 0} (eq : K → K → Bool) (settings : Settings K V) (contents : Contents K V) (frequency : List ℕ → ℕ → ℕ) (latest number : ℕ) where
  -- what a source estimates that has noted one more hash: that of a key
  abbrev pub HasNoted : K → (List ℕ → ℕ → ℕ) → Type 0
  HasNoted k noted = (more : List ℕ) (hash : ℕ) → noted more hash ≡ frequency (settings.behaviour.hash k ∷ more) hash

  -- a lookup of a key without a live write
  pub becomes-missed : (noted : List ℕ → ℕ → ℕ) (k : K) (at : ℕ) → HasNoted k noted → filter (λ w. is_live settings w (max latest at)) (held eq k (stored_orders contents)) ≡ []
      → Becomes eq (view_with settings contents frequency latest number) (Looked k at) (view_with settings contents noted (max latest at) number)
  becomes-missed noted k at notes none = record {
    settings = refl;
    orders = sym (used_where-none eq settings (is_hit eq settings k (max latest at)) (after_look settings (max latest at)) (stored_orders contents)
        (filter-both (λ (w : Write K V). eq w.key k) (λ w. is_live settings w (max latest at)) (stored_writes contents.admitted ++ stored_writes contents.waiting) ∙ none));
    notices = refl;
    latest = refl;
    next_number = refl;
    frequency = notes;
  }

  -- a lookup of a key that is not stored
  pub becomes-absent : (noted : List ℕ → ℕ → ℕ) (k : K) (at : ℕ) → HasNoted k noted → held eq k (stored_orders contents) ≡ []
      → Becomes eq (view_with settings contents frequency latest number) (Looked k at) (view_with settings contents noted (max latest at) number)
  becomes-absent noted k at notes none = becomes-missed noted k at notes (ap (filter (λ w. is_live settings w (max latest at))) none)

  -- a moment that passes
  pub becomes-passed : (at : ℕ) → Becomes eq (view_with settings contents frequency latest number) (Passed at) (view_with settings contents frequency (max latest at) number)
  becomes-passed at = record { settings = refl; orders = refl; notices = refl; latest = refl; next_number = refl; frequency = λ more hash. refl }

  -- a notice that is taken
  pub becomes-taken : (new : Contents K V) → new.admitted ≡ contents.admitted → new.waiting ≡ contents.waiting → map removal_of new.notices ≡ drop 1 (map removal_of contents.notices)
      → Becomes eq (view_with settings contents frequency latest number) Taken (view_with settings new frequency latest number)
  becomes-taken new admitted waiting notices = record {
    settings = refl;
    orders = same-orders _ _ (ap stored_writes admitted) (ap stored_writes waiting);
    notices = notices;
    latest = refl;
    next_number = refl;
    frequency = λ more hash. refl;
  }

  -- a removal of a key that is not stored
  pub becomes-unremoved : (k : K) (at : ℕ) → held eq k (stored_orders contents) ≡ [] → Becomes eq (view_with settings contents frequency latest number) (Invalidated k at) (view_with settings contents frequency (max latest at) number)
  becomes-unremoved k at none = record {
    settings = refl;
    orders = sym (removed_in-none eq settings k (stored_orders contents) none);
    notices = sym (ap (λ ws. map removal_of contents.notices ++ map (write_removal settings Explicit (max latest at)) ws) none ∙ append-nil (map removal_of contents.notices));
    latest = refl;
    next_number = refl;
    frequency = λ more hash. refl;
  }

  -- a write of a key that is not stored, into a new row
  pub becomes-opened : (new : Contents K V) (k : K) (v : V) (at n : ℕ) (row : Row K V) → held eq k (stored_orders contents) ≡ [] → after_write settings k v (max latest at) None ≡ stored_write row
      → new.admitted ≡ contents.admitted → new.waiting ≡ contents.waiting ++ (n, row) ∷ [] → new.notices ≡ contents.notices
      → Becomes eq (view_with settings contents frequency latest number) (Written k v at) (view_with settings new frequency (max latest at) (number + 1))
  becomes-opened new k v at n row none anew admitted waiting notices = record {
    settings = refl;
    orders = same-orders _ (record { admitted = stored_writes contents.admitted; waiting = stored_writes contents.waiting ++ after_write settings k v (max latest at) None ∷ [] })
        (ap stored_writes admitted)
        (ap stored_writes waiting ∙ stored-append contents.waiting ((n, row) ∷ []) ∙ ap (λ w. stored_writes contents.waiting ++ w ∷ []) (sym anew))
        ∙ sym (written_in-anew eq settings k v (max latest at) (stored_orders contents) none);
    notices = ap (map removal_of) notices ∙ sym (ap (λ ws. map removal_of contents.notices ++ map (write_removal settings Replaced (max latest at)) ws) none ∙ append-nil (map removal_of contents.notices));
    latest = refl;
    next_number = refl;
    frequency = λ more hash. refl;
  }

  -- The row of a key.
  module _ (one : HasOneEach eq (stored_orders contents)) (new : Contents K V) (k : K) (at n : ℕ) (row : Row K V) (there : row_under n (entries contents) ≡ Some row) (same : eq (arc_value row.key) k ≡ true) where
    is_held : held eq k (stored_orders contents) ≡ stored_write row ∷ []
    is_held = held-row eq contents one k n row there same

    -- the notice of the row is that of its removal
    noticed-row : (own : RemovalCause) (notice : Notice K V) → arc_value notice.key ≡ arc_value row.key → notice.value ≡ row.value → notice.cause ≡ cause_of settings own (stored_write row) (max latest at)
        → new.notices ≡ contents.notices ++ notice ∷ [] → map removal_of new.notices ≡ map removal_of contents.notices ++ map (write_removal settings own (max latest at)) (held eq k (stored_orders contents))
    noticed-row own notice key value cause notices =
        noticed-one contents.notices new.notices notice notices
        ∙ ap (λ l. map removal_of contents.notices ++ l)
        (ap (λ (a : K). let l : Removal K V = record { key = a; value = notice.value; cause = notice.cause } in l ∷ []) key
        ∙ ap (λ (b : V). let l : Removal K V = record { key = arc_value row.key; value = b; cause = notice.cause } in l ∷ []) value
        ∙ ap (λ (c : RemovalCause). let l : Removal K V = record { key = arc_value row.key; value = row.value; cause = c } in l ∷ []) cause
        ∙ sym (ap (map (write_removal settings own (max latest at))) is_held))

    -- a lookup that finds it expired or invalidated
    pub becomes-dead : (noted : List ℕ → ℕ → ℕ) → HasNoted k noted → is_live settings (stored_write row) (max latest at) ≡ false
        → Becomes eq (view_with settings contents frequency latest number) (Looked k at) (view_with settings contents noted (max latest at) number)
    becomes-dead noted notes dead =
        becomes-missed noted k at notes (ap (filter (λ w. is_live settings w (max latest at))) is_held ∙ ap (λ t. cond t (stored_write row ∷ []) []) dead)

    -- a lookup that hits it
    pub becomes-hit : (noted : List ℕ → ℕ → ℕ) (touch : Access) → HasNoted k noted → is_live settings (stored_write row) (max latest at) ≡ true → hit settings (max latest at) (stored_write row) ≡ stored_write (touched touch row)
        → UsesRow n (touched touch) contents new → new.notices ≡ contents.notices
        → Becomes eq (view_with settings contents frequency latest number) (Looked k at) (view_with settings new noted (max latest at) number)
    becomes-hit noted touch notes live hits used notices =
        let looked = ap (λ t. cond t (hit settings (max latest at) (stored_write row)) (stored_write row)) live ∙ hits in
        let passes : is_hit eq settings k (max latest at) (stored_write row) ≡ true = ap (λ t. t && is_live settings (stored_write row) (max latest at)) same ∙ live in
        record {
          settings = refl;
          orders = orders-used eq k n row contents new one there same settings (is_hit eq settings k (max latest at)) (touched touch) (after_look settings (max latest at)) (λ w p. and-first (eq w.key k) (is_live settings w (max latest at)) p) passes looked used;
          notices = ap (map removal_of) notices;
          latest = refl;
          next_number = refl;
          frequency = notes;
        }

    -- a write over its value
    pub becomes-overwritten : (v : V) (info : EntryInfo) (notice : Notice K V) → after_write settings k v (max latest at) (Some (stored_write row)) ≡ stored_write (overwritten v info row)
        → arc_value notice.key ≡ arc_value row.key → notice.value ≡ row.value → notice.cause ≡ cause_of settings Replaced (stored_write row) (max latest at)
        → UsesRow n (overwritten v info) contents new → new.notices ≡ contents.notices ++ notice ∷ []
        → Becomes eq (view_with settings contents frequency latest number) (Written k v at) (view_with settings new frequency (max latest at) (number + 1))
    becomes-overwritten v info notice write key value cause used notices = record {
      settings = refl;
      orders = orders-used eq k n row contents new one there same settings (is_of eq settings k) (overwritten v info) (λ w. after_write settings k v (max latest at) (Some w)) (λ w passes. passes) same write used
          ∙ sym (written_in-over eq settings k v (max latest at) (stored_orders contents) (stored_write row) is_held);
      notices = noticed-row Replaced notice key value cause notices;
      latest = refl;
      next_number = refl;
      frequency = λ more hash. refl;
    }

    -- its removal
    pub becomes-removed : (notice : Notice K V) → arc_value notice.key ≡ arc_value row.key → notice.value ≡ row.value → notice.cause ≡ cause_of settings Explicit (stored_write row) (max latest at)
        → TakesRow n contents new → new.notices ≡ contents.notices ++ notice ∷ []
        → Becomes eq (view_with settings contents frequency latest number) (Invalidated k at) (view_with settings new frequency (max latest at) number)
    becomes-removed notice key value cause taken notices = record {
      settings = refl;
      orders = orders-taken eq k n row contents new one there same settings taken;
      notices = noticed-row Explicit notice key value cause notices;
      latest = refl;
      next_number = refl;
      frequency = λ more hash. refl;
    }
