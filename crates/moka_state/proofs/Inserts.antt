-- What a write makes of the view of a state: a write alone, one behind its flush, or a moment that passes.
use Rattle.std.proofs.Common.{◌≡◌, ℕ, ◌+◌, ◌<◌, ◌≤◌, ◌^◌, max, nat_le, Bool, true, false, not, ◌&&◌, ◌||◌, cond, is_some, Option, Some, None, List, [], ◌∷◌, ◌++◌, length, refl, sym, ap, ◌∙◌, subst, arith}
use Rattle.std.specs.Arc.{arc_value}
use Rattle.std.specs.Cmp.{IsEquivalence}
use Rattle.std.specs.Option.{option_to_list}
use Rattle.std.proofs.lemmas.Bool.{le-leb, lt-leb}
use Rattle.std.proofs.lemmas.List.{length-map}
use Rattle.moka_model.specs.Lives.{Behaviour, Settings, Write, has_come, is_live, live_one}
use Rattle.moka_model.specs.Events.{Event, Written, Maintained, Passed, latest}
use Rattle.moka_model.specs.Orders.{live, standing}
use Rattle.moka_model.specs.OrderLaws.{held, HasOneEach}
use Rattle.moka_model.specs.Numbers.{flush_point, is_flush_due, stores_nothing}
use Rattle.moka_model.specs.Calls.{flush, write_events, is_replacing}
use Rattle.moka_model.specs.StandsFor.{Books, View}
use Rattle.moka_model.proofs.Callers.{IsViewOf, held-orders, write_events-nothing, write_events-plain, write_events-flushed}
use Rattle.moka_rows.specs.declared.rows.Row.{Row}
use Rattle.moka_rows.specs.declared.rows.EntryInfo.{EntryInfo}
use Rattle.moka_expiration.specs.declared.expiration_policy.ExpirationPolicy.{ExpirationPolicy}
use Rattle.moka_expiration.specs.ExpirationPolicy.{IsDated, AreDated}
use Rattle.moka_expiration.proofs.Callers.{alive-kept}
use Rattle.moka_table.specs.declared.table.Lookup.TheVariants.{Stored, Absent}
use Rattle.moka_table.specs.declared.write_slot.WriteSlot.{WriteSlot}
use Rattle.moka_table.specs.declared.write_slot.WriteSlot.TheVariants.{Occupied, Vacant}
use Rattle.moka_table.specs.declared.write_slot.WritePlan.{WritePlan}
use Rattle.moka_table.specs.declared.write_slot.WritePlan.TheVariants.{Now, AfterFlush}
use Rattle.moka_table.specs.declared.write_slot.NewValue.{NewValue}
use Rattle.moka_table.specs.WriteSlot.{IsInfoOf, Puts, IsPlanOf, Writes, is_live_row, is_over_live}
use Rattle.moka_table.specs.Table.{Contents, SameRows, entries, stored_write, stored_writes}
use Rattle.moka_housekeeper.specs.Maintain.{IsMaintainedUpTo}
use Rattle.moka_housekeeper.specs.Write.{HasPlan, WritesAt}
use Rattle.moka_table.proofs.Callers.{of-row}
use Rattle.moka_state.specs.State.{IsSound}
use Rattle.moka_state.proofs.Held.{held-row}
use Rattle.moka_state.proofs.Maintained.{HasLives, becomes-maintained}
use Rattle.moka_state.proofs.Sound.{IsSound-maintained}
use Rattle.moka_state.proofs.WriteSlots.{goes_with-lookup, goes_with-now, IsSound-put, IsWhere, where-lookup, where-now, one-stays, becomes-put, becomes-put-now}
use Rattle.moka_state.proofs.Views.{view_with, Becomes, option_to_list-same, view-becomes}

-- the same rows are the same view
pub same-view : {K V : Type 0} (settings : Settings K V) (frequency : List ℕ → ℕ → ℕ) (latest number : ℕ) (old new : Contents K V) → SameRows old new → view_with settings old frequency latest number ≡ view_with settings new frequency latest number
same-view {K} {V} settings frequency latest number old new same =
    ap (λ a. let c : Contents K V = record { admitted = a; waiting = old.waiting; notices = old.notices; may_hide = old.may_hide; room = old.room } in view_with settings c frequency latest number) (sym same.0)
    ∙ ap (λ w. let c : Contents K V = record { admitted = new.admitted; waiting = w; notices = old.notices; may_hide = old.may_hide; room = old.room } in view_with settings c frequency latest number) (sym same.1)
    ∙ ap (λ n. let c : Contents K V = record { admitted = new.admitted; waiting = new.waiting; notices = n; may_hide = old.may_hide; room = old.room } in view_with settings c frequency latest number) (sym same.2)

-- fewer than 64 rows wait, or no fewer
few-wait : {K V : Type 0} (contents : Contents K V) → length contents.waiting < 64 → nat_le 64 (length (stored_writes contents.waiting)) ≡ false
few-wait {K} {V} contents few = lt-leb 64 (length (stored_writes contents.waiting)) (let same = length-map contents.waiting (λ (p : ℕ × Row K V). stored_write p.1) in omega arith)

many-wait : {K V : Type 0} (contents : Contents K V) → 64 ≤ length contents.waiting → nat_le 64 (length (stored_writes contents.waiting)) ≡ true
many-wait {K} {V} contents many = le-leb 64 (length (stored_writes contents.waiting)) (let same = length-map contents.waiting (λ (p : ℕ × Row K V). stored_write p.1) in omega arith)

is_some-cond : {A : Type 0} (t : Bool) (x : A) → is_some (cond t (Some x) None) ≡ t
is_some-cond true x = refl
is_some-cond false x = refl

-- the row of a place is there
pub has-place : {K V : Type 0} (eq : K → K → Bool) (key : K) (hash : ℕ) (contents : Contents K V) (place : WritePlan K) → IsPlanOf eq key hash contents place → HasPlan place contents
has-place eq key hash contents (Now (Occupied m shared)) (few, Stored n stored, found, slot) = rw (slot.0, found.1) refl
has-place eq key hash contents (Now (Occupied m shared)) (few, Absent, found, slot) = absurd slot
has-place eq key hash contents (Now (Vacant shared)) is = tt
has-place eq key hash contents (AfterFlush lookup own) is = tt

module _ {K V : Type 0} (eq : K → K → Bool) (laws : IsEquivalence eq) (given : Settings K V) where
  module _ (view : View K V) (h : List (Event K V)) (is : IsViewOf eq given view h) where
    held-viewed : (k : K) → held eq k view.books.orders ≡ option_to_list (standing eq given k h)
    held-viewed k = ap (λ (b : Books K V). held eq k b.orders) is.books ∙ held-orders eq given laws k h

    -- the view of a list of events stores one write at most of each key,
    pub one-viewed : HasOneEach eq view.books.orders
    one-viewed k = (standing eq given k h, held-viewed k)

    -- and the one that is held of a key is the one that stands for it
    live-viewed : (k : K) (at : ℕ) (o : Option (Write K V)) → held eq k view.books.orders ≡ option_to_list o → live eq given k (max (latest h) at) h ≡ live_one view.settings (max view.books.latest at) o
    live-viewed k at o holds =
        ap (live_one given (max (latest h) at)) (option_to_list-same (standing eq given k h) o (sym (held-viewed k) ∙ holds))
        ∙ ap (λ (b : Books K V). live_one given (max b.latest at) o) (sym is.books)
        ∙ ap (λ (s : Settings K V). live_one s (max view.books.latest at) o) (sym is.settings)

    stores-alike : stores_nothing given.max_capacity ≡ stores_nothing view.settings.max_capacity
    stores-alike = ap (λ (s : Settings K V). stores_nothing s.max_capacity) (sym is.settings)

    flush-viewed : is_flush_due eq given h ≡ nat_le flush_point (length view.books.orders.waiting)
    flush-viewed = ap (λ (b : Books K V). nat_le flush_point (length b.orders.waiting)) (sym is.books)

    -- where the capacity is 0, just the moment passes
    pub view-nothing : (new : View K V) (k : K) (v : V) (at : ℕ) → stores_nothing view.settings.max_capacity ≡ true → Becomes eq view (Passed at) new → IsViewOf eq given new (write_events eq given k v at h ++ h)
    view-nothing new k v at nothing becomes =
        subst (λ es. IsViewOf eq given new (es ++ h)) (sym (write_events-nothing eq given k v at h (stores-alike ∙ nothing)))
        (view-becomes eq laws given view new h (Passed at) is becomes)

  -- A slot is over a live value where the definitions find one.
  module _ (settings : Settings K V) (lives : ExpirationPolicy) (expired_alike : HasLives settings lives) (frequency : List ℕ → ℕ → ℕ) (contents : Contents K V) (moment number : ℕ) (h : List (Event K V))
      (is : IsViewOf eq given (view_with settings contents frequency moment number) h) (dated : AreDated lives (entries contents)) (key : K) (at : ℕ) (is_moment : max moment at < 2 ^ 64) where
    over_live : (slot : WriteSlot K) → IsWhere eq laws key contents slot → is_over_live slot (max moment at) contents ≡ is_some (live eq given key (max (latest h) at) h)
    over_live (Occupied n shared) there =
        let row = there.0 in
        let row_dated : IsDated lives row.info = of-row (λ (r : Row K V). IsDated lives r.info) n (entries contents) row dated there.1 in
        let holds = held-row eq contents (one-viewed (view_with settings contents frequency moment number) h is) key n row there.1 there.2 in
        ap (is_live_row (max moment at)) there.1
        ∙ sym (ap is_some (live-viewed (view_with settings contents frequency moment number) h is key at (Some (stored_write row)) holds
        ∙ ap (λ (expired : Row K V → ℕ → Bool). cond (not row.info.is_hidden && not (expired row (max moment at))) (Some (stored_write row)) None) expired_alike)
        ∙ is_some-cond _ (stored_write row)
        ∙ alive-kept lives row.info row_dated (max moment at) is_moment)
    over_live (Vacant shared) there = sym (ap is_some (live-viewed (view_with settings contents frequency moment number) h is key at None there.0))

  -- A value that is written to its place.
  module _ (settings : Settings K V) (lives : ExpirationPolicy) (expired_alike : HasLives settings lives) (frequency : List ℕ → ℕ → ℕ) (contents new : Contents K V) (moment number : ℕ) (h : List (Event K V))
      (is : IsViewOf eq given (view_with settings contents frequency moment number) h) {keeps : K → V → Type 0} (sound : IsSound keeps settings.behaviour.hash lives contents)
      (respects : (a b : K) → eq a b ≡ true → settings.behaviour.hash a ≡ settings.behaviour.hash b) (key : K) (at : ℕ) (it : NewValue V) (hashed : it.hash ≡ settings.behaviour.hash key) (weighed : it.weight ≡ settings.behaviour.weight key it.value)
      (timed : it.now ≡ max moment at) (is_moment : max moment at < 2 ^ 64) where
    abbrev old_view : View K V
    old_view = view_with settings contents frequency moment number

    abbrev new_view : View K V
    new_view = view_with settings new frequency (max moment at) (number + 1)

    one : HasOneEach eq old_view.books.orders
    one = one-viewed old_view h is

    abbrev Wrote : WritePlan K → Bool → Type 0
    Wrote place replaced = WritesAt eq settings.behaviour lives (frequency []) settings.max_capacity settings.flush_limit place it contents new replaced

    module _ (kept : Contents K V) (is_cut : Bool) (now : IsMaintainedUpTo lives settings.behaviour.is_lru (frequency []) settings.max_capacity it.now settings.flush_limit contents kept is_cut) where
      abbrev between : View K V
      between = view_with settings kept frequency (max moment at) number

      maintained-then : IsMaintainedUpTo lives settings.behaviour.is_lru (frequency []) settings.max_capacity (max moment at) settings.flush_limit contents kept is_cut
      maintained-then = subst (λ m. IsMaintainedUpTo lives settings.behaviour.is_lru (frequency []) settings.max_capacity m settings.flush_limit contents kept is_cut) timed now

      flushed : Becomes eq old_view (Maintained settings.flush_limit at) between
      flushed = becomes-maintained eq settings lives expired_alike contents frequency moment number at settings.flush_limit kept is_cut maintained-then

      view-flushed : IsViewOf eq given between (Maintained given.flush_limit at ∷ h)
      view-flushed =
          view-becomes eq laws given old_view between h (Maintained given.flush_limit at) is
          (subst (λ (s : Settings K V). Becomes eq old_view (Maintained s.flush_limit at) between) is.settings flushed)

      sound-then : IsSound keeps settings.behaviour.hash lives kept
      sound-then = IsSound-maintained keeps settings.behaviour.hash lives contents kept sound settings.behaviour.is_lru (frequency []) settings.max_capacity (max moment at) settings.flush_limit is_cut maintained-then

    -- the view is that of the events of a write more,
    pub view-written : (place : WritePlan K) (replaced : Bool) → IsPlanOf eq key it.hash contents place → Wrote place replaced → stores_nothing settings.max_capacity ≡ false → IsViewOf eq given new_view (write_events eq given key it.value at h ++ h)
    view-written (Now slot) replaced place wrote stores =
        let there = where-lookup eq laws key contents sound respects it.hash place.1 slot hashed place.2 place.3 in
        let info_is = subst (λ m. IsInfoOf settings.behaviour slot it.value it.weight m contents wrote.0) timed wrote.1 in
        let becomes = becomes-put eq laws key contents settings lives expired_alike frequency moment number one sound.dated new it.value at it.hash it.weight wrote.0 slot is_moment there hashed weighed info_is wrote.3 in
        subst (λ es. IsViewOf eq given new_view (es ++ h)) (sym (write_events-plain eq given key it.value at h (stores-alike old_view h is ∙ stores) (flush-viewed old_view h is ∙ few-wait contents place.0)))
        (view-becomes eq laws given old_view new_view h (Written key it.value at) is becomes)
    view-written (AfterFlush lookup own) replaced place wrote stores =
        let kept = wrote.0 in
        let cut = wrote.1 in
        let slot = wrote.3 in
        let writes = wrote.5 in
        let flush_is = flushed kept cut wrote.2 in
        let there = where-now eq laws settings (frequency []) settings.flush_limit (max moment at) contents kept one flush_is.orders key sound (sound-then kept cut wrote.2) respects it.hash lookup own slot hashed place.2 place.1 wrote.4 in
        let ones = one-stays eq laws settings (frequency []) settings.flush_limit (max moment at) contents kept one flush_is.orders in
        let info_is = subst (λ m. IsInfoOf settings.behaviour slot it.value it.weight m kept writes.0) timed writes.1 in
        let becomes = becomes-put-now eq laws key kept settings lives expired_alike frequency moment number ones (sound-then kept cut wrote.2).dated new it.value at it.hash it.weight writes.0 slot is_moment there hashed weighed info_is writes.3 in
        subst (λ es. IsViewOf eq given new_view (es ++ h)) (sym (write_events-flushed eq given key it.value at h (stores-alike old_view h is ∙ stores) (flush-viewed old_view h is ∙ many-wait contents place.0)))
        (view-becomes eq laws given (between kept cut wrote.2) new_view (Maintained given.flush_limit at ∷ h) (Written key it.value at) (view-flushed kept cut wrote.2) becomes)

    -- it is known whether a live value stood there, behind the flush,
    pub replaced-written : (place : WritePlan K) (replaced : Bool) → IsPlanOf eq key it.hash contents place → Wrote place replaced → replaced ≡ is_replacing eq given h key at
    replaced-written (Now slot) replaced place wrote =
        let there = where-lookup eq laws key contents sound respects it.hash place.1 slot hashed place.2 place.3 in
        wrote.4 ∙ ap (λ m. is_over_live slot m contents) timed
        ∙ over_live settings lives expired_alike frequency contents moment number h is sound.dated key at is_moment slot there
        ∙ sym (ap (λ due. is_some (live eq given key (max (latest h) at) (cond due (Maintained given.flush_limit at ∷ []) [] ++ h))) (flush-viewed old_view h is ∙ few-wait contents place.0))
    replaced-written (AfterFlush lookup own) replaced place wrote =
        let kept = wrote.0 in
        let cut = wrote.1 in
        let slot = wrote.3 in
        let writes = wrote.5 in
        let there = where-now eq laws settings (frequency []) settings.flush_limit (max moment at) contents kept one (flushed kept cut wrote.2).orders key sound (sound-then kept cut wrote.2) respects it.hash lookup own slot hashed place.2 place.1 wrote.4 in
        let idle : max (max moment at) at ≡ max moment at = omega arith in
        let passed : max (max (latest h) at) at ≡ max (latest h) at = omega arith in
        writes.4 ∙ ap (λ m. is_over_live slot m kept) (timed ∙ sym idle)
        ∙ over_live settings lives expired_alike frequency kept (max moment at) number (Maintained given.flush_limit at ∷ h) (view-flushed kept cut wrote.2) (sound-then kept cut wrote.2).dated key at (rw idle is_moment) slot there
        ∙ ap (λ m. is_some (live eq given key m (Maintained given.flush_limit at ∷ h))) passed
        ∙ sym (ap (λ due. is_some (live eq given key (max (latest h) at) (cond due (Maintained given.flush_limit at ∷ []) [] ++ h))) (flush-viewed old_view h is ∙ many-wait contents place.0))

-- and what holds of the state's table stays so
module _ {K V : Type 0} (eq : K → K → Bool) (laws : IsEquivalence eq) (behaviour : Behaviour K V) (lives : ExpirationPolicy) (frequency_of : ℕ → ℕ) (capacity limit : Option ℕ) (contents new : Contents K V) {keeps : K → V → Type 0} (sound : IsSound keeps behaviour.hash lives contents)
    (alike : (a b : K) (w : V) → eq a b ≡ true → keeps a w → keeps b w) (key : K) (it : NewValue V) (hashed : it.hash ≡ behaviour.hash key) (kept_is : keeps key it.value) where
  pub sound-written : (place : WritePlan K) (replaced : Bool) → IsPlanOf eq key it.hash contents place → WritesAt eq behaviour lives frequency_of capacity limit place it contents new replaced → IsSound keeps behaviour.hash lives new
  sound-written (Now slot) replaced place wrote =
      let goes = goes_with-lookup eq laws key contents it.hash place.1 slot place.2 place.3 in
      IsSound-put eq laws key contents keeps behaviour.hash lives new it.hash it.value wrote.0 slot alike hashed kept_is sound goes wrote.3 wrote.2
  sound-written (AfterFlush lookup own) replaced place wrote =
      let kept = wrote.0 in
      let writes = wrote.5 in
      let then = IsSound-maintained keeps behaviour.hash lives contents kept sound behaviour.is_lru frequency_of capacity it.now limit wrote.1 wrote.2 in
      let goes = goes_with-now eq laws key kept (entries contents) it.hash lookup own wrote.3 place.2 place.1 wrote.4 in
      IsSound-put eq laws key kept keeps behaviour.hash lives new it.hash it.value writes.0 wrote.3 alike hashed kept_is then goes writes.3 writes.2
