use Rattle.std.proofs.Common.{◌≡◌, true, not, ◌||◌, max, option_map, ◌∙◌, ap, sym, subst, refl, arith}
use Rattle.std.specs.Arc.{arc_value}
use Rattle.std.proofs.lemmas.Bool.{true≢false}
use Rattle.moka_model.specs.declared.notification.RemovalCause.TheVariants.{Explicit}
use Rattle.moka_model.specs.Lives.{Write, has_come}
use Rattle.moka_model.specs.Events.{Invalidated}
use Rattle.moka_model.specs.Calls.{Remove, IsCopyOf}
use Rattle.moka_rows.specs.declared.rows.EntryInfo.{EntryInfo}
use Rattle.moka_rows.specs.Rows.{cause_at}
use Rattle.moka_expiration.specs.ExpirationPolicy.{IsDated}
use Rattle.moka_expiration.proofs.Callers.{alive-kept, cause-kept}
use Rattle.moka_table.specs.Table.{stored_write}
use Rattle.moka_table.proofs.Callers.{of-row}
use Rattle.moka_state.proofs.Becoming.{becomes-unremoved, becomes-removed}
use Rattle.moka_state.proofs.Results.{err-is}
use Rattle.moka_state.proofs.Finds.{live-row, live-absent}
use Rattle.moka_state.proofs.Alike.{hash-alike}
use Rattle.moka_state.proofs.Held.{same-key, held-absent}
use Rattle.moka_state.proofs.LiveReads.{if-some-at, in-any-case}
use Rattle.moka_state.proofs.Removing.{value-live, none-live, if-live, if-copied}
use Rattle.moka_state.proofs.Sound.{IsSound-taken}
use Rattle.moka_state.proofs.Views.{follows-event}
use Rattle.moka_state.proofs.state.State.remove_with_hash.Goals as goal

pub returns-in_default-clause-ends : goal.returns-in_default-clause-ends
returns-in_default-clause-ends g c =
    let s = c.self.inside in
    record {
      reply = λ given steps stands.
          let none = live-absent g.K.PartialEq.eq g.met.K.Eq.laws _ s.table _ s.latest s.next_number given steps (rw (← c.self.view_is) at stands) _ (hash-alike g.C.Hasher.BuildHasher.build_hasher g.C.Hasher.Hasher.Hasher.write g.C.Hasher.Hasher.Hasher.finish s.behaviour.hasher g.met.K.Hash.respects_eq) c.self.invariant.0.hashed c.args.key.now c.args.now c.args.hash (rw (← c.self.view_is) at c.requires.hash) c.in_default.ensures.absent in
          rw none tt;
      stands =
          let none = held-absent g.K.PartialEq.eq s.table _ (hash-alike g.C.Hasher.BuildHasher.build_hasher g.C.Hasher.Hasher.Hasher.write g.C.Hasher.Hasher.Hasher.finish s.behaviour.hasher g.met.K.Hash.respects_eq) c.self.invariant.0.hashed c.args.key.now c.args.hash (rw (← c.self.view_is) at c.requires.hash) c.in_default.ensures.absent in
          rw (← c.self.view_is, c.max-now.ensures) (follows-event g.K.PartialEq.eq g.met.K.Eq.laws _ _ (Remove c.args.key.now c.args.now) (Invalidated c.args.key.now c.args.now) (λ _ _. refl)
          (λ _. becomes-unremoved g.K.PartialEq.eq _ s.table _ s.latest s.next_number c.args.key.now c.args.now none));
      refused = tt;
      cause = tt;
      miss = λ given steps stands none. refl;
      copied = λ given steps stands. in-any-case g.V.Clone.is_infallible _ (true ≡ true) refl;
    }

pub invariant_of-self-2 : goal.invariant_of-self-2
invariant_of-self-2 g c =
    let s = c.self.inside in
    let row = c.row-row.result in
    (IsSound-taken _ _ s.housekeeper.lives s.table c.evict.new.self c.self.invariant.0 c.in-Some.number row _ c.row-row.ensures c.evict.ensures.rows (rw c.row-row.ensures at c.evict.ensures.notices), c.self.invariant.1)

pub returns-clause-ends : goal.returns-clause-ends
returns-clause-ends g c =
    let s = c.self.inside in
    let row = c.row-row.result in
    record {
      reply = λ given steps stands.
          let dead = row.info.is_hidden || has_come row.info.deadline c.max-now.result in
          let dated = of-row (λ r. IsDated s.housekeeper.lives r.info) c.in-Some.number _ row c.self.invariant.0.dated c.row-row.ensures in
          let key = same-key g.K.PartialEq.eq c.args.key.now c.args.hash row (rw c.row-row.ensures at c.in-Some.ensures.found) in
          let alive = alive-kept s.housekeeper.lives row.info dated (max s.latest c.args.now) (omega (arith, c.max-now.ensures)) ∙ ap (λ m. not (row.info.is_hidden || has_come row.info.deadline m)) (sym c.max-now.ensures) in
          let it = live-row g.K.PartialEq.eq g.met.K.Eq.laws _ s.table _ s.latest s.next_number given steps (rw (← c.self.view_is) at stands) s.housekeeper.lives refl c.args.key.now c.args.now c.in-Some.number row c.row-row.ensures key (not dead) alive in
          subst (λ o. IsCopyOf g.V.Clone.is_clone o c.in_ok-found.found) (sym (ap (option_map (λ (w : Write _ _). w.value)) it ∙ value-live dead (stored_write row))) c.in_ok-found.ensures.copy;
      stands =
          let key = same-key g.K.PartialEq.eq c.args.key.now c.args.hash row (rw c.row-row.ensures at c.in-Some.ensures.found) in
          let dated = of-row (λ r. IsDated s.housekeeper.lives r.info) c.in-Some.number _ row c.self.invariant.0.dated c.row-row.ensures in
          let why = c.cause-cause.ensures ∙ ap (λ (i : EntryInfo). cause_at Explicit i c.max-now.result) c.info.ensures ∙ ap (λ m. cause_at Explicit row.info m) c.max-now.ensures
          ∙ sym (cause-kept s.housekeeper.lives row.info dated (max s.latest c.args.now) (omega (arith, c.max-now.ensures)) Explicit) in
          rw (← c.self.view_is, c.max-now.ensures) (follows-event g.K.PartialEq.eq g.met.K.Eq.laws _ _ (Remove c.args.key.now c.args.now) (Invalidated c.args.key.now c.args.now) (λ _ _. refl)
          (λ one. becomes-removed g.K.PartialEq.eq _ s.table _ s.latest s.next_number one c.evict.new.self c.args.key.now c.args.now c.in-Some.number row c.row-row.ensures key _ refl refl why c.evict.ensures.rows (rw c.row-row.ensures at c.evict.ensures.notices)));
      refused = tt;
      cause = tt;
      miss = λ given steps stands none. refl;
      copied = λ given steps stands. in-any-case g.V.Clone.is_infallible _ (true ≡ true) refl;
    }

pub returns-in_err-found-clause-ends : goal.returns-in_err-found-clause-ends
returns-in_err-found-clause-ends g c =
    let s = c.self.inside in
    let row = c.row-row.result in
    let dead = row.info.is_hidden || has_come row.info.deadline c.max-now.result in
    let dated = of-row (λ r. IsDated s.housekeeper.lives r.info) c.in-Some.number _ row c.self.invariant.0.dated c.row-row.ensures in
    let key = same-key g.K.PartialEq.eq c.args.key.now c.args.hash row (rw c.row-row.ensures at c.in-Some.ensures.found) in
    let alive = alive-kept s.housekeeper.lives row.info dated (max s.latest c.args.now) (omega (arith, c.max-now.ensures)) ∙ ap (λ m. not (row.info.is_hidden || has_come row.info.deadline m)) (sym c.max-now.ensures) in
    rw (err-is c.from_residual.result _ c.from_residual.ensures.1) (record {
      reply = tt;
      stands = tt;
      refused = rw (← c.self.view_is) refl;
      cause = c.in_err-found.ensures.cause;
      miss = λ given steps stands nothing.
          let it = live-row g.K.PartialEq.eq g.met.K.Eq.laws _ s.table _ s.latest s.next_number given steps (rw (← c.self.view_is) at stands) s.housekeeper.lives refl c.args.key.now c.args.now c.in-Some.number row c.row-row.ensures key (not dead) alive in
          absurd (true≢false (sym (c.in_err-found.ensures.dead (none-live dead (stored_write row) (sym it ∙ nothing)))));
      copied = λ given steps stands.
          let it = live-row g.K.PartialEq.eq g.met.K.Eq.laws _ s.table _ s.latest s.next_number given steps (rw (← c.self.view_is) at stands) s.housekeeper.lives refl c.args.key.now c.args.now c.in-Some.number row c.row-row.ensures key (not dead) alive in
          if-some-at _ _ _ it (if-live _ _ dead (stored_write row) (λ fine. absurd (true≢false (sym (c.in_err-found.ensures.infallible fine)))));
    })

pub returns-clause-kept : goal.returns-clause-kept
returns-clause-kept g c =
    let row = c.row-row.result in
    let key = same-key g.K.PartialEq.eq c.args.key.now c.args.hash row (rw c.row-row.ensures at c.in-Some.ensures.found) in
    let kept = of-row (λ r. g.C.CacheTypes.keeps (arc_value r.key) r.value) c.in-Some.number _ row c.self.invariant.0.kept c.row-row.ensures in
    if-copied g.V.Clone.is_clone (g.C.CacheTypes.keeps c.args.key.now) (row.info.is_hidden || has_come row.info.deadline c.max-now.result) row.value c.in_ok-found.found
    (λ w copy. g.met.C.CacheTypes.copies_keep c.args.key.now row.value w copy (g.met.C.CacheTypes.equal_keys_keep (arc_value row.key) c.args.key.now row.value key kept)) c.in_ok-found.ensures.copy
