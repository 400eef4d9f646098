use Rattle.std.proofs.Common.{max, ◌∙◌, ap, sym, refl, arith}
use Rattle.moka_model.specs.declared.notification.RemovalCause.TheVariants.{Explicit}
use Rattle.moka_model.specs.Events.{Invalidated}
use Rattle.moka_model.specs.Calls.{Invalidate}
use Rattle.moka_expiration.specs.ExpirationPolicy.{IsDated}
use Rattle.moka_rows.specs.declared.rows.EntryInfo.{EntryInfo}
use Rattle.moka_rows.specs.Rows.{cause_at}
use Rattle.moka_table.proofs.Callers.{of-row}
use Rattle.moka_state.proofs.Becoming.{becomes-unremoved, becomes-removed}
use Rattle.moka_expiration.proofs.Callers.{cause-kept}
use Rattle.moka_state.proofs.Alike.{hash-alike}
use Rattle.moka_state.proofs.Held.{same-key, held-absent}
use Rattle.moka_state.proofs.Sound.{IsSound-taken}
use Rattle.moka_state.proofs.Views.{follows-event}
use Rattle.moka_state.proofs.state.State.invalidate_with_hash.Goals as goal

pub invariant_of-self : goal.invariant_of-self
invariant_of-self g c =
    let s = c.self.inside in
    let row = c.row.result in
    (IsSound-taken _ _ s.housekeeper.lives s.table c.evict.new.self c.self.invariant.0 c.in-Some.number row _ c.row.ensures c.evict.ensures.rows (rw c.row.ensures at c.evict.ensures.notices), c.self.invariant.1)

pub returns-in-Some-clause-stands : goal.returns-in-Some-clause-stands
returns-in-Some-clause-stands g c =
    let s = c.self.inside in
    let row = c.row.result in
    let key = same-key g.K.PartialEq.eq c.args.key.now c.args.hash row (rw c.row.ensures at c.in-Some.ensures.found) in
    let dated = of-row (λ r. IsDated s.housekeeper.lives r.info) c.in-Some.number _ row c.self.invariant.0.dated c.row.ensures in
    let why = c.cause-cause.ensures ∙ ap (λ (i : EntryInfo). cause_at Explicit i c.max-now.result) c.info-info.ensures ∙ ap (λ m. cause_at Explicit row.info m) c.max-now.ensures
    ∙ sym (cause-kept s.housekeeper.lives row.info dated (max s.latest c.args.now) (omega (arith, c.max-now.ensures)) Explicit) in
    rw (← c.self.view_is, c.max-now.ensures) (follows-event g.K.PartialEq.eq g.met.K.Eq.laws _ _ (Invalidate c.args.key.now c.args.now) (Invalidated c.args.key.now c.args.now) (λ _ _. refl)
    (λ one. becomes-removed g.K.PartialEq.eq _ s.table _ s.latest s.next_number one c.evict.new.self c.args.key.now c.args.now c.in-Some.number row c.row.ensures key _ refl refl why c.evict.ensures.rows (rw c.row.ensures at c.evict.ensures.notices)))

pub returns-in_default-clause-stands : goal.returns-in_default-clause-stands
returns-in_default-clause-stands g c =
    let s = c.self.inside in
    let none = held-absent g.K.PartialEq.eq s.table _ (hash-alike g.C.Hasher.BuildHasher.build_hasher g.C.Hasher.Hasher.Hasher.write g.C.Hasher.Hasher.Hasher.finish s.behaviour.hasher g.met.K.Hash.respects_eq) c.self.invariant.0.hashed c.args.key.now c.args.hash (rw (← c.self.view_is) at c.requires.hash) c.in_default.ensures.absent in
    rw (← c.self.view_is, c.max-now.ensures) (follows-event g.K.PartialEq.eq g.met.K.Eq.laws _ _ (Invalidate c.args.key.now c.args.now) (Invalidated c.args.key.now c.args.now) (λ _ _. refl)
    (λ _. becomes-unremoved g.K.PartialEq.eq _ s.table _ s.latest s.next_number c.args.key.now c.args.now none))
