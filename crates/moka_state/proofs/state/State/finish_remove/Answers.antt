use Rattle.std.proofs.Common.{None, max, true, false, not, ◌||◌, option_map, refl, sym, ap, ◌∙◌, subst, arith}
use Rattle.std.specs.Arc.{arc_value}
use Rattle.std.proofs.lemmas.Bool.{true≢false}
use Rattle.moka_model.specs.declared.comp_result.CompResult.TheVariants.{StillNone}
use Rattle.moka_model.specs.declared.notification.RemovalCause.TheVariants.{Explicit}
use Rattle.moka_model.specs.declared.turns.Outcome.TheVariants.{Op}
use Rattle.moka_model.specs.declared.turns.Op.TheVariants.{Remove}
use Rattle.moka_model.specs.Lives.{Write, has_come}
use Rattle.moka_model.specs.Steps.{events_in, turns}
use Rattle.moka_model.specs.Events.{Invalidated}
use Rattle.moka_model.specs.Calls.{IsCopyOf}
use Rattle.moka_model.proofs.Callers.{view-of}
use Rattle.moka_rows.specs.declared.rows.EntryInfo.{EntryInfo}
use Rattle.moka_rows.specs.Rows.{cause_at}
use Rattle.moka_expiration.specs.Behaviour.{hash_by}
use Rattle.moka_expiration.specs.ExpirationPolicy.{IsDated}
use Rattle.moka_expiration.proofs.Callers.{alive-kept, cause-kept}
use Rattle.moka_table.specs.Table.{stored_write}
use Rattle.moka_table.proofs.Callers.{of-row}
use Rattle.moka_turns.specs.Handles.{turn_name}
use Rattle.moka_turns.proofs.Changes.{given-there}
use Rattle.moka_turns.proofs.Views.{table-keeps, table-holds}
use Rattle.moka_state.proofs.Alike.{hash-alike}
use Rattle.moka_state.proofs.Becoming.{becomes-unremoved, becomes-removed}
use Rattle.moka_state.proofs.Computes.{may-fail, removed-answer, removed-given}
use Rattle.moka_state.proofs.Finds.{live-row, live-absent}
use Rattle.moka_state.proofs.Finishes.{taken, stored-entry, finish-given, finish-memory, finish-stands}
use Rattle.moka_state.proofs.Held.{same-key, held-absent}
use Rattle.moka_state.proofs.Removing.{value-live}
use Rattle.moka_state.proofs.Sound.{IsSound-taken}
use Rattle.moka_state.proofs.Turns.{sound-turns, no-less}
use Rattle.moka_state.proofs.Views.{view-becomes, one-each}
use Rattle.moka_state.proofs.state.State.finish_remove.Goals as goal

pub finish_computed-key-requires : goal.finish_computed-key-requires
finish_computed-key-requires g c =
    let s = c.self.inside in
    let eq = g.K.PartialEq.eq in
    let laws = g.met.K.Eq.laws in
    let hash_of = hash_by g.C.Hasher.BuildHasher.build_hasher g.C.Hasher.Hasher.Hasher.write g.C.Hasher.Hasher.Hasher.finish g.K.Hash.hash_input s.behaviour.hasher in
    let alike = hash-alike g.C.Hasher.BuildHasher.build_hasher g.C.Hasher.Hasher.Hasher.write g.C.Hasher.Hasher.Hasher.finish s.behaviour.hasher g.met.K.Hash.respects_eq in
    let hashed = rw (← c.self.view_is) at c.requires.hash in
    stored-entry eq laws g.V.Clone.is_clone hash_of alike s.turns.opened.entries s.turns.ended.entries c.args.turn hashed (rw (← c.self.view_is) at c.requires.is_open.stored)

pub finish_computed-key-requires-2 : goal.finish_computed-key-requires-2
finish_computed-key-requires-2 g c =
    let s = c.self.inside in
    let eq = g.K.PartialEq.eq in
    let laws = g.met.K.Eq.laws in
    let hash_of = hash_by g.C.Hasher.BuildHasher.build_hasher g.C.Hasher.Hasher.Hasher.write g.C.Hasher.Hasher.Hasher.finish g.K.Hash.hash_input s.behaviour.hasher in
    let alike = hash-alike g.C.Hasher.BuildHasher.build_hasher g.C.Hasher.Hasher.Hasher.write g.C.Hasher.Hasher.Hasher.finish s.behaviour.hasher g.met.K.Hash.respects_eq in
    let hashed = rw (← c.self.view_is) at c.requires.hash in
    stored-entry eq laws g.V.Clone.is_clone hash_of alike s.turns.opened.entries s.turns.ended.entries c.args.turn hashed (rw (← c.self.view_is) at c.requires.is_open.stored)

pub returns-in_default : goal.returns-in_default
returns-in_default g c = record {
  reply = λ given steps stands.
      let s = c.self.inside in
      let eq = g.K.PartialEq.eq in
      let laws = g.met.K.Eq.laws in
      let hash_of = hash_by g.C.Hasher.BuildHasher.build_hasher g.C.Hasher.Hasher.Hasher.write g.C.Hasher.Hasher.Hasher.finish g.K.Hash.hash_input s.behaviour.hasher in
      let alike = hash-alike g.C.Hasher.BuildHasher.build_hasher g.C.Hasher.Hasher.Hasher.write g.C.Hasher.Hasher.Hasher.finish s.behaviour.hasher g.met.K.Hash.respects_eq in
      let hashed = rw (← c.self.view_is) at c.requires.hash in
      let there = rw (← c.self.view_is) at stands in
      let keeps = table-keeps eq laws g.V.Clone.is_clone hash_of alike s.turns.opened.entries s.turns.ended.entries (turns steps) there.turns in
      let sound = sound-turns eq laws given steps there.legal in
      let t = taken _ _ (c.requires.is_open.in_history given steps stands) in
      let key = (turn_name c.args.turn).key in
      let hash = c.requires.found ∙ hashed in
      let ends = given-there _ _ t.0 t.1 (c.finish_computed-key.ensures.finishes hash_of (turns steps) alike hashed sound keeps) in
      let owned = ap arc_value c.finish_computed-key.ensures.key in
      let absent = rw c.key.ensures at c.in_default.ensures.absent in
      let none = live-absent eq laws _ s.table _ s.latest s.next_number given steps there hash_of alike c.self.invariant.0.hashed key c.args.now c.args.hash hash absent in
      finish-given eq given steps (turn_name c.args.turn) (Op Remove) c.args.now c.requires.fits g.V.Clone.is_clone g.V.Clone.is_infallible t.0 t.1 _
      (removed-answer g.V.Clone.is_clone _ _ (turn_name c.args.turn) owned _ None (rw none tt) (StillNone c.finish_computed-key.result.0) refl) (λ out. no-less out.0);
  stands = λ given steps stands.
      let s = c.self.inside in
      let eq = g.K.PartialEq.eq in
      let laws = g.met.K.Eq.laws in
      let hash_of = hash_by g.C.Hasher.BuildHasher.build_hasher g.C.Hasher.Hasher.Hasher.write g.C.Hasher.Hasher.Hasher.finish g.K.Hash.hash_input s.behaviour.hasher in
      let alike = hash-alike g.C.Hasher.BuildHasher.build_hasher g.C.Hasher.Hasher.Hasher.write g.C.Hasher.Hasher.Hasher.finish s.behaviour.hasher g.met.K.Hash.respects_eq in
      let hashed = rw (← c.self.view_is) at c.requires.hash in
      let there = rw (← c.self.view_is) at stands in
      let keeps = table-keeps eq laws g.V.Clone.is_clone hash_of alike s.turns.opened.entries s.turns.ended.entries (turns steps) there.turns in
      let sound = sound-turns eq laws given steps there.legal in
      let t = taken _ _ (c.requires.is_open.in_history given steps stands) in
      let key = (turn_name c.args.turn).key in
      let hash = c.requires.found ∙ hashed in
      let ends = given-there _ _ t.0 t.1 (c.finish_computed-key.ensures.finishes hash_of (turns steps) alike hashed sound keeps) in
      let owned = ap arc_value c.finish_computed-key.ensures.key in
      let absent = rw c.key.ensures at c.in_default.ensures.absent in
      let none = held-absent eq s.table hash_of alike c.self.invariant.0.hashed key c.args.hash hash absent in
      rw c.max-now.ensures (finish-stands eq given steps (turn_name c.args.turn) (Op Remove) c.args.now c.requires.fits _ _ _ there t.0 t.1 _
      (view-becomes eq laws given _ _ (events_in steps) (Invalidated key c.args.now) (view-of eq given _ steps there) (becomes-unremoved eq _ s.table _ s.latest s.next_number key c.args.now none))
      (table-holds eq laws g.V.Clone.is_clone hash_of alike _ _ _ ends.2));
  given = ap arc_value c.finish_computed-key.ensures.key;
  refused = tt;
  turn_back = tt;
  outcome_back = tt;
  settings = rw (← c.self.view_is) refl;
}

pub returns-in_default-copy_of_live : goal.returns-in_default-copy_of_live
returns-in_default-copy_of_live g c = rw c.refusal.ensures (record {
  reply = λ given steps stands.
      let s = c.self.inside in
      let eq = g.K.PartialEq.eq in
      let laws = g.met.K.Eq.laws in
      let hash_of = hash_by g.C.Hasher.BuildHasher.build_hasher g.C.Hasher.Hasher.Hasher.write g.C.Hasher.Hasher.Hasher.finish g.K.Hash.hash_input s.behaviour.hasher in
      let alike = hash-alike g.C.Hasher.BuildHasher.build_hasher g.C.Hasher.Hasher.Hasher.write g.C.Hasher.Hasher.Hasher.finish s.behaviour.hasher g.met.K.Hash.respects_eq in
      let hashed = rw (← c.self.view_is) at c.requires.hash in
      let there = rw (← c.self.view_is) at stands in
      let keeps = table-keeps eq laws g.V.Clone.is_clone hash_of alike s.turns.opened.entries s.turns.ended.entries (turns steps) there.turns in
      let sound = sound-turns eq laws given steps there.legal in
      let key = (turn_name c.args.turn).key in
      let hash = c.requires.found ∙ hashed in
      let row = c.row-row.result in
      let dead = row.info.is_hidden || has_come row.info.deadline c.max-now.result in
      let dated = of-row (λ r. IsDated s.housekeeper.lives r.info) c.in-Some.number _ row c.self.invariant.0.dated c.row-row.ensures in
      let of_key = same-key eq key c.args.hash row (rw (c.row-row.ensures, c.key.ensures) at c.in-Some.ensures.found) in
      let alive = alive-kept s.housekeeper.lives row.info dated (max s.latest c.args.now) (omega (arith, c.max-now.ensures)) ∙ ap (λ m. not (row.info.is_hidden || has_come row.info.deadline m)) (sym c.max-now.ensures) in
      let live = live-row eq laws _ s.table _ s.latest s.next_number given steps there s.housekeeper.lives refl key c.args.now c.in-Some.number row c.row-row.ensures of_key (not dead) alive in
      let t = taken _ _ (c.requires.is_open.in_history given steps stands) in
      finish-memory eq given steps (turn_name c.args.turn) (Op Remove) c.args.now c.requires.fits g.V.Clone.is_clone g.V.Clone.is_infallible t.0 t.1
      (may-fail g.V.Clone.is_infallible dead _ _ live (λ is. true≢false (sym (c.in_default-copy_of_live.ensures.dead is))) (λ fine. true≢false (sym (c.in_default-copy_of_live.ensures.infallible fine)))) (λ out. no-less out.0);
  stands = tt;
  given = tt;
  refused = refl;
  turn_back = refl;
  outcome_back = refl;
  settings = refl;
})

pub invariant_of-self-2 : goal.invariant_of-self-2
invariant_of-self-2 g c =
    let s = c.self.inside in
    let row = c.row-row.result in
    (IsSound-taken _ _ s.housekeeper.lives s.table c.evict.new.self c.self.invariant.0 c.in-Some.number row _ c.row-row.ensures c.evict.ensures.rows (rw c.row-row.ensures at c.evict.ensures.notices), c.self.invariant.1)

pub returns : goal.returns
returns g c = record {
  reply = λ given steps stands.
      let s = c.self.inside in
      let eq = g.K.PartialEq.eq in
      let laws = g.met.K.Eq.laws in
      let hash_of = hash_by g.C.Hasher.BuildHasher.build_hasher g.C.Hasher.Hasher.Hasher.write g.C.Hasher.Hasher.Hasher.finish g.K.Hash.hash_input s.behaviour.hasher in
      let alike = hash-alike g.C.Hasher.BuildHasher.build_hasher g.C.Hasher.Hasher.Hasher.write g.C.Hasher.Hasher.Hasher.finish s.behaviour.hasher g.met.K.Hash.respects_eq in
      let hashed = rw (← c.self.view_is) at c.requires.hash in
      let there = rw (← c.self.view_is) at stands in
      let keeps = table-keeps eq laws g.V.Clone.is_clone hash_of alike s.turns.opened.entries s.turns.ended.entries (turns steps) there.turns in
      let sound = sound-turns eq laws given steps there.legal in
      let t = taken _ _ (c.requires.is_open.in_history given steps stands) in
      let key = (turn_name c.args.turn).key in
      let hash = c.requires.found ∙ hashed in
      let ends = given-there _ _ t.0 t.1 (c.finish_computed-key-2.ensures.finishes hash_of (turns steps) alike hashed sound keeps) in
      let owned = ap arc_value c.finish_computed-key-2.ensures.key in
      let row = c.row-row.result in
      let dead = row.info.is_hidden || has_come row.info.deadline c.max-now.result in
      let dated = of-row (λ r. IsDated s.housekeeper.lives r.info) c.in-Some.number _ row c.self.invariant.0.dated c.row-row.ensures in
      let of_key = same-key eq key c.args.hash row (rw (c.row-row.ensures, c.key.ensures) at c.in-Some.ensures.found) in
      let alive = alive-kept s.housekeeper.lives row.info dated (max s.latest c.args.now) (omega (arith, c.max-now.ensures)) ∙ ap (λ m. not (row.info.is_hidden || has_come row.info.deadline m)) (sym c.max-now.ensures) in
      let live = live-row eq laws _ s.table _ s.latest s.next_number given steps there s.housekeeper.lives refl key c.args.now c.in-Some.number row c.row-row.ensures of_key (not dead) alive in
      let copy = subst (λ o. IsCopyOf g.V.Clone.is_clone o c.in-Ok.found) (sym (ap (option_map (λ (w : Write _ _). w.value)) live ∙ value-live dead (stored_write row))) c.in-Ok.ensures.copy in
      finish-given eq given steps (turn_name c.args.turn) (Op Remove) c.args.now c.requires.fits g.V.Clone.is_clone g.V.Clone.is_infallible t.0 t.1 _
      (removed-answer g.V.Clone.is_clone _ _ (turn_name c.args.turn) owned _ c.in-Ok.found copy c.removed_result.result c.removed_result.ensures) (λ out. no-less out.0);
  stands = λ given steps stands.
      let s = c.self.inside in
      let eq = g.K.PartialEq.eq in
      let laws = g.met.K.Eq.laws in
      let hash_of = hash_by g.C.Hasher.BuildHasher.build_hasher g.C.Hasher.Hasher.Hasher.write g.C.Hasher.Hasher.Hasher.finish g.K.Hash.hash_input s.behaviour.hasher in
      let alike = hash-alike g.C.Hasher.BuildHasher.build_hasher g.C.Hasher.Hasher.Hasher.write g.C.Hasher.Hasher.Hasher.finish s.behaviour.hasher g.met.K.Hash.respects_eq in
      let hashed = rw (← c.self.view_is) at c.requires.hash in
      let there = rw (← c.self.view_is) at stands in
      let keeps = table-keeps eq laws g.V.Clone.is_clone hash_of alike s.turns.opened.entries s.turns.ended.entries (turns steps) there.turns in
      let sound = sound-turns eq laws given steps there.legal in
      let t = taken _ _ (c.requires.is_open.in_history given steps stands) in
      let key = (turn_name c.args.turn).key in
      let hash = c.requires.found ∙ hashed in
      let ends = given-there _ _ t.0 t.1 (c.finish_computed-key-2.ensures.finishes hash_of (turns steps) alike hashed sound keeps) in
      let owned = ap arc_value c.finish_computed-key-2.ensures.key in
      let row = c.row-row.result in
      let dead = row.info.is_hidden || has_come row.info.deadline c.max-now.result in
      let dated = of-row (λ r. IsDated s.housekeeper.lives r.info) c.in-Some.number _ row c.self.invariant.0.dated c.row-row.ensures in
      let of_key = same-key eq key c.args.hash row (rw (c.row-row.ensures, c.key.ensures) at c.in-Some.ensures.found) in
      let why = c.cause-cause.ensures ∙ ap (λ (i : EntryInfo). cause_at Explicit i c.max-now.result) c.info.ensures ∙ ap (λ m. cause_at Explicit row.info m) c.max-now.ensures
      ∙ sym (cause-kept s.housekeeper.lives row.info dated (max s.latest c.args.now) (omega (arith, c.max-now.ensures)) Explicit) in
      let one = one-each eq laws given _ steps there in
      rw c.max-now.ensures (finish-stands eq given steps (turn_name c.args.turn) (Op Remove) c.args.now c.requires.fits _ _ _ there t.0 t.1 _
      (view-becomes eq laws given _ _ (events_in steps) (Invalidated key c.args.now) (view-of eq given _ steps there)
      (becomes-removed eq _ s.table _ s.latest s.next_number one c.evict.new.self key c.args.now c.in-Some.number row c.row-row.ensures of_key _ refl refl why c.evict.ensures.rows (rw c.row-row.ensures at c.evict.ensures.notices)))
      (table-holds eq laws g.V.Clone.is_clone hash_of alike _ _ _ ends.2));
  given =
      let owned = ap arc_value c.finish_computed-key-2.ensures.key in
      removed-given g.V.Clone.is_clone _ (turn_name c.args.turn).key owned c.in-Ok.found c.removed_result.result c.removed_result.ensures;
  refused = tt;
  turn_back = tt;
  outcome_back = tt;
  settings = rw (← c.self.view_is) refl;
}
