use Rattle.std.proofs.Common.{◌≡◌, ℕ, Option, Some, None, List, [], ◌∷◌, ◌++◌, refl, sym, ap, ◌∙◌, subst, arith, max}
use Rattle.std.specs.Arc.{arc_value}
use Rattle.moka_model.specs.Events.{Drawn}
use Rattle.moka_model.specs.Turns.{Opened, Waited}
use Rattle.moka_model.specs.Steps.{events_in, turns}
use Rattle.moka_model.specs.Calls.{Begin, look_event}
use Rattle.moka_model.specs.StandsFor.{Books}
use Rattle.moka_model.proofs.Callers.{view-of}
use Rattle.moka_expiration.specs.Behaviour.{hash_by}
use Rattle.moka_turns.specs.declared.turn_key.TurnKey.{TurnKey}
use Rattle.moka_turns.specs.Handles.{turn_name, ticket_name}
use Rattle.moka_turns.proofs.Views.{table-keeps, table-holds}
use Rattle.moka_state.proofs.Alike.{hash-alike}
use Rattle.moka_state.proofs.Becoming.{estimates-noted}
use Rattle.moka_state.proofs.Begins.{looks-in-vain, gives-wait, after-wait, gives-run, after-run, gives-refused, waits-told, runs-told, becomes-drawn, move-stands}
use Rattle.moka_state.proofs.Results.{err-is}
use Rattle.moka_state.proofs.Turns.{sound-turns, same-turns, with-turns}
use Rattle.moka_state.proofs.Views.{view-becomes}
use Rattle.moka_state.proofs.state.State.begin_turn.Goals as goal

pub returns-in_err-begun-clause-begins : goal.returns-in_err-begun-clause-begins
returns-in_err-begun-clause-begins g c said unacceptable = rw (err-is c.from_residual.result _ c.from_residual.ensures.1) (record {
  reply = λ given steps stands.
      let s = c.self.inside in
      let eq = g.K.PartialEq.eq in
      let laws = g.met.K.Eq.laws in
      let key = arc_value c.args.key in
      let hash_of = hash_by g.C.Hasher.BuildHasher.build_hasher g.C.Hasher.Hasher.Hasher.write g.C.Hasher.Hasher.Hasher.finish g.K.Hash.hash_input s.behaviour.hasher in
      let alike = hash-alike g.C.Hasher.BuildHasher.build_hasher g.C.Hasher.Hasher.Hasher.write g.C.Hasher.Hasher.Hasher.finish s.behaviour.hasher g.met.K.Hash.respects_eq in
      let hash = rw (← c.self.view_is) at c.requires.hash in
      let there = rw (← c.self.view_is) at stands in
      let none = unacceptable given steps stands in
      let q : TurnKey g.row.K.Denot = record { hash = c.args.hash; kind = c.args.kind; key = c.args.key } in
      let keeps = table-keeps eq laws g.V.Clone.is_clone hash_of alike s.turns.opened.entries s.turns.ended.entries (turns steps) there.turns in
      let sound = sound-turns eq laws given steps there.legal in
      let counted = ap (λ (b : Books _ _). b.next_number) there.books in
      let begins = c.in_err-begun.ensures.begins hash_of (turns steps) alike hash sound keeps in
      gives-refused eq g.V.Clone.is_clone g.V.Clone.is_infallible given steps key c.args.kind said c.args.now c.requires.initializer none sound.0 hash_of _ _ q _ c.args.may_wait _ refl counted _ begins;
  stands = tt;
  refused =
      let s = c.self.inside in
      rw (← c.self.view_is) (with-turns _ _ _ _ _ _ (same-turns (hash_by g.C.Hasher.BuildHasher.build_hasher g.C.Hasher.Hasher.Hasher.write g.C.Hasher.Hasher.Hasher.finish g.K.Hash.hash_input s.behaviour.hasher) _ _ _ _ c.in_err-begun.ensures.unchanged.0 c.in_err-begun.ensures.unchanged.1));
})

pub returns-in-Wait-clause-begins : goal.returns-in-Wait-clause-begins
returns-in-Wait-clause-begins g c said unacceptable = record {
  reply = λ given steps stands.
      let s = c.self.inside in
      let eq = g.K.PartialEq.eq in
      let laws = g.met.K.Eq.laws in
      let key = arc_value c.args.key in
      let hash_of = hash_by g.C.Hasher.BuildHasher.build_hasher g.C.Hasher.Hasher.Hasher.write g.C.Hasher.Hasher.Hasher.finish g.K.Hash.hash_input s.behaviour.hasher in
      let alike = hash-alike g.C.Hasher.BuildHasher.build_hasher g.C.Hasher.Hasher.Hasher.write g.C.Hasher.Hasher.Hasher.finish s.behaviour.hasher g.met.K.Hash.respects_eq in
      let hash = rw (← c.self.view_is) at c.requires.hash in
      let there = rw (← c.self.view_is) at stands in
      let none = unacceptable given steps stands in
      let q : TurnKey g.row.K.Denot = record { hash = c.args.hash; kind = c.args.kind; key = c.args.key } in
      let keeps = table-keeps eq laws g.V.Clone.is_clone hash_of alike s.turns.opened.entries s.turns.ended.entries (turns steps) there.turns in
      let sound = sound-turns eq laws given steps there.legal in
      let counted = ap (λ (b : Books _ _). b.next_number) there.books in
      let begins = c.in_ok-begun.ensures.begins hash_of (turns steps) alike hash sound keeps in
      let told = waits-told eq g.V.Clone.is_clone hash_of _ _ q _ _ _ _ c.in-Wait.ticket (rw c.in-Wait.is at begins) in
      (told.2, gives-wait eq g.V.Clone.is_clone g.V.Clone.is_infallible given steps key c.args.kind said c.args.now c.requires.initializer none sound.0 told.0 told.1 told.4 (ticket_name c.in-Wait.ticket) told.3);
  stands = λ given steps stands.
      let s = c.self.inside in
      let eq = g.K.PartialEq.eq in
      let laws = g.met.K.Eq.laws in
      let key = arc_value c.args.key in
      let hash_of = hash_by g.C.Hasher.BuildHasher.build_hasher g.C.Hasher.Hasher.Hasher.write g.C.Hasher.Hasher.Hasher.finish g.K.Hash.hash_input s.behaviour.hasher in
      let alike = hash-alike g.C.Hasher.BuildHasher.build_hasher g.C.Hasher.Hasher.Hasher.write g.C.Hasher.Hasher.Hasher.finish s.behaviour.hasher g.met.K.Hash.respects_eq in
      let hash = rw (← c.self.view_is) at c.requires.hash in
      let there = rw (← c.self.view_is) at stands in
      let none = unacceptable given steps stands in
      let q : TurnKey g.row.K.Denot = record { hash = c.args.hash; kind = c.args.kind; key = c.args.key } in
      let keeps = table-keeps eq laws g.V.Clone.is_clone hash_of alike s.turns.opened.entries s.turns.ended.entries (turns steps) there.turns in
      let sound = sound-turns eq laws given steps there.legal in
      let counted = ap (λ (b : Books _ _). b.next_number) there.books in
      let begins = c.in_ok-begun.ensures.begins hash_of (turns steps) alike hash sound keeps in
      let told = waits-told eq g.V.Clone.is_clone hash_of _ _ q _ _ _ _ c.in-Wait.ticket (rw c.in-Wait.is at begins) in
      let becomes = looks-in-vain eq laws _ s.table _ s.latest s.next_number given steps there said key c.args.now none _ (estimates-noted g.C.Frequency.FrequencySource.noted g.C.Frequency.FrequencySource.count s.housekeeper.source c.note.new.self c.args.hash _ c.note.ensures hash) in
      rw c.max-now.ensures (move-stands eq given _ _ _ steps there (Begin key c.args.kind said c.args.now) (look_event said key c.args.now ∷ []) (Waited told.0.name.number)
      (after-wait eq g.V.Clone.is_clone g.V.Clone.is_infallible given steps key c.args.kind said c.args.now c.requires.initializer none sound.0 told.0 told.1) _
      (view-becomes eq laws given _ _ (events_in steps) (look_event said key c.args.now) (view-of eq given _ steps there) becomes)
      (table-holds eq laws g.V.Clone.is_clone hash_of alike c.begin.new.self.opened.entries c.begin.new.self.ended.entries _ told.5));
  refused = tt;
}

pub returns-in-Run-clause-begins : goal.returns-in-Run-clause-begins
returns-in-Run-clause-begins g c said unacceptable = record {
  reply = λ given steps stands.
      let s = c.self.inside in
      let eq = g.K.PartialEq.eq in
      let laws = g.met.K.Eq.laws in
      let key = arc_value c.args.key in
      let hash_of = hash_by g.C.Hasher.BuildHasher.build_hasher g.C.Hasher.Hasher.Hasher.write g.C.Hasher.Hasher.Hasher.finish g.K.Hash.hash_input s.behaviour.hasher in
      let alike = hash-alike g.C.Hasher.BuildHasher.build_hasher g.C.Hasher.Hasher.Hasher.write g.C.Hasher.Hasher.Hasher.finish s.behaviour.hasher g.met.K.Hash.respects_eq in
      let hash = rw (← c.self.view_is) at c.requires.hash in
      let there = rw (← c.self.view_is) at stands in
      let none = unacceptable given steps stands in
      let q : TurnKey g.row.K.Denot = record { hash = c.args.hash; kind = c.args.kind; key = c.args.key } in
      let keeps = table-keeps eq laws g.V.Clone.is_clone hash_of alike s.turns.opened.entries s.turns.ended.entries (turns steps) there.turns in
      let sound = sound-turns eq laws given steps there.legal in
      let counted = ap (λ (b : Books _ _). b.next_number) there.books in
      let begins = c.in_ok-begun.ensures.begins hash_of (turns steps) alike hash sound keeps in
      let told = runs-told eq g.V.Clone.is_clone hash_of _ _ q _ _ _ _ c.in-Run.turn (rw c.in-Run.is at begins) in
      gives-run eq g.V.Clone.is_clone g.V.Clone.is_infallible given steps key c.args.kind said c.args.now c.requires.initializer none sound.0 told.0 (λ out. told.2 (counted ∙ out)) (turn_name c.in-Run.turn) (rw counted at told.1);
  stands = λ given steps stands.
      let s = c.self.inside in
      let eq = g.K.PartialEq.eq in
      let laws = g.met.K.Eq.laws in
      let key = arc_value c.args.key in
      let hash_of = hash_by g.C.Hasher.BuildHasher.build_hasher g.C.Hasher.Hasher.Hasher.write g.C.Hasher.Hasher.Hasher.finish g.K.Hash.hash_input s.behaviour.hasher in
      let alike = hash-alike g.C.Hasher.BuildHasher.build_hasher g.C.Hasher.Hasher.Hasher.write g.C.Hasher.Hasher.Hasher.finish s.behaviour.hasher g.met.K.Hash.respects_eq in
      let hash = rw (← c.self.view_is) at c.requires.hash in
      let there = rw (← c.self.view_is) at stands in
      let none = unacceptable given steps stands in
      let q : TurnKey g.row.K.Denot = record { hash = c.args.hash; kind = c.args.kind; key = c.args.key } in
      let keeps = table-keeps eq laws g.V.Clone.is_clone hash_of alike s.turns.opened.entries s.turns.ended.entries (turns steps) there.turns in
      let sound = sound-turns eq laws given steps there.legal in
      let counted = ap (λ (b : Books _ _). b.next_number) there.books in
      let begins = c.in_ok-begun.ensures.begins hash_of (turns steps) alike hash sound keeps in
      let told = runs-told eq g.V.Clone.is_clone hash_of _ _ q _ _ _ _ c.in-Run.turn (rw c.in-Run.is at begins) in
      let becomes = looks-in-vain eq laws _ s.table _ s.latest s.next_number given steps there said key c.args.now none _ (estimates-noted g.C.Frequency.FrequencySource.noted g.C.Frequency.FrequencySource.count s.housekeeper.source c.note.new.self c.args.hash _ c.note.ensures hash) in
      rw c.max-now.ensures (move-stands eq given _ _ _ steps there (Begin key c.args.kind said c.args.now) (Drawn ∷ look_event said key c.args.now ∷ []) _
      (after-run eq g.V.Clone.is_clone g.V.Clone.is_infallible given steps key c.args.kind said c.args.now c.requires.initializer none sound.0 told.0) _
      (view-becomes eq laws given _ _ _ Drawn
      (view-becomes eq laws given _ _ (events_in steps) (look_event said key c.args.now) (view-of eq given _ steps there) becomes)
      (becomes-drawn eq _ s.table _ (max s.latest c.args.now) s.next_number))
      (table-holds eq laws g.V.Clone.is_clone hash_of alike c.begin.new.self.opened.entries c.begin.new.self.ended.entries _ (rw counted at told.3)));
  refused = tt;
}
