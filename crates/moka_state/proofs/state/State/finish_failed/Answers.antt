use Rattle.std.proofs.Common.{refl}
use Rattle.std.specs.Arc.{arc_value}
use Rattle.moka_model.specs.declared.turns.Outcome.TheVariants.{Failed}
use Rattle.moka_model.specs.Turns as turning
use Rattle.moka_model.specs.Steps.{events_in, turns}
use Rattle.moka_model.specs.Calls.{GaveError}
use Rattle.moka_model.specs.Events.{Passed}
use Rattle.moka_model.proofs.Callers.{view-of}
use Rattle.moka_expiration.specs.Behaviour.{hash_by}
use Rattle.moka_turns.specs.Handles.{turn_name}
use Rattle.moka_turns.proofs.Views.{table-keeps, table-holds}
use Rattle.moka_state.proofs.Alike.{hash-alike}
use Rattle.moka_state.proofs.Becoming.{becomes-passed}
use Rattle.moka_state.proofs.Finishes.{taken, stored-for, failed-copied, finish-given, finish-memory, finish-stands}
use Rattle.moka_state.proofs.Turns.{sound-turns, no-less}
use Rattle.moka_state.proofs.Views.{view-becomes}
use Rattle.moka_state.proofs.state.State.finish_failed.Goals as goal

pub returns-in_default : goal.returns-in_default
returns-in_default g c = record {
  reply = λ given steps stands.
      let eq = g.K.PartialEq.eq in
      let t = taken _ _ (c.requires.is_open.in_history given steps stands) in
      finish-memory eq given steps (turn_name c.args.turn) (Failed (arc_value c.args.error)) c.args.now c.requires.fits g.V.Clone.is_clone g.V.Clone.is_infallible t.0 t.1 tt (λ out. no-less out.0);
  stands = tt;
  given = tt;
  refused = refl;
  turn_back = refl;
  outcome_back = refl;
  settings = refl;
}

pub finish-requires : goal.finish-requires
finish-requires g c =
    let s = c.self.inside in
    let eq = g.K.PartialEq.eq in
    let laws = g.met.K.Eq.laws in
    let hash_of = hash_by g.C.Hasher.BuildHasher.build_hasher g.C.Hasher.Hasher.Hasher.write g.C.Hasher.Hasher.Hasher.finish g.K.Hash.hash_input s.behaviour.hasher in
    let alike = hash-alike g.C.Hasher.BuildHasher.build_hasher g.C.Hasher.Hasher.Hasher.write g.C.Hasher.Hasher.Hasher.finish s.behaviour.hasher g.met.K.Hash.respects_eq in
    let hashed = rw (← c.self.view_is) at c.requires.hash in
    stored-for eq laws g.V.Clone.is_clone hash_of alike s.turns.opened.entries s.turns.ended.entries c.args.turn hashed c.in-Ok.end c.args.waiting (rw (← c.self.view_is) at c.requires.is_open.stored) (rw (← c.self.view_is) at c.requires.awaited) c.in-Ok.ensures.waited

pub returns : goal.returns
returns g c = record {
  reply = λ given steps stands.
      let eq = g.K.PartialEq.eq in
      let t = taken _ _ (c.requires.is_open.in_history given steps stands) in
      finish-given eq given steps (turn_name c.args.turn) (Failed (arc_value c.args.error)) c.args.now c.requires.fits g.V.Clone.is_clone g.V.Clone.is_infallible t.0 t.1 (GaveError (arc_value c.args.error)) refl (λ out. no-less out.0);
  stands = λ given steps stands.
      let s = c.self.inside in
      let eq = g.K.PartialEq.eq in
      let laws = g.met.K.Eq.laws in
      let hash_of = hash_by g.C.Hasher.BuildHasher.build_hasher g.C.Hasher.Hasher.Hasher.write g.C.Hasher.Hasher.Hasher.finish g.K.Hash.hash_input s.behaviour.hasher in
      let alike = hash-alike g.C.Hasher.BuildHasher.build_hasher g.C.Hasher.Hasher.Hasher.write g.C.Hasher.Hasher.Hasher.finish s.behaviour.hasher g.met.K.Hash.respects_eq in
      let hashed = rw (← c.self.view_is) at c.requires.hash in
      let there = rw (← c.self.view_is) at stands in
      let keeps = table-keeps eq laws g.V.Clone.is_clone hash_of alike s.turns.opened.entries s.turns.ended.entries (turns steps) there.turns in
      let sound = sound-turns eq laws given steps there.legal in
      let t = taken _ _ (c.requires.is_open.in_history given steps stands) in
      let left = c.finish.ensures.finishes hash_of (turns steps) alike hashed sound keeps (turning.Failed (arc_value c.args.error)) (failed-copied g.V.Clone.is_clone (arc_value c.args.error) c.in-Ok.end c.in-Ok.ensures.saved) in
      rw c.max-self-inside.ensures (finish-stands eq given steps (turn_name c.args.turn) (Failed (arc_value c.args.error)) c.args.now c.requires.fits _ _ _ there t.0 t.1 _
      (view-becomes eq laws given _ _ (events_in steps) (Passed c.args.now) (view-of eq given _ steps there) (becomes-passed eq _ s.table _ s.latest s.next_number c.args.now))
      (table-holds eq laws g.V.Clone.is_clone hash_of alike _ _ _ (rw t.2 left)));
  given = refl;
  refused = tt;
  turn_back = tt;
  outcome_back = tt;
  settings = rw (← c.self.view_is) refl;
}
