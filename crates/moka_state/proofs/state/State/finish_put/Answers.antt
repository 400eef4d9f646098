use Rattle.std.proofs.Common.{refl, sym, ap, ◌∙◌, subst}
use Rattle.std.specs.Arc.{arc_value}
use Rattle.moka_model.specs.declared.turns.Outcome.{Outcome}
use Rattle.moka_model.specs.declared.turns.Outcome.TheVariants as outcomes
use Rattle.moka_model.specs.declared.turns.Op.TheVariants.{Put}
use Rattle.moka_model.specs.Lives.{Settings}
use Rattle.moka_model.specs.Numbers.{next_number}
use Rattle.moka_model.specs.StandsFor.{Books}
use Rattle.moka_model.specs.Steps.{turns}
use Rattle.moka_model.specs.Calls.{Insert, after}
use Rattle.moka_model.proofs.Callers.{view-of}
use Rattle.moka_expiration.specs.Behaviour.{hash_by}
use Rattle.moka_expiration.specs.StateData.{SettingsData, StateData}
use Rattle.moka_turns.specs.Handles.{turn_name}
use Rattle.moka_turns.proofs.Changes.{given-there}
use Rattle.moka_turns.proofs.Views.{table-keeps, table-holds}
use Rattle.moka_state.proofs.Alike.{hash-alike}
use Rattle.moka_state.proofs.Computes.{put-answer, put-given}
use Rattle.moka_state.proofs.Finishes.{taken, IsStored, stored-entry, write-left, write-full, finish-given, finish-memory, finish-full, finish-stands}
use Rattle.moka_state.proofs.Turns.{sound-turns}
use Rattle.moka_state.proofs.state.State.finish_put.Goals as goal

pub returns-then-wants_number : goal.returns-then-wants_number
returns-then-wants_number g c = rw c.refusal.ensures (record {
  reply = λ given steps stands.
      let eq = g.K.PartialEq.eq in
      let t = taken _ _ (c.requires.is_open.in_history given steps stands) in
      let full = write-full eq given steps (turn_name c.args.turn).key c.args.value c.args.now _ _ (ap (λ (s : Settings _ _). s.max_capacity) stands.settings) (ap (λ (b : Books _ _). b.next_number) stands.books) (sym c.wants_number.ensures ∙ c.if-wants_number.true) in
      finish-full eq given steps (turn_name c.args.turn) (outcomes.Op (Put c.args.value)) c.args.now c.requires.fits g.V.Clone.is_clone g.V.Clone.is_infallible t.0 t.1 full;
  stands = tt;
  given = tt;
  refused = refl;
  turn_back = refl;
  outcome_back = refl;
  settings = refl;
})

pub returns-in_default : goal.returns-in_default
returns-in_default g c = rw c.refusal-in_default.ensures (record {
  reply = λ given steps stands.
      let eq = g.K.PartialEq.eq in
      let t = taken _ _ (c.requires.is_open.in_history given steps stands) in
      let left = write-left eq given steps (turn_name c.args.turn).key c.args.value c.args.now _ _ (ap (λ (s : Settings _ _). s.max_capacity) stands.settings) (ap (λ (b : Books _ _). b.next_number) stands.books) (sym c.wants_number.ensures ∙ c.if-wants_number.false) in
      finish-memory eq given steps (turn_name c.args.turn) (outcomes.Op (Put c.args.value)) c.args.now c.requires.fits g.V.Clone.is_clone g.V.Clone.is_infallible t.0 t.1 tt (λ out. left out);
  stands = tt;
  given = tt;
  refused = refl;
  turn_back = refl;
  outcome_back = refl;
  settings = refl;
})

pub finish_computed-key-requires : goal.finish_computed-key-requires
finish_computed-key-requires g c =
    let s = c.self.inside in
    let eq = g.K.PartialEq.eq in
    let laws = g.met.K.Eq.laws in
    let hash_of = hash_by g.C.Hasher.BuildHasher.build_hasher g.C.Hasher.Hasher.Hasher.write g.C.Hasher.Hasher.Hasher.finish g.K.Hash.hash_input s.behaviour.hasher in
    let alike = hash-alike g.C.Hasher.BuildHasher.build_hasher g.C.Hasher.Hasher.Hasher.write g.C.Hasher.Hasher.Hasher.finish s.behaviour.hasher g.met.K.Hash.respects_eq in
    let settings = ap (λ (x : StateData _ _ _ _ _ _ _). x.settings) c.self.view_is ∙ c.in-Ok-write_for.ensures.settings in
    let hashed = c.requires.hash ∙ ap (λ (d : SettingsData _ _ _). hash_by g.C.Hasher.BuildHasher.build_hasher g.C.Hasher.Hasher.Hasher.write g.C.Hasher.Hasher.Hasher.finish g.K.Hash.hash_input d.behaviour.hasher (arc_value c.args.turn.key.key)) (sym settings) in
    let rows = ap (λ (x : StateData _ _ _ _ _ _ _). x.turns) c.self.view_is ∙ c.in-Ok-write_for.ensures.turns in
    stored-entry eq laws g.V.Clone.is_clone hash_of alike s.turns.opened.entries s.turns.ended.entries c.args.turn hashed (subst (IsStored eq c.args.turn) (sym rows) c.requires.is_open.stored)

pub write_for-requires-clause-hash : goal.write_for-requires-clause-hash
write_for-requires-clause-hash g c = c.requires.found ∙ c.requires.hash

pub returns-in-Ok-write_for : goal.returns-in-Ok-write_for
returns-in-Ok-write_for g c = record {
  reply = λ given steps stands.
      let s = c.self.inside in
      let eq = g.K.PartialEq.eq in
      let laws = g.met.K.Eq.laws in
      let hash_of = hash_by g.C.Hasher.BuildHasher.build_hasher g.C.Hasher.Hasher.Hasher.write g.C.Hasher.Hasher.Hasher.finish g.K.Hash.hash_input s.behaviour.hasher in
      let alike = hash-alike g.C.Hasher.BuildHasher.build_hasher g.C.Hasher.Hasher.Hasher.write g.C.Hasher.Hasher.Hasher.finish s.behaviour.hasher g.met.K.Hash.respects_eq in
      let settings = ap (λ (x : StateData _ _ _ _ _ _ _). x.settings) c.self.view_is ∙ c.in-Ok-write_for.ensures.settings in
      let hashed = c.requires.hash ∙ ap (λ (d : SettingsData _ _ _). hash_by g.C.Hasher.BuildHasher.build_hasher g.C.Hasher.Hasher.Hasher.write g.C.Hasher.Hasher.Hasher.finish g.K.Hash.hash_input d.behaviour.hasher (arc_value c.args.turn.key.key)) (sym settings) in
      let before = stands in
      let there = rw (← c.self.view_is) at (c.in-Ok-write_for.ensures.stands given steps before) in
      let keeps = table-keeps eq laws g.V.Clone.is_clone hash_of alike s.turns.opened.entries s.turns.ended.entries (turns steps) there.turns in
      let sound = sound-turns eq laws given steps before.legal in
      let t = taken _ _ (c.requires.is_open.in_history given steps stands) in
      let left = write-left eq given steps (turn_name c.args.turn).key c.args.value c.args.now _ _ (ap (λ (s : Settings _ _). s.max_capacity) stands.settings) (ap (λ (b : Books _ _). b.next_number) stands.books) (sym c.wants_number.ensures ∙ c.if-wants_number.false) in
      let ends = given-there _ _ t.0 t.1 (c.finish_computed-key.ensures.finishes hash_of (turns steps) alike hashed sound keeps) in
      finish-given eq given steps (turn_name c.args.turn) (outcomes.Op (Put c.args.value)) c.args.now c.requires.fits g.V.Clone.is_clone g.V.Clone.is_infallible t.0 t.1 _
      (put-answer g.V.Clone.is_clone _ c.args.value c.in-Ok.reply c.in-Ok.ensures.cases _ (turn_name c.args.turn) (ap arc_value c.finish_computed-key.ensures.key) t.0.shown c.finish_computed-key.result.1.shown ends.0 c.put_result.result c.put_result.ensures) (λ out. left out);
  stands = λ given steps stands.
      let s = c.self.inside in
      let eq = g.K.PartialEq.eq in
      let laws = g.met.K.Eq.laws in
      let hash_of = hash_by g.C.Hasher.BuildHasher.build_hasher g.C.Hasher.Hasher.Hasher.write g.C.Hasher.Hasher.Hasher.finish g.K.Hash.hash_input s.behaviour.hasher in
      let alike = hash-alike g.C.Hasher.BuildHasher.build_hasher g.C.Hasher.Hasher.Hasher.write g.C.Hasher.Hasher.Hasher.finish s.behaviour.hasher g.met.K.Hash.respects_eq in
      let settings = ap (λ (x : StateData _ _ _ _ _ _ _). x.settings) c.self.view_is ∙ c.in-Ok-write_for.ensures.settings in
      let hashed = c.requires.hash ∙ ap (λ (d : SettingsData _ _ _). hash_by g.C.Hasher.BuildHasher.build_hasher g.C.Hasher.Hasher.Hasher.write g.C.Hasher.Hasher.Hasher.finish g.K.Hash.hash_input d.behaviour.hasher (arc_value c.args.turn.key.key)) (sym settings) in
      let before = stands in
      let there = rw (← c.self.view_is) at (c.in-Ok-write_for.ensures.stands given steps before) in
      let keeps = table-keeps eq laws g.V.Clone.is_clone hash_of alike s.turns.opened.entries s.turns.ended.entries (turns steps) there.turns in
      let sound = sound-turns eq laws given steps before.legal in
      let t = taken _ _ (c.requires.is_open.in_history given steps stands) in
      let ends = given-there _ _ t.0 t.1 (c.finish_computed-key.ensures.finishes hash_of (turns steps) alike hashed sound keeps) in
      finish-stands eq given steps (turn_name c.args.turn) (outcomes.Op (Put c.args.value)) c.args.now c.requires.fits _ _ _ before t.0 t.1 _
      (view-of eq given _ (after eq given (Insert (turn_name c.args.turn).key c.args.value c.args.now) steps) there)
      (table-holds eq laws g.V.Clone.is_clone hash_of alike _ _ _ ends.2);
  given = put-given g.V.Clone.is_clone _ c.args.value c.in-Ok.reply c.in-Ok.ensures.cases (turn_name c.args.turn).key (ap arc_value c.finish_computed-key.ensures.key) c.finish_computed-key.result.1.shown c.put_result.result c.put_result.ensures;
  refused = tt;
  turn_back = tt;
  outcome_back = tt;
  settings = ap (λ (x : StateData _ _ _ _ _ _ _). x.settings) c.self.view_is ∙ c.in-Ok-write_for.ensures.settings;
}

pub returns-in-Err : goal.returns-in-Err
returns-in-Err g c = rw c.refusal-in-Err.ensures (record {
  reply = λ given steps stands.
      let eq = g.K.PartialEq.eq in
      let t = taken _ _ (c.requires.is_open.in_history given steps stands) in
      let left = write-left eq given steps (turn_name c.args.turn).key c.args.value c.args.now _ _ (ap (λ (s : Settings _ _). s.max_capacity) stands.settings) (ap (λ (b : Books _ _). b.next_number) stands.books) (sym c.wants_number.ensures ∙ c.if-wants_number.false) in
      finish-memory eq given steps (turn_name c.args.turn) (outcomes.Op (Put c.args.value)) c.args.now c.requires.fits g.V.Clone.is_clone g.V.Clone.is_infallible t.0 t.1 tt (λ out. left out);
  stands = tt;
  given = tt;
  refused = c.self.view_is ∙ c.in-Err.ensures.refused;
  turn_back = refl;
  outcome_back = ap (λ v. let it : Outcome _ _ = outcomes.Op (Put v) in it) c.in-Err.ensures.value_back;
  settings = ap (λ (x : StateData _ _ _ _ _ _ _). x.settings) c.self.view_is ∙ c.in-Err.ensures.settings;
})
