use Rattle.std.proofs.Common.{refl, sym, ap, ◌∙◌}
use Rattle.moka_model.specs.Turns.{Name}
use Rattle.moka_model.specs.Steps.{turns}
use Rattle.moka_expiration.specs.Behaviour.{hash_by}
use Rattle.moka_turns.proofs.Views.{table-keeps}
use Rattle.moka_state.proofs.Alike.{hash-alike}
use Rattle.moka_state.proofs.Finishes.{entry-stored, told-open, closed-told}
use Rattle.moka_state.proofs.Turns.{sound-turns}
use Rattle.moka_state.proofs.state.State.resume.Goals as goal

pub returns-in-Some-clause-hash : goal.returns-in-Some-clause-hash
returns-in-Some-clause-hash g c = c.with_hash-turn.ensures.hash ∙ (rw (← ap (λ (n : Name g.row.K.Denot). n.key) c.with_hash-turn.ensures.name) at (rw c.key.ensures at c.hash-hash.ensures))

pub returns-in-Some-clause-found : goal.returns-in-Some-clause-found
returns-in-Some-clause-found g c = sym c.with_hash-turn.ensures.hash

pub returns-in-Some-clause-is_open : goal.returns-in-Some-clause-is_open
returns-in-Some-clause-is_open g c = record {
  stored =
      let s = c.self.inside in
      let eq = g.K.PartialEq.eq in
      let laws = g.met.K.Eq.laws in
      let hash_of = hash_by g.C.Hasher.BuildHasher.build_hasher g.C.Hasher.Hasher.Hasher.write g.C.Hasher.Hasher.Hasher.finish g.K.Hash.hash_input s.behaviour.hasher in
      let alike = hash-alike g.C.Hasher.BuildHasher.build_hasher g.C.Hasher.Hasher.Hasher.write g.C.Hasher.Hasher.Hasher.finish s.behaviour.hasher g.met.K.Hash.respects_eq in
      let hashed = c.with_hash-turn.ensures.hash ∙ (rw (c.key.ensures, ← c.self.view_is) at c.hash-hash.ensures) ∙ ap hash_of (sym (ap (λ (n : Name g.row.K.Denot). n.key) c.with_hash-turn.ensures.name)) in
      rw (← c.self.view_is) (entry-stored eq laws g.V.Clone.is_clone hash_of alike s.turns.opened.entries s.turns.ended.entries c.with_hash-turn.result hashed c.in-Some.waiting c.in-Some.ensures.there).0;
  in_history = λ given steps stands.
      let s = c.self.inside in
      let eq = g.K.PartialEq.eq in
      let laws = g.met.K.Eq.laws in
      let hash_of = hash_by g.C.Hasher.BuildHasher.build_hasher g.C.Hasher.Hasher.Hasher.write g.C.Hasher.Hasher.Hasher.finish g.K.Hash.hash_input s.behaviour.hasher in
      let alike = hash-alike g.C.Hasher.BuildHasher.build_hasher g.C.Hasher.Hasher.Hasher.write g.C.Hasher.Hasher.Hasher.finish s.behaviour.hasher g.met.K.Hash.respects_eq in
      let hashed = c.with_hash-turn.ensures.hash ∙ (rw (c.key.ensures, ← c.self.view_is) at c.hash-hash.ensures) ∙ ap hash_of (sym (ap (λ (n : Name g.row.K.Denot). n.key) c.with_hash-turn.ensures.name)) in
      let there = rw (← c.self.view_is) at stands in
      let keeps = table-keeps eq laws g.V.Clone.is_clone hash_of alike s.turns.opened.entries s.turns.ended.entries (turns steps) there.turns in
      let sound = sound-turns eq laws given steps there.legal in
      told-open _ _ c.in-Some.waiting (c.in-Some.ensures.tells hash_of (turns steps) alike hashed sound keeps);
}

pub returns-in-Some-clause-awaited : goal.returns-in-Some-clause-awaited
returns-in-Some-clause-awaited g c =
    let s = c.self.inside in
    let eq = g.K.PartialEq.eq in
    let laws = g.met.K.Eq.laws in
    let hash_of = hash_by g.C.Hasher.BuildHasher.build_hasher g.C.Hasher.Hasher.Hasher.write g.C.Hasher.Hasher.Hasher.finish g.K.Hash.hash_input s.behaviour.hasher in
    let alike = hash-alike g.C.Hasher.BuildHasher.build_hasher g.C.Hasher.Hasher.Hasher.write g.C.Hasher.Hasher.Hasher.finish s.behaviour.hasher g.met.K.Hash.respects_eq in
    let hashed = c.with_hash-turn.ensures.hash ∙ (rw (c.key.ensures, ← c.self.view_is) at c.hash-hash.ensures) ∙ ap hash_of (sym (ap (λ (n : Name g.row.K.Denot). n.key) c.with_hash-turn.ensures.name)) in
    rw (← c.self.view_is) (entry-stored eq laws g.V.Clone.is_clone hash_of alike s.turns.opened.entries s.turns.ended.entries c.with_hash-turn.result hashed c.in-Some.waiting c.in-Some.ensures.there).1

pub returns-in-None-clause-unknown : goal.returns-in-None-clause-unknown
returns-in-None-clause-unknown g c = (
  c.with_hash-turn.ensures.name,
  λ given steps stands.
      let s = c.self.inside in
      let eq = g.K.PartialEq.eq in
      let laws = g.met.K.Eq.laws in
      let hash_of = hash_by g.C.Hasher.BuildHasher.build_hasher g.C.Hasher.Hasher.Hasher.write g.C.Hasher.Hasher.Hasher.finish g.K.Hash.hash_input s.behaviour.hasher in
      let alike = hash-alike g.C.Hasher.BuildHasher.build_hasher g.C.Hasher.Hasher.Hasher.write g.C.Hasher.Hasher.Hasher.finish s.behaviour.hasher g.met.K.Hash.respects_eq in
      let hashed = c.with_hash-turn.ensures.hash ∙ (rw (c.key.ensures, ← c.self.view_is) at c.hash-hash.ensures) ∙ ap hash_of (sym (ap (λ (n : Name g.row.K.Denot). n.key) c.with_hash-turn.ensures.name)) in
      let there = rw (← c.self.view_is) at stands in
      let keeps = table-keeps eq laws g.V.Clone.is_clone hash_of alike s.turns.opened.entries s.turns.ended.entries (turns steps) there.turns in
      let sound = sound-turns eq laws given steps there.legal in
      rw c.with_hash-turn.ensures.name at (closed-told _ _ _ (c.in-None.ensures.tells hash_of (turns steps) alike hashed sound keeps) refl),
)
