use Rattle.std.proofs.Common.{refl, sym, ap, ◌∙◌}
use Rattle.moka_model.specs.Steps.{turns}
use Rattle.moka_expiration.specs.Behaviour.{hash_by}
use Rattle.moka_model.specs.declared.turns.Kind.TheVariants.{Compute}
use Rattle.moka_turns.specs.declared.turn_key.TurnKey.{TurnKey}
use Rattle.moka_turns.proofs.Abandons.{the_turn}
use Rattle.moka_turns.proofs.Views.{table-keeps}
use Rattle.moka_state.proofs.Turns.{sound-turns}
use Rattle.moka_state.proofs.state.State.is_computed.Goals as goal

pub returns-in-Some : goal.returns-in-Some
returns-in-Some g c is given steps stands =
    let s = c.self.inside in
    let eq = g.K.PartialEq.eq in
    let laws = g.met.K.Eq.laws in
    let hash_of = hash_by g.C.Hasher.BuildHasher.build_hasher g.C.Hasher.Hasher.Hasher.write g.C.Hasher.Hasher.Hasher.finish g.K.Hash.hash_input s.behaviour.hasher in
    let there = rw (← c.self.view_is) at stands in
    let keeps = table-keeps eq laws g.V.Clone.is_clone hash_of c.hash-hash.ensures.alike s.turns.opened.entries s.turns.ended.entries (turns steps) there.turns in
    let hashed = c.hash-hash.ensures.hash ∙ ap hash_of (c.deref.ensures ∙ sym c.in-Ok.ensures.cases) in
    let q : TurnKey g.row.K.Denot = record { hash = c.hash-hash.result; kind = Compute; key = c.in-Ok.own } in
    let t = the_turn eq laws g.V.Clone.is_clone hash_of c.hash-hash.ensures.alike (turns steps) (sound-turns eq laws given steps stands.legal) _ _ keeps q hashed _ (sym (rw c.in-Some.is at c.find.ensures)) in
    rw (← c.in-Ok.ensures.cases) (rw t.1 refl)
