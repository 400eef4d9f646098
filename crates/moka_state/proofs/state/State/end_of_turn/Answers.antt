use Rattle.std.proofs.Common.{sym, ap, ◌∙◌}
use Rattle.moka_model.specs.Steps.{turns}
use Rattle.moka_expiration.specs.Behaviour.{hash_by}
use Rattle.moka_turns.proofs.Views.{table-keeps}
use Rattle.moka_state.proofs.Replied.{IfOk-by}
use Rattle.moka_state.proofs.Turns.{sound-turns}
use Rattle.moka_state.proofs.state.State.end_of_turn.Goals as goal

pub returns : goal.returns
returns g c = IfOk-by c.copy_end.result (λ copy copied given steps stands.
    let s = c.self.inside in
    let eq = g.K.PartialEq.eq in
    let laws = g.met.K.Eq.laws in
    let hash_of = hash_by g.C.Hasher.BuildHasher.build_hasher g.C.Hasher.Hasher.Hasher.write g.C.Hasher.Hasher.Hasher.finish g.K.Hash.hash_input s.behaviour.hasher in
    let there = rw (← c.self.view_is) at stands in
    let keeps = table-keeps eq laws g.V.Clone.is_clone hash_of c.hash-hash.ensures.alike s.turns.opened.entries s.turns.ended.entries (turns steps) there.turns in
    let hashed = c.hash-hash.ensures.hash ∙ ap hash_of (c.deref.ensures ∙ sym c.in_ok-key.ensures.cases) in
    rw c.in_ok-key.ensures.cases at (copied hash_of (turns steps) c.hash-hash.ensures.alike hashed (sound-turns eq laws given steps stands.legal) keeps g.met.C.CacheTypes.copies_compose)) c.copy_end.ensures
