use Rattle.std.proofs.Common.{refl, ◌∙◌}
use denote.RawPtr.{null_ptr}
use Rattle.moka_model.specs.Steps.{turns}
use Rattle.moka_expiration.specs.Behaviour.{hash_by}
use Rattle.moka_turns.specs.Represents.{IsOpenRow}
use Rattle.moka_turns.specs.declared.turn_key.TurnKey.{TurnKey}
use Rattle.moka_turns.proofs.Views.{table-keeps}
use Rattle.moka_state.proofs.Alike.{hash-alike}
use Rattle.moka_state.proofs.AtOnce.{agree-some}
use Rattle.moka_state.proofs.state.State.has_to_refuse.Goals as goal

pub returns : goal.returns
returns g c given steps stands =
    let s = c.self.inside in
    let eq = g.K.PartialEq.eq in
    let laws = g.met.K.Eq.laws in
    let hash_of = hash_by g.C.Hasher.BuildHasher.build_hasher g.C.Hasher.Hasher.Hasher.write g.C.Hasher.Hasher.Hasher.finish g.K.Hash.hash_input s.behaviour.hasher in
    let alike = hash-alike g.C.Hasher.BuildHasher.build_hasher g.C.Hasher.Hasher.Hasher.write g.C.Hasher.Hasher.Hasher.finish s.behaviour.hasher g.met.K.Hash.respects_eq in
    let hash = rw (← c.self.view_is) at c.requires in
    let there = rw (← c.self.view_is) at stands in
    let q : TurnKey g.row.K.Denot = record { hash = c.args.hash; kind = c.args.kind; key = record { ptr = null_ptr; value = c.args.key.now } } in
    let keeps = table-keeps eq laws g.V.Clone.is_clone hash_of alike s.turns.opened.entries s.turns.ended.entries (turns steps) there.turns in
    rw c.if-may_wait.false (c.has_open.ensures q (refl, refl, refl) ∙ agree-some (IsOpenRow eq g.V.Clone.is_clone) _ _ (keeps.opened_is q hash))
