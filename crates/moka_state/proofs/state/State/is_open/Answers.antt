use Rattle.std.proofs.Common.{◌≡◌, None, Some, refl, sym, ap, ◌∙◌}
use Rattle.moka_model.specs.Steps.{turns}
use Rattle.moka_expiration.specs.Behaviour.{hash_by}
use Rattle.moka_turns.specs.declared.turn_key.TurnKey.{TurnKey}
use Rattle.moka_turns.proofs.Abandons.{the_turn, known, unknown}
use Rattle.moka_turns.proofs.Begins.{same-there}
use Rattle.moka_turns.proofs.Views.{table-keeps}
use Rattle.moka_state.proofs.Turns.{sound-turns}
use Rattle.moka_state.proofs.state.State.is_open.Goals as goal

pub returns-in_default : goal.returns-in_default
returns-in_default g c given steps stands =
    let s = c.self.inside in
    let eq = g.K.PartialEq.eq in
    let laws = g.met.K.Eq.laws in
    let hash_of = hash_by g.C.Hasher.BuildHasher.build_hasher g.C.Hasher.Hasher.Hasher.write g.C.Hasher.Hasher.Hasher.finish g.K.Hash.hash_input s.behaviour.hasher in
    let there = rw (← c.self.view_is) at stands in
    let keeps = table-keeps eq laws g.V.Clone.is_clone hash_of c.hash-hash.ensures.alike s.turns.opened.entries s.turns.ended.entries (turns steps) there.turns in
    let hashed = c.hash-hash.ensures.hash ∙ ap hash_of c.deref.ensures in
    let sound = sound-turns eq laws given steps stands.legal in
    let q : TurnKey g.row.K.Denot = record { hash = c.hash-hash.result; kind = c.args.name.kind; key = c.args.name.key } in
    let none = rw c.in_default.is at c.find.ensures in
    rw (unknown eq g.V.Clone.is_clone hash_of (turns steps) sound _ _ keeps q hashed c.args.name.number (λ row there same. let off : None ≡ Some row = none ∙ there in cc)) refl

pub returns-then-row-number : goal.returns-then-row-number
returns-then-row-number g c given steps stands =
    let s = c.self.inside in
    let eq = g.K.PartialEq.eq in
    let laws = g.met.K.Eq.laws in
    let hash_of = hash_by g.C.Hasher.BuildHasher.build_hasher g.C.Hasher.Hasher.Hasher.write g.C.Hasher.Hasher.Hasher.finish g.K.Hash.hash_input s.behaviour.hasher in
    let there = rw (← c.self.view_is) at stands in
    let keeps = table-keeps eq laws g.V.Clone.is_clone hash_of c.hash-hash.ensures.alike s.turns.opened.entries s.turns.ended.entries (turns steps) there.turns in
    let hashed = c.hash-hash.ensures.hash ∙ ap hash_of c.deref.ensures in
    let sound = sound-turns eq laws given steps stands.legal in
    let q : TurnKey g.row.K.Denot = record { hash = c.hash-hash.result; kind = c.args.name.kind; key = c.args.name.key } in
    rw (unknown eq g.V.Clone.is_clone hash_of (turns steps) sound _ _ keeps q hashed c.args.name.number (λ row there same. c.if-row-number.true (same-there _ _ row (sym c.in-Some.ensures) there ∙ same))) refl

pub returns : goal.returns
returns g c given steps stands =
    let s = c.self.inside in
    let eq = g.K.PartialEq.eq in
    let laws = g.met.K.Eq.laws in
    let hash_of = hash_by g.C.Hasher.BuildHasher.build_hasher g.C.Hasher.Hasher.Hasher.write g.C.Hasher.Hasher.Hasher.finish g.K.Hash.hash_input s.behaviour.hasher in
    let there = rw (← c.self.view_is) at stands in
    let keeps = table-keeps eq laws g.V.Clone.is_clone hash_of c.hash-hash.ensures.alike s.turns.opened.entries s.turns.ended.entries (turns steps) there.turns in
    let hashed = c.hash-hash.ensures.hash ∙ ap hash_of c.deref.ensures in
    let sound = sound-turns eq laws given steps stands.legal in
    let q : TurnKey g.row.K.Denot = record { hash = c.hash-hash.result; kind = c.args.name.kind; key = c.args.name.key } in
    let turn = the_turn eq laws g.V.Clone.is_clone hash_of c.hash-hash.ensures.alike (turns steps) sound _ _ keeps q hashed c.in-Some.row.now (sym c.in-Some.ensures) in
    rw (known eq g.V.Clone.is_clone hash_of (turns steps) sound _ _ keeps q hashed c.args.name.number turn.0 turn.1 (sym turn.2.number ∙ c.if-row-number.false)) refl
