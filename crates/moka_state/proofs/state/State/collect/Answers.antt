use Rattle.std.proofs.Common.{◌≡◌, refl, sym, ap, ◌∙◌, subst}
use Rattle.std.specs.Prelude.{Ok, Err}
use Rattle.moka_model.specs.Turns.{Name}
use Rattle.moka_model.specs.Steps.{turns}
use Rattle.moka_model.specs.Calls.{Collect}
use Rattle.moka_expiration.specs.Behaviour.{hash_by}
use Rattle.moka_turns.specs.Handles.{ticket_name}
use Rattle.moka_turns.proofs.Views.{table-keeps, table-holds}
use Rattle.moka_state.specs.Given.{Gives}
use Rattle.moka_state.proofs.Collects.{unspent-named, collect-gives, collect-stands}
use Rattle.moka_state.proofs.Turns.{sound-turns, same-turns}
use Rattle.moka_state.proofs.state.State.collect.Goals as goal

pub returns-in-Err-clause-reply : goal.returns-in-Err-clause-reply
returns-in-Err-clause-reply g c given steps stands =
    let s = c.self.inside in
    let eq = g.K.PartialEq.eq in
    let laws = g.met.K.Eq.laws in
    let name = c.with_hash.ensures.name in
    let hash_of = hash_by g.C.Hasher.BuildHasher.build_hasher g.C.Hasher.Hasher.Hasher.write g.C.Hasher.Hasher.Hasher.finish g.K.Hash.hash_input s.behaviour.hasher in
    let hashed = c.with_hash.ensures.hash ∙ c.hash-hash.ensures.hash ∙ ap hash_of (c.key.ensures ∙ sym (ap (λ (n : Name g.row.K.Denot). n.key) name)) in
    let there = rw (← c.self.view_is) at stands in
    let keeps = table-keeps eq laws g.V.Clone.is_clone hash_of c.hash-hash.ensures.alike s.turns.opened.entries s.turns.ended.entries (turns steps) there.turns in
    let it = c.collect.ensures.collects hash_of (turns steps) c.hash-hash.ensures.alike hashed (sound-turns eq laws given steps stands.legal) keeps g.met.C.CacheTypes.copies_compose in
    let gives = collect-gives eq g.V.Clone.is_clone g.V.Clone.is_infallible given steps (ticket_name c.with_hash.result) _ _ refl c.collect.result it in
    subst (λ n. Gives eq g.V.Clone.is_clone g.V.Clone.is_infallible given steps (Collect n) (Err c.in-Err.refused.cause)) name (rw c.in-Err.is at gives)

pub returns-clause-reply : goal.returns-clause-reply
returns-clause-reply g c given steps stands =
    let s = c.self.inside in
    let eq = g.K.PartialEq.eq in
    let laws = g.met.K.Eq.laws in
    let name = c.with_hash.ensures.name in
    let hash_of = hash_by g.C.Hasher.BuildHasher.build_hasher g.C.Hasher.Hasher.Hasher.write g.C.Hasher.Hasher.Hasher.finish g.K.Hash.hash_input s.behaviour.hasher in
    let hashed = c.with_hash.ensures.hash ∙ c.hash-hash.ensures.hash ∙ ap hash_of (c.key.ensures ∙ sym (ap (λ (n : Name g.row.K.Denot). n.key) name)) in
    let there = rw (← c.self.view_is) at stands in
    let keeps = table-keeps eq laws g.V.Clone.is_clone hash_of c.hash-hash.ensures.alike s.turns.opened.entries s.turns.ended.entries (turns steps) there.turns in
    let it = c.collect.ensures.collects hash_of (turns steps) c.hash-hash.ensures.alike hashed (sound-turns eq laws given steps stands.legal) keeps g.met.C.CacheTypes.copies_compose in
    let gives = rw c.in-Ok.is at (collect-gives eq g.V.Clone.is_clone g.V.Clone.is_infallible given steps (ticket_name c.with_hash.result) _ _ refl c.collect.result it) in
    rw (← name) (subst (λ a. Gives eq g.V.Clone.is_clone g.V.Clone.is_infallible given steps (Collect (ticket_name c.with_hash.result)) (Ok a)) (sym (c.into_collected.ensures.reply (ticket_name c.with_hash.result) c.in-Ok.ensures.key)) gives)

pub returns-clause-stands : goal.returns-clause-stands
returns-clause-stands g c given steps stands =
    let s = c.self.inside in
    let eq = g.K.PartialEq.eq in
    let laws = g.met.K.Eq.laws in
    let name = c.with_hash.ensures.name in
    let hash_of = hash_by g.C.Hasher.BuildHasher.build_hasher g.C.Hasher.Hasher.Hasher.write g.C.Hasher.Hasher.Hasher.finish g.K.Hash.hash_input s.behaviour.hasher in
    let hashed = c.with_hash.ensures.hash ∙ c.hash-hash.ensures.hash ∙ ap hash_of (c.key.ensures ∙ sym (ap (λ (n : Name g.row.K.Denot). n.key) name)) in
    let there = rw (← c.self.view_is) at stands in
    let keeps = table-keeps eq laws g.V.Clone.is_clone hash_of c.hash-hash.ensures.alike s.turns.opened.entries s.turns.ended.entries (turns steps) there.turns in
    let it = c.collect.ensures.collects hash_of (turns steps) c.hash-hash.ensures.alike hashed (sound-turns eq laws given steps stands.legal) keeps g.met.C.CacheTypes.copies_compose in
    rw (← name) (rw c.in-Ok.is at (collect-stands eq given _ _ _ steps there (ticket_name c.with_hash.result) _
    (λ ts. table-holds eq laws g.V.Clone.is_clone hash_of c.hash-hash.ensures.alike c.collect.new.self.opened.entries c.collect.new.self.ended.entries ts) g.V.Clone.is_infallible _ refl c.collect.result it
    (λ unspent. same-turns hash_of _ _ _ _ (c.collect.ensures.unchanged unspent).0 (c.collect.ensures.unchanged unspent).1)))

pub returns-clause-unspent : goal.returns-clause-unspent
returns-clause-unspent g c = rw (← c.with_hash.ensures.name) (c.into_collected.ensures.unspent (ticket_name c.with_hash.result) (unspent-named c.with_hash.result c.in-Ok.found c.in-Ok.ensures.unspent))
