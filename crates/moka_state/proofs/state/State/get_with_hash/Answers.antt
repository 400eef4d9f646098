use Rattle.std.proofs.Common.{◌≡◌, true, None, [], ◌∷◌, ◌∙◌, sym, refl, ap, arith}
use Rattle.std.specs.Arc.{arc_value}
use Rattle.moka_model.specs.Events.{Looked}
use Rattle.moka_model.specs.Steps.{events_in}
use Rattle.moka_model.specs.Calls.{Get}
use Rattle.moka_model.proofs.Callers.{view-of, stands-after}
use Rattle.moka_expiration.specs.Behaviour.{hash_by}
use Rattle.moka_table.proofs.Callers.{of-row, one-found, same-row-value}
use Rattle.moka_state.proofs.Alike.{hash-alike}
use Rattle.moka_state.proofs.Becoming.{estimates-noted}
use Rattle.moka_state.proofs.Begins.{looks-in-vain}
use Rattle.moka_state.proofs.Finds.{found-live, found-hit, found-none}
use Rattle.moka_state.proofs.Held.{same-key}
use Rattle.moka_state.proofs.LiveReads.{if-some-at, in-any-case}
use Rattle.moka_state.proofs.Sound.{IsSound-touched}
use Rattle.moka_state.proofs.Views.{view-becomes}
use Rattle.moka_state.proofs.state.State.get_with_hash.Goals as goal

pub returns-in_default-clause-ends : goal.returns-in_default-clause-ends
returns-in_default-clause-ends g c = record {
  reply = λ given steps stands.
      let s = c.self.inside in
      let eq = g.K.PartialEq.eq in
      let laws = g.met.K.Eq.laws in
      let key = c.args.key.now in
      let hash_of = hash_by g.C.Hasher.BuildHasher.build_hasher g.C.Hasher.Hasher.Hasher.write g.C.Hasher.Hasher.Hasher.finish g.K.Hash.hash_input s.behaviour.hasher in
      let alike = hash-alike g.C.Hasher.BuildHasher.build_hasher g.C.Hasher.Hasher.Hasher.write g.C.Hasher.Hasher.Hasher.finish s.behaviour.hasher g.met.K.Hash.respects_eq in
      let hash = rw (← c.self.view_is) at c.requires.hash in
      let there = rw (← c.self.view_is) at stands in
      let none = found-none eq laws _ s.table _ s.latest s.next_number given steps there s.housekeeper.lives refl c.self.invariant.0.dated hash_of alike c.self.invariant.0.hashed key c.args.now c.args.hash hash (omega (arith, c.max-now.ensures)) (rw c.max-now.ensures at c.in_default.ensures) in
      rw none tt;
  stands = λ given steps stands.
      let s = c.self.inside in
      let eq = g.K.PartialEq.eq in
      let laws = g.met.K.Eq.laws in
      let key = c.args.key.now in
      let hash_of = hash_by g.C.Hasher.BuildHasher.build_hasher g.C.Hasher.Hasher.Hasher.write g.C.Hasher.Hasher.Hasher.finish g.K.Hash.hash_input s.behaviour.hasher in
      let alike = hash-alike g.C.Hasher.BuildHasher.build_hasher g.C.Hasher.Hasher.Hasher.write g.C.Hasher.Hasher.Hasher.finish s.behaviour.hasher g.met.K.Hash.respects_eq in
      let hash = rw (← c.self.view_is) at c.requires.hash in
      let there = rw (← c.self.view_is) at stands in
      let none = found-none eq laws _ s.table _ s.latest s.next_number given steps there s.housekeeper.lives refl c.self.invariant.0.dated hash_of alike c.self.invariant.0.hashed key c.args.now c.args.hash hash (omega (arith, c.max-now.ensures)) (rw c.max-now.ensures at c.in_default.ensures) in
      let notes = estimates-noted g.C.Frequency.FrequencySource.noted g.C.Frequency.FrequencySource.count s.housekeeper.source c.note.new.self c.args.hash _ c.note.ensures hash in
      rw c.max-now.ensures (stands-after eq given _ steps there (Get key c.args.now) _ (Looked key c.args.now ∷ []) refl
      (view-becomes eq laws given _ _ (events_in steps) (Looked key c.args.now) (view-of eq given _ steps there)
      (looks-in-vain eq laws _ s.table _ s.latest s.next_number given steps there None key c.args.now none _ notes)));
  refused = tt;
  cause = tt;
  miss = λ given steps stands none. refl;
  copied = λ given steps stands. in-any-case g.V.Clone.is_infallible _ (true ≡ true) refl;
}

pub returns-in_default-clone-clause-ends : goal.returns-in_default-clone-clause-ends
returns-in_default-clone-clause-ends g c = record {
  reply = tt;
  stands = tt;
  refused = rw (← c.self.view_is) refl;
  cause = refl;
  miss = λ given steps stands nothing.
      let s = c.self.inside in
      let eq = g.K.PartialEq.eq in
      let laws = g.met.K.Eq.laws in
      let key = c.args.key.now in
      let hash_of = hash_by g.C.Hasher.BuildHasher.build_hasher g.C.Hasher.Hasher.Hasher.write g.C.Hasher.Hasher.Hasher.finish g.K.Hash.hash_input s.behaviour.hasher in
      let alike = hash-alike g.C.Hasher.BuildHasher.build_hasher g.C.Hasher.Hasher.Hasher.write g.C.Hasher.Hasher.Hasher.finish s.behaviour.hasher g.met.K.Hash.respects_eq in
      let hash = rw (← c.self.view_is) at c.requires.hash in
      let there = rw (← c.self.view_is) at stands in
      let it = found-live eq laws _ s.table _ s.latest s.next_number given steps there s.housekeeper.lives refl c.self.invariant.0.dated hash_of alike c.self.invariant.0.hashed key c.args.now c.args.hash hash (omega (arith, c.max-now.ensures)) c.in-Some.number (rw c.max-now.ensures at c.in-Some.ensures) in
      let found = sym it ∙ nothing in
      cc;
  copied = λ given steps stands.
      let s = c.self.inside in
      let eq = g.K.PartialEq.eq in
      let laws = g.met.K.Eq.laws in
      let key = c.args.key.now in
      let hash_of = hash_by g.C.Hasher.BuildHasher.build_hasher g.C.Hasher.Hasher.Hasher.write g.C.Hasher.Hasher.Hasher.finish g.K.Hash.hash_input s.behaviour.hasher in
      let alike = hash-alike g.C.Hasher.BuildHasher.build_hasher g.C.Hasher.Hasher.Hasher.write g.C.Hasher.Hasher.Hasher.finish s.behaviour.hasher g.met.K.Hash.respects_eq in
      let hash = rw (← c.self.view_is) at c.requires.hash in
      let there = rw (← c.self.view_is) at stands in
      let it = found-live eq laws _ s.table _ s.latest s.next_number given steps there s.housekeeper.lives refl c.self.invariant.0.dated hash_of alike c.self.invariant.0.hashed key c.args.now c.args.hash hash (omega (arith, c.max-now.ensures)) c.in-Some.number (rw c.max-now.ensures at c.in-Some.ensures) in
      let some = rw c.max-now.ensures at c.in-Some.ensures in
      let fails = rw (same-row-value _ _ (c.row-2.view_is ∙ one-found _ c.row.result some.0 c.row.ensures some.1)) at c.in_default-clone.ensures.cases in
      if-some-at _ _ _ it (λ fine. absurd (fails fine));
}

pub invariant_of-self-2 : goal.invariant_of-self-2
invariant_of-self-2 g c =
    let s = c.self.inside in
    let found = c.in-Some.ensures in
    let used = rw found.1 at c.hit.ensures.used in
    rw c.hit.ensures.lives (IsSound-touched _ _ s.housekeeper.lives s.table c.hit.new.table c.self.invariant.0 c.in-Some.number found.0 used.0 found.1 used.2 c.hit.ensures.notices used.1.dated, c.self.invariant.1)

pub returns-clause-ends : goal.returns-clause-ends
returns-clause-ends g c = record {
  reply = λ given steps stands.
      let s = c.self.inside in
      let eq = g.K.PartialEq.eq in
      let laws = g.met.K.Eq.laws in
      let key = c.args.key.now in
      let hash_of = hash_by g.C.Hasher.BuildHasher.build_hasher g.C.Hasher.Hasher.Hasher.write g.C.Hasher.Hasher.Hasher.finish g.K.Hash.hash_input s.behaviour.hasher in
      let alike = hash-alike g.C.Hasher.BuildHasher.build_hasher g.C.Hasher.Hasher.Hasher.write g.C.Hasher.Hasher.Hasher.finish s.behaviour.hasher g.met.K.Hash.respects_eq in
      let hash = rw (← c.self.view_is) at c.requires.hash in
      let there = rw (← c.self.view_is) at stands in
      let it = found-live eq laws _ s.table _ s.latest s.next_number given steps there s.housekeeper.lives refl c.self.invariant.0.dated hash_of alike c.self.invariant.0.hashed key c.args.now c.args.hash hash (omega (arith, c.max-now.ensures)) c.in-Some.number (rw c.max-now.ensures at c.in-Some.ensures) in
      let some = rw c.max-now.ensures at c.in-Some.ensures in
      let copied = rw (same-row-value _ _ (c.row-2.view_is ∙ one-found _ c.row.result some.0 c.row.ensures some.1)) at c.in-Ok.ensures.cases in
      rw it copied;
  stands = λ given steps stands.
      let s = c.self.inside in
      let eq = g.K.PartialEq.eq in
      let laws = g.met.K.Eq.laws in
      let key = c.args.key.now in
      let hash_of = hash_by g.C.Hasher.BuildHasher.build_hasher g.C.Hasher.Hasher.Hasher.write g.C.Hasher.Hasher.Hasher.finish g.K.Hash.hash_input s.behaviour.hasher in
      let alike = hash-alike g.C.Hasher.BuildHasher.build_hasher g.C.Hasher.Hasher.Hasher.write g.C.Hasher.Hasher.Hasher.finish s.behaviour.hasher g.met.K.Hash.respects_eq in
      let hash = rw (← c.self.view_is) at c.requires.hash in
      let there = rw (← c.self.view_is) at stands in
      let notes = estimates-noted g.C.Frequency.FrequencySource.noted g.C.Frequency.FrequencySource.count s.housekeeper.source c.hit.new.self.source c.args.hash _ c.hit.ensures.noted hash in
      let becomes = found-hit eq laws _ s.table _ s.latest s.next_number given steps there s.housekeeper.lives refl c.self.invariant.0.dated hash_of alike c.self.invariant.0.hashed key c.args.now c.args.hash hash (omega (arith, c.max-now.ensures)) c.in-Some.number c.hit.new.table (rw c.max-now.ensures at c.in-Some.ensures) (rw c.max-now.ensures at c.hit.ensures.used) c.hit.ensures.notices _ notes in
      rw (c.hit.ensures.lives, c.hit.ensures.max_capacity, c.max-now.ensures) (stands-after eq given _ steps there (Get key c.args.now) _ (Looked key c.args.now ∷ []) refl
      (view-becomes eq laws given _ _ (events_in steps) (Looked key c.args.now) (view-of eq given _ steps there) becomes));
  refused = tt;
  cause = tt;
  miss = λ given steps stands none. refl;
  copied = λ given steps stands. in-any-case g.V.Clone.is_infallible _ (true ≡ true) refl;
}

pub returns-clause-kept : goal.returns-clause-kept
returns-clause-kept g c =
    let row = c.in-Some.ensures.0 in
    let copied = rw (same-row-value _ _ (c.row-2.view_is ∙ one-found _ c.row.result row c.row.ensures c.in-Some.ensures.1)) at c.in-Ok.ensures.cases in
    let key = same-key g.K.PartialEq.eq c.args.key.now c.args.hash row c.in-Some.ensures.2 in
    let kept = of-row (λ r. g.C.CacheTypes.keeps (arc_value r.key) r.value) c.in-Some.number _ row c.self.invariant.0.kept c.in-Some.ensures.1 in
    g.met.C.CacheTypes.copies_keep c.args.key.now row.value c.in-Ok.value copied (g.met.C.CacheTypes.equal_keys_keep (arc_value row.key) c.args.key.now row.value key kept)
