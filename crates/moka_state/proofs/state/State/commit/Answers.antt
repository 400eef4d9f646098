use Rattle.std.proofs.Common.{◌≡◌, Bool, true, false, subst, refl, arith}
use Rattle.moka_model.specs.Steps.{events_in}
use Rattle.moka_model.specs.Calls.{Insert, write_events}
use Rattle.moka_model.specs.StandsFor.{StandsFor}
use Rattle.moka_model.proofs.Callers.{whole, view-of, stands-after}
use Rattle.moka_expiration.specs.Behaviour.{hash_by}
use Rattle.moka_turns.specs.Views.{turns_of}
use Rattle.moka_state.proofs.Alike.{hash-alike}
use Rattle.moka_state.proofs.Becoming.{estimates-noted}
use Rattle.moka_state.proofs.Inserts.{same-view, view-written, replaced-written, sound-written}
use Rattle.moka_state.proofs.OrInserts.{or-stands, view-or-written}
use Rattle.moka_state.proofs.Sound.{IsSound-same}
use Rattle.moka_state.proofs.state.State.commit.Goals as goal

-- what holds if a flag is true, and if it is false
by-flag : {A : Type 0} (b : Bool) → (b ≡ true → A) → (b ≡ false → A) → A
by-flag true on off = on refl
by-flag false on off = off refl

pub invariant_of-self-2 : goal.invariant_of-self-2
invariant_of-self-2 g c =
    let s = c.self.inside in
    let sound = IsSound-same _ _ s.housekeeper.lives s.table c.plan_write.new.self c.in-Ok.ensures.same c.self.invariant.0 in (
      sound-written g.K.PartialEq.eq g.met.K.Eq.laws _ s.housekeeper.lives _ s.housekeeper.max_capacity s.flush_limit c.plan_write.new.self c.write-is_replaced.new.table sound g.met.C.CacheTypes.equal_keys_keep (g.S.IntoArc.key_of c.args.key) _ (rw (← c.self.view_is) at c.requires.hash) c.requires.kept
          c.in-Ok.plan c.write-is_replaced.result c.in-Ok.ensures.plan (c.write-is_replaced.ensures sound.dated),
      c.self.invariant.1,
    )

pub returns-clause-ends : goal.returns-clause-ends
returns-clause-ends g c = record {
  stands = by-flag c.args.is_noted
      (λ on. rw on (λ missing given steps stands.
      let s = c.self.inside in
      let eq = g.K.PartialEq.eq in
      let laws = g.met.K.Eq.laws in
      let key = g.S.IntoArc.key_of c.args.key in
      let rows = turns_of (hash_by g.C.Hasher.BuildHasher.build_hasher g.C.Hasher.Hasher.Hasher.write g.C.Hasher.Hasher.Hasher.finish g.K.Hash.hash_input s.behaviour.hasher) s.turns in
      let alike = hash-alike g.C.Hasher.BuildHasher.build_hasher g.C.Hasher.Hasher.Hasher.write g.C.Hasher.Hasher.Hasher.finish s.behaviour.hasher g.met.K.Hash.respects_eq in
      let hash = rw (← c.self.view_is) at c.requires.hash in
      let sound = IsSound-same _ _ s.housekeeper.lives s.table c.plan_write.new.self c.in-Ok.ensures.same c.self.invariant.0 in
      let same = subst (λ view. StandsFor eq g.V.Clone.is_clone given (whole view rows) steps) (same-view _ _ s.latest s.next_number s.table c.plan_write.new.self c.in-Ok.ensures.same) (rw (← c.self.view_is) at stands) in
      let note = rw on at c.note_if.ensures in
      let none = missing given steps stands in
      let notes = estimates-noted g.C.Frequency.FrequencySource.noted g.C.Frequency.FrequencySource.count s.housekeeper.source c.note_if.new.source c.args.hash _ note hash in
      let written = view-or-written eq laws _ c.plan_write.new.self _ _ s.latest s.next_number given steps same key c.args.now none notes s.housekeeper.lives refl c.write-is_replaced.new.table sound alike _ hash (rw c.key.ensures at c.weight-weight.ensures) c.max-now.ensures (omega (arith, c.max-now.ensures))
      c.in-Ok.plan c.write-is_replaced.result c.in-Ok.ensures.plan (c.write-is_replaced.ensures sound.dated) (rw (← c.self.view_is) at c.requires.stores) in
      rw c.max-now.ensures (or-stands eq g.V.Clone.is_clone g.V.Clone.is_infallible given steps key c.args.value c.args.now none _ rows same _ written)))
      (λ off. rw off (λ given steps stands.
      let s = c.self.inside in
      let eq = g.K.PartialEq.eq in
      let laws = g.met.K.Eq.laws in
      let key = g.S.IntoArc.key_of c.args.key in
      let rows = turns_of (hash_by g.C.Hasher.BuildHasher.build_hasher g.C.Hasher.Hasher.Hasher.write g.C.Hasher.Hasher.Hasher.finish g.K.Hash.hash_input s.behaviour.hasher) s.turns in
      let alike = hash-alike g.C.Hasher.BuildHasher.build_hasher g.C.Hasher.Hasher.Hasher.write g.C.Hasher.Hasher.Hasher.finish s.behaviour.hasher g.met.K.Hash.respects_eq in
      let hash = rw (← c.self.view_is) at c.requires.hash in
      let sound = IsSound-same _ _ s.housekeeper.lives s.table c.plan_write.new.self c.in-Ok.ensures.same c.self.invariant.0 in
      let same = subst (λ view. StandsFor eq g.V.Clone.is_clone given (whole view rows) steps) (same-view _ _ s.latest s.next_number s.table c.plan_write.new.self c.in-Ok.ensures.same) (rw (← c.self.view_is) at stands) in
      let note = rw off at c.note_if.ensures in
      let written = view-written eq laws given _ s.housekeeper.lives refl _ c.plan_write.new.self c.write-is_replaced.new.table s.latest s.next_number (events_in steps) (view-of eq given _ steps same) sound alike key c.args.now _
      hash (rw c.key.ensures at c.weight-weight.ensures) c.max-now.ensures (omega (arith, c.max-now.ensures)) c.in-Ok.plan c.write-is_replaced.result c.in-Ok.ensures.plan (rw note at (c.write-is_replaced.ensures sound.dated)) (rw (← c.self.view_is) at c.requires.stores) in
      rw (note, c.max-now.ensures) (stands-after eq given _ steps same (Insert key c.args.value c.args.now) _ (write_events eq given key c.args.value c.args.now (events_in steps)) refl written)));
  refused = tt;
  key_back = tt;
  value_back = tt;
  cause = tt;
  numbers = (λ no. absurd no, λ out. absurd (c.requires.number out.1));
  nothing = λ _. refl;
}

pub returns-clause-replaces : goal.returns-clause-replaces
returns-clause-replaces g c off given steps stands =
    let s = c.self.inside in
    let eq = g.K.PartialEq.eq in
    let laws = g.met.K.Eq.laws in
    let key = g.S.IntoArc.key_of c.args.key in
    let rows = turns_of (hash_by g.C.Hasher.BuildHasher.build_hasher g.C.Hasher.Hasher.Hasher.write g.C.Hasher.Hasher.Hasher.finish g.K.Hash.hash_input s.behaviour.hasher) s.turns in
    let alike = hash-alike g.C.Hasher.BuildHasher.build_hasher g.C.Hasher.Hasher.Hasher.write g.C.Hasher.Hasher.Hasher.finish s.behaviour.hasher g.met.K.Hash.respects_eq in
    let hash = rw (← c.self.view_is) at c.requires.hash in
    let sound = IsSound-same _ _ s.housekeeper.lives s.table c.plan_write.new.self c.in-Ok.ensures.same c.self.invariant.0 in
    let same = subst (λ view. StandsFor eq g.V.Clone.is_clone given (whole view rows) steps) (same-view _ _ s.latest s.next_number s.table c.plan_write.new.self c.in-Ok.ensures.same) (rw (← c.self.view_is) at stands) in
    let note = rw off at c.note_if.ensures in
    replaced-written eq laws given _ s.housekeeper.lives refl _ c.plan_write.new.self c.write-is_replaced.new.table s.latest s.next_number (events_in steps) (view-of eq given _ steps same) sound alike key c.args.now _
    hash (rw c.key.ensures at c.weight-weight.ensures) c.max-now.ensures (omega (arith, c.max-now.ensures)) c.in-Ok.plan c.write-is_replaced.result c.in-Ok.ensures.plan (rw note at (c.write-is_replaced.ensures sound.dated))
