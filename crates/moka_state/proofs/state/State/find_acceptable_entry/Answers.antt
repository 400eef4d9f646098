use Rattle.std.proofs.Common.{◌≡◌, ℕ, Option, Some, None, List, [], ◌∷◌, refl, sym, ap, ◌∙◌, subst, arith, max}
use Rattle.std.specs.Arc.{arc_value}
use Rattle.moka_model.specs.Steps.{events_in}
use Rattle.moka_model.specs.Calls.{Begin, Entered, live_at, look_event}
use Rattle.moka_model.specs.Entries.{entry_of}
use Rattle.moka_model.proofs.Callers.{view-of, stands-after}
use Rattle.moka_expiration.specs.Behaviour.{behaviour_by, hash_by}
use Rattle.moka_expiration.specs.StateData.{estimates, settings_by}
use Rattle.moka_table.proofs.Callers.{of-row}
use Rattle.moka_table.specs.Table.{stored_write}
use Rattle.moka_state.specs.State.{settings_of}
use Rattle.moka_state.proofs.Alike.{hash-alike}
use Rattle.moka_state.proofs.Becoming.{estimates-noted}
use Rattle.moka_state.proofs.Begins.{accepts-live, rejects-live, hits-live, gives-found, after-found}
use Rattle.moka_state.proofs.Held.{same-key}
use Rattle.moka_state.proofs.OrInserts.{acceptable-live}
use Rattle.moka_state.proofs.Sound.{IsSound-touched}
use Rattle.moka_state.proofs.Forms.{if-some}
use Rattle.moka_state.proofs.Takes.{shown-kept, takes-row}
use Rattle.moka_state.proofs.Views.{view-becomes}
use Rattle.moka_state.proofs.state.State.find_acceptable_entry.Goals as goal

pub returns-in_default-clause-looks : goal.returns-in_default-clause-looks
returns-in_default-clause-looks g c = (
  c.in_default.ensures.accepts.0,
  record {
    reply = λ given steps stands.
        let s = c.self.inside in
        let eq = g.K.PartialEq.eq in
        let laws = g.met.K.Eq.laws in
        let key = c.args.key.now in
        let hash_of = hash_by g.C.Hasher.BuildHasher.build_hasher g.C.Hasher.Hasher.Hasher.write g.C.Hasher.Hasher.Hasher.finish g.K.Hash.hash_input s.behaviour.hasher in
        let alike = hash-alike g.C.Hasher.BuildHasher.build_hasher g.C.Hasher.Hasher.Hasher.write g.C.Hasher.Hasher.Hasher.finish s.behaviour.hasher g.met.K.Hash.respects_eq in
        let hash = rw (← c.self.view_is) at c.requires.hash in
        let there = rw (← c.self.view_is) at stands in
        let rejects = rw c.max-now.ensures at c.in_default.ensures.accepts.1 in
        rejects-live eq laws _ s.table _ s.latest s.next_number given steps there s.housekeeper.lives refl c.self.invariant.0.dated hash_of alike c.self.invariant.0.hashed _ _ key c.args.now c.args.hash hash (omega (arith, c.max-now.ensures)) c.in_default.ensures.accepts.0 rejects;
    stands = rw (← c.self.view_is) refl;
  },
)

pub returns-in_default-entry-clause-looks : goal.returns-in_default-entry-clause-looks
returns-in_default-entry-clause-looks g c = (
  c.in-Some.ensures.accepts.0,
  record {
    reply = λ given steps stands.
        let s = c.self.inside in
        let eq = g.K.PartialEq.eq in
        let laws = g.met.K.Eq.laws in
        let key = c.args.key.now in
        let hash_of = hash_by g.C.Hasher.BuildHasher.build_hasher g.C.Hasher.Hasher.Hasher.write g.C.Hasher.Hasher.Hasher.finish g.K.Hash.hash_input s.behaviour.hasher in
        let alike = hash-alike g.C.Hasher.BuildHasher.build_hasher g.C.Hasher.Hasher.Hasher.write g.C.Hasher.Hasher.Hasher.finish s.behaviour.hasher g.met.K.Hash.respects_eq in
        let hash = rw (← c.self.view_is) at c.requires.hash in
        let there = rw (← c.self.view_is) at stands in
        let accepts = rw c.max-now.ensures at c.in-Some.ensures.accepts.1 in
        let it = accepts-live eq laws _ s.table _ s.latest s.next_number given steps there s.housekeeper.lives refl c.self.invariant.0.dated hash_of alike c.self.invariant.0.hashed _ _ key c.args.now c.args.hash hash (omega (arith, c.max-now.ensures)) c.in-Some.ensures.accepts.0 c.in-Some.number accepts in
        (it.2, (refl, rw it.3 refl));
    stands = rw (← c.self.view_is) refl;
  },
)

pub invariant_of-self : goal.invariant_of-self
invariant_of-self g c =
    let s = c.self.inside in
    let accepts = c.in-Some.ensures.accepts.1 in
    let used = rw accepts.1 at c.hit.ensures.used in
    rw c.hit.ensures.lives (IsSound-touched _ _ s.housekeeper.lives s.table c.hit.new.table c.self.invariant.0 c.in-Some.number accepts.0 used.0 accepts.1 used.2 c.hit.ensures.notices used.1.dated, c.self.invariant.1)

pub returns-clause-looks : goal.returns-clause-looks
returns-clause-looks g c = (
  c.in-Some.ensures.accepts.0,
  record {
    reply = λ given steps stands.
        let s = c.self.inside in
        let eq = g.K.PartialEq.eq in
        let laws = g.met.K.Eq.laws in
        let key = c.args.key.now in
        let hash_of = hash_by g.C.Hasher.BuildHasher.build_hasher g.C.Hasher.Hasher.Hasher.write g.C.Hasher.Hasher.Hasher.finish g.K.Hash.hash_input s.behaviour.hasher in
        let alike = hash-alike g.C.Hasher.BuildHasher.build_hasher g.C.Hasher.Hasher.Hasher.write g.C.Hasher.Hasher.Hasher.finish s.behaviour.hasher g.met.K.Hash.respects_eq in
        let hash = rw (← c.self.view_is) at c.requires.hash in
        let there = rw (← c.self.view_is) at stands in
        let accepts = rw c.max-now.ensures at c.in-Some.ensures.accepts.1 in
        let it = accepts-live eq laws _ s.table _ s.latest s.next_number given steps there s.housekeeper.lives refl c.self.invariant.0.dated hash_of alike c.self.invariant.0.hashed _ _ key c.args.now c.args.hash hash (omega (arith, c.max-now.ensures)) c.in-Some.ensures.accepts.0 c.in-Some.number accepts in
        let entry = rw it.1 at c.in-Ok.ensures in
        (it.2, λ kind initializer. gives-found eq g.V.Clone.is_clone g.V.Clone.is_infallible given steps key kind c.in-Some.ensures.accepts.0 c.args.now initializer _ it.3 (Entered (entry_of c.in-Ok.entry)) entry);
    stands = λ kind initializer given steps stands.
        let s = c.self.inside in
        let eq = g.K.PartialEq.eq in
        let laws = g.met.K.Eq.laws in
        let key = c.args.key.now in
        let hash_of = hash_by g.C.Hasher.BuildHasher.build_hasher g.C.Hasher.Hasher.Hasher.write g.C.Hasher.Hasher.Hasher.finish g.K.Hash.hash_input s.behaviour.hasher in
        let alike = hash-alike g.C.Hasher.BuildHasher.build_hasher g.C.Hasher.Hasher.Hasher.write g.C.Hasher.Hasher.Hasher.finish s.behaviour.hasher g.met.K.Hash.respects_eq in
        let hash = rw (← c.self.view_is) at c.requires.hash in
        let there = rw (← c.self.view_is) at stands in
        let accepts = rw c.max-now.ensures at c.in-Some.ensures.accepts.1 in
        let it = accepts-live eq laws _ s.table _ s.latest s.next_number given steps there s.housekeeper.lives refl c.self.invariant.0.dated hash_of alike c.self.invariant.0.hashed _ _ key c.args.now c.args.hash hash (omega (arith, c.max-now.ensures)) c.in-Some.ensures.accepts.0 c.in-Some.number accepts in
        let uses = rw c.max-now.ensures at c.hit.ensures.used in
        let becomes = hits-live eq laws _ s.table _ s.latest s.next_number given steps there s.housekeeper.lives refl c.self.invariant.0.dated hash_of alike c.self.invariant.0.hashed _ _ key c.args.now c.args.hash hash (omega (arith, c.max-now.ensures)) c.in-Some.ensures.accepts.0 c.in-Some.number c.hit.new.table accepts uses c.hit.ensures.notices _ (estimates-noted g.C.Frequency.FrequencySource.noted g.C.Frequency.FrequencySource.count s.housekeeper.source c.hit.new.self.source c.args.hash _ c.hit.ensures.noted hash) in
        rw (c.hit.ensures.lives, c.hit.ensures.max_capacity, c.max-now.ensures)
        (stands-after eq given _ steps there (Begin key kind c.in-Some.ensures.accepts.0 c.args.now) _ (look_event c.in-Some.ensures.accepts.0 key c.args.now ∷ [])
        (after-found eq g.V.Clone.is_clone g.V.Clone.is_infallible given steps key kind c.in-Some.ensures.accepts.0 c.args.now initializer _ it.3)
        (view-becomes eq laws given _ _ (events_in steps) (look_event c.in-Some.ensures.accepts.0 key c.args.now) (view-of eq given _ steps there) becomes));
  },
)

pub returns-clause-kept : goal.returns-clause-kept
returns-clause-kept g c =
    let accepts = c.in-Some.ensures.accepts.1 in
    let row = accepts.0 in
    let entry = rw accepts.1 at c.in-Ok.ensures in
    let kept = of-row (λ r. g.C.CacheTypes.keeps (arc_value r.key) r.value) c.in-Some.number _ row c.self.invariant.0.kept accepts.1 in
    let copied = g.met.C.CacheTypes.copies_keep (arc_value row.key) row.value c.in-Ok.entry.value entry.1 kept in
    let same = same-key g.K.PartialEq.eq c.args.key.now c.args.hash row accepts.2 in
    (subst (λ k. g.C.CacheTypes.keeps k c.in-Ok.entry.value) (sym entry.0) copied, g.met.C.CacheTypes.equal_keys_keep (arc_value row.key) c.args.key.now c.in-Ok.entry.value same copied)

pub returns-in_default-entry-clause-live : goal.returns-in_default-entry-clause-live
returns-in_default-entry-clause-live g c given steps stands =
    let s = c.self.inside in
    let eq = g.K.PartialEq.eq in
    let laws = g.met.K.Eq.laws in
    let key = c.args.key.now in
    let hash_of = hash_by g.C.Hasher.BuildHasher.build_hasher g.C.Hasher.Hasher.Hasher.write g.C.Hasher.Hasher.Hasher.finish g.K.Hash.hash_input s.behaviour.hasher in
    let alike = hash-alike g.C.Hasher.BuildHasher.build_hasher g.C.Hasher.Hasher.Hasher.write g.C.Hasher.Hasher.Hasher.finish s.behaviour.hasher g.met.K.Hash.respects_eq in
    let hash = rw (← c.self.view_is) at c.requires.hash in
    let there = rw (← c.self.view_is) at stands in
    let accepts = rw c.max-now.ensures at c.in-Some.ensures.accepts.1 in
    let it = accepts-live eq laws _ s.table _ s.latest s.next_number given steps there s.housekeeper.lives refl c.self.invariant.0.dated hash_of alike c.self.invariant.0.hashed _ _ key c.args.now c.args.hash hash (omega (arith, c.max-now.ensures)) c.in-Some.ensures.accepts.0 c.in-Some.number accepts in
    acceptable-live c.in-Some.ensures.accepts.0 (live_at eq given key c.args.now (events_in steps)) (stored_write it.0) it.3

pub find_acceptable-requires : goal.find_acceptable-requires
find_acceptable-requires g c =
    let s = c.self.inside in
    let hash_in = hash_by g.C.Hasher.BuildHasher.build_hasher g.C.Hasher.Hasher.Hasher.write g.C.Hasher.Hasher.Hasher.finish g.K.Hash.hash_input in
    let frequency = estimates g.C.Frequency.FrequencySource.noted g.C.Frequency.FrequencySource.count g.C.Frequency.FrequencySource.opened in
    let settings = settings_by (behaviour_by hash_in g.C.CacheTypes.weight g.C.CacheTypes.lifetimes) frequency (settings_of s.name s.housekeeper.lives.time_to_live s.housekeeper.lives.time_to_idle s.housekeeper.max_capacity s.first_number s.closures s.flush_limit s.behaviour) in
    let asks = rw (← c.self.view_is) at c.requires.asks in
    rw c.max-now.ensures (if-some c.args.replace_if.now (λ f takes. takes-row g.K.PartialEq.eq g.C.CacheTypes.keeps g.met.C.CacheTypes.equal_keys_keep s.table c.self.invariant.0.kept g.F.FnMut c.args.key.now c.args.hash settings s.latest c.args.now s.housekeeper.lives refl c.self.invariant.0.dated (omega (arith, c.max-now.ensures)) f takes) asks)

pub returns-in_default-clause-left : goal.returns-in_default-clause-left
returns-in_default-clause-left g c = shown-kept g.K.PartialEq.eq g.C.CacheTypes.keeps g.met.C.CacheTypes.equal_keys_keep c.self.inside.table c.self.invariant.0.kept g.F.FnMut c.args.key.now c.args.hash _ _ _ c.in_default.ensures.left

pub returns-in_default-entry-clause-left : goal.returns-in_default-entry-clause-left
returns-in_default-entry-clause-left g c = shown-kept g.K.PartialEq.eq g.C.CacheTypes.keeps g.met.C.CacheTypes.equal_keys_keep c.self.inside.table c.self.invariant.0.kept g.F.FnMut c.args.key.now c.args.hash _ _ _ c.in-Some.ensures.left

pub returns-clause-left : goal.returns-clause-left
returns-clause-left g c = shown-kept g.K.PartialEq.eq g.C.CacheTypes.keeps g.met.C.CacheTypes.equal_keys_keep c.self.inside.table c.self.invariant.0.kept g.F.FnMut c.args.key.now c.args.hash _ _ _ c.in-Some.ensures.left
