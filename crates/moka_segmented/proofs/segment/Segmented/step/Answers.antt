use Rattle.std.proofs.Common.{◌≡◌, Some, sym}
use Rattle.moka_expiration.specs.Behaviour.{hash_by, behaviour_by}
use Rattle.moka_expiration.specs.StateData.{StateData, estimates, settings_by}
use Rattle.moka_state.specs.Hashes.{IsHashOf}
use Rattle.moka_state.specs.Step.{call_of}
use Rattle.moka_segment_model.specs.Segments.{key_in}
use Rattle.moka_segmented.specs.SegmentedData.{SegmentedData, data_of, segmented_settings_by}
use Rattle.moka_segmented.proofs.Hashing.{hash-at, hash-of-step, all-hash-set}
use Rattle.moka_segmented.proofs.Routed.{Routing}
use Rattle.moka_segmented.proofs.Replies.{routed-replies, routed-stood}
use Rattle.moka_segmented.proofs.segment.Segmented.step.Goals as goal

pub returns-clause-reply : goal.returns-clause-reply
returns-clause-reply g c =
    let behaviour = behaviour_by (hash_by g.C.Hasher.BuildHasher.build_hasher g.C.Hasher.Hasher.Hasher.write g.C.Hasher.Hasher.Hasher.finish g.K.Hash.hash_input) g.C.CacheTypes.weight g.C.CacheTypes.lifetimes in
    let frequency = estimates g.C.Frequency.FrequencySource.noted g.C.Frequency.FrequencySource.count in
    let it = c.self.inside in
    let cache : SegmentedData _ _ _ _ _ _ _ = record { bits = it.bits; settings = data_of it.settings; segments = it.segments.items } in
    let routing : Routing (segmented_settings_by behaviour (frequency g.C.Frequency.FrequencySource.opened) cache) it.segments.items c.index_mut.result.now c.place_of-place.result.index c.in-Some.key.now =
    record { here_is = c.index_mut.ensures.value; is = rw (← c.self.view_is) at c.place_of-place.ensures.is; within = rw (← c.self.view_is) at c.place_of-place.ensures.within } in
    let key : key_in (call_of g.C.CacheTypes.test c.args.step) ≡ Some c.in-Some.key.now = sym c.in-Some.ensures in
    rw (← c.self.view_is) (routed-replies g.row.C-Error.Denot g.K.PartialEq.eq behaviour frequency g.C.Frequency.FrequencySource.opened cache _ _ c.in-Some.key.now routing (call_of g.C.CacheTypes.test c.args.step) key c.step_with_hash.result g.V.Clone.is_infallible c.step_with_hash.ensures.reply)

pub returns-clause-stands : goal.returns-clause-stands
returns-clause-stands g c =
    let behaviour = behaviour_by (hash_by g.C.Hasher.BuildHasher.build_hasher g.C.Hasher.Hasher.Hasher.write g.C.Hasher.Hasher.Hasher.finish g.K.Hash.hash_input) g.C.CacheTypes.weight g.C.CacheTypes.lifetimes in
    let frequency = estimates g.C.Frequency.FrequencySource.noted g.C.Frequency.FrequencySource.count in
    let it = c.self.inside in
    let cache : SegmentedData _ _ _ _ _ _ _ = record { bits = it.bits; settings = data_of it.settings; segments = it.segments.items } in
    let routing : Routing (segmented_settings_by behaviour (frequency g.C.Frequency.FrequencySource.opened) cache) it.segments.items c.index_mut.result.now c.place_of-place.result.index c.in-Some.key.now =
    record { here_is = c.index_mut.ensures.value; is = rw (← c.self.view_is) at c.place_of-place.ensures.is; within = rw (← c.self.view_is) at c.place_of-place.ensures.within } in
    let key : key_in (call_of g.C.CacheTypes.test c.args.step) ≡ Some c.in-Some.key.now = sym c.in-Some.ensures in
    rw (← c.self.view_is) (routed-stood g.row.C-Error.Denot g.K.PartialEq.eq behaviour frequency g.C.Frequency.FrequencySource.opened cache _ _ c.in-Some.key.now routing (call_of g.C.CacheTypes.test c.args.step) key c.step_with_hash.result c.step_with_hash.new.self c.step_with_hash.ensures.stands)

pub step_with_hash-requires-clause-hash : goal.step_with_hash-requires-clause-hash
step_with_hash-requires-clause-hash g c =
    let behaviour = behaviour_by (hash_by g.C.Hasher.BuildHasher.build_hasher g.C.Hasher.Hasher.Hasher.write g.C.Hasher.Hasher.Hasher.finish g.K.Hash.hash_input) g.C.CacheTypes.weight g.C.CacheTypes.lifetimes in
    let frequency = estimates g.C.Frequency.FrequencySource.noted g.C.Frequency.FrequencySource.count in
    hash-of-step g.C.CacheTypes.test (settings_by behaviour (frequency g.C.Frequency.FrequencySource.opened) c.index_mut.result.now.settings) c.in-Some.key.now c.place_of-place.result.hash c.args.step c.in-Some.ensures (hash-at (λ (state : StateData _ _ _ _ _ _ _). IsHashOf (settings_by behaviour (frequency g.C.Frequency.FrequencySource.opened) state.settings) c.in-Some.key.now c.place_of-place.result.hash) c.self.inside.segments.items c.place_of-place.result.index c.index_mut.result.now (rw (← c.self.view_is) at c.place_of-place.ensures.within) c.index_mut.ensures.value (rw (← c.self.view_is) at c.place_of-place.ensures.hash))

pub invariant_of-self : goal.invariant_of-self
invariant_of-self g c =
    let it = c.self.inside in
    all-hash-set _ it.segments.items c.place_of-place.result.index c.index_mut.result.now c.step_with_hash.new.self c.index_mut.ensures.value c.step_with_hash.ensures.settings c.self.invariant
