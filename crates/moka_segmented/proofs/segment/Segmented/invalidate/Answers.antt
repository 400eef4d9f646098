use Rattle.std.proofs.Common.{refl}
use Rattle.moka_expiration.specs.Behaviour.{hash_by, behaviour_by}
use Rattle.moka_expiration.specs.StateData.{StateData, estimates, settings_by}
use Rattle.moka_state.specs.Hashes.{IsHashOf}
use Rattle.moka_model.specs.Calls.{Invalidate}
use Rattle.moka_segmented.specs.SegmentedData.{SegmentedData, data_of, segmented_settings_by}
use Rattle.moka_segmented.proofs.Hashing.{hash-at, all-hash-set}
use Rattle.moka_segmented.proofs.Routed.{Routing, routed-follows}
use Rattle.moka_segmented.proofs.segment.Segmented.invalidate.Goals as goal

pub returns-clause-stands : goal.returns-clause-stands
returns-clause-stands g c =
    let behaviour = behaviour_by (hash_by g.C.Hasher.BuildHasher.build_hasher g.C.Hasher.Hasher.Hasher.write g.C.Hasher.Hasher.Hasher.finish g.K.Hash.hash_input) g.C.CacheTypes.weight g.C.CacheTypes.lifetimes in
    let frequency = estimates g.C.Frequency.FrequencySource.noted g.C.Frequency.FrequencySource.count in
    let it = c.self.inside in
    let cache : SegmentedData _ _ _ _ _ _ _ = record { bits = it.bits; settings = data_of it.settings; segments = it.segments.items } in
    let routing : Routing (segmented_settings_by behaviour (frequency g.C.Frequency.FrequencySource.opened) cache) it.segments.items c.index_mut.result.now c.place_of-place.result.index c.args.key.now =
    record { here_is = c.index_mut.ensures.value; is = rw (← c.self.view_is) at c.place_of-place.ensures.is; within = rw (← c.self.view_is) at c.place_of-place.ensures.within } in
    rw (← c.self.view_is) (routed-follows g.row.C-Error.Denot g.K.PartialEq.eq behaviour frequency g.C.Frequency.FrequencySource.opened cache _ _ c.args.key.now routing (Invalidate c.args.key.now c.args.now) c.invalidate_with_hash.new.self refl c.invalidate_with_hash.ensures.stands)

pub invalidate_with_hash-requires-clause-hash : goal.invalidate_with_hash-requires-clause-hash
invalidate_with_hash-requires-clause-hash g c =
    let behaviour = behaviour_by (hash_by g.C.Hasher.BuildHasher.build_hasher g.C.Hasher.Hasher.Hasher.write g.C.Hasher.Hasher.Hasher.finish g.K.Hash.hash_input) g.C.CacheTypes.weight g.C.CacheTypes.lifetimes in
    let frequency = estimates g.C.Frequency.FrequencySource.noted g.C.Frequency.FrequencySource.count in
    hash-at (λ (state : StateData _ _ _ _ _ _ _). IsHashOf (settings_by behaviour (frequency g.C.Frequency.FrequencySource.opened) state.settings) c.args.key.now c.place_of-place.result.hash) c.self.inside.segments.items c.place_of-place.result.index c.index_mut.result.now (rw (← c.self.view_is) at c.place_of-place.ensures.within) c.index_mut.ensures.value (rw (← c.self.view_is) at c.place_of-place.ensures.hash)

pub invariant_of-self : goal.invariant_of-self
invariant_of-self g c =
    let it = c.self.inside in
    all-hash-set _ it.segments.items c.place_of-place.result.index c.index_mut.result.now c.invalidate_with_hash.new.self c.index_mut.ensures.value c.invalidate_with_hash.ensures.settings c.self.invariant
