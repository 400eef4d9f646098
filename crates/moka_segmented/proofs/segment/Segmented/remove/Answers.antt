use Rattle.std.proofs.Common.{refl}
use Rattle.moka_expiration.specs.Behaviour.{hash_by, behaviour_by}
use Rattle.moka_expiration.specs.StateData.{StateData, estimates, settings_by}
use Rattle.moka_state.specs.Hashes.{IsHashOf}
use Rattle.moka_model.specs.Calls.{Remove}
use Rattle.moka_segmented.specs.SegmentedData.{data_of}
use Rattle.moka_segmented.proofs.Called.{called-at, called-reads}
use Rattle.moka_segmented.proofs.Hashing.{hash-at, all-hash-set}
use Rattle.moka_segmented.proofs.segment.Segmented.remove.Goals as goal

pub returns-clause-ends : goal.returns-clause-ends
returns-clause-ends g c =
    let it = c.self.inside in
    let called = called-at g.C.Hasher.BuildHasher.build_hasher g.C.Hasher.Hasher.Hasher.write g.C.Hasher.Hasher.Hasher.finish g.K.Hash.hash_input g.C.CacheTypes.weight g.C.CacheTypes.lifetimes g.C.Frequency.FrequencySource.noted g.C.Frequency.FrequencySource.count g.C.Frequency.FrequencySource.opened
    it.bits (data_of it.settings) it.segments.items c.index_mut.result.now c.place_of-place.result.index c.args.key.now c.index_mut.ensures.value (rw (← c.self.view_is) at c.place_of-place.ensures.is) (rw (← c.self.view_is) at c.place_of-place.ensures.within) in
    rw (← c.self.view_is) (called-reads g.K.PartialEq.eq g.V.Clone.is_clone g.V.Clone.is_infallible called c.remove_with_hash.new.self Remove c.args.now refl c.remove_with_hash.result c.remove_with_hash.ensures.ends)

pub remove_with_hash-requires-clause-hash : goal.remove_with_hash-requires-clause-hash
remove_with_hash-requires-clause-hash g c =
    let behaviour = behaviour_by (hash_by g.C.Hasher.BuildHasher.build_hasher g.C.Hasher.Hasher.Hasher.write g.C.Hasher.Hasher.Hasher.finish g.K.Hash.hash_input) g.C.CacheTypes.weight g.C.CacheTypes.lifetimes in
    let frequency = estimates g.C.Frequency.FrequencySource.noted g.C.Frequency.FrequencySource.count in
    hash-at (λ (state : StateData _ _ _ _ _ _ _). IsHashOf (settings_by behaviour (frequency g.C.Frequency.FrequencySource.opened) state.settings) c.args.key.now c.place_of-place.result.hash) c.self.inside.segments.items c.place_of-place.result.index c.index_mut.result.now (rw (← c.self.view_is) at c.place_of-place.ensures.within) c.index_mut.ensures.value (rw (← c.self.view_is) at c.place_of-place.ensures.hash)

pub invariant_of-self : goal.invariant_of-self
invariant_of-self g c =
    let it = c.self.inside in
    all-hash-set _ it.segments.items c.place_of-place.result.index c.index_mut.result.now c.remove_with_hash.new.self c.index_mut.ensures.value c.remove_with_hash.ensures.settings c.self.invariant
