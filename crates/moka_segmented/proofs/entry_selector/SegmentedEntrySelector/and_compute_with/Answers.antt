use Rattle.std.proofs.Common.{true, Some}
use Rattle.moka_state.specs.ComputeForms.{of_computing}
use Rattle.moka_segmented.specs.SegmentedData.{data_of}
use Rattle.moka_segmented.proofs.Called.{called-at, called-computes}
use Rattle.moka_segmented.proofs.Hashing.{all-hash-set}
use Rattle.moka_segmented.proofs.entry_selector.SegmentedEntrySelector.and_compute_with.Goals as goal

pub returns-clause-form : goal.returns-clause-form
returns-clause-form g c =
    let it = c.cache.inside in
    let called = called-at g.C.Hasher.BuildHasher.build_hasher g.C.Hasher.Hasher.Hasher.write g.C.Hasher.Hasher.Hasher.finish g.K.Hash.hash_input g.C.CacheTypes.weight g.C.CacheTypes.lifetimes g.C.Frequency.FrequencySource.noted g.C.Frequency.FrequencySource.count g.C.Frequency.FrequencySource.opened
    it.bits (data_of it.settings) it.segments.items c.index_mut.result.now c.place_of-place.result.index c.args.self.key c.index_mut.ensures.value (rw (← c.cache.view_is) at c.place_of-place.ensures.is) (rw (← c.cache.view_is) at c.place_of-place.ensures.within) in
    rw (← c.cache.view_is) (called-computes g.K.PartialEq.eq g.V.Clone.is_clone g.V.Clone.is_infallible called _ Some _ true c.args.self.at (of_computing c.compute_with.result) c.compute_with.ensures.form)

pub invariant_of-cache : goal.invariant_of-cache
invariant_of-cache g c =
    let it = c.cache.inside in
    all-hash-set _ it.segments.items c.place_of-place.result.index c.index_mut.result.now _ c.index_mut.ensures.value c.compute_with.ensures.settings c.cache.invariant
