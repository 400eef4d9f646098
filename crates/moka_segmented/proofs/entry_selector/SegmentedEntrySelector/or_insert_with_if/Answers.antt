use Rattle.std.proofs.Common.{Some, refl, length}
use Rattle.std.proofs.lemmas.Option.{slice_get_read}
use Rattle.moka_model.specs.declared.turns.Kind.TheVariants.{With}
use Rattle.moka_model.specs.declared.turns.Outcome.TheVariants.{Value}
use Rattle.moka_state.specs.Begin.{IsSaidOf}
use Rattle.moka_state.specs.OrInsert.{of_or_default}
use Rattle.moka_segmented.specs.SegmentedData.{data_of}
use Rattle.moka_segmented.proofs.Called.{called-at, called-loads-entry-if}
use Rattle.moka_segmented.proofs.Hashing.{all-hash-set}
use Rattle.moka_segmented.proofs.entry_selector.SegmentedEntrySelector.or_insert_with_if.Goals as goal

pub returns-clause-form : goal.returns-clause-form
returns-clause-form g c =
    let it = c.cache.inside in
    let called = called-at g.C.Hasher.BuildHasher.build_hasher g.C.Hasher.Hasher.Hasher.write g.C.Hasher.Hasher.Hasher.finish g.K.Hash.hash_input g.C.CacheTypes.weight g.C.CacheTypes.lifetimes g.C.Frequency.FrequencySource.noted g.C.Frequency.FrequencySource.count g.C.Frequency.FrequencySource.opened
    it.bits (data_of it.settings) it.segments.items c.index_mut.result.now c.place_of-place.result.index c.args.self.key c.index_mut.ensures.value (rw (← c.cache.view_is) at c.place_of-place.ensures.is) (rw (← c.cache.view_is) at c.place_of-place.ensures.within) in
    rw (← c.cache.view_is) (called-loads-entry-if g.K.PartialEq.eq g.V.Clone.is_clone g.V.Clone.is_infallible called _ Value _ With c.args.self.at (IsSaidOf g.P.FnMut (Some c.args.replace_if)) (of_or_default c.entry_or_insert_with_if.result) c.entry_or_insert_with_if.ensures.form)

pub invariant_of-cache : goal.invariant_of-cache
invariant_of-cache g c =
    let it = c.cache.inside in
    all-hash-set _ it.segments.items c.place_of-place.result.index c.index_mut.result.now _ c.index_mut.ensures.value c.entry_or_insert_with_if.ensures.settings c.cache.invariant

-- the segment is one of the segments
pub entry_or_insert_with_if-requires-clause-shows : goal.entry_or_insert_with_if-requires-clause-shows
entry_or_insert_with_if-requires-clause-shows g c =
    let it = c.cache.inside in
    let within = rw (← c.cache.view_is) at c.place_of-place.ensures.within in
    let here = slice_get_read it.segments.items (length it.segments.items) c.place_of-place.result.index c.index_mut.result.now refl within c.index_mut.ensures.value in
    let shows = rw (← c.cache.view_is) at c.requires.shows in
    shows c.place_of-place.result.index c.index_mut.result.now here
