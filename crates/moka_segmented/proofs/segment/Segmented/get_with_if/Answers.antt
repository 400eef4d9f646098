use Rattle.std.proofs.Common.{Some, refl, length}
use Rattle.std.proofs.lemmas.Option.{slice_get_read}
use Rattle.moka_model.specs.declared.turns.Kind.TheVariants.{With}
use Rattle.moka_model.specs.declared.turns.Outcome.TheVariants.{Value}
use Rattle.moka_state.specs.Begin.{IsSaidOf}
use Rattle.moka_state.specs.Forms.{IsValue}
use Rattle.moka_segmented.specs.SegmentedData.{data_of}
use Rattle.moka_segmented.proofs.Called.{called-at, called-loads-if}
use Rattle.moka_segmented.proofs.Hashing.{all-hash-set}
use Rattle.moka_segmented.proofs.segment.Segmented.get_with_if.Goals as goal

pub returns-clause-form : goal.returns-clause-form
returns-clause-form g c =
    let it = c.self.inside in
    let called = called-at g.C.Hasher.BuildHasher.build_hasher g.C.Hasher.Hasher.Hasher.write g.C.Hasher.Hasher.Hasher.finish g.K.Hash.hash_input g.C.CacheTypes.weight g.C.CacheTypes.lifetimes g.C.Frequency.FrequencySource.noted g.C.Frequency.FrequencySource.count g.C.Frequency.FrequencySource.opened
    it.bits (data_of it.settings) it.segments.items c.index_mut.result.now c.place_of-place.result.index c.args.key c.index_mut.ensures.value (rw (← c.self.view_is) at c.place_of-place.ensures.is) (rw (← c.self.view_is) at c.place_of-place.ensures.within) in
    rw (← c.self.view_is) (called-loads-if g.K.PartialEq.eq g.V.Clone.is_clone g.V.Clone.is_infallible called c.get_with_if.new.self Value _ With c.args.now (IsSaidOf g.P.FnMut (Some c.args.replace_if)) IsValue c.get_with_if.result c.get_with_if.ensures.form)

pub invariant_of-self : goal.invariant_of-self
invariant_of-self g c =
    let it = c.self.inside in
    all-hash-set _ it.segments.items c.place_of-place.result.index c.index_mut.result.now c.get_with_if.new.self c.index_mut.ensures.value c.get_with_if.ensures.settings c.self.invariant

-- the segment is one of the segments
pub get_with_if-requires-clause-shows : goal.get_with_if-requires-clause-shows
get_with_if-requires-clause-shows g c =
    let it = c.self.inside in
    let within = rw (← c.self.view_is) at c.place_of-place.ensures.within in
    let here = slice_get_read it.segments.items (length it.segments.items) c.place_of-place.result.index c.index_mut.result.now refl within c.index_mut.ensures.value in
    let shows = rw (← c.self.view_is) at c.requires.shows in
    shows c.place_of-place.result.index c.index_mut.result.now here
