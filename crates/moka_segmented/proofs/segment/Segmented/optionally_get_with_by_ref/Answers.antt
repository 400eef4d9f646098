use Rattle.std.specs.Arc.{arc_value}
use Rattle.moka_model.specs.declared.turns.Kind.TheVariants.{Optionally}
use Rattle.moka_state.specs.Forms.{optional_outcome, IsOptional}
use Rattle.moka_segmented.specs.SegmentedData.{data_of}
use Rattle.moka_segmented.proofs.Called.{called-at, called-alike, called-loads}
use Rattle.moka_segmented.proofs.Forms.{hash-alike}
use Rattle.moka_segmented.proofs.Hashing.{all-hash-set}
use Rattle.moka_segmented.proofs.segment.Segmented.optionally_get_with_by_ref.Goals as goal

pub returns-clause-form : goal.returns-clause-form
returns-clause-form g c =
    let it = c.self.inside in
    let called = called-at g.C.Hasher.BuildHasher.build_hasher g.C.Hasher.Hasher.Hasher.write g.C.Hasher.Hasher.Hasher.finish g.K.Hash.hash_input g.C.CacheTypes.weight g.C.CacheTypes.lifetimes g.C.Frequency.FrequencySource.noted g.C.Frequency.FrequencySource.count g.C.Frequency.FrequencySource.opened
    it.bits (data_of it.settings) it.segments.items c.index_mut.result.now c.place_of-place.result.index c.args.key.now c.index_mut.ensures.value (rw (← c.self.view_is) at c.place_of-place.ensures.is) (rw (← c.self.view_is) at c.place_of-place.ensures.within) in
    let form = c.optionally_get_with_by_ref.ensures.form in
    let alike = hash-alike g.C.Hasher.BuildHasher.build_hasher g.C.Hasher.Hasher.Hasher.write g.C.Hasher.Hasher.Hasher.finish (arc_value it.settings.hasher) g.met.K.Hash.respects_eq c.args.key.now form.0 form.1.0 in
    rw (← c.self.view_is) (form.0, form.1, called-loads g.K.PartialEq.eq g.V.Clone.is_clone g.V.Clone.is_infallible (called-alike called form.0 alike) c.optionally_get_with_by_ref.new.self optional_outcome _ Optionally c.args.now IsOptional c.optionally_get_with_by_ref.result form.2)

pub invariant_of-self : goal.invariant_of-self
invariant_of-self g c =
    let it = c.self.inside in
    all-hash-set _ it.segments.items c.place_of-place.result.index c.index_mut.result.now c.optionally_get_with_by_ref.new.self c.index_mut.ensures.value c.optionally_get_with_by_ref.ensures.settings c.self.invariant
