use Rattle.std.proofs.Common.{Some, sym, ap}
use Rattle.moka_model.specs.Calls.{Leave}
use Rattle.moka_turns.specs.Handles.{ticket_name}
use Rattle.moka_state.specs.Given.{of_done}
use Rattle.moka_segmented.specs.SegmentedData.{data_of}
use Rattle.moka_segmented.proofs.Called.{called-at, called-reply, called-stands}
use Rattle.moka_segmented.proofs.Hashing.{all-hash-set}
use Rattle.moka_segmented.proofs.Routed.{OnErr-by, data-same}
use Rattle.moka_segmented.proofs.segment.Segmented.leave.Goals as goal

pub returns-clause-reply : goal.returns-clause-reply
returns-clause-reply g c =
    let it = c.self.inside in
    let called = called-at g.C.Hasher.BuildHasher.build_hasher g.C.Hasher.Hasher.Hasher.write g.C.Hasher.Hasher.Hasher.finish g.K.Hash.hash_input g.C.CacheTypes.weight g.C.CacheTypes.lifetimes g.C.Frequency.FrequencySource.noted g.C.Frequency.FrequencySource.count g.C.Frequency.FrequencySource.opened
    it.bits (data_of it.settings) it.segments.items c.index_mut.result.now c.place_of-place.result.index c.key.result.now c.index_mut.ensures.value (rw (← c.self.view_is) at c.place_of-place.ensures.is) (rw (← c.self.view_is) at c.place_of-place.ensures.within) in
    rw (← c.self.view_is) (called-reply g.K.PartialEq.eq g.V.Clone.is_clone g.V.Clone.is_infallible called (Leave (ticket_name c.args.ticket)) (ap Some (sym c.key.ensures)) (of_done c.leave.result) c.leave.ensures.reply)

pub returns-clause-stands : goal.returns-clause-stands
returns-clause-stands g c =
    let it = c.self.inside in
    let called = called-at g.C.Hasher.BuildHasher.build_hasher g.C.Hasher.Hasher.Hasher.write g.C.Hasher.Hasher.Hasher.finish g.K.Hash.hash_input g.C.CacheTypes.weight g.C.CacheTypes.lifetimes g.C.Frequency.FrequencySource.noted g.C.Frequency.FrequencySource.count g.C.Frequency.FrequencySource.opened
    it.bits (data_of it.settings) it.segments.items c.index_mut.result.now c.place_of-place.result.index c.key.result.now c.index_mut.ensures.value (rw (← c.self.view_is) at c.place_of-place.ensures.is) (rw (← c.self.view_is) at c.place_of-place.ensures.within) in
    rw (← c.self.view_is) (called-stands g.K.PartialEq.eq g.V.Clone.is_clone g.V.Clone.is_infallible called c.leave.new.self (Leave (ticket_name c.args.ticket)) (ap Some (sym c.key.ensures)) c.leave.result c.leave.ensures.stands)

pub returns-clause-refused : goal.returns-clause-refused
returns-clause-refused g c =
    let it = c.self.inside in
    rw (← c.self.view_is) (OnErr-by c.leave.result (λ same. data-same it.bits (data_of it.settings) it.segments.items c.place_of-place.result.index c.index_mut.result.now c.leave.new.self c.index_mut.ensures.value same) c.leave.ensures.refused)

pub invariant_of-self : goal.invariant_of-self
invariant_of-self g c =
    let it = c.self.inside in
    all-hash-set _ it.segments.items c.place_of-place.result.index c.index_mut.result.now c.leave.new.self c.index_mut.ensures.value c.leave.ensures.settings c.self.invariant
