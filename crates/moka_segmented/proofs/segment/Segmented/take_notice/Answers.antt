use Rattle.std.proofs.Common.{◌≡◌, ◌<◌, Some, length, ap, sym, refl, arith, option_map}
use Rattle.std.specs.List.{slice_get}
use Rattle.std.proofs.lemmas.Option.{slice_get_read}
use Rattle.moka_expiration.specs.Behaviour.{hash_by, behaviour_by}
use Rattle.moka_expiration.specs.StateData.{estimates}
use Rattle.moka_model.specs.Calls.{Noticed}
use Rattle.moka_table.specs.Table.{removal_of}
use Rattle.moka_segment_model.specs.Segments.{first_from}
use Rattle.moka_segment_model.proofs.Callers.{first_from-passes}
use Rattle.moka_segmented.specs.SegmentedData.{SegmentedData, data_of, has_notice}
use Rattle.moka_segmented.proofs.Hashing.{all-hash-set}
use Rattle.moka_segmented.proofs.Noticing.{taken-answers, taken-follows, none-answers, none-follows, queued-some, queued-fewer, queued-none}
use Rattle.moka_segmented.proofs.Routed.{IfSome-by}
use Rattle.moka_segmented.proofs.segment.Segmented.take_notice.Goals as goal

pub index_mut-requires : goal.index_mut-requires
index_mut-requires g c =
    let count = ap (λ (d : SegmentedData _ _ _ _ _ _ _). length d.segments) c.self.view_is in
    let it = first_from-passes (has_notice c.args.self.now.segments) 0 (length c.args.self.now.segments) c.in-Some.index (sym c.in-Some.ensures) in
    omega (arith, it.0, count, c.self.inside.segments.ok)

pub returns-in-Some-clause-reply : goal.returns-in-Some-clause-reply
returns-in-Some-clause-reply g c =
    let it = c.self.inside in
    let index = c.in-Some.index in
    let states = it.segments.items in
    let found : Some index ≡ first_from (has_notice states) 0 (length states) = rw (← c.self.view_is) at c.in-Some.ensures in
    let passes = first_from-passes (has_notice states) 0 (length states) index (sym found) in
    let cache : SegmentedData _ _ _ _ _ _ _ = record { bits = it.bits; settings = data_of it.settings; segments = it.segments.items } in
    rw (← c.self.view_is) (taken-answers g.row.C-Error.Denot g.K.PartialEq.eq (behaviour_by (hash_by g.C.Hasher.BuildHasher.build_hasher g.C.Hasher.Hasher.Hasher.write g.C.Hasher.Hasher.Hasher.finish g.K.Hash.hash_input) g.C.CacheTypes.weight g.C.CacheTypes.lifetimes) (estimates g.C.Frequency.FrequencySource.noted g.C.Frequency.FrequencySource.count) g.C.Frequency.FrequencySource.opened cache index c.index_mut.result.now found c.index_mut.ensures.value (Noticed (option_map removal_of c.take_notice.result)) c.take_notice.ensures.reply)

pub returns-in-Some-clause-stands : goal.returns-in-Some-clause-stands
returns-in-Some-clause-stands g c =
    let it = c.self.inside in
    let index = c.in-Some.index in
    let states = it.segments.items in
    let found : Some index ≡ first_from (has_notice states) 0 (length states) = rw (← c.self.view_is) at c.in-Some.ensures in
    let passes = first_from-passes (has_notice states) 0 (length states) index (sym found) in
    let cache : SegmentedData _ _ _ _ _ _ _ = record { bits = it.bits; settings = data_of it.settings; segments = it.segments.items } in
    rw (← c.self.view_is) (taken-follows g.row.C-Error.Denot g.K.PartialEq.eq (behaviour_by (hash_by g.C.Hasher.BuildHasher.build_hasher g.C.Hasher.Hasher.Hasher.write g.C.Hasher.Hasher.Hasher.finish g.K.Hash.hash_input) g.C.CacheTypes.weight g.C.CacheTypes.lifetimes) (estimates g.C.Frequency.FrequencySource.noted g.C.Frequency.FrequencySource.count) g.C.Frequency.FrequencySource.opened cache index c.index_mut.result.now found c.index_mut.ensures.value c.take_notice.new.self c.take_notice.ensures.stands)

pub returns-in-None-clause-reply : goal.returns-in-None-clause-reply
returns-in-None-clause-reply g c =
    none-answers g.row.C-Error.Denot g.K.PartialEq.eq (behaviour_by (hash_by g.C.Hasher.BuildHasher.build_hasher g.C.Hasher.Hasher.Hasher.write g.C.Hasher.Hasher.Hasher.finish g.K.Hash.hash_input) g.C.CacheTypes.weight g.C.CacheTypes.lifetimes) (estimates g.C.Frequency.FrequencySource.noted g.C.Frequency.FrequencySource.count) g.C.Frequency.FrequencySource.opened c.args.self.now c.in-None.ensures

pub returns-in-None-clause-stands : goal.returns-in-None-clause-stands
returns-in-None-clause-stands g c =
    none-follows g.row.C-Error.Denot g.K.PartialEq.eq (behaviour_by (hash_by g.C.Hasher.BuildHasher.build_hasher g.C.Hasher.Hasher.Hasher.write g.C.Hasher.Hasher.Hasher.finish g.K.Hash.hash_input) g.C.CacheTypes.weight g.C.CacheTypes.lifetimes) (estimates g.C.Frequency.FrequencySource.noted g.C.Frequency.FrequencySource.count) g.C.Frequency.FrequencySource.opened c.args.self.now c.in-None.ensures

pub returns-in-Some-clause-none : goal.returns-in-Some-clause-none
returns-in-Some-clause-none g c =
    let it = c.self.inside in
    let index = c.in-Some.index in
    let states = it.segments.items in
    let found : Some index ≡ first_from (has_notice states) 0 (length states) = rw (← c.self.view_is) at c.in-Some.ensures in
    let passes = first_from-passes (has_notice states) 0 (length states) index (sym found) in
    let within : index < length states = omega (arith, passes.0) in
    let here : slice_get states index ≡ Some c.index_mut.result.now = slice_get_read states (length states) index c.index_mut.result.now refl within c.index_mut.ensures.value in
    let some = queued-some states index c.index_mut.result.now within here passes.1 in
    rw (← c.self.view_is) (λ is_none. absurd (some.0 (c.take_notice.ensures.none.0 is_none)), λ zero. absurd (some.1 zero))

pub returns-in-Some-clause-fewer : goal.returns-in-Some-clause-fewer
returns-in-Some-clause-fewer g c =
    let it = c.self.inside in
    let index = c.in-Some.index in
    let states = it.segments.items in
    let found : Some index ≡ first_from (has_notice states) 0 (length states) = rw (← c.self.view_is) at c.in-Some.ensures in
    let passes = first_from-passes (has_notice states) 0 (length states) index (sym found) in
    let within : index < length states = omega (arith, passes.0) in
    let here : slice_get states index ≡ Some c.index_mut.result.now = slice_get_read states (length states) index c.index_mut.result.now refl within c.index_mut.ensures.value in
    rw (← c.self.view_is) (IfSome-by c.take_notice.result (λ notice less. queued-fewer states index c.index_mut.result.now c.take_notice.new.self within here less) c.take_notice.ensures.fewer)

pub returns-in-None-clause-none : goal.returns-in-None-clause-none
returns-in-None-clause-none g c = (λ is_none. queued-none c.args.self.now.segments c.in-None.ensures, λ zero. refl)

pub invariant_of-self : goal.invariant_of-self
invariant_of-self g c =
    let it = c.self.inside in
    all-hash-set _ it.segments.items c.in-Some.index c.index_mut.result.now c.take_notice.new.self c.index_mut.ensures.value c.take_notice.ensures.settings c.self.invariant
