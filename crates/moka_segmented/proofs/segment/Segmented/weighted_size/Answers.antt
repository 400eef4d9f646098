use Rattle.std.proofs.Common.{◌≡◌, ◌<◌, min, Some, length, ap, sym, ◌∙◌, refl, arith}
use Rattle.std.specs.List.{slice_get}
use Rattle.std.proofs.lemmas.Option.{slice_get_read}
use Rattle.moka_expiration.specs.Behaviour.{hash_by, behaviour_by}
use Rattle.moka_expiration.specs.StateData.{estimates}
use Rattle.moka_model.specs.Numbers.{greatest_number}
use Rattle.moka_segment_model.specs.Segments.{sum_below}
use Rattle.moka_segmented.specs.SegmentedData.{SegmentedData, weight_at}
use Rattle.moka_segmented.proofs.Noticing.{counted-capped, weight-there, weight-answers, count-stays}
use Rattle.moka_segmented.proofs.segment.Segmented.weighted_size.Goals as goal

pub loop-index-preserved : goal.loop-index-preserved
loop-index-preserved g c =
    let states = c.args.self.now.segments in
    let same = ap (λ (d : SegmentedData _ _ _ _ _ _ _). d.segments) c.self.view_is in
    let index = c.loop-index.index in
    let within : index < length c.self.inside.segments.items = omega (arith, c.loop-index-test.true, c.len-index-end.ensures) in
    let here : slice_get states index ≡ Some c.index.result.now = rw same at (slice_get_read c.self.inside.segments.items _ index c.index.result.now refl within c.index.ensures) in
    counted-capped (weight_at states) index c.loop-index.weight _ c.weighted_size.result _ (sym (weight-there states index c.index.result.now here)) c.weighted_size.ensures.counted c.loop-index.invariant c.saturating_add-weight.ensures

pub returns-clause-counted : goal.returns-clause-counted
returns-clause-counted g c =
    let states = c.args.self.now.segments in
    let same = ap (λ (d : SegmentedData _ _ _ _ _ _ _). length d.segments) c.self.view_is in
    let all : c.loop-index.index ≡ length states = omega (arith, c.loop-index-test.false, c.loop-index.auto.index-end, c.len-index-end.ensures, same) in
    c.loop-index.invariant ∙ ap (λ n. min (sum_below (weight_at states) n) greatest_number) all

pub returns-clause-reply : goal.returns-clause-reply
returns-clause-reply g c =
    let states = c.args.self.now.segments in
    let same = ap (λ (d : SegmentedData _ _ _ _ _ _ _). length d.segments) c.self.view_is in
    let all : c.loop-index.index ≡ length states = omega (arith, c.loop-index-test.false, c.loop-index.auto.index-end, c.len-index-end.ensures, same) in
    weight-answers g.row.C-Error.Denot g.K.PartialEq.eq (behaviour_by (hash_by g.C.Hasher.BuildHasher.build_hasher g.C.Hasher.Hasher.Hasher.write g.C.Hasher.Hasher.Hasher.finish g.K.Hash.hash_input) g.C.CacheTypes.weight g.C.CacheTypes.lifetimes) (estimates g.C.Frequency.FrequencySource.noted g.C.Frequency.FrequencySource.count) g.C.Frequency.FrequencySource.opened c.args.self.now c.loop-index.weight (c.loop-index.invariant ∙ ap (λ n. min (sum_below (weight_at states) n) greatest_number) all)

pub returns-clause-stands : goal.returns-clause-stands
returns-clause-stands g c = count-stays g.row.C-Error.Denot g.K.PartialEq.eq (behaviour_by (hash_by g.C.Hasher.BuildHasher.build_hasher g.C.Hasher.Hasher.Hasher.write g.C.Hasher.Hasher.Hasher.finish g.K.Hash.hash_input) g.C.CacheTypes.weight g.C.CacheTypes.lifetimes) (estimates g.C.Frequency.FrequencySource.noted g.C.Frequency.FrequencySource.count) g.C.Frequency.FrequencySource.opened c.args.self.now _ (λ given calls. refl)
