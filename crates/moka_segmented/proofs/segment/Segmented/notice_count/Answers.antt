use Rattle.std.proofs.Common.{◌≡◌, ◌<◌, min, Some, length, ap, sym, ◌∙◌, refl, arith}
use Rattle.std.specs.List.{slice_get}
use Rattle.std.proofs.lemmas.Option.{slice_get_read}
use Rattle.moka_model.specs.Numbers.{greatest_number}
use Rattle.moka_segment_model.specs.Segments.{sum_below}
use Rattle.moka_segmented.specs.SegmentedData.{SegmentedData, notices_at}
use Rattle.moka_segmented.proofs.Noticing.{counted-more, notices-there}
use Rattle.moka_segmented.proofs.segment.Segmented.notice_count.Goals as goal

pub loop-index-preserved : goal.loop-index-preserved
loop-index-preserved g c =
    let states = c.args.self.now.segments in
    let same = ap (λ (d : SegmentedData _ _ _ _ _ _ _). d.segments) c.self.view_is in
    let index = c.loop-index.index in
    let within : index < length c.self.inside.segments.items = omega (arith, c.loop-index-test.true, c.len-index-end.ensures) in
    let here : slice_get states index ≡ Some c.index.result.now = rw same at (slice_get_read c.self.inside.segments.items _ index c.index.result.now refl within c.index.ensures) in
    counted-more (notices_at states) index c.loop-index.count c.notice_count.result _ (c.notice_count.ensures ∙ sym (notices-there states index c.index.result.now here)) c.loop-index.invariant c.saturating_add-count.ensures

pub returns : goal.returns
returns g c =
    let states = c.args.self.now.segments in
    let same = ap (λ (d : SegmentedData _ _ _ _ _ _ _). length d.segments) c.self.view_is in
    let all : c.loop-index.index ≡ length states = omega (arith, c.loop-index-test.false, c.loop-index.auto.index-end, c.len-index-end.ensures, same) in
    c.loop-index.invariant ∙ ap (λ n. min (sum_below (notices_at states) n) greatest_number) all
