use Rattle.std.proofs.Common.{◌≡◌, ◌<◌, length, ap, ◌∙◌, refl, arith, Some}
use Rattle.std.specs.List.{slice_get}
use Rattle.std.proofs.lemmas.Option.{slice_get_read}
use Rattle.moka_segment_model.proofs.Callers.{first-found, first-on}
use Rattle.moka_segmented.specs.SegmentedData.{SegmentedData, has_notice}
use Rattle.moka_segmented.proofs.Noticing.{is-noticed, none-noticed, notice-there}
use Rattle.moka_segmented.proofs.segment.Segmented.first_with_notice.Goals as goal

pub returns-then-notice_count-gt0 : goal.returns-then-notice_count-gt0
returns-then-notice_count-gt0 g c =
    let states = c.args.self.now.segments in
    let same = ap (λ (d : SegmentedData _ _ _ _ _ _ _). d.segments) c.self.view_is in
    let index = c.loop-index.index in
    let within : index < length c.self.inside.segments.items = omega (arith, c.loop-index-test.true, c.len-index-end.ensures) in
    let here : slice_get states index ≡ Some c.index.result.now = rw same at (slice_get_read c.self.inside.segments.items _ index c.index.result.now refl within c.index.ensures) in
    first-found (has_notice states) (length states) index (rw same at within)
    (notice-there states index c.index.result.now here ∙ is-noticed c.index.result.now.books.notices (omega (arith, c.if-notice_count-gt0.true, c.notice_count.ensures)))
    c.loop-index.invariant

pub loop-index-preserved : goal.loop-index-preserved
loop-index-preserved g c =
    let states = c.args.self.now.segments in
    let same = ap (λ (d : SegmentedData _ _ _ _ _ _ _). d.segments) c.self.view_is in
    let index = c.loop-index.index in
    let within : index < length c.self.inside.segments.items = omega (arith, c.loop-index-test.true, c.len-index-end.ensures) in
    let here : slice_get states index ≡ Some c.index.result.now = rw same at (slice_get_read c.self.inside.segments.items _ index c.index.result.now refl within c.index.ensures) in
    first-on (has_notice states) (length states) index (rw same at within)
    (notice-there states index c.index.result.now here ∙ none-noticed c.index.result.now.books.notices (omega (arith, c.if-notice_count-gt0.false, c.notice_count.ensures)))
    c.loop-index.invariant
