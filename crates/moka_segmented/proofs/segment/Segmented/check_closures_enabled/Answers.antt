use Rattle.std.proofs.Common.{◌≡◌, ◌<◌, ◌^◌, length, Some, ap, sym, ◌∙◌, refl, arith, ⊎_elim}
use Rattle.std.specs.List.{slice_get}
use Rattle.std.proofs.lemmas.Bool.Decides.{eqb_tells}
use Rattle.std.proofs.lemmas.Option.{slice_get_read, slice_get_past}
use Rattle.moka_expiration.specs.StateData.{SettingsData, StateData}
use Rattle.moka_segmented.specs.SegmentedData.{SegmentedData, data_of}
use Rattle.moka_segmented.proofs.Hashing.{all-hash-by, all-hash-set}
use Rattle.moka_segmented.proofs.Broadcast.{below-or-past}
use Rattle.moka_segmented.proofs.Routed.{not-both, set-same, same-data}
use Rattle.moka_segmented.proofs.segment.Segmented.check_closures_enabled.Goals as goal

pub loop-index-init : goal.loop-index-init
loop-index-init g c =
    rw (← c.self.view_is) (record { bits = refl; settings = refl; hashed = c.self.invariant.3; same = refl; supported = λ i lt. absurd (let no : ⊥ = omega (arith, lt) in no) })

pub invariant_of-self-in_err-predicate_room : goal.invariant_of-self-in_err-predicate_room
invariant_of-self-in_err-predicate_room g c =
    let was = c.loop-index.invariant in
    let now = c.loop-index.self-inside.segments.items in
    let bits : c.loop-index.self-inside.bits ≡ c.self.inside.bits = was.bits ∙ sym (ap (λ (d : SegmentedData _ _ _ _ _ _ _). d.bits) c.self.view_is) in
    let settings = was.settings ∙ sym (ap (λ (d : SegmentedData _ _ _ _ _ _ _). d.settings) c.self.view_is) in
    let limit : c.loop-index.self-inside.settings.flush_limit ≡ c.self.inside.settings.flush_limit = ap (λ (it : SettingsData _ _ _). it.flush_limit) settings in
    let items = was.same ∙ sym (ap (λ (d : SegmentedData _ _ _ _ _ _ _). d.segments) c.self.view_is) in
    let count = ap length items ∙ c.self.invariant.1 ∙ ap (λ n. 2 ^ n) (sym bits) in
    all-hash-set _ now c.loop-index.index c.index_mut.result.now c.predicate_room.new.self c.index_mut.ensures.value
    (ap (λ (state : StateData _ _ _ _ _ _ _). state.settings) c.predicate_room.ensures.same)
    (rw bits c.self.invariant.0, count, rw limit c.self.invariant.2, was.hashed)

pub loop-index-preserved : goal.loop-index-preserved
loop-index-preserved g c =
    let was = c.loop-index.invariant in
    let now = c.loop-index.self-inside.segments.items in
    let index = c.loop-index.index in
    let count : length c.self.inside.segments.items ≡ length c.args.self.now.segments = ap (λ (d : SegmentedData _ _ _ _ _ _ _). length d.segments) c.self.view_is in
    let within : index < length now = omega (arith, c.loop-index-test.true, c.len-index-end.ensures, count, ap length was.same) in
    let here : slice_get now index ≡ Some c.index_mut.result.now = slice_get_read now (length now) index c.index_mut.result.now refl within c.index_mut.ensures.value in
    let there : slice_get c.args.self.now.segments index ≡ Some c.index_mut.result.now = ap (λ l. slice_get l index) (sym was.same) ∙ here in
    record {
      bits = was.bits;
      settings = was.settings;
      hashed = all-hash-by _ now index c.index_mut.result.now c.predicate_room.new.self c.index_mut.ensures.value (ap (λ (state : StateData _ _ _ _ _ _ _). state.settings) c.predicate_room.ensures.same) was.hashed;
      same = set-same now index c.index_mut.result.now c.predicate_room.new.self c.index_mut.ensures.value c.predicate_room.ensures.same ∙ was.same;
      supported = λ j lt. ⊎_elim (λ same. rw (same.1, there) (c.in_ok-predicate_room.ensures.accepted.0 refl)) (λ other. was.supported j (omega (arith, lt, other.1))) (eqb_tells j index);
    }

pub returns-in_err-predicate_room-clause-accepted : goal.returns-in_err-predicate_room-clause-accepted
returns-in_err-predicate_room-clause-accepted g c =
    let was = c.loop-index.invariant in
    let now = c.loop-index.self-inside.segments.items in
    let index = c.loop-index.index in
    let count : length c.self.inside.segments.items ≡ length c.args.self.now.segments = ap (λ (d : SegmentedData _ _ _ _ _ _ _). length d.segments) c.self.view_is in
    let within : index < length now = omega (arith, c.loop-index-test.true, c.len-index-end.ensures, count, ap length was.same) in
    let here : slice_get now index ≡ Some c.index_mut.result.now = slice_get_read now (length now) index c.index_mut.result.now refl within c.index_mut.ensures.value in
    let there : slice_get c.args.self.now.segments index ≡ Some c.index_mut.result.now = ap (λ l. slice_get l index) (sym was.same) ∙ here in
    (λ ok. absurd (not-both c.from_residual.result c.from_residual.ensures.0 ok), λ all. let no = c.in_err-predicate_room.ensures.accepted.1 (rw there at (all index)) in cc)

pub returns-in_err-predicate_room-clause-same : goal.returns-in_err-predicate_room-clause-same
returns-in_err-predicate_room-clause-same g c =
    let was = c.loop-index.invariant in
    let now = c.loop-index.self-inside.segments.items in
    let same = set-same now c.loop-index.index c.index_mut.result.now c.predicate_room.new.self c.index_mut.ensures.value c.in_err-predicate_room.ensures.same ∙ was.same in
    same-data c.args.self.now c.loop-index.self-inside.bits (data_of c.loop-index.self-inside.settings) _ was.bits was.settings same

pub returns-clause-accepted : goal.returns-clause-accepted
returns-clause-accepted g c =
    let was = c.loop-index.invariant in
    let count : length c.self.inside.segments.items ≡ length c.args.self.now.segments = ap (λ (d : SegmentedData _ _ _ _ _ _ _). length d.segments) c.self.view_is in
    (λ ok j. ⊎_elim (λ lt. was.supported j (omega (arith, lt, count, c.loop-index-test.false, c.len-index-end.ensures))) (λ le. rw (slice_get_past c.args.self.now.segments j le) tt) (below-or-past j (length c.args.self.now.segments)), λ all. refl)

pub returns-clause-same : goal.returns-clause-same
returns-clause-same g c =
    let was = c.loop-index.invariant in
    same-data c.args.self.now c.loop-index.self-inside.bits (data_of c.loop-index.self-inside.settings) _ was.bits was.settings was.same
