use Rattle.std.proofs.Common.{◌≡◌, ◌≤◌, ◌^◌, length, ap, ◌∙◌, subst, arith}
use Rattle.std.specs.Arc.{arc_value}
use Rattle.moka_expiration.specs.Behaviour.{hash_by, behaviour_by}
use Rattle.moka_expiration.specs.StateData.{SettingsData, StateData, estimates}
use Rattle.moka_segment_model.specs.Segments.{share}
use Rattle.moka_segmented.specs.SegmentedData.{SegmentedData, data_of}
use Rattle.moka_segmented.proofs.Opened.{opened-more, all-empty, all-more, limits-some}
use Rattle.moka_segmented.proofs.opening.build_segments.Goals as goal

pub loop-preserved : goal.loop-preserved
loop-preserved g c = record {
  count = omega (arith, c.loop.invariant.count, c.push_reserved.ensures.len);
  room = rw c.push_reserved.ensures.capacity c.loop.invariant.room;
  each = rw c.push_reserved.ensures.items
      (opened-more g.row.C-Error.Denot g.K.PartialEq.eq (behaviour_by (hash_by g.C.Hasher.BuildHasher.build_hasher g.C.Hasher.Hasher.Hasher.write g.C.Hasher.Hasher.Hasher.finish g.K.Hash.hash_input) g.C.CacheTypes.weight g.C.CacheTypes.lifetimes) (estimates g.C.Frequency.FrequencySource.noted g.C.Frequency.FrequencySource.count) g.C.Frequency.FrequencySource.opened c.args.bits (data_of c.args.settings) c.loop.segments.items c.in_ok-new.field-0 c.count_of-count.result c.count_of-count.ensures
      (c.in_ok-new.ensures.settings ∙ c.in-Ok-share_of.ensures.share) c.in_ok-new.ensures.empty c.loop.invariant.each);
  hashed = rw c.push_reserved.ensures.items
      (all-more (λ (state : StateData _ _ _ _ _ _ _). state.settings.behaviour.hasher ≡ arc_value c.args.settings.hasher) c.loop.segments.items c.in_ok-new.field-0
      (ap (λ (s : SettingsData _ _ _). s.behaviour.hasher) (c.in_ok-new.ensures.settings ∙ c.in-Ok-share_of.ensures.share)) c.loop.invariant.hashed);
  roomy = rw c.push_reserved.ensures.items
      (all-more (λ (state : StateData _ _ _ _ _ _ _). share (2 ^ c.args.bits) c.args.settings.initial_capacity ≤ state.initial_room) c.loop.segments.items c.in_ok-new.field-0
      (subst (λ n. n ≤ c.in_ok-new.field-0.initial_room) (c.in-Ok-share_of.ensures.room ∙ ap (λ n. share n c.args.settings.initial_capacity) c.count_of-count.ensures) c.in_ok-new.ensures.room) c.loop.invariant.roomy);
}

pub returns-clause-empty : goal.returns-clause-empty
returns-clause-empty g c =
    let cache : SegmentedData _ _ _ _ _ _ _ = record { bits = c.args.bits; settings = data_of c.args.settings; segments = c.loop.segments.items } in
    let count : length c.loop.segments.items ≡ 2 ^ c.args.bits = omega (arith, c.loop.segments.ok, c.loop.invariant.count, c.loop-test.false, c.loop.auto.counter-end, c.count_of-count.ensures) in
    all-empty g.row.C-Error.Denot g.K.PartialEq.eq (behaviour_by (hash_by g.C.Hasher.BuildHasher.build_hasher g.C.Hasher.Hasher.Hasher.write g.C.Hasher.Hasher.Hasher.finish g.K.Hash.hash_input) g.C.CacheTypes.weight g.C.CacheTypes.lifetimes) (estimates g.C.Frequency.FrequencySource.noted g.C.Frequency.FrequencySource.count) g.C.Frequency.FrequencySource.opened cache count c.loop.invariant.each

pub invariant_of-result : goal.invariant_of-result
invariant_of-result g c =
    let count : length c.loop.segments.items ≡ 2 ^ c.args.bits = omega (arith, c.loop.segments.ok, c.loop.invariant.count, c.loop-test.false, c.loop.auto.counter-end, c.count_of-count.ensures) in
    (c.requires.bits, count, limits-some c.args.settings.flush_limit c.requires.usable.limits, c.loop.invariant.hashed)
