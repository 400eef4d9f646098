use Rattle.std.proofs.Common.{◌≤◌, ◌^◌, [], option_map, subst, arith}
use Rattle.std.specs.Arc.{arc_value}
use Rattle.moka_model.specs.StandsFor.{StandsFor}
use Rattle.moka_expiration.specs.Behaviour.{hash_by, behaviour_by}
use Rattle.moka_expiration.specs.StateData.{estimates, settings_by, view_by}
use Rattle.moka_segment_model.specs.Segments.{share}
use Rattle.moka_segmented.specs.SegmentedData.{data_of}
use Rattle.moka_segmented.proofs.Callers.{all-more}
use Rattle.moka_sync.specs.Cache.{CacheData, IsMadeOf}
use Rattle.moka_sync.specs.Segments.{settings_of_one}
use Rattle.moka_sync.proofs.build.segments_of.Goals as goal

pub loop-preserved : goal.loop-preserved
loop-preserved g c =
    let one = c.in_ok-build_segment.field-0 in
    let behaviour = behaviour_by (hash_by g.C.Hasher.BuildHasher.build_hasher g.C.Hasher.Hasher.Hasher.write g.C.Hasher.Hasher.Hasher.finish g.K.Hash.hash_input) g.C.CacheTypes.weight g.C.CacheTypes.lifetimes in
    let frequency = estimates g.C.Frequency.FrequencySource.noted g.C.Frequency.FrequencySource.count in
    record {
      count = omega (arith, c.loop.invariant.count, c.push_reserved.ensures.len);
      room = rw c.push_reserved.ensures.capacity c.loop.invariant.room;
      made = rw c.push_reserved.ensures.items
          (all-more (IsMadeOf (settings_of_one (2 ^ c.args.bits) (data_of c.args.settings.now)) (arc_value c.args.clock.now) (option_map arc_value c.args.listener.now)) c.loop.segments.items one
          (subst (λ n. IsMadeOf (settings_of_one n (data_of c.args.settings.now)) (arc_value c.args.clock.now) (option_map arc_value c.args.listener.now) one) c.count_of-count.ensures c.in_ok-build_segment.ensures.made) c.loop.invariant.made);
      empty = rw c.push_reserved.ensures.items
          (all-more (λ (segment : CacheData _ _ _ _ _ _ _ _ _). StandsFor g.K.PartialEq.eq g.V.Clone.is_clone (settings_by behaviour (frequency g.C.Frequency.FrequencySource.opened) segment.opening.settings) (view_by behaviour frequency g.C.Frequency.FrequencySource.opened segment.opening) []) c.loop.segments.items one c.in_ok-build_segment.ensures.empty c.loop.invariant.empty);
      roomy = rw c.push_reserved.ensures.items
          (all-more (λ (segment : CacheData _ _ _ _ _ _ _ _ _). share (2 ^ c.args.bits) c.args.settings.now.initial_capacity ≤ segment.opening.initial_room) c.loop.segments.items one
          (subst (λ n. share n c.args.settings.now.initial_capacity ≤ one.opening.initial_room) c.count_of-count.ensures c.in_ok-build_segment.ensures.room) c.loop.invariant.roomy);
    }

pub returns-clause-count : goal.returns-clause-count
returns-clause-count g c = omega (arith, c.loop.segments.ok, c.loop.invariant.count, c.loop-test.false, c.loop.auto.counter-end, c.count_of-count.ensures)
