use Rattle.std.proofs.Common.{◌≡◌, ◌≤◌, ◌^◌, [], option_map, vec_len}
use Rattle.std.specs.Arc.{arc_value}
use Rattle.std.specs.Vec.{vec_capacity}
use Rattle.std.specs.List.{AllByRecursion}
use Rattle.moka_model.specs.StandsFor.{StandsFor}
use Rattle.moka_expiration.specs.Behaviour.{hash_by, behaviour_by}
use Rattle.moka_expiration.specs.StateData.{estimates, settings_by, view_by}
use Rattle.moka_segment_model.specs.Segments.{share}
use Rattle.moka_segmented.specs.SegmentedData.{data_of}
use Rattle.moka_sync.specs.Cache.{CacheData}
use Rattle.moka_sync.specs.Segments.{AreMadeOf}
use Rattle.moka_sync.proofs.build.segments_of.Given as goal

-- So many segments are made, each with its share, and there is room for the others.
abbrev pub invariant-loop : goal.invariant-loop
invariant-loop g l =
    let behaviour = behaviour_by (hash_by g.C.Hasher.BuildHasher.build_hasher g.C.Hasher.Hasher.Hasher.write g.C.Hasher.Hasher.Hasher.finish g.K.Hash.hash_input) g.C.CacheTypes.weight g.C.CacheTypes.lifetimes in
    let frequency = estimates g.C.Frequency.FrequencySource.noted g.C.Frequency.FrequencySource.count in
    record {
      count : vec_len l.segments ≡ l.counter;
      room : l.count ≤ vec_capacity l.segments;
      made : AreMadeOf l.fn.bits (data_of l.fn.settings) (arc_value l.fn.clock) (option_map arc_value l.fn.listener) l.segments.items;
      empty : AllByRecursion (λ (segment : CacheData _ _ _ _ _ _ _ _ _). StandsFor g.K.PartialEq.eq g.V.Clone.is_clone (settings_by behaviour (frequency g.C.Frequency.FrequencySource.opened) segment.opening.settings) (view_by behaviour frequency g.C.Frequency.FrequencySource.opened segment.opening) []) l.segments.items;
      roomy : AllByRecursion (λ (segment : CacheData _ _ _ _ _ _ _ _ _). share (2 ^ l.fn.bits) l.fn.settings.initial_capacity ≤ segment.opening.initial_room) l.segments.items;
    }
