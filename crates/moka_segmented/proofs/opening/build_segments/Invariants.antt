use Rattle.std.proofs.Common.{◌≡◌, ◌≤◌, ◌^◌, [], vec_len}
use Rattle.std.specs.Arc.{arc_value}
use Rattle.std.specs.Vec.{vec_capacity}
use Rattle.std.specs.List.{AllByRecursion}
use Rattle.moka_model.specs.StandsFor.{StandsFor}
use Rattle.moka_expiration.specs.Behaviour.{hash_by, behaviour_by}
use Rattle.moka_expiration.specs.StateData.{StateData, estimates, settings_by, view_by}
use Rattle.moka_segment_model.specs.Segments.{share, share_settings}
use Rattle.moka_segmented.specs.SegmentedData.{AllHashBy, data_of}
use Rattle.moka_segmented.proofs.opening.build_segments.Given as goal

-- So many states are opened, each with its share, and there is room for the others.
abbrev pub invariant-loop : goal.invariant-loop
invariant-loop g l =
    let behaviour = behaviour_by (hash_by g.C.Hasher.BuildHasher.build_hasher g.C.Hasher.Hasher.Hasher.write g.C.Hasher.Hasher.Hasher.finish g.K.Hash.hash_input) g.C.CacheTypes.weight g.C.CacheTypes.lifetimes in
    let frequency = estimates g.C.Frequency.FrequencySource.noted g.C.Frequency.FrequencySource.count in
    record {
      count : vec_len l.segments ≡ l.counter;
      room : l.count ≤ vec_capacity l.segments;
      each : AllByRecursion (λ state. StandsFor g.K.PartialEq.eq g.V.Clone.is_clone (share_settings (record { bits = l.fn.bits; whole = settings_by behaviour (frequency g.C.Frequency.FrequencySource.opened) (data_of l.fn.settings) })) (view_by behaviour frequency g.C.Frequency.FrequencySource.opened state) []) l.segments.items;
      hashed : AllHashBy (arc_value l.fn.settings.hasher) l.segments.items;
      roomy : AllByRecursion (λ (state : StateData _ _ _ _ _ _ _). share (2 ^ l.fn.bits) l.fn.settings.initial_capacity ≤ state.initial_room) l.segments.items;
    }
