use Rattle.std.proofs.Common.{◌≡◌, false}
use Rattle.std.specs.Arc.{arc_value}
use Rattle.moka_expiration.specs.Behaviour.{hash_by, behaviour_by}
use Rattle.moka_expiration.specs.StateData.{estimates, view_by}
use Rattle.moka_model.specs.Calls.{RunPendingTasks, RunPendingTasksUpTo}
use Rattle.moka_segmented.specs.Maintained.{FewLeft, FewNoticed}
use Rattle.moka_segmented.specs.SegmentedData.{AllHashBy, data_of}
use Rattle.moka_segmented.proofs.Broadcast.{Progress, Together}
use Rattle.moka_segmented.proofs.segment.Segmented.run_pending_tasks_up_to.Given as goal

-- those before the index have followed the call, and it is known whether any of them left a part; if none did, they have
-- followed a whole maintenance; the others are as they were
abbrev pub invariant-loop-index : goal.invariant-loop-index
invariant-loop-index g l = record {
  bits : l.self-inside.bits ≡ l.fn.self.bits;
  settings : data_of l.self-inside.settings ≡ l.fn.self.settings;
  hashed : AllHashBy (arc_value l.self-inside.settings.hasher) l.self-inside.segments.items;
  together : Together g.K.PartialEq.eq g.V.Clone.is_clone (view_by (behaviour_by (hash_by g.C.Hasher.BuildHasher.build_hasher g.C.Hasher.Hasher.Hasher.write g.C.Hasher.Hasher.Hasher.finish g.K.Hash.hash_input) g.C.CacheTypes.weight g.C.CacheTypes.lifetimes) (estimates g.C.Frequency.FrequencySource.noted g.C.Frequency.FrequencySource.count) g.C.Frequency.FrequencySource.opened) (RunPendingTasksUpTo l.fn.limit l.fn.now) l.fn.self.segments l.self-inside.segments.items l.is_left l.index;
  whole : l.is_left ≡ false → Progress g.K.PartialEq.eq g.V.Clone.is_clone (view_by (behaviour_by (hash_by g.C.Hasher.BuildHasher.build_hasher g.C.Hasher.Hasher.Hasher.write g.C.Hasher.Hasher.Hasher.finish g.K.Hash.hash_input) g.C.CacheTypes.weight g.C.CacheTypes.lifetimes) (estimates g.C.Frequency.FrequencySource.noted g.C.Frequency.FrequencySource.count) g.C.Frequency.FrequencySource.opened) (RunPendingTasks l.fn.now) l.fn.self.segments l.self-inside.segments.items l.index;
  fewer : FewLeft l.fn.limit l.fn.self.segments l.self-inside.segments.items;
  noticed : FewNoticed l.fn.limit l.fn.self.segments l.self-inside.segments.items;
}
