use Rattle.std.proofs.Common.{◌≡◌, ◌+◌, ◌≤◌, List, ◌++◌, vec_len}
use Rattle.std.specs.Vec.{vec_capacity}
use Rattle.std.specs.VecDeque.{deque_len}
use Rattle.std.specs.List.{AllByRecursion}
use Rattle.moka_model.specs.Calls.{Call}
use Rattle.moka_expiration.specs.Behaviour.{hash_by, behaviour_by}
use Rattle.moka_expiration.specs.StateData.{estimates}
use Rattle.moka_state.specs.declared.step.Step.{Step}
use Rattle.moka_state.specs.Step.{StepKeeps}
use Rattle.moka_segment_model.specs.Segments.{SegmentedSettings, AllStandFor}
use Rattle.moka_segmented.specs.SegmentedData.{segmented_view_by}
use Rattle.moka_segmented.specs.Step.{IsRunIn, after_all_in}
use Rattle.moka_segmented.proofs.segment.Segmented.run.Given as goal

-- The steps done so far and their replies are a run, and the states stand for what it leaves; there is room for a reply to
-- each step that is left.
abbrev pub invariant-loop-step : goal.invariant-loop-step
invariant-loop-step g l =
    let view = segmented_view_by (behaviour_by (hash_by g.C.Hasher.BuildHasher.build_hasher g.C.Hasher.Hasher.Hasher.write g.C.Hasher.Hasher.Hasher.finish g.K.Hash.hash_input) g.C.CacheTypes.weight g.C.CacheTypes.lifetimes) (estimates g.C.Frequency.FrequencySource.noted g.C.Frequency.FrequencySource.count) g.C.Frequency.FrequencySource.opened in
    record {
      kept : AllByRecursion (StepKeeps g.C.CacheTypes.keeps g.C.Predicate.Predicate.tests g.C.CacheTypes.test) l.left.items;
      settings : l.self.settings ≡ l.fn.self.settings;
      room : vec_len l.replies + deque_len l.left ≤ vec_capacity l.replies;
      so_far : (given : SegmentedSettings _ _) (before : List (Call _ _ _)) → AllStandFor g.K.PartialEq.eq g.V.Clone.is_clone given (view l.fn.self) before
          → (done : List (Step _ _ _ _ _ _ _ _ _ _ _ _)) × (l.fn.steps.items ≡ done ++ l.left.items) × IsRunIn g.C.CacheTypes.test g.K.PartialEq.eq g.V.Clone.is_clone g.V.Clone.is_infallible given before done l.replies.items × AllStandFor g.K.PartialEq.eq g.V.Clone.is_clone given (view l.self) (after_all_in g.C.CacheTypes.test done l.replies.items before);
    }

abbrev pub decreases-loop-step : goal.decreases-loop-step
decreases-loop-step g l = deque_len l.left
