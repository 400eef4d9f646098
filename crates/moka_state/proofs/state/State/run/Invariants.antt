use Rattle.std.proofs.Common.{◌≡◌, ◌+◌, ◌≤◌, List, ◌++◌, vec_len}
use Rattle.std.specs.Vec.{vec_capacity}
use Rattle.std.specs.VecDeque.{deque_len}
use Rattle.std.specs.List.{AllByRecursion}
use Rattle.moka_model.specs.Lives.{Settings}
use Rattle.moka_model.specs.Steps.{AcceptedStep}
use Rattle.moka_model.specs.StandsFor.{StandsFor}
use Rattle.moka_expiration.specs.Behaviour.{hash_by, behaviour_by}
use Rattle.moka_expiration.specs.StateData.{estimates, view_by}
use Rattle.moka_state.specs.declared.step.Step.{Step}
use Rattle.moka_state.specs.Step.{StepKeeps, IsRun, after_all}
use Rattle.moka_state.proofs.state.State.run.Given as goal

-- The steps done so far and their replies are a run, and the state stands for what it leaves; there is room for a
-- reply to each step that is left. The settings are those of the start.
abbrev pub invariant-loop-step : goal.invariant-loop-step
invariant-loop-step g l =
    let hash = hash_by g.C.Hasher.BuildHasher.build_hasher g.C.Hasher.Hasher.Hasher.write g.C.Hasher.Hasher.Hasher.finish g.K.Hash.hash_input in
    let view = view_by (behaviour_by hash g.C.CacheTypes.weight g.C.CacheTypes.lifetimes) (estimates g.C.Frequency.FrequencySource.noted g.C.Frequency.FrequencySource.count) g.C.Frequency.FrequencySource.opened in
    record {
      kept : AllByRecursion (StepKeeps g.C.CacheTypes.keeps g.C.Predicate.Predicate.tests g.C.CacheTypes.test) l.left.items;
      room : vec_len l.replies + deque_len l.left ≤ vec_capacity l.replies;
      settings : l.self.settings ≡ l.fn.self.settings;
      so_far : (given : Settings _ _) (before : List (AcceptedStep _ _ _)) → StandsFor {E = g.row.C-Error.Denot} g.K.PartialEq.eq g.V.Clone.is_clone given (view l.fn.self) before
          → (done : List (Step _ _ _ _ _ _ _ _ _ _ _ _)) × (l.fn.steps.items ≡ done ++ l.left.items) × IsRun g.K.PartialEq.eq g.C.CacheTypes.test given g.V.Clone.is_clone g.V.Clone.is_infallible before done l.replies.items × StandsFor g.K.PartialEq.eq g.V.Clone.is_clone given (view l.self) (after_all g.K.PartialEq.eq g.C.CacheTypes.test given done l.replies.items before);
    }

abbrev pub decreases-loop-step : goal.decreases-loop-step
decreases-loop-step g l = deque_len l.left
