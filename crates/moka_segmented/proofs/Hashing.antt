-- The hashers of a vector of states.
use Rattle.std.proofs.Common.{◌≡◌, ℕ, zero, suc, ◌<◌, ◌^◌, Some, Bool, List, [], ◌∷◌, length, ap, ◌∙◌, get_or, set, arith}
use Rattle.std.specs.List.{AllByRecursion}
use Rattle.moka_model.specs.Lives.{Settings}
use Rattle.moka_expiration.specs.StateData.{StateData}
use Rattle.moka_state.specs.declared.step.Step.{Step}
use Rattle.moka_state.specs.declared.step.Step.TheVariants.{Get, ContainsKey, Insert, Invalidate, Remove, InvalidateAll, InvalidateIf}
use Rattle.moka_state.specs.declared.step.Step.TheVariants.{RunPendingTasks, RunPendingTasksUpTo, EntryCount, WeightedSize, TakeNotice}
use Rattle.moka_state.specs.declared.step.Step.TheVariants.{OrInsert, Begin, BeginCompute, Finish, Abandon, Collect, Leave}
use Rattle.moka_state.specs.Step.{call_of}
use Rattle.moka_state.specs.Hashes.{IsHashOf, IsHashOfStep}
use Rattle.moka_segment_model.specs.Segments.{key_in}
use Rattle.moka_segment_model.proofs.Callers.{length-set}
use Rattle.moka_segmented.specs.SegmentedData.{AllHashBy}

-- what holds of all holds of the one at a place
pub hash-at : {S : Type 0} (P : S → Type 0) (states : List S) (i : ℕ) (here : S) → i < length states → here ≡ get_or states i here → AllByRecursion P states → P here
hash-at P [] i here within is all = absurd (let no : ⊥ = omega (arith, within) in no)
hash-at P (s ∷ ss) zero here within is all = rw is all.0
hash-at P (s ∷ ss) (suc i) here within is all = hash-at P ss i here (omega (arith, within)) is all.1

-- where another state that hashes as the one that was there is set at a place, all hash as they did
pub all-hash-by : {K V H W X F E : Type 0} (hasher : H) (states : List (StateData K V H W X F E)) (i : ℕ) (here new : StateData K V H W X F E) → here ≡ get_or states i here → new.settings ≡ here.settings → AllHashBy hasher states → AllHashBy hasher (set states i new)
all-hash-by hasher [] i here new is same all = tt
all-hash-by hasher (s ∷ ss) zero here new is same all = (ap (λ settings. settings.behaviour.hasher) same ∙ ap (λ (state : StateData _ _ _ _ _ _ _). state.settings.behaviour.hasher) is ∙ all.0, all.1)
all-hash-by hasher (s ∷ ss) (suc i) here new is same all = (all.0, all-hash-by hasher ss i here new is same all.1)

-- so what a cache of several segments is by its fields it still is
pub all-hash-set : {K V H W X F E : Type 0} (hasher : H) {bits : ℕ} {Limits : Type 0} (states : List (StateData K V H W X F E)) (i : ℕ) (here new : StateData K V H W X F E) → here ≡ get_or states i here → new.settings ≡ here.settings
    → (bits < 64) × (length states ≡ 2 ^ bits) × Limits × AllHashBy hasher states → (bits < 64) × (length (set states i new) ≡ 2 ^ bits) × Limits × AllHashBy hasher (set states i new)
all-hash-set hasher states i here new is same was = (was.0, length-set states i new ∙ was.1, was.2, all-hash-by hasher states i here new is same was.3)

-- the hash of a key is that of a step of this key
pub hash-of-step : {K V C H W X P F L T E S : Type 0} (test : P → K → V → Bool) (settings : Settings K V) (k : K) (hash : ℕ) (step : Step K V C H W X P F L T E S) → Some k ≡ key_in (call_of test step) → IsHashOf settings k hash → IsHashOfStep settings step hash
hash-of-step test settings k hash (Get key now) of is = cc
hash-of-step test settings k hash (ContainsKey key now) of is = cc
hash-of-step test settings k hash (Insert key value now) of is = cc
hash-of-step test settings k hash (OrInsert key value now) of is = cc
hash-of-step test settings k hash (Invalidate key now) of is = cc
hash-of-step test settings k hash (Remove key now) of is = cc
hash-of-step test settings k hash (Begin key kind replace now) of is = cc
hash-of-step test settings k hash (BeginCompute key keep now) of is = cc
hash-of-step test settings k hash (Finish name outcome now) of is = cc
hash-of-step test settings k hash (Abandon name) of is = cc
hash-of-step test settings k hash (Collect name) of is = cc
hash-of-step test settings k hash (Leave name) of is = cc
hash-of-step test settings k hash InvalidateAll of is = tt
hash-of-step test settings k hash (InvalidateIf predicate) of is = tt
hash-of-step test settings k hash (RunPendingTasks now) of is = tt
hash-of-step test settings k hash (RunPendingTasksUpTo limit now) of is = tt
hash-of-step test settings k hash EntryCount of is = tt
hash-of-step test settings k hash WeightedSize of is = tt
hash-of-step test settings k hash TakeNotice of is = tt
