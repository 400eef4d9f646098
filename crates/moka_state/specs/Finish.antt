-- The end of a turn with an outcome.
use Rattle.std.specs.Prelude.{⊤, ◌≡◌, ◌<◌, ℕ, true, Option, Some, IsSome, IfSome, Result, OnOk, OnErr, IfOk, IfErr}
use Rattle.std.specs.Arc.{arc_value}
use Rattle.std.specs.declared.sync.Arc.{Arc}
use Rattle.std.specs.declared.alloc.Global.{Global}
use Rattle.moka_policy.specs.declared.policy.Refused.{Refused}
use Rattle.moka_model.specs.declared.turns.Kind.{Kind}
use Rattle.moka_model.specs.declared.turns.Outcome.{Outcome}
use Rattle.moka_model.specs.declared.turns.Outcome.TheVariants as outcomes
use Rattle.moka_model.specs.declared.turns.Op.{Op}
use Rattle.moka_model.specs.declared.turns.Op.TheVariants as ops
use Rattle.moka_model.specs.declared.comp_result.CompResult.{CompResult}
use Rattle.moka_model.specs.declared.comp_result.CompResult.TheVariants as results
use Rattle.moka_model.specs.Turns.{Name, fits}
use Rattle.moka_model.specs.Calls as calls
use Rattle.moka_model.specs.Entries.{entry_of}
use Rattle.moka_expiration.specs.StateData.{StateData}
use Rattle.moka_turns.specs.declared.handles.Turn.{Turn}
use Rattle.moka_turns.specs.Handles.{turn_name}
use Rattle.moka_state.specs.declared.answers.Answer.{Answer}
use Rattle.moka_state.specs.declared.answers.Answer.TheVariants as answers
use Rattle.moka_state.specs.declared.answers.Finished.{Finished}
use Rattle.moka_state.specs.declared.answers.Finished.TheVariants as finishes
use Rattle.moka_state.specs.declared.answers.FinishRefused.{FinishRefused}
use Rattle.moka_state.specs.declared.finish.Copies.{Copies}
use Rattle.moka_state.specs.Given.{of_finish}

-- An outcome as the specification has it: with the error itself instead of its `Arc`.
abbrev pub outcome_of : {V E : Type 0} → Outcome V (Arc E Global) → Outcome V E
outcome_of (outcomes.Value v) = outcomes.Value v
outcome_of outcomes.Nothing = outcomes.Nothing
outcome_of (outcomes.Failed e) = outcomes.Failed (arc_value e)
outcome_of (outcomes.Op op) = outcomes.Op op

-- A turn of this kind may end with this outcome.
abbrev pub Fits : {V : Type 0} (E : Type 0) → Kind → Outcome V E → Type 0
Fits E kind outcome = fits kind outcome ≡ true

-- What the caller owes for an outcome: a value that is to be written satisfies the invariant.
abbrev pub OutcomeKeeps : {V E : Type 0} → (V → Type 0) → Outcome V E → Type 0
OutcomeKeeps keeps (outcomes.Value v) = keeps v
OutcomeKeeps keeps (outcomes.Op (ops.Put v)) = keeps v
OutcomeKeeps keeps outcome = ⊤

-- The clones for the end of a turn with a value that `waiting` callers wait for.
pub record IsCopiesOf {K V : Type 0} (is_clone : V → V → Type 0) (turn : Turn K) (value : V) (waiting : ℕ)
    (copies : Copies K V) : Type 0 where
  pub key : arc_value copies.key ≡ arc_value turn.key.key
  pub reply : is_clone value copies.reply
  pub waited : 0 < waiting → IsSome copies.saved
  pub saved : IfSome copies.saved (is_clone value)

-- The result of a loader's turn is its outcome: a clone of the value under the turn's key, nothing, or the same error.
abbrev pub IsGiven : {K V E : Type 0} → (V → V → Type 0) → K → Outcome V (Arc E Global) → Answer K V E → Type 0
IsGiven is_clone key (outcomes.Value v) (answers.Entry entry) = ((entry_of entry).key ≡ key) × is_clone v (entry_of entry).value
IsGiven is_clone key outcomes.Nothing answers.Nothing = ⊤
IsGiven is_clone key (outcomes.Failed e) (answers.Failed f) = f ≡ e
IsGiven is_clone key outcome answer = ⊥

-- The result of a compute fits its operation, and has the turn's key. A value that was put is there as a clone.
abbrev pub IsComputed : {K V : Type 0} → (V → V → Type 0) → K → Op V → CompResult K V → Type 0
IsComputed is_clone key (ops.Put v) (results.Inserted entry) = ((entry_of entry).key ≡ key) × is_clone v (entry_of entry).value
IsComputed is_clone key (ops.Put v) (results.ReplacedWith entry) = ((entry_of entry).key ≡ key) × is_clone v (entry_of entry).value
IsComputed is_clone key ops.Remove (results.StillNone own) = arc_value own ≡ key
IsComputed is_clone key ops.Remove (results.Removed entry) = (entry_of entry).key ≡ key
IsComputed is_clone key ops.Nop (results.StillNone own) = arc_value own ≡ key
IsComputed is_clone key ops.Nop (results.Unchanged entry) = (entry_of entry).key ≡ key
IsComputed is_clone key op result = ⊥

-- The result of a finish is that of a loader's turn or that of a compute.
abbrev pub IsFinished : {K V E : Type 0} → (V → V → Type 0) → K → Outcome V (Arc E Global) → Finished K V E → Type 0
IsFinished is_clone key outcome (finishes.Answer answer) = IsGiven is_clone key outcome answer
IsFinished is_clone key (outcomes.Op op) (finishes.Computed result) = IsComputed is_clone key op result
IsFinished is_clone key outcome (finishes.Computed result) = ⊥

-- A finish ends as `gives` says, and leaves the settings as they were. If it succeeds, `follows` holds, and the result is the
-- outcome. If it fails, nothing has changed, and the turn, which has this name, and the outcome come back.
pub record FinishEnds {K V H W X F E : Type 0} (is_clone : V → V → Type 0) (gives : Result (calls.Reply K V E) Refused → Type 0)
    (follows : Type 0) (old new : StateData K V H W X F E) (name : Name K) (outcome : Outcome V (Arc E Global))
    (result : Result (Finished K V E) (FinishRefused K V E)) : Type 0 where
  pub reply : gives (of_finish result)
  pub stands : OnOk result follows
  pub given : IfOk result (IsFinished is_clone name.key outcome)
  pub refused : OnErr result (new ≡ old)
  pub turn_back : IfErr result (λ refused. turn_name refused.turn ≡ name)
  pub outcome_back : IfErr result (λ refused. refused.outcome ≡ outcome)
  pub settings : new.settings ≡ old.settings
