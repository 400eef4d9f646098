-- What holds of the results of loaders and of their closures, by cases. Callers of loaders use it too.
use Rattle.std.proofs.Common.{◌≡◌, ℕ, Bool, true, Option, Some, None, IsSome, List}
use Rattle.std.specs.Prelude.{Result, Ok, Err, IfOk, IfSome}
use Rattle.std.specs.declared.sync.Arc.{Arc}
use Rattle.std.specs.declared.alloc.Global.{Global}
use Rattle.moka_policy.specs.declared.policy.Refused.TheVariants.{OutOfMemory}
use Rattle.moka_model.specs.declared.entry.Entry.{Entry}
use Rattle.moka_model.specs.Lives.{Settings}
use Rattle.moka_model.specs.Steps.{AcceptedStep}
use Rattle.moka_model.specs.Turns.{Name, fits}
use Rattle.moka_model.specs.Calls.{Finish, accepted}
use Rattle.moka_model.specs.declared.turns.Kind.{Kind}
use Rattle.moka_model.specs.declared.turns.Kind.TheVariants.{With, Optionally, Try, Compute}
use Rattle.moka_model.specs.declared.turns.Op.TheVariants as ops
use Rattle.moka_model.specs.declared.turns.Outcome.{Outcome}
use Rattle.moka_model.specs.declared.turns.Outcome.TheVariants as outcomes
use Rattle.moka_state.specs.declared.answers.Answer.{Answer}
use Rattle.moka_state.specs.declared.answers.Answer.TheVariants as answers
use Rattle.moka_state.specs.Begin.{EntryKeeps}
use Rattle.moka_state.specs.Finish.{Fits, IsGiven, OutcomeKeeps, outcome_of}
use Rattle.moka_state.specs.Forms.{optional_outcome, tried_outcome}
use Rattle.moka_state.specs.Given.{Gives}
use Rattle.moka_state.specs.Loader.{AnswerFits, GivenKeeps, IsFailure, ValueKeeps, optional_answer, tried_answer}
use Rattle.moka_state.proofs.Forms.{failed-memory}

-- a closure that may return no value
pub optional_owes : {V : Type 0} (E : Type 0) (keeps : V → Type 0) (given : Option V) → IfSome given keeps → OutcomeKeeps {E = E} keeps (optional_outcome given)
optional_owes E keeps (Some v) kept = kept
optional_owes E keeps None kept = tt

module _ {V E : Type 0} (keeps : V → Type 0) where
  -- a closure that may fail
  pub tried_owes : (given : Result V E) → IfOk given keeps → OutcomeKeeps keeps (tried_outcome given)
  tried_owes (Ok v) kept = kept
  tried_owes (Err e) kept = tt

  -- an outcome whose error is in an `Arc`
  pub shared-owes : (o : Outcome V (Arc E Global)) → OutcomeKeeps keeps (outcome_of o) → OutcomeKeeps keeps o
  shared-owes (outcomes.Value v) kept = kept
  shared-owes outcomes.Nothing kept = tt
  shared-owes (outcomes.Failed e) kept = tt
  shared-owes (outcomes.Op (ops.Put v)) kept = kept
  shared-owes (outcomes.Op ops.Remove) kept = tt
  shared-owes (outcomes.Op ops.Nop) kept = tt

-- what is kept with one key is kept with another
pub owes-more : {V E : Type 0} {P Q : V → Type 0} → ((v : V) → P v → Q v) → (o : Outcome V E) → OutcomeKeeps P o → OutcomeKeeps Q o
owes-more more (outcomes.Value v) kept = more v kept
owes-more more outcomes.Nothing kept = tt
owes-more more (outcomes.Failed e) kept = tt
owes-more more (outcomes.Op (ops.Put v)) kept = more v kept
owes-more more (outcomes.Op ops.Remove) kept = tt
owes-more more (outcomes.Op ops.Nop) kept = tt

-- the entry of a loader that may return none
pub optional_keeps : {K V : Type 0} (E : Type 0) (keeps : K → V → Type 0) (key : K) (loaded : Option (Entry K V)) → GivenKeeps {E = E} keeps key (optional_answer loaded) → IfSome loaded (EntryKeeps keeps key)
optional_keeps E keeps key (Some entry) kept = kept
optional_keeps E keeps key None kept = tt

module _ {K V E : Type 0} (keeps : K → V → Type 0) where
  -- the entry of a loader that may fail
  pub tried_keeps : (key : K) (loaded : Result (Entry K V) (Arc E Global)) → GivenKeeps keeps key (tried_answer loaded) → IfOk loaded (EntryKeeps keeps key)
  tried_keeps key (Ok entry) kept = kept
  tried_keeps key (Err error) kept = tt

  -- what is kept with one key is kept with another
  pub given-more : (one other : K) → ((v : V) → keeps one v → keeps other v) → (given : Answer K V E) → GivenKeeps keeps one given → GivenKeeps keeps other given
  given-more one other more (answers.Entry entry) kept = (kept.0, more _ kept.1)
  given-more one other more answers.Nothing kept = tt
  given-more one other more (answers.Failed error) kept = tt

-- the value of a turn is a clone of the value of its outcome
pub given-values : {K V E : Type 0} (is_clone : V → V → Type 0) (keeps : V → Type 0) → ((v w : V) → is_clone v w → keeps v → keeps w) → (key : K) (o : Outcome V (Arc E Global)) (given : Answer K V E) → IsGiven is_clone key o given → OutcomeKeeps keeps o → ValueKeeps keeps given
given-values is_clone keeps copies key (outcomes.Value v) (answers.Entry entry) is kept = copies v _ is.1 kept
given-values is_clone keeps copies key o answers.Nothing is kept = tt
given-values is_clone keeps copies key o (answers.Failed error) is kept = tt
given-values is_clone keeps copies key outcomes.Nothing (answers.Entry entry) is kept = absurd is
given-values is_clone keeps copies key (outcomes.Failed e) (answers.Entry entry) is kept = absurd is
given-values is_clone keeps copies key (outcomes.Op op) (answers.Entry entry) is kept = absurd is

module _ {K V E : Type 0} where
  -- what holds of one value holds of another
  pub value-more : {P Q : V → Type 0} → ((v : V) → P v → Q v) → (given : Answer K V E) → ValueKeeps P given → ValueKeeps Q given
  value-more more (answers.Entry entry) kept = more _ kept
  value-more more answers.Nothing kept = tt
  value-more more (answers.Failed error) kept = tt

-- the outcome of a turn fits its kind
pub given-fits : {K V E : Type 0} (is_clone : V → V → Type 0) (key : K) (kind : Kind) (o : Outcome V (Arc E Global)) (given : Answer K V E) → Fits E kind (outcome_of o) → IsGiven is_clone key o given → AnswerFits kind given
given-fits is_clone key With (outcomes.Value v) (answers.Entry entry) fit is = tt
given-fits is_clone key Optionally (outcomes.Value v) (answers.Entry entry) fit is = tt
given-fits is_clone key Try (outcomes.Value v) (answers.Entry entry) fit is = tt
given-fits is_clone key Compute (outcomes.Value v) (answers.Entry entry) fit is = cc
given-fits is_clone key With outcomes.Nothing answers.Nothing fit is = cc
given-fits is_clone key Optionally outcomes.Nothing answers.Nothing fit is = tt
given-fits is_clone key Try outcomes.Nothing answers.Nothing fit is = cc
given-fits is_clone key Compute outcomes.Nothing answers.Nothing fit is = cc
given-fits is_clone key With (outcomes.Failed e) (answers.Failed f) fit is = cc
given-fits is_clone key Optionally (outcomes.Failed e) (answers.Failed f) fit is = cc
given-fits is_clone key Try (outcomes.Failed e) (answers.Failed f) fit is = tt
given-fits is_clone key Compute (outcomes.Failed e) (answers.Failed f) fit is = cc
given-fits is_clone key kind (outcomes.Value v) answers.Nothing fit is = absurd is
given-fits is_clone key kind (outcomes.Value v) (answers.Failed f) fit is = absurd is
given-fits is_clone key kind outcomes.Nothing (answers.Entry entry) fit is = absurd is
given-fits is_clone key kind outcomes.Nothing (answers.Failed f) fit is = absurd is
given-fits is_clone key kind (outcomes.Failed e) (answers.Entry entry) fit is = absurd is
given-fits is_clone key kind (outcomes.Failed e) answers.Nothing fit is = absurd is
given-fits is_clone key kind (outcomes.Op op) (answers.Entry entry) fit is = absurd is
given-fits is_clone key kind (outcomes.Op op) answers.Nothing fit is = absurd is
given-fits is_clone key kind (outcomes.Op op) (answers.Failed f) fit is = absurd is

-- a turn for a failure cannot end if its error cannot be shared
pub failure-memory : {K V E : Type 0} (eq : K → K → Bool) (is_clone : V → V → Type 0) (is_infallible : V → Type 0) (settings : Settings K V) (steps : List (AcceptedStep K V E)) (name : Name K) (o : Outcome V E) (at : ℕ) → IsFailure o → fits name.kind o ≡ true
    → IsSome (accepted eq settings steps (Finish name o at)) → Gives eq is_clone is_infallible settings steps (Finish name o at) (Err OutOfMemory)
failure-memory eq is_clone is_infallible settings steps name (outcomes.Failed error) at is fit known = failed-memory eq is_clone is_infallible settings steps name error at fit known
failure-memory eq is_clone is_infallible settings steps name (outcomes.Value v) at is fit known = absurd is
failure-memory eq is_clone is_infallible settings steps name outcomes.Nothing at is fit known = absurd is
failure-memory eq is_clone is_infallible settings steps name (outcomes.Op op) at is fit known = absurd is
