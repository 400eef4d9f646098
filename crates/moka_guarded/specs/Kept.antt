-- The values that a shared cache returns satisfy its `keeps`, and the answers fit the kind of the turn.
use Rattle.std.specs.Prelude.{⊤}
use Rattle.moka_model.specs.declared.turns.Kind.{Kind}
use Rattle.moka_model.specs.declared.comp_result.CompResult.{CompResult}
use Rattle.moka_model.specs.declared.comp_result.CompResult.TheVariants as results
use Rattle.moka_state.specs.Begin.{EntryKeeps}
pub use Rattle.moka_state.specs.Loader.{AnswerFits, GivenKeeps}
use Rattle.moka_state.specs.declared.answers.Collected.{Collected}
use Rattle.moka_state.specs.declared.answers.Collected.TheVariants as collects
use Rattle.moka_state.specs.declared.answers.Finished.{Finished}
use Rattle.moka_state.specs.declared.answers.Finished.TheVariants as finishes

module _ {K V : Type 0} (keeps : K → V → Type 0) (key : K) where
  -- The value that a ticket gets, if it gets one, satisfies `keeps`.
  abbrev pub CollectedKeeps : {E : Type 0} → Collected K V E → Type 0
  CollectedKeeps (collects.Ready answer) = GivenKeeps keeps key answer
  CollectedKeeps collected = ⊤

  -- The value in the result of a compute, if there is one, satisfies `keeps`.
  abbrev pub ResultKeeps : CompResult K V → Type 0
  ResultKeeps (results.Unchanged entry) = EntryKeeps keeps key entry
  ResultKeeps (results.Inserted entry) = EntryKeeps keeps key entry
  ResultKeeps (results.ReplacedWith entry) = EntryKeeps keeps key entry
  ResultKeeps (results.Removed entry) = EntryKeeps keeps key entry
  ResultKeeps (results.StillNone own) = ⊤

  -- The value that a finish returns, if it returns one, satisfies `keeps`.
  abbrev pub FinishedKeeps : {E : Type 0} → Finished K V E → Type 0
  FinishedKeeps (finishes.Answer answer) = GivenKeeps keeps key answer
  FinishedKeeps (finishes.Computed result) = ResultKeeps result

-- What a ticket of this kind gets, if it gets an answer, is one that an initializer of the kind may give.
abbrev pub CollectedFits : {K V E : Type 0} → Kind → Collected K V E → Type 0
CollectedFits kind (collects.Ready answer) = AnswerFits kind answer
CollectedFits kind collected = ⊤
