-- What loaders return, as the outcomes of turns.
use Rattle.std.specs.Prelude.{⊤, Option, Some, None, Result, Ok, Err}
use Rattle.std.specs.declared.sync.Arc.{Arc}
use Rattle.std.specs.declared.alloc.Global.{Global}
use Rattle.moka_model.specs.declared.entry.Entry.{Entry}
use Rattle.moka_model.specs.declared.turns.Kind.{Kind}
use Rattle.moka_model.specs.declared.turns.Kind.TheVariants.{With, Optionally, Try}
use Rattle.moka_model.specs.declared.turns.Outcome.{Outcome}
use Rattle.moka_model.specs.declared.turns.Outcome.TheVariants as outcomes
use Rattle.moka_model.specs.Entries.{entry_of}
use Rattle.moka_model.specs.Calls.{Reply}
use Rattle.moka_policy.specs.declared.policy.Refused.{Refused}
use Rattle.moka_state.specs.Begin.{EntryKeeps}
use Rattle.moka_state.specs.Given.{of_answer}
use Rattle.moka_state.specs.declared.answers.Answer.{Answer}
use Rattle.moka_state.specs.declared.answers.Answer.TheVariants as answers

module _ {K V E : Type 0} where
  -- The entry of a value, or nothing.
  abbrev pub optional_answer : Option (Entry K V) → Answer K V E
  optional_answer (Some entry) = answers.Entry entry
  optional_answer None = answers.Nothing

  -- The entry of a value, or an error.
  abbrev pub tried_answer : Result (Entry K V) (Arc E Global) → Answer K V E
  tried_answer (Ok entry) = answers.Entry entry
  tried_answer (Err error) = answers.Failed error

  -- The result of a loader, as a reply of the specification. `answer` makes an outcome of what it returns.
  abbrev pub of_loaded : {L : Type 0} → (L → Answer K V E) → Result L Refused → Result (Reply K V E) Refused
  of_loaded answer (Ok loaded) = Ok (of_answer (answer loaded))
  of_loaded answer (Err cause) = Err cause

  -- The value that a turn gave, if it gave one, has the property.
  abbrev pub ValueKeeps : (V → Type 0) → Answer K V E → Type 0
  ValueKeeps keeps (answers.Entry entry) = keeps (entry_of entry).value
  ValueKeeps keeps answer = ⊤

-- The outcome is an error.
abbrev pub IsFailure : {V E : Type 0} → Outcome V E → Type 0
IsFailure (outcomes.Failed error) = ⊤
IsFailure outcome = ⊥

-- An initializer of this kind may give such an answer.
abbrev pub AnswerFits : {K V E : Type 0} → Kind → Answer K V E → Type 0
AnswerFits With (answers.Entry entry) = ⊤
AnswerFits Optionally (answers.Entry entry) = ⊤
AnswerFits Optionally answers.Nothing = ⊤
AnswerFits Try (answers.Entry entry) = ⊤
AnswerFits Try (answers.Failed error) = ⊤
AnswerFits kind answer = ⊥

-- The value that a turn gave, if it gave one, satisfies `keeps`.
abbrev pub GivenKeeps : {K V E : Type 0} → (K → V → Type 0) → K → Answer K V E → Type 0
GivenKeeps keeps key (answers.Entry entry) = EntryKeeps keeps key entry
GivenKeeps keeps key answer = ⊤
