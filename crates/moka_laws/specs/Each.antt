-- What a law is about: all lists of events, or all lists of accepted steps, under all settings.
use Rattle.std.specs.Prelude.{◌≡◌, Bool, List, [], ◌++◌}
use Rattle.moka_model.specs.Lives.{Settings}
use Rattle.moka_model.specs.Events.{Event}
use Rattle.moka_model.specs.Steps.{AcceptedStep}
use Rattle.moka_model.specs.Calls.{IsLegal}
use Rattle.moka_laws.specs.Laws.{and_then}

module _ (K V : Type 0) where
  -- The law holds after all events, under all settings.
  abbrev pub AfterEvents : (Settings K V → List (Event K V) → Type 0) → Type 0
  AfterEvents law = (settings : Settings K V) (h : List (Event K V)) → law settings h

  -- The law holds of all events and all later ones, under all settings.
  abbrev pub AcrossEvents : (Settings K V → List (Event K V) → List (Event K V) → Type 0) → Type 0
  AcrossEvents law = (settings : Settings K V) (later h : List (Event K V)) → law settings later h

  module _ (E : Type 0) where
    -- The law holds after all accepted steps, under all settings.
    abbrev pub AfterSteps : (Settings K V → List (AcceptedStep K V E) → Type 0) → Type 0
    AfterSteps law = (settings : Settings K V) (steps : List (AcceptedStep K V E)) → law settings steps

    -- The law holds after all steps that calls made, under all settings.
    abbrev pub AfterCalls : (K → K → Bool) → (Settings K V → List (AcceptedStep K V E) → Type 0) → Type 0
    AfterCalls eq law =
        (settings : Settings K V) (steps : List (AcceptedStep K V E)) → IsLegal eq settings steps → law settings steps

    -- The law holds of all accepted steps and all later ones, under all settings.
    abbrev pub AcrossSteps : (Settings K V → List (AcceptedStep K V E) → List (AcceptedStep K V E) → Type 0) → Type 0
    AcrossSteps law = (settings : Settings K V) (later steps : List (AcceptedStep K V E)) → law settings later steps

    -- What is read off a list of accepted steps is the same without a step that has no event and no move.
    abbrev pub QuestionKeeps : {A : Type 0} → (Settings K V → List (AcceptedStep K V E) → A) → Type 0
    QuestionKeeps read =
        (settings : Settings K V) (later steps : List (AcceptedStep K V E))
        → read settings (later ++ and_then [] steps) ≡ read settings (later ++ steps)

    -- The same of what is read off for each key, say, or for each call.
    abbrev pub QuestionKeepsEach : {A : Type 0} (X : Type 0) → (Settings K V → X → List (AcceptedStep K V E) → A) → Type 0
    QuestionKeepsEach X read =
        (settings : Settings K V) (later steps : List (AcceptedStep K V E)) (x : X)
        → read settings x (later ++ and_then [] steps) ≡ read settings x (later ++ steps)
