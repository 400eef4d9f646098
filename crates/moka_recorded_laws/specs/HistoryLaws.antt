-- The terms of the laws about closed histories.
use Rattle.std.specs.Prelude.{◌≡◌, ℕ, Bool, Option, Some, List, slice_get, map}
use Rattle.moka_model.specs.declared.entry.Entry.{Entry}
use Rattle.moka_model.specs.Lives.{Settings}
use Rattle.moka_model.specs.Steps.{AcceptedStep}
use Rattle.moka_model.specs.StandsFor.{WholeView}
use Rattle.moka_turns.specs.declared.turn_name.TurnName.{TurnName}
use Rattle.moka_state.specs.declared.step.Step.{Step}
use Rattle.moka_state.specs.declared.step.Reply.{Reply}
use Rattle.moka_state.specs.declared.step.Reply.TheVariants.{Run}
use Rattle.moka_state.specs.Recorded.{IsRecordUnder}
use Rattle.moka_recording.specs.Receipts.{pairs}
use Rattle.moka_recorded_laws.specs.RunLaws.{accepted_before}

-- Two values are the same up to clones: each comes from the other through clones and originals.
pub data SameUpToClones {V : Type 0} (is_clone : V → V → Type 0) : V → V → Type 0 where
  clone : (v w : V) → is_clone v w → SameUpToClones is_clone v w
  original : (v w : V) → is_clone v w → SameUpToClones is_clone w v
  through : (u v w : V) → SameUpToClones is_clone u v → SameUpToClones is_clone v w → SameUpToClones is_clone u w

module _ {S R : Type 0} where
  -- The steps of a history, and its replies.
  abbrev pub steps_of : List (S × R) → List S
  steps_of history = map (λ e. e.0) history

  abbrev pub replies_of : List (S × R) → List R
  replies_of history = map (λ e. e.1) history

module _ (C H W X F L T S : Type 0) {K V P E D : Type 0} (eq : K → K → Bool) (is_clone : V → V → Type 0)
    (is_infallible : V → Type 0) (test : P → K → V → Bool) (view : D → WholeView K V E) where
  -- `Q` holds of each history of a state. It is told which accepted steps were before each place, in the run of which the
  -- history has clones.
  abbrev pub OfEachRecord : (Settings K V → (ℕ → List (AcceptedStep K V E)) →
      List (Step K V C H W X P F L T E S × Reply K V C H W X P F L T E S) → Type 0) → Type 0
  OfEachRecord Q =
      (settings : Settings K V) (state : D)
      (history : List (Step K V C H W X P F L T E S × Reply K V C H W X P F L T E S))
      (it : IsRecordUnder eq is_clone is_infallible test view settings state history) →
      Q settings (accepted_before eq test settings (steps_of it.0) (replies_of it.0)) history

  -- The same of each history that has the numbers of the passes.
  abbrev pub OfEachLog : (Settings K V → (ℕ → List (AcceptedStep K V E)) →
      List (ℕ × Step K V C H W X P F L T E S × Reply K V C H W X P F L T E S) → Type 0) → Type 0
  OfEachLog Q =
      (settings : Settings K V) (state : D)
      (log : List (ℕ × Step K V C H W X P F L T E S × Reply K V C H W X P F L T E S))
      (it : IsRecordUnder eq is_clone is_infallible test view settings state (pairs log)) →
      Q settings (accepted_before eq test settings (steps_of it.0) (replies_of it.0)) log

module _ {K V C H W X P F L T E S : Type 0} where
  -- Entries whose replies are `Run` with one number are one entry, of one pass.
  abbrev pub OpensInOnePass : List (ℕ × Step K V C H W X P F L T E S × Reply K V C H W X P F L T E S) → Type 0
  OpensInOnePass log =
      (i j : ℕ) (d e : ℕ × Step K V C H W X P F L T E S × Reply K V C H W X P F L T E S) (a b : TurnName K)
      (shown told : Option (Entry K V)) → slice_get log i ≡ Some d → slice_get log j ≡ Some e
      → d.2 ≡ Run a shown → e.2 ≡ Run b told → a.number ≡ b.number → (i ≡ j) × (d.0 ≡ e.0)
