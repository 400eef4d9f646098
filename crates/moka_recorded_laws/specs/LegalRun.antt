-- A history that is itself a legal run, not only up to clones.
use Rattle.std.specs.Prelude.{Bool, List, [], map}
use Rattle.moka_model.specs.Lives.{Settings}
use Rattle.moka_model.specs.StandsFor.{WholeView, StandsFor}
use Rattle.moka_state.specs.declared.step.Step.{Step}
use Rattle.moka_state.specs.declared.step.Reply.{Reply}
use Rattle.moka_state.specs.Recorded.{IsRecordUnder}
use Rattle.moka_state.specs.Step.{IsRun, after_all}

module _ {K V E D : Type 0} (eq : K → K → Bool) (is_clone : V → V → Type 0) (is_infallible : V → Type 0)
    {P : Type 0} (test : P → K → V → Bool) (view : D → WholeView K V E) where
  -- Each reply of the history is right for its step, after the accepted steps before it. The state stands for all steps
  -- that were accepted.
  abbrev pub IsLegalRun : {C H W X F L T S : Type 0} → Settings K V → D →
      List (Step K V C H W X P F L T E S × Reply K V C H W X P F L T E S) → Type 0
  IsLegalRun settings state history =
      IsRun {E = E} eq test settings is_clone is_infallible [] (map (λ d. d.0) history) (map (λ d. d.1) history)
      × StandsFor eq is_clone settings (view state) (after_all eq test settings (map (λ d. d.0) history) (map (λ d. d.1) history) [])

module _ (C H W X F L T S : Type 0) {K V E D : Type 0} (eq : K → K → Bool) (is_clone : V → V → Type 0) (is_infallible : V → Type 0)
    {P : Type 0} (test : P → K → V → Bool) (view : D → WholeView K V E) where
  -- A history that is a run up to clones is one as it stands.
  abbrev pub RecordsAreLegal : Type 0
  RecordsAreLegal =
      (settings : Settings K V) (state : D) (history : List (Step K V C H W X P F L T E S × Reply K V C H W X P F L T E S))
      → IsRecordUnder eq is_clone is_infallible test view settings state history
      → IsLegalRun eq is_clone is_infallible test view settings state history
