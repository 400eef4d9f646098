-- The end of a turn with a value returns a clone of it.
use Rattle.std.proofs.Common.{ℕ, Bool, true, false, List, Option, Some, None, option_map}
use Rattle.std.specs.Prelude.{if◌then◌else◌}
use Rattle.moka_model.specs.declared.turns.Outcome.TheVariants.{Value}
use Rattle.moka_model.specs.Lives.{Settings}
use Rattle.moka_model.specs.Steps.{AcceptedStep, events_in, turns}
use Rattle.moka_model.specs.Turns.{Name, Turn, fits, found, is_open_as}
use Rattle.moka_model.specs.Calls.{Entry, finished}
use Rattle.moka_model.specs.Calls as calls
use Rattle.moka_model.specs.StandsFor.{IsReplyOf}
use Rattle.moka_turns.specs.Handles.{name_by}
use Rattle.moka_state.specs.declared.step.Step.{Step}
use Rattle.moka_state.specs.declared.step.Step.TheVariants.{Finish}
use Rattle.moka_state.specs.declared.step.Reply.{Reply}
use Rattle.moka_state.specs.declared.step.Reply.TheVariants.{Entered}
use Rattle.moka_state.specs.Step.{call_of, IsReplyTo}
use Rattle.moka_recorded.specs.GivesBack.{GivesBack}

module _ {K V E : Type 0} (eq : K → K → Bool) (is_clone : V → V → Type 0) (settings : Settings K V) (steps : List (AcceptedStep K V E)) where
  by_turn : (name : Name K) (v : V) (now : ℕ) (entry : Entry K V) (it_fits : Bool) (turn : Option (Turn K V E))
      → IsReplyOf is_clone (if it_fits then option_map (finished eq settings (events_in steps) name (Value v) now) turn else None) (calls.Entered entry)
      → is_clone v entry.value
  by_turn name v now entry true (Some t) is = is.1
  by_turn name v now entry true None is = absurd is
  by_turn name v now entry false turn is = absurd is

module _ {K V C H W X P F L T E S : Type 0} (eq : K → K → Bool) (is_clone : V → V → Type 0) (is_infallible : V → Type 0) (test : P → K → V → Bool)
    (settings : Settings K V) (steps : List (AcceptedStep K V E)) where
  pub gives_back : (step : Step K V C H W X P F L T E S) (reply : Reply K V C H W X P F L T E S)
      → IsReplyTo eq is_clone is_infallible settings steps (call_of test step) reply → GivesBack is_clone step reply
  gives_back (Finish name (Value v) now) (Entered entry) is =
      by_turn eq is_clone settings steps (name_by name) v now _ (fits {V = V} {E = E} name.kind (Value v)) (found (is_open_as eq (name_by name)) (turns steps)) is.0
  gives_back step reply is = tt
