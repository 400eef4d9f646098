-- The words of the laws of the value invariant.
use Rattle.std.specs.Prelude.{◌≡◌, Bool, Some, List}
use Rattle.moka_model.specs.Lives.{Settings}
use Rattle.moka_model.specs.Steps.{AcceptedStep}
use Rattle.moka_model.specs.Calls.{Call, Reply, IsLegal, accepted, reply_of}
use Rattle.moka_value_invariant.specs.Keeps.{StepsKeep}

module _ {K V E : Type 0} (keeps : K → V → Type 0) (eq : K → K → Bool) where
  -- P holds after all steps that calls gave, under any settings, and that satisfy `keeps`.
  abbrev pub AfterKept : (Settings K V → List (AcceptedStep K V E) → Type 0) → Type 0
  AfterKept P =
      (settings : Settings K V) (steps : List (AcceptedStep K V E)) → IsLegal eq settings steps → StepsKeep keeps steps → P settings steps

  -- If a call after such steps has this reply, P holds.
  abbrev pub WhereReturned : Call K V E → Reply K V E → Type 0 → Type 0
  WhereReturned call reply P = AfterKept (λ settings steps. reply_of (accepted eq settings steps call) ≡ Some reply → P)
