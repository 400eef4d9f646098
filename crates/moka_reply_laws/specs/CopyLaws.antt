-- What a caller gets of a result: all of it, with a clone in place of a stored value.
use Rattle.std.specs.Prelude.{◌≡◌, ◌↔◌, Bool, Option, Some, None, List}
use Rattle.moka_model.specs.Lives.{Settings}
use Rattle.moka_model.specs.Steps.{AcceptedStep}
use Rattle.moka_model.specs.Calls.{Call, Reply, Found, Entered, Run, Unchanged, Inserted, ReplacedWith, Removed}
use Rattle.moka_model.specs.Calls.{accepted, IsCopiedReply}
use Rattle.moka_model.specs.StandsFor.{IsReplyOf}
use Rattle.moka_laws.specs.Laws.{reply}

module _ {K V E : Type 0} where
  -- The stored value in a result. A removed value in a notice is none: it is handed out itself.
  abbrev pub value_in : Reply K V E → Option V
  value_in (Found value) = value
  value_in (Entered e) = Some e.value
  value_in (Run name (Some e)) = Some e.value
  value_in (Unchanged e) = Some e.value
  value_in (Inserted e) = Some e.value
  value_in (ReplacedWith e) = Some e.value
  value_in (Removed e) = Some e.value
  value_in said = None

  -- The result with this value in place of its own.
  abbrev pub with_value : V → Reply K V E → Reply K V E
  with_value v (Found (Some own)) = Found (Some v)
  with_value v (Entered e) = Entered (record e { value = v })
  with_value v (Run name (Some e)) = Run name (Some (record e { value = v }))
  with_value v (Unchanged e) = Unchanged (record e { value = v })
  with_value v (Inserted e) = Inserted (record e { value = v })
  with_value v (ReplacedWith e) = ReplacedWith (record e { value = v })
  with_value v (Removed e) = Removed (record e { value = v })
  with_value v said = said

  module _ (is_clone : V → V → Type 0) where
    -- What a caller gets of a result with this stored value, or with none.
    abbrev pub IsReturned : Option V → Reply K V E → Reply K V E → Type 0
    IsReturned None said given = given ≡ said
    IsReturned (Some v) said given = (copy : V) × is_clone v copy × (given ≡ with_value copy said)

module _ {V : Type 0} (K E : Type 0) (is_clone : V → V → Type 0) where
  -- Of a found value a caller gets exactly a clone.
  abbrev pub FoundIsCloned : Type 0
  FoundIsCloned =
      (v : V) (given : Reply K V E) → IsCopiedReply is_clone (Found (Some v)) given
      ↔ ((copy : V) × is_clone v copy × (given ≡ Found (Some copy)))

  -- Where none was found it gets none.
  abbrev pub NoneIsReturned : Type 0
  NoneIsReturned = (given : Reply K V E) → IsCopiedReply is_clone (Found None) given ↔ (given ≡ Found None)

  -- A result without a stored value is returned as it is.
  abbrev pub OthersAreEqual : Type 0
  OthersAreEqual = (said given : Reply K V E) → value_in said ≡ None → IsCopiedReply is_clone said given ↔ (given ≡ said)

  -- In all, a caller gets the result with a clone in place of the stored value, if it has one.
  abbrev pub IsReturnedExactly : Type 0
  IsReturnedExactly = (said given : Reply K V E) → IsCopiedReply is_clone said given ↔ IsReturned is_clone (value_in said) said given

module _ {K V E : Type 0} (eq : K → K → Bool) (is_clone : V → V → Type 0) (settings : Settings K V)
    (steps : List (AcceptedStep K V E)) where
  -- So it is with each accepted call.
  abbrev pub CallsReturn : Type 0
  CallsReturn =
      (call : Call K V E) (said given : Reply K V E) → reply eq settings call steps ≡ Some said
      → IsReplyOf is_clone (accepted eq settings steps call) given ↔ IsReturned is_clone (value_in said) said given

  -- A rejected call returns no result.
  abbrev pub RejectedReturnsNothing : Type 0
  RejectedReturnsNothing =
      (call : Call K V E) (given : Reply K V E) → reply eq settings call steps ≡ None
      → ¬ (IsReplyOf is_clone (accepted eq settings steps call) given)
