-- The end of a write.
use Rattle.std.specs.Prelude.{◌≡◌, ◌↔◌, ◌⊎◌, true, false, Result, IsOk, OnOk, OnErr, IfErr, IsErrAnd}
use Rattle.moka_policy.specs.declared.policy.Refused.TheVariants.{OutOfMemory, NumbersUsedUp}
use Rattle.moka_model.specs.Numbers.{greatest_number, stores_nothing}
use Rattle.moka_expiration.specs.StateData.{StateData}
use Rattle.moka_policy.specs.declared.refused.InsertRefused.{InsertRefused}

-- A write of a value under a key ends, between an old state and a new one. If it succeeds, `follows` holds. If it
-- fails, nothing has changed, and the key and the value come back. It fails with `NumbersUsedUp` exactly if it needs a
-- sequence number and none is left, and otherwise only with `OutOfMemory`. If nothing is stored it succeeds.
pub record WriteEnds {K V H W X F E Q T : Type 0} (follows : Type 0) (old new : StateData K V H W X F E) (key : Q) (value : V)
    (result : Result T (InsertRefused Q V)) : Type 0 where
  pub stands : OnOk result follows
  pub refused : OnErr result (new ≡ old)
  pub key_back : IfErr result (λ refused. refused.key ≡ key)
  pub value_back : IfErr result (λ refused. refused.value ≡ value)
  pub cause : IfErr result (λ refused. (refused.cause ≡ OutOfMemory) ⊎ (refused.cause ≡ NumbersUsedUp))
  pub numbers : IsErrAnd result (λ refused. refused.cause ≡ NumbersUsedUp)
      ↔ ((stores_nothing old.settings.max_capacity ≡ false) × (old.books.next_number ≡ greatest_number))
  pub nothing : stores_nothing old.settings.max_capacity ≡ true → IsOk result
