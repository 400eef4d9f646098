-- Walks over states, whatever histories these could have come from.
use Rattle.std.specs.Prelude.{◌≡◌, ℕ, Bool, Option, Result, IfOk, IfErr, IfSome, List}
use Rattle.moka_policy.specs.declared.policy.Refused.{Refused}
use Rattle.moka_policy.specs.declared.policy.Refused.TheVariants.{OutOfMemory}
use Rattle.moka_model.specs.Lives.{Settings}
use Rattle.moka_model.specs.Steps.{AcceptedStep}
use Rattle.moka_iter.specs.Walks.{Cursor}
use Rattle.moka_iter.specs.Histories.{History, AllStandFor, StandsIn, FindsIn, RepliesNext}

-- The values' type says what a clone is, and clones of which values never fail. The states' type says which histories a
-- state could have come from.
module _ {K V E S : Type 0} (eq : K → K → Bool) (is_clone : V → V → Type 0) (is_infallible : V → Type 0)
    (stands_for : Settings K V → S → List (AcceptedStep K V E) → Type 0) (states : List S) (now : ℕ) where
  -- Whatever histories the states could have come from, `next` is a call of a walk over these at this moment. It leads
  -- from the old cursor to the new one.
  abbrev pub WalksTo : Cursor K → Option (Result (K × V) Refused) → Cursor K → Type 0
  WalksTo old result new = (histories : List (History K V E)) → AllStandFor stands_for states histories
      → RepliesNext eq is_clone is_infallible histories now old result new

  -- What a state returns when it is asked for its keys.
  pub record StateStands (i : ℕ) (result : Result (List K) Refused) : Type 0 where
    pub stood : (histories : List (History K V E)) → AllStandFor stands_for states histories
        → StandsIn eq is_clone is_infallible histories now i result
    pub cause : IfErr result (λ e. e ≡ OutOfMemory)

  -- What a state returns when it is asked for a key's live value.
  pub record StateFinds (keeps : K → V → Type 0) (i : ℕ) (k : K) (result : Result (Option V) Refused) : Type 0 where
    pub found : (histories : List (History K V E)) → AllStandFor stands_for states histories
        → FindsIn eq is_clone is_infallible histories now i k result
    pub kept : IfOk result (λ value. IfSome value (keeps k))
    pub cause : IfErr result (λ e. e ≡ OutOfMemory)
