-- Which steps wake the callers that wait for a turn, and which replies make a caller wait.
use Rattle.std.specs.Prelude.{⊤}
use Rattle.moka_state.specs.declared.step.Step.{Step}
use Rattle.moka_state.specs.declared.step.Step.TheVariants.{Finish, Abandon}
use Rattle.moka_state.specs.declared.step.Reply.{Reply}
use Rattle.moka_state.specs.declared.step.Reply.TheVariants.{NotYet}

module _ {K V C H W X P F L T E S : Type 0} where
  -- The step ends a turn, if it is accepted.
  abbrev pub IsEnd : Step K V C H W X P F L T E S → Type 0
  IsEnd (Finish name outcome now) = ⊤
  IsEnd (Abandon name) = ⊤
  IsEnd step = ⊥

  -- The turn that the step asks about is still open.
  abbrev pub IsNotYet : Reply K V C H W X P F L T E S → Type 0
  IsNotYet NotYet = ⊤
  IsNotYet reply = ⊥
