-- What a finish with a value returns.
use Rattle.std.specs.Prelude.{⊤}
use Rattle.moka_model.specs.declared.turns.Outcome.TheVariants.{Value}
use Rattle.moka_model.specs.Entries.{entry_of}
use Rattle.moka_state.specs.declared.step.Step.{Step}
use Rattle.moka_state.specs.declared.step.Step.TheVariants.{Finish}
use Rattle.moka_state.specs.declared.step.Reply.{Reply}
use Rattle.moka_state.specs.declared.step.Reply.TheVariants.{Entered}

module _ {K V C H W X P F L T E S : Type 0} (is_clone : V → V → Type 0) where
  -- A finish with a value that returns an entry returns a clone of that value.
  abbrev pub GivesBack : Step K V C H W X P F L T E S → Reply K V C H W X P F L T E S → Type 0
  GivesBack (Finish name (Value v) now) (Entered entry) = is_clone v (entry_of entry).value
  GivesBack step reply = ⊤
