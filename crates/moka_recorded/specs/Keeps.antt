-- The value invariant of the replies to steps.
use Rattle.std.specs.Prelude.{⊤, Bool, option_map}
use Rattle.moka_model.specs.CompResults.{of_computed}
use Rattle.moka_model.specs.Entries.{entry_of}
use Rattle.moka_model.specs.Calls as calls
use Rattle.moka_table.specs.Table.{removal_of}
use Rattle.moka_turns.specs.Handles.{name_by}
use Rattle.moka_value_invariant.specs.Keeps.{CallReplyKeeps}
use Rattle.moka_state.specs.Step.{call_of}
use Rattle.moka_state.specs.declared.step.Step.{Step}
use Rattle.moka_state.specs.declared.step.Reply.{Reply}
use Rattle.moka_state.specs.declared.step.Reply.TheVariants.{Found, Noticed, Entered, Run, Computed}

module _ {K V C H W X P F L T E S : Type 0} (keeps : K → V → Type 0) (test : P → K → V → Bool) where
  -- Each value in the reply satisfies the invariant with its own key and with the key of the step, also in the reply to
  -- a finish or a collect.
  abbrev pub HandsOutKept : Step K V C H W X P F L T E S → Reply K V C H W X P F L T E S → Type 0
  HandsOutKept step (Found v) = CallReplyKeeps keeps {E = E} (call_of test step) (calls.Found v)
  HandsOutKept step (Noticed n) = CallReplyKeeps keeps {E = E} (call_of test step) (calls.Noticed (option_map removal_of n))
  HandsOutKept step (Entered entry) = CallReplyKeeps keeps {E = E} (call_of test step) (calls.Entered (entry_of entry))
  HandsOutKept step (Run name entry) =
      CallReplyKeeps keeps {E = E} (call_of test step) (calls.Run (name_by name) (option_map entry_of entry))
  HandsOutKept step (Computed result) = CallReplyKeeps keeps {E = E} (call_of test step) (of_computed result)
  HandsOutKept step reply = ⊤
