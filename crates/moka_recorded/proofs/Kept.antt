-- A recorded state keeps a history that satisfies `keeps`, and so do its replies.
use Rattle.std.proofs.Common.{Bool, option_map}
use Rattle.std.specs.Cmp.{IsEquivalence}
use Rattle.std.specs.declared.sync.Arc.{Arc}
use Rattle.std.specs.declared.alloc.Global.{Global}
use Rattle.moka_model.specs.declared.turns.Op.TheVariants as ops
use Rattle.moka_model.specs.declared.turns.Outcome.{Outcome}
use Rattle.moka_model.specs.declared.turns.Outcome.TheVariants as outcomes
use Rattle.moka_model.specs.CompResults.{of_computed}
use Rattle.moka_model.specs.Entries.{entry_of}
use Rattle.moka_model.specs.Turns.{Name}
use Rattle.moka_model.specs.Calls as calls
use Rattle.moka_model.specs.StandsFor.{WholeView, StandsFor}
use Rattle.moka_table.specs.Table.{removal_of}
use Rattle.moka_turns.specs.Handles.{name_by}
use Rattle.moka_value_invariant.specs.Keeps.{IsAlike, IsCopied, CallKeeps, HasKeptHistory}
use Rattle.moka_value_invariant.proofs.Callers.{kept-followed, kept-told}
use Rattle.moka_state.specs.Finish.{OutcomeKeeps, outcome_of}
use Rattle.moka_state.specs.Step.{call_of, after_reply, IsReplyTo, StepKeeps}
use Rattle.moka_state.specs.declared.step.Step.{Step}
use Rattle.moka_state.specs.declared.step.Step.TheVariants.{Insert, OrInsert, Finish}
use Rattle.moka_state.specs.declared.step.Reply.{Reply}
use Rattle.moka_state.specs.declared.step.Reply.TheVariants.{Found, Noticed, Entered, Run, Computed, Refused, PredicateRefused}
use Rattle.moka_recorded.specs.Keeps.{HandsOutKept}

module _ {K V : Type 0} (keeps : K → V → Type 0) where
  outcome-owed : {E : Type 0} (name : Name K) (now : _) (outcome : Outcome V (Arc E Global)) → OutcomeKeeps (keeps name.key) outcome → CallKeeps keeps (calls.Finish name (outcome_of outcome) now)
  outcome-owed name now (outcomes.Value v) kept = kept
  outcome-owed name now outcomes.Nothing kept = tt
  outcome-owed name now (outcomes.Failed e) kept = tt
  outcome-owed name now (outcomes.Op (ops.Put v)) kept = kept
  outcome-owed name now (outcomes.Op ops.Remove) kept = tt
  outcome-owed name now (outcomes.Op ops.Nop) kept = tt

  -- what a caller owes for a step, it owes for its call
  pub step-owed : {C H W X P F L T E S : Type 0} (tests : P → (K → V → Bool) → Type 0) (test : P → K → V → Bool) (step : Step K V C H W X P F L T E S) → StepKeeps keeps tests test step → CallKeeps keeps {E = E} (call_of test step)
  step-owed tests test (Insert key value now) kept = kept
  step-owed tests test (OrInsert key value now) kept = kept
  step-owed {E = E} tests test (Finish name outcome now) kept = outcome-owed {E = E} (name_by name) now outcome kept
  step-owed tests test step kept = tt

module _ {K V C H W X P F L T E S : Type 0} (keeps : K → V → Type 0) (eq : K → K → Bool) (is_clone : V → V → Type 0) (is_infallible : V → Type 0) (test : P → K → V → Bool)
    (laws : IsEquivalence eq) (alike : IsAlike keeps eq) where
  -- after a step there is such a history again
  pub kept-after-step : (old new : WholeView K V E) (step : Step K V C H W X P F L T E S) (reply : Reply K V C H W X P F L T E S) (kept : HasKeptHistory keeps eq is_clone old) → CallKeeps keeps (call_of test step)
      → StandsFor eq is_clone kept.settings new (after_reply eq kept.settings (call_of test step) reply kept.steps) → HasKeptHistory keeps eq is_clone new
  kept-after-step old new step (Refused cause) kept owed stands = record { settings = kept.settings; steps = kept.steps; stands = stands; keep = kept.keep }
  kept-after-step old new step (PredicateRefused cause) kept owed stands = record { settings = kept.settings; steps = kept.steps; stands = stands; keep = kept.keep }
  kept-after-step old new step reply kept owed stands = kept-followed keeps eq is_clone laws alike old new (call_of test step) kept owed stands

  -- and the values in the reply satisfy `keeps`
  pub kept-in-reply : IsCopied keeps is_clone → (view : WholeView K V E) (step : Step K V C H W X P F L T E S) (reply : Reply K V C H W X P F L T E S) (kept : HasKeptHistory keeps eq is_clone view) → CallKeeps keeps (call_of test step)
      → IsReplyTo eq is_clone is_infallible kept.settings kept.steps (call_of test step) reply → HandsOutKept keeps test step reply
  kept-in-reply copied view step (Found v) kept owed is = kept-told keeps eq is_clone laws alike copied view (call_of test step) (calls.Found v) kept owed is.0
  kept-in-reply copied view step (Noticed n) kept owed is = kept-told keeps eq is_clone laws alike copied view (call_of test step) (calls.Noticed (option_map removal_of n)) kept owed is.0
  kept-in-reply copied view step (Entered entry) kept owed is = kept-told keeps eq is_clone laws alike copied view (call_of test step) (calls.Entered (entry_of entry)) kept owed is.0
  kept-in-reply copied view step (Run name entry) kept owed is = kept-told keeps eq is_clone laws alike copied view (call_of test step) (calls.Run (name_by name) (option_map entry_of entry)) kept owed is.0
  kept-in-reply copied view step (Computed result) kept owed is = kept-told keeps eq is_clone laws alike copied view (call_of test step) (of_computed result) kept owed is.0
  kept-in-reply copied view step reply kept owed is = tt
