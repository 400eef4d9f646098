-- What is owed for a step, where each value satisfies the invariant and each predicate computes its test.
use Rattle.std.specs.Prelude.{Bool}
use Rattle.std.specs.Arc.{arc_value}
use Rattle.moka_model.specs.declared.turns.Op.TheVariants.{Put}
use Rattle.moka_model.specs.declared.turns.Outcome.{Outcome}
use Rattle.moka_model.specs.declared.turns.Outcome.TheVariants.{Value, Op}
use Rattle.moka_state.specs.Finish.{OutcomeKeeps}
use Rattle.moka_state.specs.Step.{StepKeeps}
use Rattle.moka_state.specs.declared.step.Step.{Step}
use Rattle.moka_state.specs.declared.step.Step.TheVariants.{Insert, OrInsert, InvalidateIf, Finish}

outcome_keeps : {V E : Type 0} (keeps : V → Type 0) → ((v : V) → keeps v) → (outcome : Outcome V E) → OutcomeKeeps keeps outcome
outcome_keeps keeps each (Value v) = each v
outcome_keeps keeps each (Op (Put v)) = each v
outcome_keeps keeps each outcome = tt

pub step_keeps : {K V C H W X P F L T E S : Type 0} (keeps : K → V → Type 0) (tests : P → (K → V → Bool) → Type 0) (test : P → K → V → Bool) → ((k : K) (v : V) → keeps k v) → ((p : P) → tests p (test p)) → (step : Step K V C H W X P F L T E S) → StepKeeps keeps tests test step
step_keeps keeps tests test each computes (Insert key value now) = each (arc_value key) value
step_keeps keeps tests test each computes (OrInsert key value now) = each (arc_value key) value
step_keeps keeps tests test each computes (InvalidateIf predicate) = computes (arc_value predicate)
step_keeps keeps tests test each computes (Finish name outcome now) = outcome_keeps (keeps (arc_value name.key)) (each (arc_value name.key)) outcome
step_keeps keeps tests test each computes step = tt
