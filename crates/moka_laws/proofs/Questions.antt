-- What a call is answered depends on the events before it, and a question adds none.
use Rattle.std.proofs.Common.{◌≡◌, Bool, min, option_map, is_some, slice_get, Some, List, [], ◌∷◌, ◌++◌, refl, sym, ap, ◌∙◌}
use Rattle.moka_model.specs.Lives.{Settings, Write}
use Rattle.moka_model.specs.Removals.{notices_left}
use Rattle.moka_model.specs.Numbers.{entry_count, weighted_size, greatest_number}
use Rattle.moka_model.specs.Steps.{AcceptedStep, events_in, turns}
use Rattle.moka_model.specs.Orders.{is_left_at}
use Rattle.moka_model.specs.Calls.{Call, Get, ContainsKey, Insert, Invalidate, Remove, InvalidateAll, InvalidateIf, RunPendingTasks, RunPendingTasksUpTo, Left, EntryCount, WeightedSize, TakeNotice, OrInsert, Begin, BeginCompute, Finish, Abandon, Collect, Leave, accepted_beside, reply_of, after}
use Rattle.moka_model.specs.Turns.{moved_by}
use Rattle.moka_model.proofs.Callers.{events_in-append}
use Rattle.moka_laws.specs.Laws.{reply, and_then, IsQuestion}

-- nor does it move a turn
pub same-turns : {K V E : Type 0} (later steps : List (AcceptedStep K V E)) → turns (later ++ and_then [] steps) ≡ turns (later ++ steps)
same-turns [] steps = refl
same-turns (step ∷ later) steps = ap (moved_by step.move) (same-turns later steps)

-- a step without events adds none
pub same-events : {K V E : Type 0} (later steps : List (AcceptedStep K V E)) → events_in (later ++ and_then [] steps) ≡ events_in (later ++ steps)
same-events later steps = events_in-append later (and_then [] steps) ∙ sym (events_in-append later steps)

module _ {K V E : Type 0} (eq : K → K → Bool) (settings : Settings K V) where
  -- a question is a step without events
  pub question-step : (steps : List (AcceptedStep K V E)) (call : Call K V E) → IsQuestion call → after eq settings call steps ≡ and_then [] steps
  question-step steps (Get k at) asks = absurd asks
  question-step steps (ContainsKey k at) asks = refl
  question-step steps (Insert k v at) asks = absurd asks
  question-step steps (Invalidate k at) asks = absurd asks
  question-step steps (Remove k at) asks = absurd asks
  question-step steps InvalidateAll asks = absurd asks
  question-step steps (InvalidateIf test) asks = absurd asks
  question-step steps (RunPendingTasks at) asks = absurd asks
  question-step steps (RunPendingTasksUpTo limit at) asks = absurd asks
  question-step steps EntryCount asks = refl
  question-step steps WeightedSize asks = refl
  question-step steps TakeNotice asks = absurd asks
  question-step steps (OrInsert k v at) asks = absurd asks
  question-step steps (Begin k kind replace at) asks = absurd asks
  question-step steps (BeginCompute k keep at) asks = absurd asks
  question-step steps (Finish name outcome at) asks = absurd asks
  question-step steps (Abandon name) asks = absurd asks
  question-step steps (Collect name) asks = absurd asks
  question-step steps (Leave name) asks = absurd asks

  -- after the same events, and beside the same turns, each call is answered the same
  pub reply-events : (a b : List (AcceptedStep K V E)) → events_in a ≡ events_in b → turns a ≡ turns b → (call : Call K V E) → reply eq settings call a ≡ reply eq settings call b
  reply-events a b same beside call =
      ap (λ h. reply_of (accepted_beside eq settings h (turns a) call)) same ∙ ap (λ ts. reply_of (accepted_beside eq settings (events_in b) ts call)) beside
