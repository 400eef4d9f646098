-- Which calls may be refused memory.
use Rattle.std.proofs.Common.{◌≡◌, ◌≢◌, ◌↔◌, ℕ, Bool, false, Option, Some, None, List, [], ◌∷◌, option_map, refl, arith}
use Rattle.std.specs.Prelude.{IsSomeAnd}
use Rattle.std.proofs.lemmas.Bool.{cond_both}
use Rattle.moka_model.specs.Lives.{Settings, Write}
use Rattle.moka_model.specs.Events.{Hidden}
use Rattle.moka_model.specs.Numbers.{stores_nothing}
use Rattle.moka_model.specs.Steps.{AcceptedStep, events_in, turns}
use Rattle.moka_model.specs.Calls.{Call, Get, ContainsKey, Insert, Invalidate, Remove, InvalidateAll, InvalidateIf, RunPendingTasks, RunPendingTasksUpTo, EntryCount, WeightedSize, TakeNotice, OrInsert, Begin, BeginCompute, Finish, Abandon, Collect, Leave, Found, Done, accepted, without_move, with_move, live_at, IfReplied, ReplyMayFail, MayTakeMemory}
use Rattle.moka_laws.specs.Laws.{IsWrite}
use Rattle.moka_model.specs.Turns.{Turn, Move, Ended, Spent, Abandoned, found, is_open_as, has_ticket_as}

-- something is stored just where the capacity is not 0
pub stores-something : (capacity : Option ℕ) → (stores_nothing capacity ≡ false) ↔ (capacity ≢ Some 0)
stores-something None = (λ _ is. cc, λ _. refl)
stores-something (Some capacity) = (λ stores is. cc, λ other. grind arith)

module _ {K V E : Type 0} (eq : K → K → Bool) (is_clone : V → V → Type 0) (is_infallible : V → Type 0) (settings : Settings K V) (steps : List (AcceptedStep K V E)) where
  -- the copy of what a lookup returns can fail just where that of what it finds can
  looked : (found : Option (Write K V)) → IsSomeAnd found (λ w. ¬ (is_infallible w.value)) ↔ ReplyMayFail {K = K} {E = E} is_clone is_infallible (Found (option_map (λ w. w.value) found))
  looked None = (λ may. may, λ may. may)
  looked (Some w) = (λ may. may, λ may. may)

  -- what just moves a turn copies nothing
  moved-copies : (move : Turn K V E → Move K V E) (t : Option (Turn K V E)) → ¬ (IfReplied (ReplyMayFail is_clone is_infallible) (option_map (λ u. with_move Done [] (move u)) t))
  moved-copies move None may = may
  moved-copies move (Some t) may = may

  pub takes_memory : (call : Call K V E) → ¬ (IsWrite call) → MayTakeMemory eq is_clone is_infallible settings steps call ↔ IfReplied (ReplyMayFail is_clone is_infallible) (accepted eq settings steps call)
  takes_memory (Get k at) other = looked (live_at eq settings k at (events_in steps))
  takes_memory (ContainsKey k at) other = (λ may. may, λ may. may)
  takes_memory (Insert k v at) other = absurd (other tt)
  takes_memory (Invalidate k at) other = (λ may. may, λ may. may)
  takes_memory (Remove k at) other = looked (live_at eq settings k at (events_in steps))
  takes_memory InvalidateAll other = (λ may. may, λ may. may)
  takes_memory (InvalidateIf test) other =
      (λ may. absurd may, cond_both settings.supports_closures (Some (without_move {E = E} Done (Hidden test ∷ []))) None (λ a. ¬ (IfReplied (ReplyMayFail is_clone is_infallible) a)) (λ _ may. may) (λ _ may. may))
  takes_memory (RunPendingTasks at) other = (λ may. may, λ may. may)
  takes_memory (RunPendingTasksUpTo limit at) other = (λ may. may, λ may. may)
  takes_memory EntryCount other = (λ may. may, λ may. may)
  takes_memory WeightedSize other = (λ may. may, λ may. may)
  takes_memory TakeNotice other = (λ may. may, λ may. may)
  takes_memory (OrInsert k v at) other = absurd (other tt)
  takes_memory (Begin k kind replace at) other = absurd (other tt)
  takes_memory (BeginCompute k keep at) other = absurd (other tt)
  takes_memory (Finish name outcome at) other = absurd (other tt)
  takes_memory (Abandon name) other = (λ may. absurd may, moved-copies (λ t. Ended t.name.number Abandoned) (found (is_open_as eq name) (turns steps)))
  takes_memory (Collect name) other = (λ may. may, λ may. may)
  takes_memory (Leave name) other = (λ may. absurd may, moved-copies (λ t. Spent t.name.number) (found (has_ticket_as eq name) (turns steps)))
