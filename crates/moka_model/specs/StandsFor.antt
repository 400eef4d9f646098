-- What it means that a history belongs to a state (the state "stands for" it). A history is a list of accepted steps.
use Rattle.std.specs.Prelude.{◌≡◌, ℕ, Bool, Option, Some, None, List, ◌++◌}
use Rattle.moka_model.specs.Maintenance.{Queues}
use Rattle.moka_model.specs.Lives.{Settings, Write}
use Rattle.moka_model.specs.Events.{Event, latest}
use Rattle.moka_model.specs.Admission.{notes}
use Rattle.moka_model.specs.Orders.{orders}
use Rattle.moka_model.specs.Removals.{Removal, notices_left}
use Rattle.moka_model.specs.Numbers.{next_number}
use Rattle.moka_model.specs.Turns.{Turn}
use Rattle.moka_model.specs.Steps.{AcceptedStep, events_in, turns}
use Rattle.moka_model.specs.Calls.{Call, Reply, Accepted, accepted, after, IsLegal, IsCopiedReply, Holds}

-- What changes with each event: the stored entries, the queued notices, the latest moment, and the next sequence
-- number.
pub record Books (K V : Type 0) : Type 0 where
  pub orders : Queues (Write K V)
  pub notices : List (Removal K V)
  pub latest : ℕ
  pub next_number : ℕ

-- The books after a list of events.
abbrev pub books_of : {K V : Type 0} → (K → K → Bool) → Settings K V → List (Event K V) → Books K V
books_of eq settings h =
    record { orders = orders eq settings h; notices = notices_left eq settings h; latest = latest h; next_number = next_number settings h }

-- A state without its turns, as the definitions see it. `frequency` is what its source estimates for a hash once it has
-- noted some more hashes.
pub record View (K V : Type 0) : Type 0 where
  pub settings : Settings K V
  pub books : Books K V
  pub frequency : List ℕ → ℕ → ℕ

pub record WholeView (K V E : Type 0) : Type 0 where  -- A state as the definitions see it: its values and its turns.
  pub values : View K V
  pub turns : List (Turn K V E)

-- A state stands for a history under these settings if the history is legal and the state was built with the settings.
-- Moreover its books are those of the history, and its source has noted the hashes of all recorded lookups, in order.
-- It keeps exactly the turns that are open and the ended ones that have unspent tickets.
pub record StandsFor {K V E : Type 0} (eq : K → K → Bool) (is_clone : V → V → Type 0) (given : Settings K V) (view : WholeView K V E)
    (steps : List (AcceptedStep K V E)) : Type 0 where
  pub legal : IsLegal eq given steps
  pub settings : view.values.settings ≡ given
  pub books : view.values.books ≡ books_of eq given (events_in steps)
  pub frequency : (more : List ℕ) (hash : ℕ) →
      view.values.frequency more hash ≡ given.frequency (notes given (events_in steps) ++ more) hash
  pub turns : Holds eq is_clone (turns steps) view.turns

module _ {K V E : Type 0} (eq : K → K → Bool) (is_clone : V → V → Type 0) where
  -- `P` holds of all settings and histories that the state stands for.
  abbrev pub AtEachHistory : WholeView K V E → (Settings K V → List (AcceptedStep K V E) → Type 0) → Type 0
  AtEachHistory view P =
      (settings : Settings K V) (steps : List (AcceptedStep K V E)) → StandsFor eq is_clone settings view steps → P settings steps

  -- For each history that the old state stands for, the new state stands for that history followed by the call.
  abbrev pub Follows : WholeView K V E → Call K V E → WholeView K V E → Type 0
  Follows old call new = AtEachHistory old (λ settings steps. StandsFor eq is_clone settings new (after eq settings call steps))

module _ {K V E : Type 0} (is_clone : V → V → Type 0) where
  abbrev pub IsReplyOf : Option (Accepted K V E) → Reply K V E → Type 0  -- A result that an accepted call may return.
  IsReplyOf None reply = ⊥
  IsReplyOf (Some it) reply = IsCopiedReply is_clone it.reply reply

-- The result is that of the call, after each history that the state stands for.
abbrev pub RepliesWith : {K V E : Type 0} → (K → K → Bool) → (V → V → Type 0) → WholeView K V E → Call K V E → Reply K V E → Type 0
RepliesWith eq is_clone view call reply =
    AtEachHistory eq is_clone view (λ settings steps. IsReplyOf is_clone (accepted eq settings steps call) reply)
