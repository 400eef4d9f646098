-- The terms of the laws about runs of steps.
use Rattle.std.specs.Prelude.{◌≡◌, ℕ, ◌<◌, Bool, Option, Some, None, List, [], slice_get, take}
use Rattle.std.specs.Arc.{arc_value}
use Rattle.std.specs.declared.sync.Arc.{Arc}
use Rattle.std.specs.declared.alloc.Global.{Global}
use Rattle.moka_model.specs.declared.entry.Entry.{Entry}
use Rattle.moka_model.specs.declared.turns.Kind.TheVariants.{With}
use Rattle.moka_model.specs.declared.turns.Outcome.{Outcome}
use Rattle.moka_model.specs.declared.turns.Outcome.TheVariants.{Value}
use Rattle.moka_model.specs.Entries.{entry_of}
use Rattle.moka_model.specs.Lives.{Settings, Write}
use Rattle.moka_model.specs.Steps.{AcceptedStep, events_in}
use Rattle.moka_model.specs.Calls.{live_at}
use Rattle.moka_turns.specs.declared.turn_name.TurnName.{TurnName}
use Rattle.moka_state.specs.declared.step.Step.{Step}
use Rattle.moka_state.specs.declared.step.Step.TheVariants.{Begin, Finish, Collect}
use Rattle.moka_state.specs.declared.step.Reply.{Reply}
use Rattle.moka_state.specs.declared.step.Reply.TheVariants.{Entered, Run, Wait}
use Rattle.moka_state.specs.Replies.{IsRefusal}
use Rattle.moka_state.specs.Step.{IsRun, after_all}

module _ (C H W X F L T E S : Type 0) {K V P : Type 0} (eq : K → K → Bool) (is_clone : V → V → Type 0)
    (is_infallible : V → Type 0) (test : P → K → V → Bool) where
  -- `Q` holds of each run that begins with no accepted steps.
  abbrev pub OfEachRun : (Settings K V → List (Step K V C H W X P F L T E S) → List (Reply K V C H W X P F L T E S) → Type 0) →
      Type 0
  OfEachRun Q =
      (settings : Settings K V) (steps : List (Step K V C H W X P F L T E S))
      (replies : List (Reply K V C H W X P F L T E S)) → IsRun eq test settings is_clone is_infallible [] steps replies
      → Q settings steps replies

module _ {K V C H W X P F L T E S : Type 0} where
  -- A turn is opened at one place only: replies `Run` with one number are at one place.
  abbrev pub OpensOnce : List (Reply K V C H W X P F L T E S) → Type 0
  OpensOnce replies =
      (i j : ℕ) (a b : TurnName K) (shown told : Option (Entry K V)) →
      slice_get replies i ≡ Some (Run a shown) → slice_get replies j ≡ Some (Run b told) → a.number ≡ b.number
      → i ≡ j

  module _ (steps : List (Step K V C H W X P F L T E S)) (replies : List (Reply K V C H W X P F L T E S)) where
    -- At this place are this step and this reply.
    abbrev pub Has : ℕ → Step K V C H W X P F L T E S → Reply K V C H W X P F L T E S → Type 0
    Has place step reply = (slice_get steps place ≡ Some step) × (slice_get replies place ≡ Some reply)

    -- At this place the turn of this number is finished with the value `made`, and the finish does not fail.
    abbrev pub IsFinishedAt : ℕ → ℕ → V → Type 0
    IsFinishedAt place number made =
        (name : TurnName K) × (now : ℕ) × (reply : Reply K V C H W X P F L T E S)
        × (name.number ≡ number) × Has place (Finish name (Value made) now) reply × ¬ (IsRefusal reply)

    -- What a collect returns of a turn that was waited for at an earlier place. It is a clone of the value that the turn
    -- was finished with, at a place between the two.
    abbrev pub CollectsFinished : (V → V → Type 0) → Type 0
    CollectsFinished is_clone =
        (p q : ℕ) (begin : Step K V C H W X P F L T E S) (name called : TurnName K) (entry : Entry K V) →
        Has p begin (Wait name) → Has q (Collect called) (Entered entry) → called.number ≡ name.number → p < q
        → (made : V) × (r : ℕ) × (p < r) × (r < q) × IsFinishedAt r name.number made
        × is_clone made (entry_of entry).value

    -- A finish that does not fail is at a later place than the begin that opened its turn.
    abbrev pub FinishesAfterOpening : Type 0
    FinishesAfterOpening =
        (p q : ℕ) (begin : Step K V C H W X P F L T E S) (name called : TurnName K) (shown : Option (Entry K V))
        (outcome : Outcome V (Arc E Global)) (now : ℕ) (reply : Reply K V C H W X P F L T E S) →
        Has p begin (Run name shown) → Has q (Finish called outcome now) reply → ¬ (IsRefusal reply)
        → called.number ≡ name.number → p < q

module _ {K V C H W X P F L T E S : Type 0} (eq : K → K → Bool) (test : P → K → V → Bool) (settings : Settings K V) where
  -- The accepted steps before a place of a run.
  abbrev pub accepted_before : List (Step K V C H W X P F L T E S) → List (Reply K V C H W X P F L T E S) → ℕ →
      List (AcceptedStep K V E)
  accepted_before steps replies place = after_all eq test settings (take place steps) (take place replies) []

module _ {K V C H W X P F L T E S : Type 0} (eq : K → K → Bool) (settings : Settings K V)
    (before : ℕ → List (AcceptedStep K V E)) (steps : List (Step K V C H W X P F L T E S))
    (replies : List (Reply K V C H W X P F L T E S)) where
  -- A begin of kind `With` that returns an entry returns the value that was live for its key at its moment, after the
  -- accepted steps before it, up to a clone.
  abbrev pub FindsLive : (V → V → Type 0) → Type 0
  FindsLive is_clone =
      (place : ℕ) (key : Arc K Global) (now : ℕ) (entry : Entry K V) →
      Has steps replies place (Begin key With None now) (Entered entry)
      → (w : Write K V) × (live_at eq settings (arc_value key) now (events_in (before place)) ≡ Some w)
      × ((entry_of entry).key ≡ w.key) × is_clone w.value (entry_of entry).value
