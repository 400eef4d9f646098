-- What calls of a table make of the turns that it represents: `ts` before the call, and those of which `After` holds.
use Rattle.std.specs.Prelude.{◌≡◌, ℕ, Bool, true, false, Option, Some, None, IsSome, IfSome, MatchOption, List, Result}
use Rattle.std.specs.Prelude.{option_map}
use Rattle.std.specs.Arc.{arc_value}
use Rattle.moka_model.specs.Turns.{Turn, End, Ended, Spent, Waited, moved, found, is_open_for, is_open_as, has_ticket_as}
use Rattle.moka_model.specs.Turns as turning
use Rattle.moka_model.specs.Calls.{IsCopyOf, IsCopiedEnd}
use Rattle.moka_policy.specs.declared.policy.Refused.{Refused}
use Rattle.moka_turns.specs.declared.turn_key.TurnKey.{TurnKey}
use Rattle.moka_turns.specs.declared.handles.Turn as handles
use Rattle.moka_turns.specs.declared.handles.Ticket.{Ticket}
use Rattle.moka_turns.specs.declared.handles.CollectRefused.{CollectRefused}
use Rattle.moka_turns.specs.declared.begin.TurnBegun.{TurnBegun}
use Rattle.moka_turns.specs.declared.table.OpenTurn.{OpenTurn}
use Rattle.moka_turns.specs.declared.table.TurnEnd.{TurnEnd}
use Rattle.moka_turns.specs.declared.table.CollectState.{CollectState}
use Rattle.moka_turns.specs.Handles.{turn_name, ticket_name}
use Rattle.moka_turns.specs.Represents.{end_of, name_of}
use Rattle.moka_turns.specs.Begun.{IsBegun}
use Rattle.moka_turns.specs.CollectState.{IsTold}

-- Clones compose: a clone of a clone is a clone.
abbrev pub ClonesCompose : {V : Type 0} → (V → V → Type 0) → Type 0
ClonesCompose {V} is_clone = (u v w : V) → is_clone u v → is_clone v w → is_clone u w

module _ {K V E : Type 0} where
  -- One more ticket of the turn with this number is given out.
  abbrev pub GivesTicket : ℕ → List (Turn K V E) → (List (Turn K V E) → Type 0) → Type 0
  GivesTicket number ts After = After (moved (Waited number) ts)

module _ {K V E : Type 0} (eq : K → K → Bool) where
  -- The result of beginning a turn of a kind and key, with this number for a new turn.
  abbrev pub Begins : TurnKey K → ℕ → Bool → Result (TurnBegun K) Refused → List (Turn K V E) →
      (List (Turn K V E) → Type 0) → Type 0
  Begins key number may_wait result ts After =
      IsBegun After key number may_wait ts (found (is_open_for eq key.kind (arc_value key.key)) ts) result

  -- A turn ends without an outcome, if it is open, and else nothing happens. The result says whether it was open.
  abbrev pub Abandons : handles.Turn K → Bool → List (Turn K V E) → (List (Turn K V E) → Type 0) → Type 0
  Abandons turn result ts After =
      MatchOption (found (is_open_as eq (turn_name turn)) ts) (result ≡ false)
      (λ t. (result ≡ true) × After (moved (Ended t.name.number turning.Abandoned) ts))

  -- A ticket is spent, if its turn has an unspent one, and else nothing happens. The result says whether it had.
  abbrev pub Leaves : Ticket K → Bool → List (Turn K V E) → (List (Turn K V E) → Type 0) → Type 0
  Leaves ticket result ts After =
      MatchOption (found (has_ticket_as eq (ticket_name ticket)) ts) (result ≡ false)
      (λ t. (result ≡ true) × After (moved (Spent t.name.number) ts))

  -- The result is there if the turn is open.
  abbrev pub FindsOpen : handles.Turn K → Option ℕ → List (Turn K V E) → Type 0
  FindsOpen turn result ts =
      MatchOption (found (is_open_as eq (turn_name turn)) ts) (result ≡ None)
      (λ t. IsSome result × (t.name.number ≡ turn.number))

module _ {K V E : Type 0} (is_clone : V → V → Type 0) where
  -- A turn ends. What is retained for those that wait, if anything is, is a clone of its end.
  abbrev pub Finishes : handles.Turn K → Option (TurnEnd V E) → List (Turn K V E) → (List (Turn K V E) → Type 0) →
      Type 0
  Finishes turn retained ts After =
      (final : End V E) → IfSome retained (λ own. IsCopiedEnd is_clone (Some final) (Some (end_of own)))
      → After (moved (Ended turn.number final) ts)

module _ {K V E : Type 0} (eq : K → K → Bool) (is_clone : V → V → Type 0) (is_infallible : V → Type 0) where
  -- The result of collecting a ticket, by the turn that has its name and an unspent ticket, if clones compose.
  abbrev pub Collects : Ticket K → Result (CollectState K V E) (CollectRefused K) → List (Turn K V E) →
      (List (Turn K V E) → Type 0) → Type 0
  Collects ticket result ts After =
      ClonesCompose is_clone
      → IsTold is_clone is_infallible (λ t. After (moved (Spent t.name.number) ts)) (found (has_ticket_as eq (ticket_name ticket)) ts)
      result

module _ {K V E : Type 0} (eq : K → K → Bool) (is_clone : V → V → Type 0) where
  -- The turn of a compute ends, and this was its entry.
  abbrev pub FinishesCompute : handles.Turn K → OpenTurn V → List (Turn K V E) → (List (Turn K V E) → Type 0) → Type 0
  FinishesCompute turn row ts After =
      IfSome (found (is_open_as eq (turn_name turn)) ts)
      (λ t. (row.shown ≡ t.shown) × IsCopyOf is_clone t.kept row.saved
      × After (moved (Ended t.name.number turning.Computed) ts))

  -- A clone of the end of the turn that has this name and an unspent ticket, if clones compose. It is there if the
  -- turn has ended.
  abbrev pub CopiesEnd : TurnKey K → ℕ → Option (TurnEnd V E) → List (Turn K V E) → Type 0
  CopiesEnd key number copy ts =
      ClonesCompose is_clone
      → IfSome (found (has_ticket_as eq (name_of key number)) ts)
      (λ t. IsCopiedEnd is_clone t.end (option_map end_of copy))

  -- A clone of the saved value of the open turn that has this name, if it saved one and clones compose.
  abbrev pub CopiesSaved : TurnKey K → ℕ → Option V → List (Turn K V E) → Type 0
  CopiesSaved key number copy ts =
      ClonesCompose is_clone
      → IfSome (found (is_open_as eq (name_of key number)) ts) (λ t. IsCopyOf is_clone t.kept copy)
