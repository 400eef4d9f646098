-- The result of beginning a turn in a table.
use Rattle.std.specs.Prelude.{⊤, ◌≡◌, ◌≢◌, ℕ, Bool, true, false, Option, Some, None, List, Result, Ok, Err}
use Rattle.std.specs.Arc.{arc_value}
use Rattle.moka_model.specs.declared.turns.Kind.{Kind}
use Rattle.moka_model.specs.Turns.{Turn, Opened, Waited, moved}
use Rattle.moka_model.specs.Numbers.{greatest_number}
use Rattle.moka_policy.specs.declared.policy.Refused.{Refused}
use Rattle.moka_policy.specs.declared.policy.Refused.TheVariants.{OutOfMemory, NumbersUsedUp, TurnIsOpen}
use Rattle.moka_turns.specs.declared.turn_key.TurnKey.{TurnKey}
use Rattle.moka_turns.specs.declared.handles.Ticket.{Ticket}
use Rattle.moka_turns.specs.declared.begin.TurnBegun.{TurnBegun}
use Rattle.moka_turns.specs.declared.begin.TurnBegun.TheVariants.{Run, Wait}
use Rattle.moka_turns.specs.Represents.{name_of}
use Rattle.moka_turns.specs.Handles.{turn_name, ticket_name}

-- The result of beginning a turn of a kind and key. It depends on the number that the turn would draw, and on the open
-- turn of the kind and key. If there is one, the caller waits for it, and else a turn is opened; then `After` holds of
-- the turns. `NumbersUsedUp` is returned if no number is left for a turn, or none for a ticket.
abbrev pub IsBegun : {K V E : Type 0} → (List (Turn K V E) → Type 0) → TurnKey K → ℕ → Bool → List (Turn K V E) →
    Option (Turn K V E) → Result (TurnBegun K) Refused → Type 0
IsBegun After q number may_wait ts None (Ok (Run turn)) =
    (turn_name turn ≡ name_of q number) × (number ≢ greatest_number) × After (moved (Opened (name_of q number) false None) ts)
IsBegun After q number may_wait ts None (Err OutOfMemory) = number ≢ greatest_number
IsBegun After q number may_wait ts None (Err NumbersUsedUp) = number ≡ greatest_number
IsBegun After q number may_wait ts (Some t) (Ok (Wait ticket)) =
    (may_wait ≡ true) × (ticket_name ticket ≡ name_of q t.name.number) × (t.unspent ≢ greatest_number)
    × After (moved (Waited t.name.number) ts)
IsBegun After q number may_wait ts (Some t) (Err NumbersUsedUp) = (may_wait ≡ true) × (t.unspent ≡ greatest_number)
IsBegun After q number may_wait ts (Some t) (Err TurnIsOpen) = may_wait ≡ false
IsBegun After q number may_wait ts o result = ⊥

-- The result of waiting for a turn, as the result of beginning one.
abbrev pub as_waiting : {K : Type 0} → Result (Ticket K) Refused → Result (TurnBegun K) Refused
as_waiting (Ok ticket) = Ok (Wait ticket)
as_waiting (Err cause) = Err cause

abbrev pub IfRun : {K : Type 0} → Type 0 → TurnBegun K → Type 0  -- P holds if a turn was opened
IfRun P (Run turn) = P
IfRun P (Wait ticket) = ⊤

abbrev pub IfWait : {K : Type 0} → Type 0 → TurnBegun K → Type 0  -- P holds if the caller has to wait for a turn
IfWait P (Run turn) = ⊤
IfWait P (Wait ticket) = P

-- The turn or the ticket has this kind, and exactly this key.
abbrev pub IsNamed : {K : Type 0} → Kind → K → TurnBegun K → Type 0
IsNamed kind key (Run turn) = (turn.key.kind ≡ kind) × (arc_value turn.key.key ≡ key)
IsNamed kind key (Wait ticket) = (ticket.key.kind ≡ kind) × (arc_value ticket.key.key ≡ key)
