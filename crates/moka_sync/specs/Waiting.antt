-- What callers that wait for each other's turns ask for, and what they get.
use Rattle.std.specs.Prelude.{◌≡◌, IfSome, Option, Some, None, Result, Ok, Err}
use Rattle.std.specs.Arc.{arc_value}
use Rattle.std.specs.declared.sync.Arc.{Arc}
use Rattle.std.specs.declared.alloc.Global.{Global}
use Rattle.moka_model.specs.declared.turns.Kind.{Kind}
use Rattle.moka_model.specs.declared.turns.Kind.TheVariants.{Compute}
use Rattle.moka_single_flight.specs.declared.replies.Begun.{Begun}
use Rattle.moka_single_flight.specs.declared.replies.Collected.{Collected}
use Rattle.moka_single_flight.specs.Holds.{HoldsOfBegun, HoldsOfCollected}
use Rattle.moka_turns.specs.declared.handles.Turn.{Turn}
use Rattle.moka_turns.specs.declared.handles.Ticket.{Ticket}
use Rattle.moka_turns.specs.Handles.{ticket_name}
use Rattle.moka_state.specs.Begin.{EntryKeeps}
use Rattle.moka_state.specs.declared.answers.Answer.{Answer}
use Rattle.moka_guarded.specs.Kept.{GivenKeeps, AnswerFits}
use Rattle.moka_state.specs.declared.answers.ShownTurn.{ShownTurn}

-- A caller that asks for a key as an initializer of some kind. Its closure, if it has one, may ask to replace a live
-- value.
pub record InitializerData (K P : Type 0) : Type 0 where
  pub key : K
  pub kind : Kind
  pub replace_if : Option P

-- A caller asks for the same key, as an initializer of the same kind. Its closure may have been called.
abbrev pub AsksSame : {K P : Type 0} → InitializerData K P → InitializerData K P → Type 0
AsksSame old new = (new.key ≡ old.key) × (new.kind ≡ old.kind)

-- A key that is shared, or still its caller's own.
abbrev pub asked_key : {K : Type 0} → Result (Arc K Global) K → K
asked_key (Ok shared) = arc_value shared
asked_key (Err own) = own

abbrev pub asked : {K : Type 0} → Option (Result (Arc K Global) K) → Option K
asked None = None
asked (Some key) = Some (asked_key key)

-- A caller that asks for a key, which may still be its own, as an initializer of some kind.
pub record FirstData (K : Type 0) : Type 0 where
  pub key : Option K
  pub kind : Kind

-- A caller that asks for a key to compute its value.
pub record ComputerData (K : Type 0) : Type 0 where
  pub key : K

-- The turn is of this kind and this key.
abbrev pub IsTurnFor : {K : Type 0} → Kind → K → Turn K → Type 0
IsTurnFor kind key turn = (turn.key.kind ≡ kind) × (arc_value turn.key.key ≡ key)

-- The ticket is of this kind and this key.
abbrev pub IsTicketFor : {K : Type 0} → Kind → K → Ticket K → Type 0
IsTicketFor kind key ticket = (ticket.key.kind ≡ kind) × (arc_value ticket.key.key ≡ key)

-- Two tickets have one name.
abbrev pub IsSameTicket : {K : Type 0} → Ticket K → Ticket K → Type 0
IsSameTicket ticket same = ticket_name same ≡ ticket_name ticket

module _ {K V E : Type 0} (keeps : K → V → Type 0) where
  -- The value of an answer satisfies `keeps`, and the answer is one that a turn of the kind may give.
  abbrev pub IsGivenTo : Kind → K → Answer K V E → Type 0
  IsGivenTo kind key answer = GivenKeeps keeps key answer × AnswerFits kind answer

  -- What a begin returns to an initializer: an answer, a turn or a ticket, each for its kind and key.
  abbrev pub BeginReturns : {P : Type 0} → InitializerData K P → Begun (Answer K V E) (Turn K) (Ticket K) → Type 0
  BeginReturns it reply = HoldsOfBegun (IsGivenTo it.kind it.key) (IsTurnFor it.kind it.key) (IsTicketFor it.kind it.key) reply

  -- The same for a caller whose key may still be its own.
  abbrev pub FirstReturns : FirstData K → Begun (Answer K V E) (Turn K) (Ticket K) → Type 0
  FirstReturns it reply =
      IfSome it.key (λ key. HoldsOfBegun (IsGivenTo it.kind key) (IsTurnFor it.kind key) (IsTicketFor it.kind key) reply)

  -- What a collect returns: an answer for the kind and the key of the ticket, or the ticket itself.
  abbrev pub CollectReturns : Ticket K → Collected (Answer K V E) (Ticket K) → Type 0
  CollectReturns ticket reply = HoldsOfCollected (IsGivenTo ticket.key.kind (arc_value ticket.key.key)) (IsSameTicket ticket) reply

module _ {K V : Type 0} (keeps : K → V → Type 0) where
  -- The turn of a compute of a key. The value that it was shown, if any, satisfies `keeps`.
  abbrev pub IsShownTurn : K → ShownTurn K V → Type 0
  IsShownTurn key it = IsTurnFor Compute key it.turn × IfSome it.shown (EntryKeeps keeps key)

  -- What a begin returns to a compute: a turn or a ticket, but never a value without a turn.
  abbrev pub BeginComputeReturns : ComputerData K → Begun (Unit {0}) (ShownTurn K V) (Ticket K) → Type 0
  BeginComputeReturns it reply = HoldsOfBegun (λ value. ⊥) (IsShownTurn it.key) (IsTicketFor Compute it.key) reply

-- What a collect returns to a compute: the ticket itself, or that the turn has ended, but never a value.
abbrev pub CollectComputeReturns : {K : Type 0} → Ticket K → Collected (Unit {0}) (Ticket K) → Type 0
CollectComputeReturns ticket reply = HoldsOfCollected (λ value. ⊥) (IsSameTicket ticket) reply
