-- What the waiting loop returns to callers of a cache.
use Rattle.std.proofs.Common.{◌≡◌, ℕ, Option, Some, ap, ◌∙◌, subst, sym, refl}
use Rattle.std.specs.Prelude.{Result, Ok, Err, IfOk}
use Rattle.std.specs.Arc.{arc_value}
use Rattle.moka_model.specs.declared.turns.Kind.{Kind}
use Rattle.moka_model.specs.declared.turns.Kind.TheVariants.{Compute}
use Rattle.moka_single_flight.specs.declared.replies.Begun.{Begun}
use Rattle.moka_single_flight.specs.declared.replies.Collected.{Collected}
use Rattle.moka_single_flight.specs.declared.replies.Collected.TheVariants.{Ready, NotYet, Retry}
use Rattle.moka_single_flight.specs.declared.replies.Joined.{Joined}
use Rattle.moka_single_flight.specs.Holds.{HoldsOfCollected, HoldsOfJoined}
use Rattle.moka_single_flight.specs.Rounds.{Ends}
use Rattle.moka_single_flight.proofs.Callers.{ends-hold}
use Rattle.moka_turns.specs.declared.handles.Turn.{Turn}
use Rattle.moka_turns.specs.declared.handles.Ticket.{Ticket}
use Rattle.moka_state.specs.declared.answers.Answer.{Answer}
use Rattle.moka_state.specs.declared.answers.ShownTurn.{ShownTurn}
use Rattle.moka_sync.specs.Waiting.{AsksSame, InitializerData, ComputerData, IsTurnFor, IsTicketFor, IsSameTicket, IsGivenTo, IsShownTurn, BeginReturns, FirstData, FirstReturns, CollectReturns, BeginComputeReturns, CollectComputeReturns}

-- a ticket that comes back is for the same kind and key
same-ticket : {K : Type 0} (kind : Kind) (key : K) (ticket same : Ticket K) → IsTicketFor kind key ticket → IsSameTicket ticket same → IsTicketFor kind key same
same-ticket kind key ticket same of is = (ap (λ name. name.kind) is ∙ of.0, ap (λ name. name.key) is ∙ of.1)

-- a caller that asks the same later
still-asks : {K P : Type 0} (caller old new : InitializerData K P) → AsksSame caller old → AsksSame old new → AsksSame caller new
still-asks caller old new is same = (same.0 ∙ is.0, same.1 ∙ is.1)

module _ {K V E : Type 0} (keeps : K → V → Type 0) where
  given-for : (kind : Kind) (key : K) (ticket : Ticket K) (reply : Collected (Answer K V E) (Ticket K)) → IsTicketFor kind key ticket → CollectReturns keeps ticket reply → HoldsOfCollected (IsGivenTo keeps kind key) (IsTicketFor kind key) reply
  given-for kind key ticket (Ready answer) of tells = subst (λ k. IsGivenTo keeps kind k answer) of.1 (subst (λ it. IsGivenTo keeps it (arc_value ticket.key.key) answer) of.0 tells)
  given-for kind key ticket (NotYet same) of tells = same-ticket kind key ticket same of tells
  given-for kind key ticket Retry of tells = tt

module _ {K V E P : Type 0} (keeps : K → V → Type 0) where
  abbrev pub BeginsAs : InitializerData K P → Begun (Answer K V E) (Turn K) (Ticket K) → InitializerData K P → Type 0
  BeginsAs old reply new = AsksSame old new × BeginReturns keeps old reply

  abbrev pub CollectsAs : InitializerData K P → Ticket K → Collected (Answer K V E) (Ticket K) → InitializerData K P → Type 0
  CollectsAs old ticket reply new = (new ≡ old) × CollectReturns keeps ticket reply

  begins-for : (caller old : InitializerData K P) (reply : Begun (Answer K V E) (Turn K) (Ticket K)) → AsksSame caller old → BeginReturns keeps old reply → BeginReturns keeps caller reply
  begins-for caller old reply is returns = rw (is.0, is.1) at returns

  -- an initializer gets an answer or the turn, for its kind and key
  pub asked : (most : Option ℕ) (caller : InitializerData K P) (waited : Joined (Answer K V E) (Turn K)) (then : InitializerData K P) → Ends BeginsAs CollectsAs most caller waited then → HoldsOfJoined (IsGivenTo keeps caller.kind caller.key) (IsTurnFor caller.kind caller.key) waited
  asked most caller waited then ends =
      (ends-hold BeginsAs CollectsAs (AsksSame caller) (IsGivenTo keeps caller.kind caller.key) (IsTurnFor caller.kind caller.key) (IsTicketFor caller.kind caller.key)
      (λ old reply new is begun. (still-asks caller old new is begun.0, begins-for caller old reply is begun.1))
      (λ old ticket reply new is of collected. (subst (AsksSame caller) (sym collected.0) is, given-for keeps caller.kind caller.key ticket reply of collected.1))
      most caller waited then (refl, refl) ends).1

  -- the same of the result of the loop
  pub if-asked : {F : Type 0} (most : Option ℕ) (caller then : InitializerData K P) (result : Result (Joined (Answer K V E) (Turn K)) F) → IfOk result (λ waited. Ends BeginsAs CollectsAs most caller waited then) → IfOk result (HoldsOfJoined (IsGivenTo keeps caller.kind caller.key) (IsTurnFor caller.kind caller.key))
  if-asked most caller then (Ok waited) ends = asked most caller waited then ends
  if-asked most caller then (Err cause) ends = tt

module _ {K V E : Type 0} (keeps : K → V → Type 0) where
  abbrev pub BeginsFirst : FirstData K → Begun (Answer K V E) (Turn K) (Ticket K) → FirstData K → Type 0
  BeginsFirst old reply new = (new ≡ old) × FirstReturns keeps old reply

  abbrev pub CollectsFirst : FirstData K → Ticket K → Collected (Answer K V E) (Ticket K) → FirstData K → Type 0
  CollectsFirst old ticket reply new = (new ≡ old) × CollectReturns keeps ticket reply

  -- so does one whose key was its own
  pub first-asked : (most : Option ℕ) (kind : Kind) (key : K) (waited : Joined (Answer K V E) (Turn K)) (then : FirstData K) → Ends BeginsFirst CollectsFirst most (record { key = Some key; kind = kind }) waited then → HoldsOfJoined (IsGivenTo keeps kind key) (IsTurnFor kind key) waited
  first-asked most kind key waited then ends =
      let caller : FirstData K = record { key = Some key; kind = kind } in
      (ends-hold BeginsFirst CollectsFirst (λ it. it ≡ caller) (IsGivenTo keeps kind key) (IsTurnFor kind key) (IsTicketFor kind key)
      (λ old reply new is begun. (begun.0 ∙ is, subst (λ (it : FirstData K). FirstReturns keeps it reply) is begun.1))
      (λ old ticket reply new is of collected. (collected.0 ∙ is, given-for keeps kind key ticket reply of collected.1))
      most caller waited then refl ends).1

  pub if-first-asked : {F : Type 0} (most : Option ℕ) (kind : Kind) (key : K) (then : FirstData K) (result : Result (Joined (Answer K V E) (Turn K)) F) → IfOk result (λ waited. Ends BeginsFirst CollectsFirst most (record { key = Some key; kind = kind }) waited then) → IfOk result (HoldsOfJoined (IsGivenTo keeps kind key) (IsTurnFor kind key))
  if-first-asked most kind key then (Ok waited) ends = first-asked most kind key waited then ends
  if-first-asked most kind key then (Err cause) ends = tt

module _ {K V : Type 0} (keeps : K → V → Type 0) where
  abbrev pub BeginsComputing : ComputerData K → Begun (Unit {0}) (ShownTurn K V) (Ticket K) → ComputerData K → Type 0
  BeginsComputing old reply new = (new ≡ old) × BeginComputeReturns keeps old reply

  abbrev pub CollectsComputing : ComputerData K → Ticket K → Collected (Unit {0}) (Ticket K) → ComputerData K → Type 0
  CollectsComputing old ticket reply new = (new ≡ old) × (ticket.key.kind ≡ Compute → CollectComputeReturns ticket reply)

  ended-for : (key : K) (ticket : Ticket K) (reply : Collected (Unit {0}) (Ticket K)) → IsTicketFor Compute key ticket → CollectComputeReturns ticket reply → HoldsOfCollected (λ value. ⊥) (IsTicketFor Compute key) reply
  ended-for key ticket (Ready value) of ends = ends
  ended-for key ticket (NotYet same) of ends = same-ticket Compute key ticket same of ends
  ended-for key ticket Retry of ends = tt

  -- a compute gets the turn of a compute of its key
  pub computes : (most : Option ℕ) (caller : ComputerData K) (waited : Joined (Unit {0}) (ShownTurn K V)) (then : ComputerData K) → Ends BeginsComputing CollectsComputing most caller waited then → HoldsOfJoined (λ value. ⊥) (IsShownTurn keeps caller.key) waited
  computes most caller waited then ends =
      (ends-hold BeginsComputing CollectsComputing (λ it. it ≡ caller) (λ value. ⊥) (IsShownTurn keeps caller.key) (IsTicketFor Compute caller.key)
      (λ old reply new is begun. (begun.0 ∙ is, subst (λ (it : ComputerData K). BeginComputeReturns keeps it reply) is begun.1))
      (λ old ticket reply new is of collected. (collected.0 ∙ is, ended-for caller.key ticket reply of (collected.1 of.0)))
      most caller waited then refl ends).1
