-- What holds for a reply, if `Q` holds for values, `R` for turns, and `OfTicket` for tickets.
use Rattle.std.specs.Prelude.{⊤}
use Rattle.moka_single_flight.specs.declared.replies.Begun.{Begun}
use Rattle.moka_single_flight.specs.declared.replies.Begun.TheVariants.{Found, Run, Wait}
use Rattle.moka_single_flight.specs.declared.replies.Collected.{Collected}
use Rattle.moka_single_flight.specs.declared.replies.Collected.TheVariants.{Ready, NotYet, Retry}
use Rattle.moka_single_flight.specs.declared.replies.Joined.{Joined}
use Rattle.moka_single_flight.specs.declared.replies.Joined.TheVariants.{Value, Turn, TooMany}

module _ {V T K : Type 0} (Q : V → Type 0) (R : T → Type 0) (OfTicket : K → Type 0) where
  -- What a begin returns: a value with `Q`, a turn with `R`, or a ticket with `OfTicket`.
  abbrev pub HoldsOfBegun : Begun V T K → Type 0
  HoldsOfBegun (Found v) = Q v
  HoldsOfBegun (Run t) = R t
  HoldsOfBegun (Wait t) = OfTicket t

module _ {V K : Type 0} (Q : V → Type 0) (OfTicket : K → Type 0) where
  -- What a collect returns: a value with `Q`, a ticket with `OfTicket`, or that the caller begins again.
  abbrev pub HoldsOfCollected : Collected V K → Type 0
  HoldsOfCollected (Ready v) = Q v
  HoldsOfCollected (NotYet t) = OfTicket t
  HoldsOfCollected Retry = ⊤

module _ {V T : Type 0} (Q : V → Type 0) (R : T → Type 0) where
  -- How the loop ends: with a value for which `Q` holds, with a turn for which `R` holds, or after too many waits.
  abbrev pub HoldsOfJoined : Joined V T → Type 0
  HoldsOfJoined (Value v) = Q v
  HoldsOfJoined (Turn t) = R t
  HoldsOfJoined TooMany = ⊤
