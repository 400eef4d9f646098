-- The results of begins: those of single flight, at the types of a cache.
use Rattle.std.specs.Prelude.{Result, Ok, Err}
use Rattle.std.specs.declared.convert.Infallible.{Infallible}
use Rattle.moka_single_flight.specs.declared.replies.Begun.{Begun}
use Rattle.moka_single_flight.specs.declared.replies.Begun.TheVariants.{Found, Run, Wait}
use Rattle.moka_policy.specs.declared.policy.Refused.{Refused}
use Rattle.moka_model.specs.declared.entry.Entry.{Entry}
use Rattle.moka_turns.specs.declared.handles.Turn.{Turn}
use Rattle.moka_turns.specs.declared.handles.Ticket.{Ticket}

abbrev pub BegunOf : Type 0 → Type 0 → Type 0
BegunOf K V = Begun (Entry K V) (Turn K) (Ticket K)

-- What a begin returns that never waits. There can be no ticket.
abbrev pub BegunNowOf : Type 0 → Type 0 → Type 0
BegunNowOf K V = Begun (Entry K V) (Turn K) Infallible

-- That as what a begin returns that may wait.
abbrev pub as_begun : {K V : Type 0} → BegunNowOf K V → BegunOf K V
as_begun (Found entry) = Found entry
as_begun (Run turn) = Run turn
as_begun (Wait never) = elim never [ ]

-- The result of a begin that never waits, as that of one that may.
abbrev pub as_begin : {K V : Type 0} → Result (BegunNowOf K V) Refused → Result (BegunOf K V) Refused
as_begin (Ok begun) = Ok (as_begun begun)
as_begin (Err cause) = Err cause
