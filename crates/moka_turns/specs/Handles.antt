-- The names of turns and tickets.
use Rattle.std.specs.Arc.{arc_value}
use Rattle.moka_model.specs.Turns.{Name}
use Rattle.moka_turns.specs.declared.handles.Turn.{Turn}
use Rattle.moka_turns.specs.declared.handles.Ticket.{Ticket}
use Rattle.moka_turns.specs.declared.turn_name.TurnName.{TurnName}
use Rattle.moka_turns.specs.Represents.{name_of}

module _ {K : Type 0} where
  -- The name of a turn.
  abbrev pub turn_name : Turn K → Name K
  turn_name turn = name_of turn.key turn.number

  -- The name of a ticket's turn.
  abbrev pub ticket_name : Ticket K → Name K
  ticket_name ticket = name_of ticket.key ticket.number

  abbrev pub name_by : TurnName K → Name K  -- the name that a name as data stands for
  name_by name = record { number = name.number; kind = name.kind; key = arc_value name.key }
