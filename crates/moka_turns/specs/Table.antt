-- Entries of a table of turns.
use Rattle.std.specs.Prelude.{ℕ, ◌-◌, ◌==◌, ◌&&◌, nat_le, Bool, Option, Some, None, if◌then◌else◌, nat_lt}
use Rattle.std.specs.Arc.{arc_value}
use Rattle.moka_model.specs.contracts.turns.KindPartialEq.TheImpl as kinds
use Rattle.moka_turns.specs.declared.turn_key.TurnKey.{TurnKey}
use Rattle.moka_turns.specs.declared.table.OpenTurn.{OpenTurn}
use Rattle.moka_turns.specs.declared.table.TurnEnd.{TurnEnd}
use Rattle.moka_turns.specs.declared.table.EndedTurn.{EndedTurn}

-- An open entry with this many unspent tickets.
abbrev pub with_unspent : {V : Type 0} → ℕ → OpenTurn V → OpenTurn V
with_unspent unspent turn = record turn { unspent = unspent }

-- Whether an open entry has this number and an unspent ticket.
abbrev pub is_awaited_as : {V : Type 0} → ℕ → OpenTurn V → Bool
is_awaited_as number turn = turn.number == number && nat_le 1 turn.unspent

module _ {K V E : Type 0} where
  -- The ended entry of an open turn, under this key.
  abbrev pub ended_entry : TurnKey K → TurnEnd V E → OpenTurn V → EndedTurn K V E
  ended_entry key end turn = record { key = key; end = end; unspent = turn.unspent }

  -- Whether an ended entry is of a kind and key.
  abbrev pub is_of : (K → K → Bool) → TurnKey K → EndedTurn K V E → Bool
  is_of eq key turn = (kinds.ghosts).eq turn.key.kind key.kind && eq (arc_value turn.key.key) (arc_value key.key)

  -- An ended entry with one unspent ticket less.
  abbrev pub one_less : EndedTurn K V E → EndedTurn K V E
  one_less turn = record turn { unspent = turn.unspent - 1 }

  -- An ended entry is retained while it has unspent tickets.
  abbrev pub retained_ended : EndedTurn K V E → Option (EndedTurn K V E)
  retained_ended turn = if nat_lt 0 turn.unspent then Some turn else None
