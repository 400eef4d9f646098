-- When a table represents some turns.
use Rattle.std.specs.Prelude.{◌≡◌, ◌≤◌, ◌==◌, ℕ, Bool, true, false, Option, Some, None, List, ◌++◌, length, map, filter}
use Rattle.std.specs.Arc.{arc_value}
use Rattle.moka_model.specs.declared.turns.Kind.{Kind}
pub use Rattle.moka_model.specs.Turns.{Agree}
use Rattle.moka_model.specs.Turns.{Turn, Name, End, found, is_open_for, is_ended_as, AreApart, HasOneOpen}
use Rattle.moka_model.specs.Turns as turning
use Rattle.moka_model.specs.Calls.{IsCopyOf, IsCopiedEnd}
use Rattle.moka_turns.specs.declared.turn_key.TurnKey.{TurnKey}
use Rattle.moka_turns.specs.declared.table.OpenTurn.{OpenTurn}
use Rattle.moka_turns.specs.declared.table.TurnEnd.{TurnEnd}
use Rattle.moka_turns.specs.declared.table.TurnEnd.TheVariants as ends
use Rattle.moka_turns.specs.declared.table.EndedTurn.{EndedTurn}

-- The end of a turn, by the end that a table has.
abbrev pub end_of : {V E : Type 0} → TurnEnd V E → End V E
end_of (ends.Value v replaced) = turning.Value v replaced
end_of ends.Nothing = turning.Nothing
end_of (ends.Failed e) = turning.Failed (arc_value e)
end_of ends.Computed = turning.Computed
end_of ends.Abandoned = turning.Abandoned

-- The name of a turn with this kind, key and number.
abbrev pub name_of : {K : Type 0} → TurnKey K → ℕ → Name K
name_of q number = record { number = number; kind = q.kind; key = arc_value q.key }

-- The turn of an open entry of a table.
abbrev pub open_turn : {K V E : Type 0} → TurnKey K × OpenTurn V → Turn K V E
open_turn e = record { name = name_of e.0 e.1.number; shown = e.1.shown; kept = e.1.saved; end = None; unspent = e.1.unspent }

-- The turn of an ended entry of a table.
abbrev pub ended_turn : {K V E : Type 0} → ℕ × EndedTurn K V E → Turn K V E
ended_turn e = record { name = name_of e.1.key e.0; shown = false; kept = None; end = Some (end_of e.1.end); unspent = e.1.unspent }

-- Whether an open entry has the hash of its key, by which it is found.
abbrev pub is_hashed : {K V : Type 0} → (K → ℕ) → TurnKey K × OpenTurn V → Bool
is_hashed hash_of e = hash_of (arc_value e.0.key) == e.0.hash

-- The turns of a table's entries: the open ones that have the hashes of their keys, and the ended ones.
abbrev pub turns_in : {K V E : Type 0} → (K → ℕ) → List (TurnKey K × OpenTurn V) → List (ℕ × EndedTurn K V E) → List (Turn K V E)
turns_in hash_of opened ended = map open_turn (filter (is_hashed hash_of) opened) ++ map ended_turn ended

module _ {K V E : Type 0} (eq : K → K → Bool) (is_clone : V → V → Type 0) where
  -- An open entry has the number and the tickets of a turn, and a clone of its saved value.
  pub record IsOpenRow (t : Turn K V E) (row : OpenTurn V) : Type 0 where
    pub number : row.number ≡ t.name.number
    pub shown : row.shown ≡ t.shown
    pub saved : IsCopyOf is_clone t.kept row.saved
    pub unspent : row.unspent ≡ t.unspent

  -- An ended entry has the kind, an equal key and the tickets of a turn, and a clone of its end.
  pub record IsEndedRow (t : Turn K V E) (row : EndedTurn K V E) : Type 0 where
    pub kind : row.key.kind ≡ t.name.kind
    pub key : eq t.name.key (arc_value row.key.key) ≡ true
    pub end : IsCopiedEnd is_clone t.end (Some (end_of row.end))
    pub unspent : row.unspent ≡ t.unspent

  -- A table stores what has to be stored of these turns. For each kind and key that is the open turn, if its hash is the
  -- one of the key. For each number it is the ended turn that has unspent tickets.
  pub record Represents (hash_of : K → ℕ) (ts : List (Turn K V E)) (opened : TurnKey K → Option (OpenTurn V))
      (ended : ℕ → Option (EndedTurn K V E)) : Type 0 where
    pub opened_is : (q : TurnKey K) → q.hash ≡ hash_of (arc_value q.key) →
        Agree IsOpenRow (found (is_open_for eq q.kind (arc_value q.key)) ts) (opened q)
    pub ended_is : (number : ℕ) → Agree IsEndedRow (found (is_ended_as number) ts) (ended number)

module _ {K V E : Type 0} (eq : K → K → Bool) where
  -- What holds of the turns of every legal history: no two have the same number, and at most one of a kind and key is
  -- open.
  abbrev pub AreSound : List (Turn K V E) → Type 0
  AreSound ts = AreApart ts × HasOneOpen eq ts
