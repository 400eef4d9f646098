-- What a contract sees of a table of turns: two lookups, of the open turn of a kind and key, and of the ended turn with
-- a number.
use Rattle.std.specs.Prelude.{◌≡◌, ◌+◌, ◌-◌, ◌<◌, ◌≤◌, ℕ, nat_eq, Bool, true, Option, Some, IfSome, List}
use Rattle.std.specs.Arc.{arc_value}
use Rattle.std.specs.declared.cmp.PartialEq.{Ghosts}
use Rattle.indexmap.specs.IndexMap.{get, get_key, spare, index_map_len, Updates, IsEmpty, IsUnchanged}
use Rattle.moka_model.specs.Turns.{Turn, Opened, moved}
use Rattle.moka_model.specs.Calls.{IsCopyOf}
use Rattle.moka_turns.specs.declared.turn_key.TurnKey.{TurnKey}
use Rattle.moka_turns.specs.declared.table.OpenTurn.{OpenTurn}
use Rattle.moka_turns.specs.declared.table.TurnEnd.{TurnEnd}
use Rattle.moka_turns.specs.declared.table.EndedTurn.{EndedTurn}
use Rattle.moka_turns.specs.declared.table.TurnTable.{TurnTable}
use Rattle.moka_turns.specs.TurnKey.{table_key_eq}
use Rattle.moka_turns.specs.Table.{with_unspent, one_less, retained_ended, ended_entry}
use Rattle.moka_turns.specs.Represents.{Represents, AreSound, name_of}

module _ {K V E : Type 0} {same : Ghosts K} where
  -- The open turn of a kind and key, if there is one.
  abbrev pub open_at : TurnTable K V E same → TurnKey K → Option (OpenTurn V)
  open_at table = get (table_key_eq same.eq) table.opened

  -- The key with which that turn was opened.
  abbrev pub opened_key : TurnTable K V E same → TurnKey K → Option (TurnKey K)
  opened_key table = get_key (table_key_eq same.eq) table.opened

  -- The ended turn with a number, if there is one.
  abbrev pub ended_at : TurnTable K V E same → ℕ → Option (EndedTurn K V E)
  ended_at table = get nat_eq table.ended

  -- The table has no turns.
  abbrev pub HasNoTurns : TurnTable K V E same → Type 0
  HasNoTurns table = IsEmpty table.opened × IsEmpty table.ended

  -- There is room for one more turn, first open and then ended.
  abbrev pub HasRoom : TurnTable K V E same → Type 0
  HasRoom table = (0 < spare table.opened) × (index_map_len table.opened + 1 ≤ spare table.ended)

  -- The open turns of both tables are the same, with the same room.
  abbrev pub SameOpen : TurnTable K V E same → TurnTable K V E same → Type 0
  SameOpen old new = new.opened ≡ old.opened

  -- The ended turns of both tables are the same, with the same room.
  abbrev pub SameEnded : TurnTable K V E same → TurnTable K V E same → Type 0
  SameEnded old new = new.ended ≡ old.ended

  -- The turns of both tables are the same, open and ended. Their room may differ.
  abbrev pub SameTurns : TurnTable K V E same → TurnTable K V E same → Type 0
  SameTurns old new = IsUnchanged old.opened new.opened × IsUnchanged old.ended new.ended

  -- The new table has this open turn of a kind and key, or none. Every other one is as in the old table.
  abbrev pub UpdatesOpen : TurnTable K V E same → TurnTable K V E same → TurnKey K → Option (OpenTurn V) → Type 0
  UpdatesOpen old new = Updates (table_key_eq same.eq) old.opened new.opened

  -- The new table has this ended turn with a number, or none. Every other one is as in the old table.
  abbrev pub UpdatesEnded : TurnTable K V E same → TurnTable K V E same → ℕ → Option (EndedTurn K V E) → Type 0
  UpdatesEnded old new = Updates nat_eq old.ended new.ended

  -- A ticket of the open turn of a kind and key is spent, if there is one.
  abbrev pub SpendsOpen : TurnTable K V E same → TurnTable K V E same → TurnKey K → Type 0
  SpendsOpen old new key =
      IfSome (open_at old key) (λ turn. UpdatesOpen old new key (Some (with_unspent (turn.unspent - 1) turn)))

  -- A ticket of the ended turn with a number is spent, if there is one. Without tickets it is no longer retained.
  abbrev pub SpendsEnded : TurnTable K V E same → TurnTable K V E same → ℕ → Type 0
  SpendsEnded old new number =
      IfSome (ended_at old number) (λ turn. UpdatesEnded old new number (retained_ended (one_less turn)))

  -- The open turn of a kind and key is retained with an end, if there is one, under the key with which it was opened.
  abbrev pub RetainsEnded : TurnTable K V E same → TurnTable K V E same → TurnKey K → Option (TurnEnd V E) → OpenTurn V → Type 0
  RetainsEnded old new key end turn =
      IfSome end (λ end. IfSome (opened_key old key) (λ own.
      UpdatesEnded old new turn.number (Some (ended_entry own end turn))))

-- Equal keys have one hash.
abbrev pub RespectsEq : {K : Type 0} → (K → K → Bool) → (K → ℕ) → Type 0
RespectsEq {K} eq hash_of = (a b : K) → eq a b ≡ true → hash_of a ≡ hash_of b

module _ {K V E : Type 0} {same : Ghosts K} (is_clone : V → V → Type 0) where
  -- The table represents these turns, under this hash function.
  abbrev pub IsTableOf : (K → ℕ) → List (Turn K V E) → TurnTable K V E same → Type 0
  IsTableOf hash_of ts table = Represents same.eq is_clone hash_of ts (open_at table) (ended_at table)

  -- `P hash_of ts` holds of all turns `ts` that the table represents. The key was hashed by `hash_of`.
  abbrev pub AtEachTable : TurnKey K → TurnTable K V E same → ((K → ℕ) → List (Turn K V E) → Type 0) → Type 0
  AtEachTable key table P =
      (hash_of : K → ℕ) (ts : List (Turn K V E)) → RespectsEq same.eq hash_of → key.hash ≡ hash_of (arc_value key.key)
      → AreSound same.eq ts → IsTableOf hash_of ts table → P hash_of ts

  -- `P ts After` holds of all turns `ts` that the old table represents. `After` says that the new one represents some.
  abbrev pub AtEachChange : TurnKey K → TurnTable K V E same → TurnTable K V E same →
      (List (Turn K V E) → (List (Turn K V E) → Type 0) → Type 0) → Type 0
  AtEachChange key old new P = AtEachTable key old (λ hash_of ts. P ts (λ after. IsTableOf hash_of after new))

  -- A turn of a kind and key was opened, with this number and saved clone: the new table represents one turn more.
  abbrev pub OpensTurn : TurnKey K → ℕ → Bool → Option V → TurnTable K V E same → TurnTable K V E same → Type 0
  OpensTurn key number shown saved old new =
      (hash_of : K → ℕ) (ts : List (Turn K V E)) (value : Option V) → RespectsEq same.eq hash_of
      → key.hash ≡ hash_of (arc_value key.key) → IsCopyOf is_clone value saved → IsTableOf hash_of ts old
      → IsTableOf hash_of (moved (Opened (name_of key number) shown value) ts) new
