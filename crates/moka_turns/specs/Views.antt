-- The turns that a table stores.
use Rattle.std.specs.Prelude.{ℕ, List}
use Rattle.std.specs.declared.cmp.PartialEq.{Ghosts}
use Rattle.moka_model.specs.Turns.{Turn}
use Rattle.moka_turns.specs.declared.table.TurnTable.{TurnTable}
use Rattle.moka_turns.specs.Represents.{turns_in}

-- The turns of a table, of which the open ones have the hashes of their keys.
abbrev pub turns_of : {K V E : Type 0} {eq : Ghosts K} → (K → ℕ) → TurnTable K V E eq → List (Turn K V E)
turns_of hash_of table = turns_in hash_of table.opened.entries table.ended.entries
