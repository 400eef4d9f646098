-- Accepted steps: what one call does to the stored values and to the turns.
use Rattle.std.specs.Prelude.{Option, List, [], ◌∷◌, ◌++◌, filter}
use Rattle.moka_model.specs.Events.{Event}
use Rattle.moka_model.specs.Turns.{Move, Turn, moved_by, is_held}

-- One accepted step: its events, the newest first, all at one moment, and what it does to turns, if anything.
-- Definitions over events do not look at moves.
pub record AcceptedStep (K V E : Type 0) : Type 0 where
  pub events : List (Event K V)
  pub move : Option (Move K V E)

module _ {K V E : Type 0} where
  -- The events of a list of accepted steps. Both lists have the newest first.
  abbrev pub events_in : List (AcceptedStep K V E) → List (Event K V)
  events_in [] = []
  events_in (step ∷ steps) = step.events ++ events_in steps

  abbrev pub turns : List (AcceptedStep K V E) → List (Turn K V E)  -- All turns ever opened, the oldest first.
  turns [] = []
  turns (step ∷ steps) = moved_by step.move (turns steps)

  -- The turns that are open or have unspent tickets.
  abbrev pub held_turns : List (AcceptedStep K V E) → List (Turn K V E)
  held_turns steps = filter is_held (turns steps)
