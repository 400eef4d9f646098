-- What a lock guards, as data, and the moment of a call.
use Rattle.std.specs.Prelude.{ℕ}
use Rattle.moka_state.specs.StateData.{StateData}

-- What the lock of a shared cache guards, as data: a state and a clock.
pub record GuardedData (K V H W X F E T : Type 0) : Type 0 where
  pub state : StateData K V H W X F E
  pub clock : T

-- There is a moment that the clock may give, for which this holds.
abbrev pub AtClockMoment : (ℕ → Type 0) → (ℕ → Type 0) → Type 0
AtClockMoment tells P = (now : ℕ) × tells now × P now
