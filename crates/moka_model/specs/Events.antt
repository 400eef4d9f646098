-- What happens to the values that a cache stores. A list of events has the newest first: `e ∷ h` is "h, and then e". A
-- call that only reads is no event.
use Rattle.std.specs.Prelude.{ℕ, max, Bool, Option, List, [], ◌∷◌}

-- One thing that happens to the stored values, with its moment if it records one.
pub data Event (K V : Type 0) : Type 0 where
  Looked : K → ℕ → Event K V  -- a recorded lookup of a key, at a moment
  TurnedDown : K → ℕ → Event K V  -- a recorded lookup whose live value the caller turned down: a miss
  -- a value is stored under a key, at a moment
  Written : K → V → ℕ → Event K V
  Invalidated : K → ℕ → Event K V  -- a key is invalidated or removed, at a moment
  Hidden : (K → V → Bool) → Event K V  -- every stored entry that passes a test is invalidated
  Maintained : Option ℕ → ℕ → Event K V  -- maintenance at a moment, with at most so many evictions if there is a limit
  Passed : ℕ → Event K V  -- a moment is recorded, and nothing else happens
  Drawn : Event K V  -- a sequence number is drawn
  Taken : Event K V  -- the first notice in the queue is taken, if there is one

abbrev pub recorded : {K V : Type 0} → Event K V → ℕ  -- The moment that an event records, 0 if it records none.
recorded (Looked k at) = at
recorded (TurnedDown k at) = at
recorded (Written k v at) = at
recorded (Invalidated k at) = at
recorded (Maintained limit at) = at
recorded (Passed at) = at
recorded e = 0

-- The latest moment: the greatest one recorded so far, 0 before the first.
abbrev pub latest : {K V : Type 0} → List (Event K V) → ℕ
latest [] = 0
latest (e ∷ h) = max (latest h) (recorded e)
