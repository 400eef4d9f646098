-- What one call of a walk may do. It is left open which key comes next.
use Rattle.std.specs.Prelude.{⊤, ◌≡◌, ℕ, ◌+◌, ◌*◌, ◌-◌, ◌^◌, ◌≤◌, ◌<◌, max, Option, Some, None, Result, Ok, Err, List, [], ◌∷◌, ◌++◌}
use Rattle.std.specs.Prelude.{length, map, IsPermutation}
use Rattle.std.specs.List.{AllByRecursion}

-- Where a walk is: how many segments it has reached, and which keys of the last of them are still to come.
pub record Cursor (K : Type 0) : Type 0 where
  pub reached : ℕ
  pub pending : List K

-- The cursor with so many segments reached and these keys still to come.
abbrev pub at_segment : {K : Type 0} → ℕ → List K → Cursor K
at_segment reached pending = record { reached = reached; pending = pending }

-- The cursor before the first call.
abbrev pub start : {K : Type 0} → Cursor K
start = at_segment 0 []

-- Keys, each with the number of the segment that stored it.
abbrev pub in_segment : {K : Type 0} → ℕ → List K → List (ℕ × K)
in_segment i keys = map (λ k. (i, k)) keys

-- The keys that are still to come.
abbrev pub pending_in : {K : Type 0} → Cursor K → List (ℕ × K)
pending_in cursor = in_segment (cursor.reached - 1) cursor.pending

-- The keys that were taken of one segment after the other, from this one on.
abbrev pub taken_from : {K : Type 0} → ℕ → List (List K) → List (ℕ × K)
taken_from i [] = []
taken_from i (keys ∷ more) = in_segment i keys ++ taken_from (i + 1) more

pub data Ending (K V E : Type 0) : Type 0 where  -- How a call ends:
  Yielded : ℕ → K → V → Ending K V E  -- at a live key of a segment, with a clone of its value
  KeyRefused : ℕ → K → E → Ending K V E  -- at a live key whose clone failed
  SegmentRefused : E → Ending K V E  -- at the next segment, whose keys could not be listed
  Finished : Ending K V E  -- after all keys of all segments

-- What a call does: it takes the keys of further segments, skips keys that are not live, and ends.
pub record Advance (K V E : Type 0) : Type 0 where
  pub taken : List (List K)
  pub passed : List (ℕ × K)
  pub ending : Ending K V E

module _ {K V E : Type 0} where
  -- What the call returns.
  abbrev pub reply_of : Ending K V E → Option (Result (K × V) E)
  reply_of (Yielded i k v) = Some (Ok (k, v))
  reply_of (KeyRefused i k e) = Some (Err e)
  reply_of (SegmentRefused e) = Some (Err e)
  reply_of Finished = None

  -- The key at which the call ends, if it ends at one.
  abbrev pub key_at_end : Ending K V E → List (ℕ × K)
  key_at_end (Yielded i k v) = (i, k) ∷ []
  key_at_end (KeyRefused i k e) = (i, k) ∷ []
  key_at_end (SegmentRefused e) = []
  key_at_end Finished = []

  -- The keys that the call has dealt with.
  abbrev pub keys_dealt_with : Advance K V E → List (ℕ × K)
  keys_dealt_with it = it.passed ++ key_at_end it.ending

-- There are `count` segments. `stands` says what a segment may return when it is asked for its keys, and `finds` when
-- it is asked for a key's live value.
module _ {K V E : Type 0} (count : ℕ) (stands : ℕ → Result (List K) E → Type 0) (finds : ℕ → K → Result (Option V) E → Type 0) where
  -- These keys are stored in one segment after the other, from this one on.
  abbrev pub AllStand : ℕ → List (List K) → Type 0
  AllStand i [] = ⊤
  AllStand i (keys ∷ more) = stands i (Ok keys) × AllStand (i + 1) more

  -- The call ends so if so many segments were reached before the ending. A key at which it ends is of the last of them:
  -- no further segment is reached before it is needed.
  abbrev pub IsEnding : ℕ → Ending K V E → Cursor K → Type 0
  IsEnding reached (Yielded i k v) new = finds i k (Ok (Some v)) × (new.reached ≡ reached) × (i ≡ new.reached - 1)
  IsEnding reached (KeyRefused i k e) new = finds i k (Err e) × (new.reached ≡ reached) × (i ≡ new.reached - 1)
  IsEnding reached (SegmentRefused e) new = stands reached (Err e) × (reached < count) × (new ≡ at_segment (reached + 1) [])
  IsEnding reached Finished new = (count ≤ reached) × (new ≡ at_segment reached [])

-- A call leads from one cursor to another. It starts from the keys that were still to come and those that it takes. It
-- deals with some of them, and the others are still to come. So each key is dealt with at most once.
pub record Advances {K V E : Type 0} (count : ℕ) (stands : ℕ → Result (List K) E → Type 0) (finds : ℕ → K → Result (Option V) E → Type 0)
    (old : Cursor K) (it : Advance K V E) (new : Cursor K) : Type 0 where
  pub stood : AllStand {V = V} count stands finds old.reached it.taken
  pub within : old.reached + length it.taken ≤ max old.reached count
  pub dead : AllByRecursion (λ p. finds p.0 p.1 (Ok None)) it.passed
  pub ends : IsEnding count stands finds (old.reached + length it.taken) it.ending new
  pub once : IsPermutation (pending_in old ++ taken_from old.reached it.taken) (keys_dealt_with it ++ pending_in new)

-- A bound on the calls that still return something, if there are so many segments. Each such call lowers it.
abbrev pub calls_left : {K : Type 0} → ℕ → Cursor K → ℕ
calls_left count cursor = (count - cursor.reached) * 2 ^ 64 + length cursor.pending
