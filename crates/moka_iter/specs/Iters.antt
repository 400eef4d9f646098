-- Iteration over caches that say by themselves what they hold.
use Rattle.std.specs.Prelude.{◌≡◌, ℕ, Bool, Option, Some, None, IsSomeAnd, MatchOption, Result, Ok, List, [], ◌∷◌, length, slice_get}
use Rattle.moka_policy.specs.declared.policy.Refused.{Refused}
use Rattle.moka_iter.specs.Walks.{Cursor, Advance, Advances, reply_of}
use Rattle.moka_iter.specs.Histories.{History, StandsIn, FindsIn}

-- The caches that an iterator goes over, and where it is.
pub record IterData (K G : Type 0) : Type 0 where
  pub caches : List G
  pub cursor : Cursor K

-- The keys of a segment, if there is one.
abbrev pub keys_if : {Q K : Type 0} → (Q → List K) → Option Q → List K
keys_if keys None = []
keys_if keys (Some handed_out) = keys handed_out

-- `stands` says what a cache may return when it is asked for its keys, `finds` when it is asked for a key's live value.
module _ {K V E G : Type 0} (stands : G → Result (List K) E → Type 0) (finds : G → K → Result (Option V) E → Type 0) where
  -- What the cache at a place may return when it is asked for its keys. There has to be one.
  abbrev pub StandsAt : List G → ℕ → Result (List K) E → Type 0
  StandsAt caches i result = IsSomeAnd (slice_get caches i) (λ cache. stands cache result)

  -- What the cache at a place may return for a key. If there is no cache, nothing is live.
  abbrev pub FindsAt : List G → ℕ → K → Result (Option V) E → Type 0
  FindsAt caches i k result = MatchOption (slice_get caches i) (result ≡ Ok None) (λ cache. finds cache k result)

  -- A call leads from one position to another, and returns this.
  abbrev pub IteratesTo : IterData K G → Option (Result (K × V) E) → IterData K G → Type 0
  IteratesTo old result new = (new.caches ≡ old.caches) × ((it : Advance K V E)
      × Advances (length old.caches) (StandsAt old.caches) (FindsAt old.caches) old.cursor it new.cursor × (result ≡ reply_of it.ending))

  -- The iterator yields these pairs one after another, then none, and no error.
  abbrev pub IteratesJust : IterData K G → List (K × V) → Type 0
  IteratesJust old [] = (new : IterData K G) × IteratesTo old None new
  IteratesJust old (pair ∷ pairs) = (new : IterData K G) × IteratesTo old (Some (Ok pair)) new × IteratesJust new pairs

-- The caches say what these histories hold at a moment: which keys are stored, and what is live. So nobody uses them.
pub record StandStill {K V E G : Type 0} (eq : K → K → Bool) (is_clone : V → V → Type 0) (is_infallible : V → Type 0)
    (stands : G → Result (List K) Refused → Type 0) (finds : G → K → Result (Option V) Refused → Type 0)
    (caches : List G) (histories : List (History K V E)) (now : ℕ) : Type 0 where
  pub count : length caches ≡ length histories
  pub stored : (i : ℕ) (result : Result (List K) Refused) → StandsAt stands finds caches i result
      → StandsIn eq is_clone is_infallible histories now i result
  pub live : (i : ℕ) (k : K) (result : Result (Option V) Refused) → FindsAt stands finds caches i k result
      → FindsIn eq is_clone is_infallible histories now i k result
