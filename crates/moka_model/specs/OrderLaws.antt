-- The terms of the laws about the access order and the arrival order.
use Rattle.std.specs.Prelude.{◌≡◌, ℕ, Bool, true, false, not, ◌&&◌, if◌then◌else◌, Option, List, [], ◌∷◌, ◌++◌, map, is_some}
use Rattle.std.specs.Prelude.{option_to_list}
use Rattle.std.specs.List.{filter, list_any}
use Rattle.moka_model.specs.Maintenance.{Queues}
use Rattle.moka_model.specs.Lives.{Settings, Write, after_write}
use Rattle.moka_model.specs.Events.{Event, Looked, Written, Maintained, latest}
use Rattle.moka_model.specs.Orders.{standing, live, orders}

-- The entries of a list whose key equals this one.
abbrev pub writes_of : {K V : Type 0} → (K → K → Bool) → K → List (Write K V) → List (Write K V)
writes_of eq k ws = filter (λ w. eq w.key k) ws

module _ {K V : Type 0} where
  -- The stored keys of some entries, in order.
  abbrev pub keys : List (Write K V) → List K
  keys ws = map (λ w. w.key) ws

  -- The entries of a key in both orders.
  abbrev pub held : (K → K → Bool) → K → Queues (Write K V) → List (Write K V)
  held eq k q = writes_of eq k (q.admitted ++ q.waiting)

  -- Each key has at most one entry in both orders together.
  abbrev pub HasOneEach : (K → K → Bool) → Queues (Write K V) → Type 0
  HasOneEach eq q = (k : K) → (o : Option (Write K V)) × (held eq k q ≡ option_to_list o)

  -- The queues with other residents.
  abbrev pub with_admitted : Queues (Write K V) → List (Write K V) → Queues (Write K V)
  with_admitted q ws = record { admitted = ws; waiting = q.waiting }

  -- The queues with other pending entries.
  abbrev pub with_waiting : Queues (Write K V) → List (Write K V) → Queues (Write K V)
  with_waiting q ws = record { admitted = q.admitted; waiting = ws }

module _ {K : Type 0} (eq : K → K → Bool) where
  -- Each key of a list once, at the place of its last occurrence.
  abbrev pub lasts : List K → List K
  lasts [] = []
  lasts (k ∷ ks) = if list_any (eq k) ks then lasts ks else k ∷ lasts ks

  module _ {V : Type 0} (settings : Settings K V) where
    -- The keys of the writes that created an entry, the oldest first: nothing was stored for the key, live or not.
    abbrev pub openings : List (Event K V) → List K
    openings [] = []
    openings (Written k v at ∷ h) = if is_some (standing eq settings k h) then openings h else openings h ++ k ∷ []
    openings (e ∷ h) = openings h

    -- Whether the key's entry is resident.
    abbrev pub is_admitted : List (Event K V) → K → Bool
    is_admitted h k = list_any (λ w. eq w.key k) (orders eq settings h).admitted

    -- Whether the key's entry is pending: stored and not resident.
    abbrev pub waits : List (Event K V) → K → Bool
    waits h k = is_some (standing eq settings k h) && not (is_admitted h k)

    -- The keys that a maintenance after `h` admits, in arrival order: those of the pending entries that are resident
    -- after it.
    abbrev pub admitted_in : Option ℕ → ℕ → List (Event K V) → List K
    admitted_in limit at h = keys (filter (λ w. is_admitted (Maintained limit at ∷ h) w.key) (orders eq settings h).waiting)

    -- The stored keys that were accessed, the oldest first: by a lookup that hits, by a write, or by a maintenance that
    -- admits the key.
    abbrev pub uses : List (Event K V) → List K
    uses [] = []
    uses (Looked k at ∷ h) = uses h ++ keys (option_to_list (live eq settings k (latest (Looked k at ∷ h)) h))
    uses (Written k v at ∷ h) = uses h ++ (after_write settings k v at (standing eq settings k h)).key ∷ []
    uses (Maintained limit at ∷ h) = uses h ++ admitted_in limit at h
    uses (e ∷ h) = uses h

-- The last access of a key in a list of accesses: no later one is of an equal key.
pub record LastUse {K : Type 0} (eq : K → K → Bool) (k : K) (used : List K) : Type 0 where
  pub before : List K
  pub key : K
  pub later : List K
  pub place : used ≡ before ++ key ∷ later
  pub same_key : eq key k ≡ true
  pub unused : list_any (λ x. eq x k) later ≡ false
