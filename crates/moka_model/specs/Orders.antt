-- The entries stored after a list of events, by key and in two orders. Keys are compared by `eq`, their `Eq`, never by
-- identity.
use Rattle.std.specs.Prelude.{ℕ, Bool, not, ◌&&◌, if◌then◌else◌, Option, Some, None, List, [], ◌∷◌, ◌++◌, option_map, map, filter}
use Rattle.std.specs.List.{list_any}
use Rattle.moka_model.specs.Maintenance.{Queues, Part, parts, done, is_left, evicted_in, after_parts}
use Rattle.moka_model.specs.Lives.{Settings, Write, is_live, live_one, after_look, after_write, hidden_by}
use Rattle.moka_model.specs.Events.{Event, Looked, TurnedDown, Written, Invalidated, Hidden, Maintained, Passed, Drawn, Taken, latest}
use Rattle.moka_model.specs.Admission.{frequency, wins}

module _ {A : Type 0} where
  abbrev pub changed_where : (A → Bool) → (A → A) → List A → List A  -- Changes the elements that pass a test, in place.
  changed_where p change xs = map (λ x. if p x then change x else x) xs

  -- Changes the elements that pass a test, and moves them to the end.
  abbrev pub moved_last : (A → Bool) → (A → A) → List A → List A
  moved_last p change xs = filter (λ x. not (p x)) xs ++ map change (filter p xs)

-- Invalidates every entry that passes a test. Each stays in its place.
abbrev pub hidden_in : {K V : Type 0} → (K → V → Bool) → Queues (Write K V) → Queues (Write K V)
hidden_in test q = record { admitted = map (hidden_by test) q.admitted; waiting = map (hidden_by test) q.waiting }

module _ {K V : Type 0} (settings : Settings K V) (frequency_of : ℕ → ℕ) where
  -- The parts of a maintenance of these queues at a moment.
  abbrev pub parts_at : ℕ → Queues (Write K V) → List (Part (Write K V))
  parts_at at q = parts (λ w. w.policy_weight) settings.max_capacity (λ w. is_live settings w at) (wins settings frequency_of) q

  -- The parts that are done within a limit, if there is one.
  abbrev pub maintenance : Option ℕ → ℕ → Queues (Write K V) → List (Part (Write K V))
  maintenance limit at q = done limit (parts_at at q)

  abbrev pub is_cut : Option ℕ → ℕ → Queues (Write K V) → Bool  -- Whether the limit leaves a part undone.
  is_cut limit at q = is_left limit (parts_at at q)

  abbrev pub evicted : Option ℕ → ℕ → Queues (Write K V) → List (Write K V)  -- What the maintenance evicts, in order.
  evicted limit at q = evicted_in (maintenance limit at q)

  abbrev pub maintained : Option ℕ → ℕ → Queues (Write K V) → Queues (Write K V)  -- The queues after the maintenance.
  maintained limit at q = after_parts q (maintenance limit at q)

module _ {K V : Type 0} (eq : K → K → Bool) (settings : Settings K V) where
  abbrev pub is_of : K → Write K V → Bool  -- Whether the entry is that of the key.
  is_of k w = eq w.key k

  abbrev pub is_hit : K → ℕ → Write K V → Bool  -- Whether a lookup of the key at a moment hits the entry.
  is_hit k at w = eq w.key k && is_live settings w at

  -- An access of the entries that pass the test, which change so. A pending one keeps its place, and a resident one
  -- moves to the end of the access order.
  abbrev pub used_where : (Write K V → Bool) → (Write K V → Write K V) → Queues (Write K V) → Queues (Write K V)
  used_where p change q = record { admitted = moved_last p change q.admitted; waiting = changed_where p change q.waiting }

  -- Appends a new entry to the pending ones if its key has none (the list of the key's entries is empty).
  abbrev pub opened_by : Write K V → List (Write K V) → Queues (Write K V) → Queues (Write K V)
  opened_by w [] q = record { admitted = q.admitted; waiting = q.waiting ++ w ∷ [] }
  opened_by w (standing ∷ more) q = q

  -- The queues after a write at a moment: an access of the key's entry, or a new pending entry.
  abbrev pub written_in : K → V → ℕ → Queues (Write K V) → Queues (Write K V)
  written_in k v at q =
      opened_by (after_write settings k v at None) (filter (is_of k) (q.admitted ++ q.waiting))
      (used_where (is_of k) (λ w. after_write settings k v at (Some w)) q)

  -- The queues after a removal: the key is in neither order.
  abbrev pub removed_in : K → Queues (Write K V) → Queues (Write K V)
  removed_in k q = record { admitted = filter (λ w. not (is_of k w)) q.admitted; waiting = filter (λ w. not (is_of k w)) q.waiting }

  -- All stored entries after a list of events, in their two orders.
  abbrev pub orders : List (Event K V) → Queues (Write K V)
  orders [] = record { admitted = []; waiting = [] }
  orders (Looked k at ∷ h) = let now = latest (Looked k at ∷ h) in used_where (is_hit k now) (after_look settings now) (orders h)
  orders (TurnedDown k at ∷ h) = orders h
  orders (Written k v at ∷ h) = written_in k v (latest (Written k v at ∷ h)) (orders h)
  orders (Invalidated k at ∷ h) = removed_in k (orders h)
  orders (Hidden test ∷ h) = hidden_in test (orders h)
  orders (Maintained limit at ∷ h) = maintained settings (frequency settings h) limit (latest (Maintained limit at ∷ h)) (orders h)
  orders (Passed at ∷ h) = orders h
  orders (Drawn ∷ h) = orders h
  orders (Taken ∷ h) = orders h

  -- What a maintenance after the events `h` evicts, in order.
  abbrev pub evicted_at : Option ℕ → ℕ → List (Event K V) → List (Write K V)
  evicted_at limit at h = evicted settings (frequency settings h) limit (latest (Maintained limit at ∷ h)) (orders h)

  -- Whether a maintenance after the events `h` leaves a part undone.
  abbrev pub is_left_at : Option ℕ → ℕ → List (Event K V) → Bool
  is_left_at limit at h = is_cut settings (frequency settings h) limit (latest (Maintained limit at ∷ h)) (orders h)

  -- Whether a maintenance after the events `h` evicts the key's entry.
  abbrev pub is_evicted : K → Option ℕ → ℕ → List (Event K V) → Bool
  is_evicted k limit at h = list_any (λ w. eq w.key k) (evicted_at limit at h)

  -- The entry stored for a key after a list of events, live or not.
  abbrev pub standing : K → List (Event K V) → Option (Write K V)
  standing k [] = None
  standing k (Looked q at ∷ h) =
      if eq q k then option_map (after_look settings (latest (Looked q at ∷ h))) (standing k h) else standing k h
  standing k (TurnedDown q at ∷ h) = standing k h
  standing k (Written q v at ∷ h) =
      if eq q k then Some (after_write settings q v (latest (Written q v at ∷ h)) (standing k h)) else standing k h
  standing k (Invalidated q at ∷ h) = if eq q k then None else standing k h
  standing k (Hidden test ∷ h) = option_map (hidden_by test) (standing k h)
  standing k (Maintained limit at ∷ h) = if is_evicted k limit at h then None else standing k h
  standing k (Passed at ∷ h) = standing k h
  standing k (Drawn ∷ h) = standing k h
  standing k (Taken ∷ h) = standing k h

  abbrev pub live : K → ℕ → List (Event K V) → Option (Write K V)  -- The entry of a key, if it is live at a moment.
  live k at h = live_one settings at (standing k h)
