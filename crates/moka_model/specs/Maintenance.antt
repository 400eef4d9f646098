-- Maintenance of two queues as a list of its parts, over any elements that have a weight and may be dead (not live).
use Rattle.std.specs.Prelude.{ℕ, ◌+◌, ◌-◌, Bool, true, false, ◌||◌, ◌==◌, if◌then◌else◌, nat_le, Option, Some, None, List, [], ◌∷◌, ◌++◌}
use Rattle.std.specs.Prelude.{length, take, drop, filter}

-- The two queues: the resident elements, the least recently used first, and the pending ones in arrival order.
pub record Queues (X : Type 0) : Type 0 where
  pub admitted : List X
  pub waiting : List X

-- One part of a maintenance: what it evicts, in order, and the queues after it.
pub record Part (X : Type 0) : Type 0 where
  pub evicted : List X
  pub after : Queues X

module _ {X : Type 0} (weight : X → ℕ) where
  abbrev pub total : List X → ℕ  -- The total weight of a list.
  total [] = 0
  total (x ∷ xs) = weight x + total xs

  -- Whether `more` weight fits beside the elements within the capacity. Everything fits without a capacity.
  abbrev pub fits : Option ℕ → ℕ → List X → Bool
  fits None more xs = true
  fits (Some capacity) more xs = nat_le (more + total xs) capacity

  -- The length of the shortest prefix whose eviction makes room for `more` weight, or of the whole list if none does.
  abbrev pub front : Option ℕ → ℕ → List X → ℕ
  front capacity more [] = 0
  front capacity more (x ∷ xs) = if fits capacity more (x ∷ xs) then 0 else front capacity more xs + 1

module _ {X : Type 0} (is_live : X → Bool) where
  -- Evicts the dead residents, one by one, each in a part. `kept` are the live ones passed so far.
  abbrev pub dead_admitted : List X → List X → List X → List (Part X)
  dead_admitted kept [] waiting = []
  dead_admitted kept (x ∷ xs) waiting = if is_live x then dead_admitted (kept ++ x ∷ []) xs waiting
      else record { evicted = x ∷ []; after = record { admitted = kept ++ xs; waiting = waiting } } ∷ dead_admitted kept xs waiting

  -- Then evicts the dead pending ones, one by one, each in a part. `kept` are the live ones passed so far.
  abbrev pub dead_waiting : List X → List X → List X → List (Part X)
  dead_waiting admitted kept [] = []
  dead_waiting admitted kept (x ∷ xs) = if is_live x then dead_waiting admitted (kept ++ x ∷ []) xs
      else record { evicted = x ∷ []; after = record { admitted = admitted; waiting = kept ++ xs } } ∷ dead_waiting admitted kept xs

module _ {X : Type 0} (weight : X → ℕ) (capacity : Option ℕ) where
  -- If the residents weigh more than the capacity, evicts the shortest prefix that brings them within it, one by one.
  abbrev pub over : List X → List X → List (Part X)
  over [] waiting = []
  over (x ∷ xs) waiting = if fits weight capacity 0 (x ∷ xs) then []
      else record { evicted = x ∷ []; after = record { admitted = xs; waiting = waiting } } ∷ over xs waiting

  -- Judges the first pending element. Heavier than the capacity, it is dropped. Else its victims are the shortest
  -- prefix of the residents that makes room for it. If it needs none or wins against them, they are evicted and it is
  -- admitted; else it is dropped.
  abbrev pub judge : (X → List X → Bool) → List X → X → List X → Part X
  judge wins admitted x waiting =
      let victims = front weight capacity (weight x) admitted in
      if fits weight capacity (weight x) [] then (if victims == 0 || wins x (take victims admitted)
      then record { evicted = take victims admitted; after = record { admitted = drop victims admitted ++ x ∷ []; waiting = waiting } }
      else record { evicted = x ∷ []; after = record { admitted = admitted; waiting = waiting } })
      else record { evicted = x ∷ []; after = record { admitted = admitted; waiting = waiting } }

  -- Judges each pending element, in order, each in a part.
  abbrev pub judged : (X → List X → Bool) → List X → List X → List (Part X)
  judged wins admitted [] = []
  judged wins admitted (x ∷ xs) = judge wins admitted x xs ∷ judged wins (judge wins admitted x xs).after.admitted xs

  -- The parts of a maintenance, in order: evict the dead, then what exceeds the capacity, then judge each pending
  -- element.
  abbrev pub parts : (X → Bool) → (X → List X → Bool) → Queues X → List (Part X)
  parts is_live wins q =
      let admitted = filter is_live q.admitted in
      let waiting = filter is_live q.waiting in
      dead_admitted is_live [] q.admitted q.waiting
      ++ (dead_waiting is_live admitted [] q.waiting
      ++ (over admitted waiting ++ judged wins (drop (front weight capacity 0 admitted) admitted) waiting))

module _ {X : Type 0} where
  -- The parts that are done: the longest prefix of the parts that evicts no more than the limit, if there is one.
  abbrev pub done : Option ℕ → List (Part X) → List (Part X)
  done None ps = ps
  done (Some limit) [] = []
  done (Some limit) (p ∷ ps) = if nat_le (length p.evicted) limit then p ∷ done (Some (limit - length p.evicted)) ps else []

  abbrev pub is_left : Option ℕ → List (Part X) → Bool  -- Whether a limit leaves a part undone.
  is_left None ps = false
  is_left (Some limit) [] = false
  is_left (Some limit) (p ∷ ps) = if nat_le (length p.evicted) limit then is_left (Some (limit - length p.evicted)) ps else true

  abbrev pub evicted_in : List (Part X) → List X  -- All that these parts evict, in order.
  evicted_in [] = []
  evicted_in (p ∷ ps) = p.evicted ++ evicted_in ps

  abbrev pub after_parts : Queues X → List (Part X) → Queues X  -- The queues after these parts.
  after_parts q [] = q
  after_parts q (p ∷ ps) = after_parts p.after ps
