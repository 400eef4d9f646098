-- The terms of the laws about a maintenance of two queues.
use Rattle.std.specs.Prelude.{⊤, ◌≡◌, ◌⊎◌, ℕ, Bool, not, Option, List, [], ◌∷◌, ◌++◌, length, drop, filter}
use Rattle.moka_model.specs.Maintenance.{Queues, parts, done, evicted_in, after_parts}

-- The two queues, made of the residents and the pending elements.
abbrev pub queues : {X : Type 0} → List X → List X → Queues X
queues admitted waiting = record { admitted = admitted; waiting = waiting }

-- All elements of the queues, the residents first.
abbrev pub everything : {X : Type 0} → Queues X → List X
everything q = q.admitted ++ q.waiting

-- The first list is a sublist of the second, in the same order.
abbrev pub AreAmong : {X : Type 0} → List X → List X → Type 0
AreAmong [] ys = ⊤
AreAmong (x ∷ xs) [] = ⊥
AreAmong (x ∷ xs) (y ∷ ys) = ((x ≡ y) × AreAmong xs ys) ⊎ AreAmong (x ∷ xs) ys

-- How many elements pass a test.
abbrev pub count : {X : Type 0} → (X → Bool) → List X → ℕ
count test xs = length (filter test xs)

module _ {X : Type 0} (is_live : X → Bool) where
  -- The dead residents, then the dead pending elements.
  abbrev pub the_dead : Queues X → List X
  the_dead q = filter (λ x. not (is_live x)) q.admitted ++ filter (λ x. not (is_live x)) q.waiting

  -- The live residents, then the live pending elements: the access order once all are admitted.
  abbrev pub the_living : Queues X → List X
  the_living q = filter is_live q.admitted ++ filter is_live q.waiting

  -- What is evicted after the dead: the list without as many elements as there are dead.
  abbrev pub behind_the_dead : Queues X → List X → List X
  behind_the_dead q leaving = drop (length (the_dead q)) leaving

module _ {X : Type 0} (weight : X → ℕ) (capacity : Option ℕ) (is_live : X → Bool) (wins : X → List X → Bool) (limit : Option ℕ) where
  -- All that a maintenance within a limit evicts, in order.
  abbrev pub evicted_within : Queues X → List X
  evicted_within q = evicted_in (done limit (parts weight capacity is_live wins q))

  -- The queues after a maintenance within a limit.
  abbrev pub after_within : Queues X → Queues X
  after_within q = after_parts q (done limit (parts weight capacity is_live wins q))
