-- The laws about a maintenance of any two queues.
use Rattle.std.specs.Prelude.{◌≡◌, ◌⊎◌, ℕ, ◌+◌, ◌-◌, ◌<◌, ◌≤◌, Bool, true, false, Option, Some, None, List, [], ◌∷◌, ◌++◌}
use Rattle.std.specs.Prelude.{length, take, drop, filter}
use Rattle.std.specs.List.{AllByRecursion}
use Rattle.moka_model.specs.Maintenance.{Queues, Part, total, fits, front, parts, done, evicted_in, after_parts}
use Rattle.moka_model.specs.MaintenanceLaws.{queues, everything, count, the_dead, the_living, behind_the_dead, AreAmong}
use Rattle.moka_model.specs.MaintenanceLaws.{evicted_within, after_within}

module _ (X : Type 0) where
  -- The law holds of every maintenance: for all weights, all capacities or none, and all liveness tests, admission rules and
  -- queues.
  abbrev pub AtEach : ((X → ℕ) → Option ℕ → (X → Bool) → (X → List X → Bool) → Queues X → Type 0) → Type 0
  AtEach law =
      (weight : X → ℕ) (capacity : Option ℕ) (is_live : X → Bool) (wins : X → List X → Bool) (q : Queues X)
      → law weight capacity is_live wins q

  -- The law holds of every maintenance at a capacity.
  abbrev pub AtEachCapacity : ((X → ℕ) → ℕ → (X → Bool) → (X → List X → Bool) → Queues X → Type 0) → Type 0
  AtEachCapacity law =
      (weight : X → ℕ) (capacity : ℕ) (is_live : X → Bool) (wins : X → List X → Bool) (q : Queues X)
      → law weight capacity is_live wins q

  -- The law holds of every maintenance without a capacity.
  abbrev pub AtNoCapacity : ((X → ℕ) → (X → Bool) → (X → List X → Bool) → Queues X → Type 0) → Type 0
  AtNoCapacity law = (weight : X → ℕ) (is_live : X → Bool) (wins : X → List X → Bool) (q : Queues X) → law weight is_live wins q

  -- The law holds of every maintenance within a limit, or without one.
  abbrev pub AtEachLimit : ((X → ℕ) → Option ℕ → (X → Bool) → (X → List X → Bool) → Option ℕ → Queues X → Type 0) → Type 0
  AtEachLimit law =
      (weight : X → ℕ) (capacity : Option ℕ) (is_live : X → Bool) (wins : X → List X → Bool) (limit : Option ℕ) (q : Queues X)
      → law weight capacity is_live wins limit q

  -- The law holds of all weights, all capacities or none, and all liveness tests and admission rules.
  abbrev pub AtEachRule : ((X → ℕ) → Option ℕ → (X → Bool) → (X → List X → Bool) → Type 0) → Type 0
  AtEachRule law =
      (weight : X → ℕ) (capacity : Option ℕ) (is_live : X → Bool) (wins : X → List X → Bool) → law weight capacity is_live wins

  -- The law holds of every maintenance of these residents, all live, and one live pending element, at a capacity.
  abbrev pub AtEachPending : ((X → ℕ) → ℕ → (X → List X → Bool) → List X → X → List (Part X) → Type 0) → Type 0
  AtEachPending law =
      (weight : X → ℕ) (capacity : ℕ) (is_live : X → Bool) (wins : X → List X → Bool) (admitted : List X) (x : X)
      → AllByRecursion (λ y. is_live y ≡ true) (x ∷ admitted)
      → law weight capacity wins admitted x (parts weight (Some capacity) is_live wins (queues admitted (x ∷ [])))

module _ {X : Type 0} (weight : X → ℕ) (capacity : Option ℕ) where
  -- Weight that fits on its own fits beside what the front leaves.
  abbrev pub FrontIsEnough : Type 0
  FrontIsEnough =
      (more : ℕ) (xs : List X) → fits weight capacity more [] ≡ true
      → fits weight capacity more (drop (front weight capacity more xs) xs) ≡ true

  -- It does not fit beside what a shorter prefix leaves.
  abbrev pub NoneShorterIsEnough : Type 0
  NoneShorterIsEnough =
      (more : ℕ) (xs : List X) (m : ℕ) → m < front weight capacity more xs → fits weight capacity more (drop m xs) ≡ false

  -- The front is a prefix.
  abbrev pub FrontIsPrefix : Type 0
  FrontIsPrefix = (more : ℕ) (xs : List X) → front weight capacity more xs ≤ length xs

module _ {X : Type 0} (weight : X → ℕ) (capacity : Option ℕ) (is_live : X → Bool) (wins : X → List X → Bool) (q : Queues X) where
  -- All that a full maintenance evicts, in order.
  abbrev pub evicted_fully : List X
  evicted_fully = evicted_within weight capacity is_live wins None q

  -- The queues after it.
  abbrev pub after_fully : Queues X
  after_fully = after_within weight capacity is_live wins None q

  -- Afterwards nothing is pending.
  abbrev pub NoneWaits : Type 0
  NoneWaits = after_fully.waiting ≡ []

  -- Afterwards all that is stored is live.
  abbrev pub AllIsLive : Type 0
  AllIsLive = AllByRecursion (λ x. is_live x ≡ true) after_fully.admitted

  -- The dead are evicted first, residents before pending ones.
  abbrev pub DeadLeaveFirst : Type 0
  DeadLeaveFirst = take (length (the_dead is_live q)) evicted_fully ≡ the_dead is_live q

  -- What is evicted after them is live.
  abbrev pub LiveLeaveBehind : Type 0
  LiveLeaveBehind = AllByRecursion (λ x. is_live x ≡ true) (behind_the_dead is_live q evicted_fully)

  -- What stays is the live residents and then what was admitted, without a prefix of that list.
  abbrev pub FrontLeaves : Type 0
  FrontLeaves =
      (n : ℕ) × (joined : List X) × AreAmong joined (filter is_live q.waiting)
      × (after_fully.admitted ≡ drop n (filter is_live q.admitted ++ joined))

  -- After some parts, the parts that are left are those of the maintenance of what these leave.
  abbrev pub PartsGoOn : Type 0
  PartsGoOn =
      (n : ℕ) → parts weight capacity is_live wins (after_parts q (take n (parts weight capacity is_live wins q)))
      ≡ drop n (parts weight capacity is_live wins q)

  -- After a full maintenance no part is left.
  abbrev pub NoPartIsLeft : Type 0
  NoPartIsLeft = parts weight capacity is_live wins after_fully ≡ []

module _ {X : Type 0} (weight : X → ℕ) (capacity : Option ℕ) (is_live : X → Bool) (wins : X → List X → Bool) (limit : Option ℕ)
    (q : Queues X) where
  -- As many elements pass a test before a maintenance as pass it among the evicted and the remaining ones.
  abbrev pub NothingIsLost : Type 0
  NothingIsLost =
      (test : X → Bool) → count test (evicted_within weight capacity is_live wins limit q)
      + count test (everything (after_within weight capacity is_live wins limit q)) ≡ count test (everything q)

  -- A maintenance and a full one after it evict together what a full one does.
  abbrev pub EvictsTheRest : Type 0
  EvictsTheRest =
      evicted_within weight capacity is_live wins limit q
      ++ evicted_fully weight capacity is_live wins (after_within weight capacity is_live wins limit q)
      ≡ evicted_fully weight capacity is_live wins q

  -- They leave together what a full one does.
  abbrev pub LeavesTheSame : Type 0
  LeavesTheSame =
      after_fully weight capacity is_live wins (after_within weight capacity is_live wins limit q)
      ≡ after_fully weight capacity is_live wins q

module _ {X : Type 0} (weight : X → ℕ) (capacity : ℕ) (is_live : X → Bool) (wins : X → List X → Bool) (q : Queues X) where
  -- What a full maintenance evicts after the dead.
  abbrev pub evicted_live : List X
  evicted_live = behind_the_dead is_live q (evicted_fully weight (Some capacity) is_live wins q)

  -- The residents after it.
  abbrev pub left : List X
  left = (after_fully weight (Some capacity) is_live wins q).admitted

  -- The residents weigh no more than the capacity.
  abbrev pub IsWithin : Type 0
  IsWithin = total weight left ≤ capacity

  -- The fact, if all live elements fit the capacity.
  abbrev pub IfAllFit : Type 0 → Type 0
  IfAllFit fact = total weight (the_living is_live q) ≤ capacity → fact

  -- If all live elements fit, only the dead are evicted.
  abbrev pub JustTheDeadLeave : Type 0
  JustTheDeadLeave = IfAllFit (evicted_fully weight (Some capacity) is_live wins q ≡ the_dead is_live q)

  -- If all live elements fit, they are resident afterwards.
  abbrev pub AllTheLivingStay : Type 0
  AllTheLivingStay = IfAllFit (left ≡ the_living is_live q)

  -- The fact, if every pending element wins, and no live one is heavier than the capacity.
  abbrev pub IfEachIsAdmitted : Type 0 → Type 0
  IfEachIsAdmitted fact =
      ((x : X) (victims : List X) → wins x victims ≡ true) → AllByRecursion (λ x. weight x ≤ capacity) (filter is_live q.waiting) → fact

  -- What is evicted after the dead, and then what stays, is what was live, in its order.
  abbrev pub StaysInOrder : Type 0
  StaysInOrder = IfEachIsAdmitted (evicted_live ++ left ≡ the_living is_live q)

  -- The shortest prefix of the live elements that brings them within the capacity.
  abbrev pub shortest : ℕ
  shortest = front weight (Some capacity) 0 (the_living is_live q)

  -- That prefix is evicted after the dead.
  abbrev pub ShortestLeaves : Type 0
  ShortestLeaves = IfEachIsAdmitted (evicted_live ≡ take shortest (the_living is_live q))

  -- The rest stays.
  abbrev pub ShortestIsMissing : Type 0
  ShortestIsMissing = IfEachIsAdmitted (left ≡ drop shortest (the_living is_live q))

  -- The fact, if every element weighs 1 and every pending one wins.
  abbrev pub IfOnesAreAdmitted : Type 0 → Type 0
  IfOnesAreAdmitted fact = ((x : X) → weight x ≡ 1) → ((x : X) (victims : List X) → wins x victims ≡ true) → fact

  -- As many of the live elements are evicted after the dead, from the front, as exceed the capacity.
  abbrev pub ExcessLeaves : Type 0
  ExcessLeaves = IfOnesAreAdmitted (evicted_live ≡ take (length (the_living is_live q) - capacity) (the_living is_live q))

  -- The rest stays.
  abbrev pub ExcessIsMissing : Type 0
  ExcessIsMissing = IfOnesAreAdmitted (left ≡ drop (length (the_living is_live q) - capacity) (the_living is_live q))

module _ {X : Type 0} (weight : X → ℕ) (is_live : X → Bool) (wins : X → List X → Bool) (q : Queues X) where
  -- Without a capacity only the dead are evicted.
  abbrev pub JustTheDeadEverLeave : Type 0
  JustTheDeadEverLeave = evicted_fully weight None is_live wins q ≡ the_dead is_live q

  -- Without a capacity all live elements are resident afterwards.
  abbrev pub AllTheLivingEverStay : Type 0
  AllTheLivingEverStay = (after_fully weight None is_live wins q).admitted ≡ the_living is_live q

module _ {X : Type 0} (limit : ℕ) (ps : List (Part X)) where
  -- No more is evicted than the limit.
  abbrev pub IsKept : Type 0
  IsKept = length (evicted_in (done (Some limit) ps)) ≤ limit

  -- All parts are done if the limit suffices.
  abbrev pub IsDoneWithin : Type 0
  IsDoneWithin = length (evicted_in ps) ≤ limit → done (Some limit) ps ≡ ps

  -- All parts are done, or the next one would exceed the limit.
  abbrev pub NextExceeds : Type 0
  NextExceeds =
      (done (Some limit) ps ≡ ps)
      ⊎ ((p : Part X) × (rest : List (Part X)) × (ps ≡ done (Some limit) ps ++ p ∷ rest)
      × (limit < length (evicted_in (done (Some limit) ps)) + length p.evicted))

module _ {X : Type 0} (weight : X → ℕ) (capacity : ℕ) (wins : X → List X → Bool) (admitted : List X) (x : X) (ps : List (Part X)) where
  -- How many residents have to be evicted to make room for the pending element.
  abbrev pub victim_count : ℕ
  victim_count = front weight (Some capacity) (weight x) admitted

  -- The one part evicts these, and leaves these residents.
  abbrev pub IsOnePart : List X → List X → Type 0
  IsOnePart gone stay = ps ≡ record { evicted = gone; after = queues stay [] } ∷ []

  -- Heavier than the capacity, the pending element is dropped.
  abbrev pub DropsTooHeavy : Type 0
  DropsTooHeavy = total weight admitted ≤ capacity → capacity < weight x → IsOnePart (x ∷ []) admitted

  -- With room for it, it is admitted.
  abbrev pub AdmitsWithRoom : Type 0
  AdmitsWithRoom = weight x + total weight admitted ≤ capacity → IsOnePart [] (admitted ++ x ∷ [])

  -- If it wins against its victims, they are evicted and it is admitted.
  abbrev pub AdmitsWinner : Type 0
  AdmitsWinner =
      total weight admitted ≤ capacity → weight x ≤ capacity → wins x (take victim_count admitted) ≡ true
      → IsOnePart (take victim_count admitted) (drop victim_count admitted ++ x ∷ [])

  -- If it needs room and does not win against its victims, it is dropped.
  abbrev pub DropsLoser : Type 0
  DropsLoser =
      total weight admitted ≤ capacity → capacity < weight x + total weight admitted → wins x (take victim_count admitted) ≡ false
      → IsOnePart (x ∷ []) admitted

module _ {X : Type 0} (weight : X → ℕ) (capacity : Option ℕ) (is_live : X → Bool) (wins : X → List X → Bool) where
  -- If all are live and the residents fit, the first pending element is judged as if it were the only one, and then the
  -- others are judged against what that leaves.
  abbrev pub JudgesOneByOne : Type 0
  JudgesOneByOne =
      (admitted : List X) (x : X) (xs : List X)
      → AllByRecursion (λ y. is_live y ≡ true) (x ∷ admitted) → AllByRecursion (λ y. is_live y ≡ true) xs
      → fits weight capacity 0 admitted ≡ true
      → (p : Part X) × (parts weight capacity is_live wins (queues admitted (x ∷ [])) ≡ p ∷ [])
      × (parts weight capacity is_live wins (queues admitted (x ∷ xs))
      ≡ record { evicted = p.evicted; after = queues p.after.admitted xs }
      ∷ parts weight capacity is_live wins (queues p.after.admitted xs))
