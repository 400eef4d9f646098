-- The laws about the places of entries in the access order and in the arrival order.
use Rattle.std.specs.Prelude.{◌≡◌, ◌≢◌, ◌⊎◌, ◌<◌, length, ℕ, Bool, not, true, List, [], ◌∷◌, ◌++◌, filter, option_to_list, Some, None}
use Rattle.moka_model.specs.Maintenance.{Queues}
use Rattle.moka_model.specs.Lives.{Settings, Write, is_live, hit, after_look, after_write}
use Rattle.moka_model.specs.Events.{Event}
use Rattle.moka_model.specs.Orders.{is_hit, standing, used_where, written_in, removed_in, hidden_in, orders}
use Rattle.moka_model.specs.OrderLaws.{writes_of, keys, held, HasOneEach, with_admitted, with_waiting, lasts, openings, waits, uses}
use Rattle.moka_model.specs.OrderLaws.{is_admitted, LastUse}
use Rattle.moka_laws.specs.Laws.{FirstWrite}

module _ {K V : Type 0} (eq : K → K → Bool) (settings : Settings K V) (h : List (Event K V)) where
  -- The entry of a key in the two orders is the one that stands.
  abbrev pub HoldsWhatStands : Type 0
  HoldsWhatStands = (k : K) → held eq k (orders eq settings h) ≡ option_to_list (standing eq settings k h)

  -- Each entry in the two orders stands.
  abbrev pub EachHeldStands : Type 0
  EachHeldStands =
      (before after : List (Write K V)) (w : Write K V)
      → (orders eq settings h).admitted ++ (orders eq settings h).waiting ≡ before ++ w ∷ after → standing eq settings w.key h ≡ Some w

  -- An entry that stands is in one of the orders alone.
  abbrev pub IsInOneOrder : Type 0
  IsInOneOrder =
      (k : K) (w : Write K V) → standing eq settings k h ≡ Some w
      → ((writes_of eq k (orders eq settings h).admitted ≡ w ∷ []) × (writes_of eq k (orders eq settings h).waiting ≡ []))
      ⊎ ((writes_of eq k (orders eq settings h).admitted ≡ []) × (writes_of eq k (orders eq settings h).waiting ≡ w ∷ []))

  -- The pending keys are those of the writes that created an entry, each at its last such write.
  abbrev pub WaitsByArrival : Type 0
  WaitsByArrival = keys (orders eq settings h).waiting ≡ filter (waits eq settings h) (lasts eq (openings eq settings h))

  -- Of two pending entries the first was created earlier.
  abbrev pub OlderWaitsFirst : Type 0
  OlderWaitsFirst =
      (before middle after : List (Write K V)) (a b : Write K V) → (orders eq settings h).waiting ≡ before ++ a ∷ (middle ++ b ∷ after)
      → (x : FirstWrite eq settings a.key h) (y : FirstWrite eq settings b.key h) → length x.before < length y.before

  -- The resident keys are the accessed ones, each at its last access.
  abbrev pub StaysByUse : Type 0
  StaysByUse = keys (orders eq settings h).admitted ≡ filter (is_admitted eq settings h) (lasts eq (uses eq settings h))

  -- Each resident entry was accessed.
  abbrev pub EachResidentWasUsed : Type 0
  EachResidentWasUsed =
      (before after : List (Write K V)) (w : Write K V) → (orders eq settings h).admitted ≡ before ++ w ∷ after
      → LastUse eq w.key (uses eq settings h)

  -- Of two resident entries the first was last accessed earlier.
  abbrev pub LaterUsedBehind : Type 0
  LaterUsedBehind =
      (before middle after : List (Write K V)) (a b : Write K V) → (orders eq settings h).admitted ≡ before ++ a ∷ (middle ++ b ∷ after)
      → (x : LastUse eq a.key (uses eq settings h)) (y : LastUse eq b.key (uses eq settings h)) → length x.before < length y.before

module _ (K V : Type 0) where
  -- The law holds of any two queues, under all settings.
  abbrev pub InQueues : (Settings K V → Queues (Write K V) → Type 0) → Type 0
  InQueues law = (settings : Settings K V) (q : Queues (Write K V)) → law settings q

module _ {K V : Type 0} (eq : K → K → Bool) (settings : Settings K V) (q : Queues (Write K V)) where
  -- The queues after a lookup of a key.
  abbrev pub looked_up : K → ℕ → Queues (Write K V)
  looked_up k at = used_where eq settings (is_hit eq settings k at) (after_look settings at) q

  -- The fact, if the key's entry is in this list, between these others.
  abbrev pub IfItIsIn : List (Write K V) → K → List (Write K V) → Write K V → List (Write K V) → Type 0 → Type 0
  IfItIsIn queue k before w after fact = HasOneEach eq q → eq w.key k ≡ true → queue ≡ before ++ w ∷ after → fact

  -- A lookup leaves the pending keys in their order.
  abbrev pub LookKeepsPending : Type 0
  LookKeepsPending = (k : K) (at : ℕ) → keys (looked_up k at).waiting ≡ keys q.waiting

  -- So does an overwrite.
  abbrev pub OverwriteKeepsPending : Type 0
  OverwriteKeepsPending =
      (k : K) (v : V) (at : ℕ) → held eq k q ≢ [] → keys (written_in eq settings k v at q).waiting ≡ keys q.waiting

  -- A removal takes out its own key.
  abbrev pub RemovalTakesItsKey : Type 0
  RemovalTakesItsKey = (k : K) → keys (removed_in eq settings k q).waiting ≡ filter (λ p. not (eq p k)) (keys q.waiting)

  -- A write of a new key appends its entry.
  abbrev pub NewKeyIsAppended : Type 0
  NewKeyIsAppended =
      (k : K) (v : V) (at : ℕ) → held eq k q ≡ []
      → written_in eq settings k v at q ≡ with_waiting q (q.waiting ++ after_write settings k v at None ∷ [])

  -- A hit leaves a pending entry at its place.
  abbrev pub PendingIsHitInPlace : Type 0
  PendingIsHitInPlace =
      (k : K) (at : ℕ) (before after : List (Write K V)) (w : Write K V) → IfItIsIn q.waiting k before w after
      (is_live settings w at ≡ true → looked_up k at ≡ with_waiting q (before ++ hit settings at w ∷ after))

  -- An overwrite leaves it there too.
  abbrev pub PendingIsOverwrittenInPlace : Type 0
  PendingIsOverwrittenInPlace =
      (k : K) (v : V) (at : ℕ) (before after : List (Write K V)) (w : Write K V) → IfItIsIn q.waiting k before w after
      (written_in eq settings k v at q ≡ with_waiting q (before ++ after_write settings k v at (Some w) ∷ after))

  -- A removal takes a pending entry from its place.
  abbrev pub PendingIsTakenOut : Type 0
  PendingIsTakenOut =
      (k : K) (before after : List (Write K V)) (w : Write K V) → IfItIsIn q.waiting k before w after
      (removed_in eq settings k q ≡ with_waiting q (before ++ after))

  -- A hit moves a resident entry to the end.
  abbrev pub ResidentIsHit : Type 0
  ResidentIsHit =
      (k : K) (at : ℕ) (before after : List (Write K V)) (w : Write K V) → IfItIsIn q.admitted k before w after
      (is_live settings w at ≡ true → looked_up k at ≡ with_admitted q ((before ++ after) ++ hit settings at w ∷ []))

  -- An overwrite moves it there too.
  abbrev pub ResidentIsOverwritten : Type 0
  ResidentIsOverwritten =
      (k : K) (v : V) (at : ℕ) (before after : List (Write K V)) (w : Write K V) → IfItIsIn q.admitted k before w after
      (written_in eq settings k v at q ≡ with_admitted q ((before ++ after) ++ after_write settings k v at (Some w) ∷ []))

  -- A lookup that hits nothing changes neither order.
  abbrev pub NoHitMovesNone : Type 0
  NoHitMovesNone = (k : K) (at : ℕ) → filter (λ w. is_live settings w at) (held eq k q) ≡ [] → looked_up k at ≡ q

  -- A removal takes a resident entry from its place.
  abbrev pub ResidentIsTakenOut : Type 0
  ResidentIsTakenOut =
      (k : K) (before after : List (Write K V)) (w : Write K V) → IfItIsIn q.admitted k before w after
      (removed_in eq settings k q ≡ with_admitted q (before ++ after))

  -- A removal of a key without an entry changes neither order.
  abbrev pub NoRemovalTakesNone : Type 0
  NoRemovalTakesNone = (k : K) → held eq k q ≡ [] → removed_in eq settings k q ≡ q

-- An invalidation by a test leaves the keys of both queues in their order.
abbrev pub HidingKeepsKeys : {K V : Type 0} → Queues (Write K V) → Type 0
HidingKeepsKeys {K} {V} q =
    (test : K → V → Bool) → (keys (hidden_in test q).waiting ≡ keys q.waiting) × (keys (hidden_in test q).admitted ≡ keys q.admitted)
