-- Turns (single-flight permits): which caller computes a value for a key, which ones wait for it, and what they get.
-- The name of a turn is never used again.
use Rattle.std.specs.Prelude.{⊤, ◌≡◌, ◌≢◌, ◌⊎◌, ℕ, ◌+◌, ◌-◌, ◌==◌, Bool, true, false, ◌&&◌, ◌||◌, not, if◌then◌else◌, nat_le, is_none}
use Rattle.std.specs.Prelude.{Option, Some, None, List, [], ◌∷◌, ◌++◌, ◌≤◌, length, filter, map}
use Rattle.moka_model.specs.declared.turns.Kind.{Kind}
use Rattle.moka_model.specs.declared.turns.Kind.TheVariants.{With, Optionally, Try, Compute}
use Rattle.moka_model.specs.declared.turns.Outcome.{Outcome}
use Rattle.moka_model.specs.declared.turns.Outcome.TheVariants as outcomes

-- Whether two kinds are the same.
abbrev pub same_kind : Kind → Kind → Bool
same_kind With With = true
same_kind Optionally Optionally = true
same_kind Try Try = true
same_kind Compute Compute = true
same_kind a b = false

-- Whether a turn of the kind may be finished with the outcome.
abbrev pub fits : {V E : Type 0} → Kind → Outcome V E → Bool
fits With (outcomes.Value v) = true
fits Optionally (outcomes.Value v) = true
fits Optionally outcomes.Nothing = true
fits Try (outcomes.Value v) = true
fits Try (outcomes.Failed e) = true
fits Compute (outcomes.Op op) = true
fits kind outcome = false

-- The name of a turn: the sequence number that it drew, its kind and its key.
pub record Name (K : Type 0) : Type 0 where
  pub number : ℕ
  pub kind : Kind
  pub key : K

-- Whether two names have the same number, the same kind, and equal keys.
abbrev pub same_name : {K : Type 0} → (K → K → Bool) → Name K → Name K → Bool
same_name eq a b = a.number == b.number && (same_kind a.kind b.kind && eq a.key b.key)

-- How a turn ended. A value has a flag that says whether its write overwrote a live one. The result of a compute is
-- only its caller's.
pub data End (V E : Type 0) : Type 0 where
  Value : V → Bool → End V E
  Nothing : End V E
  Failed : E → End V E
  Computed : End V E
  Abandoned : End V E

-- A turn. `shown` says whether its begin found a live value, `kept` is that value if the turn keeps it, `end` is how it
-- ended if it has, and `unspent` is the number of its unspent tickets.
pub record Turn (K V E : Type 0) : Type 0 where
  pub name : Name K
  pub shown : Bool
  pub kept : Option V
  pub end : Option (End V E)
  pub unspent : ℕ

-- What a step does to the turns: opens one, or changes the one with a number.
pub data Move (K V E : Type 0) : Type 0 where
  Opened : Name K → Bool → Option V → Move K V E
  Waited : ℕ → Move K V E
  Ended : ℕ → End V E → Move K V E
  Spent : ℕ → Move K V E

module _ {K V E : Type 0} where
  -- A turn that was just opened.
  abbrev pub opening : Name K → Bool → Option V → Turn K V E
  opening name shown kept = record { name = name; shown = shown; kept = kept; end = None; unspent = 0 }

  -- The turn with one more unspent ticket.
  abbrev pub waited_for : Turn K V E → Turn K V E
  waited_for t = record t { unspent = t.unspent + 1 }

  -- The turn with one unspent ticket less.
  abbrev pub spent : Turn K V E → Turn K V E
  spent t = record t { unspent = t.unspent - 1 }

  -- The turn, ended.
  abbrev pub ended_with : End V E → Turn K V E → Turn K V E
  ended_with end t = record t { end = Some end }

  -- The turn, changed if it has the number.
  abbrev pub numbered : ℕ → (Turn K V E → Turn K V E) → Turn K V E → Turn K V E
  numbered number change t = if t.name.number == number then change t else t

  abbrev pub moved : Move K V E → List (Turn K V E) → List (Turn K V E)  -- The turns after a move.
  moved (Opened name shown kept) ts = ts ++ opening name shown kept ∷ []
  moved (Waited number) ts = map (numbered number waited_for) ts
  moved (Ended number end) ts = map (numbered number (ended_with end)) ts
  moved (Spent number) ts = map (numbered number spent) ts

  -- The turns after a step's move, if it has one.
  abbrev pub moved_by : Option (Move K V E) → List (Turn K V E) → List (Turn K V E)
  moved_by None ts = ts
  moved_by (Some m) ts = moved m ts

  -- Whether the turn is open: it has not ended.
  abbrev pub is_open : Turn K V E → Bool
  is_open t = is_none t.end

  -- Whether the turn has an unspent ticket.
  abbrev pub has_ticket : Turn K V E → Bool
  has_ticket t = nat_le 1 t.unspent

  -- Whether it is the ended turn with this number, and has an unspent ticket.
  abbrev pub is_ended_as : ℕ → Turn K V E → Bool
  is_ended_as number t = t.name.number == number && (not (is_open t) && has_ticket t)

  abbrev pub has_ended_as : ℕ → Turn K V E → Bool  -- Whether it is the ended turn with this number.
  has_ended_as number t = number == t.name.number && not (is_open t)

  abbrev pub is_held : Turn K V E → Bool  -- Whether a cache still keeps the turn: it is open or has an unspent ticket.
  is_held t = is_open t || has_ticket t

module _ {K V E : Type 0} (eq : K → K → Bool) where
  -- Whether the turn is of this kind, and of an equal key.
  abbrev pub is_for : Kind → K → Turn K V E → Bool
  is_for kind key t = same_kind t.name.kind kind && eq t.name.key key

  abbrev pub is_open_for : Kind → K → Turn K V E → Bool  -- Whether it is the open turn of this kind and key.
  is_open_for kind key t = is_open t && is_for kind key t

  abbrev pub is_open_as : Name K → Turn K V E → Bool  -- Whether it is the open turn of this name.
  is_open_as name t = is_open t && same_name eq t.name name

  -- Whether it is the turn of this name, and has an unspent ticket.
  abbrev pub has_ticket_as : Name K → Turn K V E → Bool
  has_ticket_as name t = has_ticket t && same_name eq t.name name

-- Both are absent, or both are there and `P` holds of them.
abbrev pub Agree : {A B : Type 0} → (A → B → Type 0) → Option A → Option B → Type 0
Agree P None None = ⊤
Agree P (Some a) (Some b) = P a b
Agree P a b = ⊥

module _ {A : Type 0} where
  -- The first element, if there is one.
  abbrev pub first_of : List A → Option A
  first_of [] = None
  first_of (x ∷ xs) = Some x

  abbrev pub found : (A → Bool) → List A → Option A  -- The first element that passes a test, if there is one.
  found test xs = first_of (filter test xs)

  abbrev pub IsIn : A → List A → Type 0  -- `x` is an element of the list.
  IsIn x [] = ⊥
  IsIn x (y ∷ ys) = (y ≡ x) ⊎ IsIn x ys

module _ {K V E : Type 0} where
  abbrev pub AreApart : List (Turn K V E) → Type 0  -- No two of these turns have the same number.
  AreApart [] = ⊤
  AreApart (t ∷ ts) = ((u : Turn K V E) → IsIn u ts → t.name.number ≢ u.name.number) × AreApart ts

  abbrev pub AreHeld : List (Turn K V E) → Type 0  -- A cache still keeps each of these turns.
  AreHeld ts = (t : Turn K V E) → IsIn t ts → is_held t ≡ true

module _ {K V E : Type 0} (eq : K → K → Bool) where
  abbrev pub HasOneOpen : List (Turn K V E) → Type 0  -- At most one of these turns is open for each kind and key.
  HasOneOpen ts = (kind : Kind) (k : K) → length (filter (is_open_for eq kind k) ts) ≤ 1
