-- The terms of the law that matches tickets by their name: number, kind and key.
use Rattle.std.specs.Prelude.{⊤, ◌≡◌, ℕ, ◌+◌, Bool, if◌then◌else◌, Some, List, [], ◌∷◌}
use Rattle.moka_model.specs.Lives.{Settings}
use Rattle.moka_model.specs.Turns.{Name, Turn, same_name}
use Rattle.moka_model.specs.Steps.{AcceptedStep}
use Rattle.moka_model.specs.Calls.{Call, Collect, Leave, Accepted, Reply, Wait, NotYet, accepted}

-- An accepted call, with its result and the step that it became.
pub record Made (K V E : Type 0) : Type 0 where
  pub call : Call K V E
  pub it : Accepted K V E

module _ {K V E : Type 0} where
  -- The steps that these calls became. Both lists have the newest first.
  abbrev pub steps_made : List (Made K V E) → List (AcceptedStep K V E)
  steps_made [] = []
  steps_made (one ∷ made) = one.it.step ∷ steps_made made

module _ {K V E : Type 0} (eq : K → K → Bool) (settings : Settings K V) where
  -- Each of these calls was accepted after those before it.
  abbrev pub AreMade : List (Made K V E) → Type 0
  AreMade [] = ⊤
  AreMade (one ∷ made) = (accepted eq settings (steps_made made) one.call ≡ Some one.it) × AreMade made

-- 1 if two names are the same, else 0.
abbrev pub one_if_same : {K : Type 0} → (K → K → Bool) → Name K → Name K → ℕ
one_if_same eq a b = if same_name eq a b then 1 else 0

module _ {K V E : Type 0} (eq : K → K → Bool) (name : Name K) where
  -- How many tickets of this name a result gives.
  abbrev pub got_by : Reply K V E → ℕ
  got_by (Wait other) = one_if_same eq other name
  got_by reply = 0

  -- How many tickets of this name a call spends, by its result: a leave does, and a collect unless it returns `NotYet`.
  abbrev pub spent_by : Call K V E → Reply K V E → ℕ
  spent_by (Collect other) NotYet = 0
  spent_by (Collect other) reply = one_if_same eq other name
  spent_by (Leave other) reply = one_if_same eq other name
  spent_by call reply = 0

  -- How many tickets of this name calls got.
  abbrev pub tickets_got : List (Made K V E) → ℕ
  tickets_got [] = 0
  tickets_got (one ∷ made) = got_by one.it.reply + tickets_got made

  -- How many tickets of this name calls spent.
  abbrev pub tickets_spent : List (Made K V E) → ℕ
  tickets_spent [] = 0
  tickets_spent (one ∷ made) = spent_by one.call one.it.reply + tickets_spent made

  -- How many tickets of this name are unspent.
  abbrev pub unspent_of : List (Turn K V E) → ℕ
  unspent_of [] = 0
  unspent_of (t ∷ ts) = (if same_name eq t.name name then t.unspent else 0) + unspent_of ts
