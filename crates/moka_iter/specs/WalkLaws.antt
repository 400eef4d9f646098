-- The words of the laws of walks.
use Rattle.std.specs.Prelude.{◌≡◌, ◌⊎◌, ℕ, ◌+◌, ◌≤◌, ◌<◌, Bool, true, Some, None, is_some, IsSome, IsSomeAnd, Ok}
use Rattle.std.specs.Prelude.{List, [], ◌∷◌, ◌++◌, length, if◌then◌else◌}
use Rattle.std.specs.List.{AllByRecursion}
use Rattle.moka_model.specs.MaintenanceLaws.{count}
use Rattle.moka_model.specs.Calls.{IsCopyOf}
use Rattle.moka_policy.specs.declared.policy.Refused.{Refused}
use Rattle.moka_policy.specs.declared.policy.Refused.TheVariants.{OutOfMemory}
use Rattle.moka_iter.specs.Walks.{Cursor, Ending, Yielded, Advance, reply_of}
use Rattle.moka_iter.specs.Histories.{History, live_in, standing_in, WalksOn, RepliesNext}

-- One call of a walk: the histories of the segments, the moment, and what the call does.
pub record WalkCall (K V E : Type 0) : Type 0 where
  pub histories : List (History K V E)
  pub now : ℕ
  pub does : Advance K V Refused

-- The pair that a call yields, if it yields one.
abbrev pub pair_of : {K V E : Type 0} → Ending K V E → List (K × V)
pair_of (Yielded i k v) = (k, v) ∷ []
pair_of ending = []

-- A call that takes a key of the first segment, yields it, and has taken a key of the next segment too.
abbrev pub yields_early : {K V E : Type 0} → K → V → K → Advance K V E
yields_early k v next = record { taken = (k ∷ []) ∷ (next ∷ []) ∷ []; passed = []; ending = Yielded 0 k v }

-- How many keys were taken of segments.
abbrev pub all_keys : {K : Type 0} → List (List K) → ℕ
all_keys [] = 0
all_keys (keys ∷ more) = length keys + all_keys more

module _ {K V E : Type 0} where
  -- The pairs that calls yield, the oldest first.
  abbrev pub pairs_of : List (WalkCall K V E) → List (K × V)
  pairs_of [] = []
  pairs_of (call ∷ calls) = pair_of call.does.ending ++ pairs_of calls

  -- How many calls return something.
  abbrev pub replies_in : List (WalkCall K V E) → ℕ
  replies_in [] = 0
  replies_in (call ∷ calls) = (if is_some (reply_of call.does.ending) then 1 else 0) + replies_in calls

  -- How many keys the calls took of the segments that they reached.
  abbrev pub keys_taken : List (WalkCall K V E) → ℕ
  keys_taken [] = 0
  keys_taken (call ∷ calls) = all_keys call.does.taken + keys_taken calls

  -- The calls are made over at most so many segments.
  abbrev pub HaveAtMost : ℕ → List (WalkCall K V E) → Type 0
  HaveAtMost most calls = AllByRecursion (λ call. length call.histories ≤ most) calls

-- Equal keys have the same home.
abbrev pub HasOneHome : {K : Type 0} → (K → K → Bool) → (K → ℕ) → Type 0
HasOneHome {K} eq home = (a b : K) → eq a b ≡ true → home a ≡ home b

module _ {K V E : Type 0} (eq : K → K → Bool) (home : K → ℕ) where
  -- Each key that is stored in a segment has its home there.
  abbrev pub AreAtHome : List (History K V E) → Type 0
  AreAtHome histories = (i : ℕ) → AllByRecursion (λ k. home k ≡ i) (standing_in eq histories i)

  -- So the segments are those of one cache.
  abbrev pub AreOfOneCache : List (History K V E) → Type 0
  AreOfOneCache histories = HasOneHome eq home × AreAtHome histories

  -- The segments are those of one cache at each call.
  abbrev pub StayOfOneCache : List (WalkCall K V E) → Type 0
  StayOfOneCache calls = HasOneHome eq home × AllByRecursion (λ call. AreAtHome call.histories) calls

module _ {K V E : Type 0} (eq : K → K → Bool) (is_clone : V → V → Type 0) (is_infallible : V → Type 0) where
  -- The calls, the oldest first, lead from one cursor to another.
  abbrev pub IsWalk : Cursor K → List (WalkCall K V E) → Cursor K → Type 0
  IsWalk old [] new = new ≡ old
  IsWalk old (call ∷ calls) new =
      (next : Cursor K) × WalksOn eq is_clone is_infallible call.histories call.now old call.does next × IsWalk next calls new

  -- At one moment, with no step of a cache in between, the walk yields these pairs one after another, then none, and no
  -- error.
  abbrev pub YieldsJust : List (History K V E) → ℕ → Cursor K → List (K × V) → Type 0
  YieldsJust histories now old [] = (new : Cursor K) × RepliesNext eq is_clone is_infallible histories now old None new
  YieldsJust histories now old (pair ∷ pairs) =
      (new : Cursor K) × RepliesNext eq is_clone is_infallible histories now old (Some (Ok pair)) new × YieldsJust histories now new pairs

  -- A live key of some segment has a value whose clone can fail.
  abbrev pub ACopyCanFail : List (History K V E) → ℕ → Type 0
  ACopyCanFail histories now = (i : ℕ) × (k : K) × IsSomeAnd (live_in eq histories now i k) (λ v. ¬ (is_infallible v))

  -- A call of a walk that fails does so for memory alone, at such a key or at a further segment, of which no key is to
  -- come.
  abbrev pub FailsForMemory : List (History K V E) → ℕ → Cursor K → Refused → Cursor K → Type 0
  FailsForMemory histories now old e new =
      (e ≡ OutOfMemory) × (ACopyCanFail histories now ⊎ ((old.reached < new.reached) × (new.pending ≡ [])))

module _ {K V E : Type 0} (eq : K → K → Bool) (histories : List (History K V E)) (now : ℕ) (pairs : List (K × V)) where
  -- Each pair is live in one of the caches, with a clone of its value.
  abbrev pub AreLive : (V → V → Type 0) → Type 0
  AreLive is_clone = AllByRecursion (λ pair. (i : ℕ) × IsCopyOf is_clone (live_in eq histories now i pair.0) (Some pair.1)) pairs

  -- Each key that is live in one of the caches has one of the pairs.
  abbrev pub HasEachOnce : Type 0
  HasEachOnce = (k : K) (i : ℕ) → IsSome (live_in eq histories now i k) → count (λ pair. eq pair.0 k) pairs ≡ 1

  -- Each key that is live in the first of them has.
  abbrev pub HasEachOfOne : Type 0
  HasEachOfOne = (k : K) → IsSome (live_in eq histories now 0 k) → count (λ pair. eq pair.0 k) pairs ≡ 1
