-- How often a key stands in a segment, and comes from it.
use Rattle.std.proofs.Common.{◌≡◌, ⊎_elim, ℕ, ◌+◌, ◌≤◌, ◌<◌, max, Bool, true, false, ◌&&◌, nat_eq, Option, Some, None, List, [], ◌∷◌, length, option_map, refl, sym, ap, ◌∙◌, subst, arith, eq-eqb}
use Rattle.std.specs.Cmp.{IsEquivalence}
use Rattle.std.specs.List.{AllByRecursion, slice_get}
use Rattle.std.specs.Option.{IsSome, option_to_list}
use Rattle.std.specs.List.Sorted.{IsPermutation}
use Rattle.std.proofs.lemmas.Option.{slice_get_within}
use Rattle.moka_model.specs.Lives.{Settings, Write, live_one}
use Rattle.moka_model.specs.Events.{latest}
use Rattle.moka_model.specs.MaintenanceLaws.{count}
use Rattle.moka_model.specs.Numbers.{all_standing}
use Rattle.moka_model.specs.Orders.{standing}
use Rattle.moka_model.specs.Steps.{events_in}
use Rattle.moka_model.specs.Calls.{IsCopyOf}
use Rattle.moka_model.proofs.Callers.{held-orders, standing_congr}
use Rattle.moka_iter.specs.Walks.{in_segment}
use Rattle.moka_iter.specs.Histories.{History, keys_of, standing_in, value_of, live_in}
use Rattle.moka_iter.specs.WalkLaws.{HasOneHome, AreAtHome}
use Rattle.moka_iter.proofs.Counts.{count-permutation, count-map, count-none, same-or-not, unreached}

-- what is no value is a copy of no value
pub none-copied : {V : Type 0} (is_clone : V → V → Type 0) (o : Option V) → IsCopyOf is_clone o None → o ≡ None
none-copied is_clone None is = refl
none-copied is_clone (Some v) is = absurd is

pub no-value : (A : Type 0) → IsSome {T = A} None → ⊥
no-value A is = let no : false ≡ true = is in cc

-- a key whose home is elsewhere is not among those that are at home here
away : {K : Type 0} (eq : K → K → Bool) (home : K → ℕ) → HasOneHome eq home → (k : K) (r : ℕ) (keys : List K) → AllByRecursion (λ q. home q ≡ r) keys → (r ≡ home k → ⊥) → AllByRecursion (λ q. eq q k ≡ false) keys
away eq home homes k r [] there not_here = tt
away eq home homes k r (q ∷ qs) there not_here = (go (eq q k) refl, away eq home homes k r qs there.1 not_here)
  where
    go : (t : Bool) → eq q k ≡ t → eq q k ≡ false
    go true e = absurd (not_here (sym there.0 ∙ homes q k e))
    go false e = e

-- a test of a key in one segment
abbrev pub is_at : {K : Type 0} → (K → K → Bool) → ℕ → K → ℕ × K → Bool
is_at eq i k p = nat_eq p.0 i && eq p.1 k

at-most-one : {A : Type 0} (o : Option A) → length (option_to_list o) ≤ 1
at-most-one None = omega arith
at-most-one (Some x) = omega arith

module _ {K V E : Type 0} (eq : K → K → Bool) (laws : IsEquivalence eq) where
  -- a key stands as often as a write stands for it
  standing-count : (history : History K V E) (k : K) → count (λ q. eq q k) (keys_of eq (Some history)) ≡ length (option_to_list (standing eq history.settings k (events_in history.steps)))
  standing-count history k = count-map (λ q. eq q k) (λ (w : Write K V). w.key) (all_standing eq history.settings (events_in history.steps)) ∙ ap length (held-orders eq history.settings laws k (events_in history.steps))

  -- so once at most
  pub standing-once : (histories : List (History K V E)) (i : ℕ) (k : K) → count (λ q. eq q k) (standing_in eq histories i) ≤ 1
  standing-once histories i k = go (slice_get histories i)
    where
      go : (o : Option (History K V E)) → count (λ q. eq q k) (keys_of eq o) ≤ 1
      go None = omega arith
      go (Some history) = let there = standing-count history k in let once = at-most-one (standing eq history.settings k (events_in history.steps)) in omega (arith, there, once)

  -- and once, where it is live
  pub live-stands : (histories : List (History K V E)) (now i : ℕ) (k : K) → IsSome (live_in eq histories now i k) → count (λ q. eq q k) (standing_in eq histories i) ≡ 1
  live-stands histories now i k live = go (slice_get histories i) live
    where
      some : (settings : Settings K V) (at : ℕ) (o : Option (Write K V)) → IsSome (option_map (λ (w : Write K V). w.value) (live_one settings at o)) → length (option_to_list o) ≡ 1
      some settings at None is = absurd (no-value V is)
      some settings at (Some w) is = refl

      go : (o : Option (History K V E)) → IsSome (value_of eq now k o) → count (λ q. eq q k) (keys_of eq o) ≡ 1
      go None is = absurd (no-value V is)
      go (Some history) is = standing-count history k ∙ some history.settings _ (standing eq history.settings k (events_in history.steps)) is

  -- where each key has its home, it is live there alone
  pub live-at-home : (home : K → ℕ) → HasOneHome eq home → (histories : List (History K V E)) → AreAtHome eq home histories → (now i : ℕ) (k : K) → IsSome (live_in eq histories now i k) → i ≡ home k
  live-at-home home homes histories at_home now i k live =
      ⊎_elim (λ same. same)
      (λ differ.
      let one = live-stands histories now i k live in
      let none = count-none (λ q. eq q k) (standing_in eq histories i) (away eq home homes k i (standing_in eq histories i) (at_home i) differ) in
      absurd (let no : ⊥ = omega (arith, one, none) in no))
      (same-or-not i (home k))

  -- it is in a segment that is there
  pub live-within : (histories : List (History K V E)) (now i : ℕ) (k : K) → IsSome (live_in eq histories now i k) → i < length histories
  live-within histories now i k live = go (slice_get histories i) refl live
    where
      go : (o : Option (History K V E)) → slice_get histories i ≡ o → IsSome (value_of eq now k o) → i < length histories
      go None e is = absurd (no-value V is)
      go (Some history) e is = slice_get_within histories i history e

  -- equal keys have one live value
  pub live-congr : (histories : List (History K V E)) (now i : ℕ) (q k : K) → eq q k ≡ true → live_in eq histories now i q ≡ live_in eq histories now i k
  live-congr histories now i q k same = go (slice_get histories i)
    where
      go : (o : Option (History K V E)) → value_of eq now q o ≡ value_of eq now k o
      go None = refl
      go (Some history) = ap (λ s. option_map (λ (w : Write K V). w.value) (live_one history.settings (max (latest (events_in history.steps)) now) s)) (standing_congr eq history.settings laws q k (events_in history.steps) same)

  -- A segment of which the keys were taken.
  module _ (home : K → ℕ) (homes : HasOneHome eq home) (k : K) where
    pub segment-once : (histories : List (History K V E)) → AreAtHome eq home histories → (r : ℕ) (keys : List K) → IsPermutation (standing_in eq histories r) keys
        → count (λ (p : ℕ × K). eq p.1 k) (in_segment r keys) + unreached (r + 1) (home k) ≤ unreached r (home k)
    segment-once histories at_home r keys are =
        let here : count (λ (p : ℕ × K). eq p.1 k) (in_segment r keys) ≡ count (λ q. eq q k) (standing_in eq histories r) = count-map (λ (p : ℕ × K). eq p.1 k) (λ q. (r, q)) keys ∙ sym (count-permutation (λ q. eq q k) (standing_in eq histories r) keys are) in
        ⊎_elim
        (λ same. let once = standing-once histories r k in omega (arith, same, here, once))
        (λ differ. let none = count-none (λ q. eq q k) (standing_in eq histories r) (away eq home homes k r (standing_in eq histories r) (at_home r) differ) in omega (arith, here, none))
        (same-or-not r (home k))

  -- the keys of the segment where a key is live have it
  pub segment-has : (histories : List (History K V E)) (now i : ℕ) (k : K) → IsSome (live_in eq histories now i k) → (r : ℕ) (keys : List K) → IsPermutation (standing_in eq histories r) keys
      → unreached r i ≤ count (is_at eq i k) (in_segment r keys) + unreached (r + 1) i
  segment-has histories now i k live r keys are = ⊎_elim here (λ differ. omega (arith, differ)) (same-or-not r i)
    where
      here : r ≡ i → unreached r i ≤ count (is_at eq i k) (in_segment r keys) + unreached (r + 1) i
      here same =
          let counted : count (is_at eq i k) (in_segment r keys) ≡ count (λ q. eq q k) keys = count-map (is_at eq i k) (λ q. (r, q)) keys ∙ ap (λ b. count (λ q. b && eq q k) keys) (eq-eqb r i same) in
          let one : count (λ q. eq q k) keys ≡ 1 = sym (count-permutation (λ q. eq q k) (standing_in eq histories r) keys are) ∙ subst (λ n. count (λ q. eq q k) (standing_in eq histories n) ≡ 1) (sym same) (live-stands histories now i k live) in
          omega (arith, same, counted, one)
