-- Sums over segments, and the first that has a notice.
use Rattle.std.proofs.Common.{◌≡◌, ◌≢◌, ◌⊎◌, inl, inr, ◌==◌, ℕ, zero, suc, ◌+◌, ◌-◌, ◌<◌, ◌≤◌, Bool, true, false, not, cond, Option, Some, None, List, [], ◌∷◌, ◌++◌, length, refl, sym, ap, ◌∙◌, ⊎_elim, arith}
use Rattle.std.specs.List.{slice_get}
use Rattle.std.proofs.lemmas.Nat.{pow_pos}
use Rattle.std.proofs.lemmas.Bool.Decides.{eqb_tells}
use Rattle.moka_model.specs.Lives.{Write}
use Rattle.moka_model.specs.Maintenance.{total}
use Rattle.moka_model.specs.Numbers.{entry_count, weighted_size}
use Rattle.moka_model.specs.Removals.{Removal}
use Rattle.moka_model.specs.Calls.{Call, TakeNotice, Reply, Noticed, accepted, reply_of}
use Rattle.moka_model.specs.StandsFor.{Books, WholeView, StandsFor}
use Rattle.moka_segment_model.specs.Segments.{SegmentedSettings, SegmentedView, share_settings, segments_of, One, Nowhere, segment_of_place, at_first, place_of, reply_in, sum_below, first_from, first_with_notice, notices_after, is_empty, list_of, events_of, entries_in, weight_in, notices_in, steps_in, AllStandFor}
use Rattle.moka_segment_model.proofs.Lists.{there, at_or}

-- a sum depends only on what is below the number
pub sum_below-same : (f g : ℕ → ℕ) (n : ℕ) → ((i : ℕ) → i < n → f i ≡ g i) → sum_below f n ≡ sum_below g n
sum_below-same f g zero same = refl
sum_below-same f g (suc n) same =
    ap (λ a. a + f n) (sum_below-same f g n (λ i lt. same i (omega (arith, lt)))) ∙ ap (λ a. sum_below g n + a) (same n (omega arith))

-- so does the first
pub first_from-same : (f g : ℕ → Bool) (i more : ℕ) → ((j : ℕ) → j < i + more → f j ≡ g j) → first_from f i more ≡ first_from g i more
first_from-same f g i zero same = refl
first_from-same f g i (suc more) same =
    ap (λ b. cond b (Some i) (first_from f (suc i) more)) (same i (omega arith))
    ∙ ap (λ o. cond (g i) (Some i) o) (first_from-same f g (suc i) more (λ j lt. same j (omega (arith, lt))))

-- the first is one of them, and it passes
pub first_from-passes : (test : ℕ → Bool) (i more j : ℕ) → first_from test i more ≡ Some j → (j < i + more) × (test j ≡ true)
first_from-passes test i zero j e = cc
first_from-passes test i (suc more) j e = by (λ found. first_from-passes test (suc i) more j found) (test i) refl e
  where
    by : (first_from test (suc i) more ≡ Some j → (j < suc i + more) × (test j ≡ true)) → (b : Bool) → test i ≡ b → cond b (Some i) (first_from test (suc i) more) ≡ Some j → (j < i + suc more) × (test j ≡ true)
    by later true here found = let same : i ≡ j = cc in (omega (arith, same), ap test (sym same) ∙ here)
    by later false here found = let it = later found in (omega (arith, it.0), it.1)

-- where there is no first, the one at which the search began does not pass
first_from-none : (test : ℕ → Bool) (i more : ℕ) → first_from test i (suc more) ≡ None → test i ≡ false
first_from-none test i more e = by (test i) refl e
  where
    by : (b : Bool) → test i ≡ b → cond b (Some i) (first_from test (suc i) more) ≡ None → test i ≡ false
    by true here none = cc
    by false here none = here

-- where there is no first, none passes
pub first_from-none-all : (test : ℕ → Bool) (i more : ℕ) → first_from test i more ≡ None → (j : ℕ) → i ≤ j → j < i + more → test j ≡ false
first_from-none-all test i zero none j le lt = absurd (let no : ⊥ = omega (arith, le, lt) in no)
first_from-none-all test i (suc more) none j le lt = by (λ rest on. first_from-none-all test (suc i) more rest j on (omega (arith, lt))) (test i) refl none (eqb_tells i j)
  where
    by : (first_from test (suc i) more ≡ None → suc i ≤ j → test j ≡ false) → (b : Bool) → test i ≡ b → cond b (Some i) (first_from test (suc i) more) ≡ None
        → (((i == j) ≡ true) × (i ≡ j)) ⊎ (((i == j) ≡ false) × (i ≢ j)) → test j ≡ false
    by later true here rest tells = cc
    by later false here rest (inl same) = ap test (sym same.1) ∙ here
    by later false here rest (inr other) = later rest (omega (arith, le, other.1))

-- a sum of nothing but 0 is 0, and where a sum is 0 so is each
pub sum_below-zeros : (f : ℕ → ℕ) (n : ℕ) → ((i : ℕ) → i < n → f i ≡ 0) → sum_below f n ≡ 0
sum_below-zeros f zero zeros = refl
sum_below-zeros f (suc n) zeros = let before = sum_below-zeros f n (λ i lt. zeros i (omega (arith, lt))) in let here = zeros n (omega arith) in omega (arith, before, here)

pub sum_below-zero : (f : ℕ → ℕ) (n i : ℕ) → sum_below f n ≡ 0 → i < n → f i ≡ 0
sum_below-zero f zero i e lt = absurd (let no : ⊥ = omega (arith, lt) in no)
sum_below-zero f (suc n) i e lt =
    ⊎_elim (λ same. ap f same.1 ∙ (let none : f n ≡ 0 = omega (arith, e) in none)) (λ other. sum_below-zero f n i (omega (arith, e)) (omega (arith, lt, other.1))) (eqb_tells i n)

-- where one passes there is a first, and it is no later
pub first_from-least : (test : ℕ → Bool) (i more j : ℕ) → i ≤ j → j < i + more → test j ≡ true → (k : ℕ) × (first_from test i more ≡ Some k) × (k ≤ j)
first_from-least test i zero j le lt passes = absurd (let no : ⊥ = omega (arith, le, lt) in no)
first_from-least test i (suc more) j le lt passes = by (λ on. first_from-least test (suc i) more j on (omega (arith, lt)) passes) (test i) refl
  where
    after : test i ≡ false → (((i == j) ≡ true) × (i ≡ j)) ⊎ (((i == j) ≡ false) × (i ≢ j)) → suc i ≤ j
    after here (inl same) = absurd (let no : true ≡ false = sym passes ∙ ap test (sym same.1) ∙ here in cc)
    after here (inr other) = omega (arith, le, other.1)

    by : (suc i ≤ j → (k : ℕ) × (first_from test (suc i) more ≡ Some k) × (k ≤ j)) → (b : Bool) → test i ≡ b → (k : ℕ) × (first_from test i (suc more) ≡ Some k) × (k ≤ j)
    by later true here = (i, ap (λ b. cond b (Some i) (first_from test (suc i) more)) here, le)
    by later false here = let it = later (after here (eqb_tells i j)) in (it.0, ap (λ b. cond b (Some i) (first_from test (suc i) more)) here ∙ it.1, it.2)

empty-nil : {X : Type 0} (xs : List X) → not (is_empty xs) ≡ false → xs ≡ []
empty-nil [] e = refl
empty-nil (x ∷ xs) e = cc

-- a search that has come to a number
pub first-found : (test : ℕ → Bool) (n i : ℕ) → i < n → test i ≡ true → first_from test 0 n ≡ first_from test i (n - i) → Some i ≡ first_from test 0 n
first-found test n i lt here was =
    let left : n - i ≡ suc (n - (i + 1)) = omega (arith, lt) in
    sym (was ∙ ap (first_from test i) left ∙ ap (λ b. cond b (Some i) (first_from test (suc i) (n - (i + 1)))) here)

pub first-on : (test : ℕ → Bool) (n i : ℕ) → i < n → test i ≡ false → first_from test 0 n ≡ first_from test i (n - i) → first_from test 0 n ≡ first_from test (i + 1) (n - (i + 1))
first-on test n i lt here was =
    let left : n - i ≡ suc (n - (i + 1)) = omega (arith, lt) in
    let next : suc i ≡ i + 1 = omega arith in
    was ∙ ap (first_from test i) left ∙ ap (λ b. cond b (Some i) (first_from test (suc i) (n - (i + 1)))) here ∙ ap (λ j. first_from test j (n - (i + 1))) next

-- the writes of a view
abbrev pub writes_of : {K V E : Type 0} → WholeView K V E → List (Write K V)
writes_of view = view.values.books.orders.admitted ++ view.values.books.orders.waiting

module _ {K V : Type 0} (E : Type 0) (eq : K → K → Bool) {is_clone : V → V → Type 0} (given : SegmentedSettings K V) (view : SegmentedView K V E) (calls : List (Call K V E)) (stand : AllStandFor eq is_clone given view calls) where
  -- the state at a place stands for its list
  pub one-stands : (i : ℕ) → i < segments_of given → (v : WholeView K V E) × (slice_get view.segments i ≡ Some v) × StandsFor eq is_clone (share_settings given) v (steps_in E eq given calls i)
  one-stands i lt =
      let it = there view.segments i (omega (arith, lt, stand.count)) in
      (it.0, it.1, rw it.1 at (stand.each i))

  -- the first that has a notice, by what the states hold
  pub noticed-same : first_with_notice E eq given (list_of E eq given calls) ≡ first_from (λ i. at_or (λ (v : WholeView K V E). not (is_empty v.values.books.notices)) false (slice_get view.segments i)) 0 (segments_of given)
  noticed-same =
      first_from-same (λ i. not (is_empty (notices_after E eq given (list_of E eq given calls i)))) (λ i. at_or (λ (v : WholeView K V E). not (is_empty v.values.books.notices)) false (slice_get view.segments i)) 0 (segments_of given)
      (λ j lt.
      let it = one-stands j (omega (arith, lt)) in
      ap (λ (b : Books K V). not (is_empty b.notices)) (sym it.2.books) ∙ sym (ap (λ o. at_or (λ (v : WholeView K V E). not (is_empty v.values.books.notices)) false o) it.1))

  -- the sum of what the states store, and of what that weighs
  pub entries-same : entries_in E eq given calls ≡ sum_below (λ i. at_or (λ (v : WholeView K V E). length (writes_of v)) 0 (slice_get view.segments i)) (segments_of given)
  entries-same =
      sum_below-same (λ i. entry_count eq (share_settings given) (events_of E eq given calls i)) (λ i. at_or (λ (v : WholeView K V E). length (writes_of v)) 0 (slice_get view.segments i)) (segments_of given)
      (λ j lt.
      let it = one-stands j lt in
      ap (λ (b : Books K V). length (b.orders.admitted ++ b.orders.waiting)) (sym it.2.books) ∙ sym (ap (λ o. at_or (λ (v : WholeView K V E). length (writes_of v)) 0 o) it.1))

  -- and of how many notices they hold
  pub notices-same : notices_in E eq given calls ≡ sum_below (λ i. at_or (λ (v : WholeView K V E). length v.values.books.notices) 0 (slice_get view.segments i)) (segments_of given)
  notices-same =
      sum_below-same (λ i. length (notices_after E eq given (list_of E eq given calls i))) (λ i. at_or (λ (v : WholeView K V E). length v.values.books.notices) 0 (slice_get view.segments i)) (segments_of given)
      (λ j lt.
      let it = one-stands j lt in
      ap (λ (b : Books K V). length b.notices) (sym it.2.books) ∙ sym (ap (λ o. at_or (λ (v : WholeView K V E). length v.values.books.notices) 0 o) it.1))

  pub weight-same : weight_in E eq given calls ≡ sum_below (λ i. at_or (λ (v : WholeView K V E). total (λ (w : Write K V). w.policy_weight) (writes_of v)) 0 (slice_get view.segments i)) (segments_of given)
  weight-same =
      sum_below-same (λ i. weighted_size eq (share_settings given) (events_of E eq given calls i)) (λ i. at_or (λ (v : WholeView K V E). total (λ (w : Write K V). w.policy_weight) (writes_of v)) 0 (slice_get view.segments i)) (segments_of given)
      (λ j lt.
      let it = one-stands j lt in
      ap (λ (b : Books K V). total (λ (w : Write K V). w.policy_weight) (b.orders.admitted ++ b.orders.waiting)) (sym it.2.books) ∙ sym (ap (λ o. at_or (λ (v : WholeView K V E). total (λ (w : Write K V). w.policy_weight) (writes_of v)) 0 o) it.1))

module _ {K V : Type 0} (E : Type 0) (eq : K → K → Bool) (given : SegmentedSettings K V) (calls : List (Call K V E)) where
  -- where a notice is taken, and what is returned; and where there is none
  pub noticed-place : (i : ℕ) → first_with_notice E eq given (list_of E eq given calls) ≡ Some i → place_of E eq given calls TakeNotice ≡ One i
  noticed-place i e = ap at_first e

  pub noticed-reply : (i : ℕ) → first_with_notice E eq given (list_of E eq given calls) ≡ Some i
      → reply_in E eq given calls TakeNotice ≡ reply_of (accepted eq (share_settings given) (steps_in E eq given calls i) TakeNotice)
  noticed-reply i e = ap (λ o. reply_of (accepted eq (share_settings given) (steps_in E eq given calls (segment_of_place (at_first o))) TakeNotice)) e

  pub none-place : first_with_notice E eq given (list_of E eq given calls) ≡ None → place_of E eq given calls TakeNotice ≡ Nowhere
  none-place e = ap at_first e

  pub none-reply : first_with_notice E eq given (list_of E eq given calls) ≡ None → reply_in E eq given calls TakeNotice ≡ Some (Noticed None)
  none-reply e =
      let some : segments_of given ≡ suc (segments_of given - 1) = omega (arith, pow_pos given.bits) in
      let none : notices_after E eq given (list_of E eq given calls 0) ≡ [] = empty-nil (notices_after E eq given (list_of E eq given calls 0)) (first_from-none (λ i. not (is_empty (notices_after E eq given (list_of E eq given calls i)))) 0 (segments_of given - 1) (ap (first_from (λ i. not (is_empty (notices_after E eq given (list_of E eq given calls i)))) 0) (sym some) ∙ e)) in
      ap (λ o. reply_of (accepted eq (share_settings given) (steps_in E eq given calls (segment_of_place (at_first o))) TakeNotice)) e
      ∙ ap (λ (l : List (Removal K V)). let a : Option (Reply K V E) = Some (Noticed (slice_get l 0)) in a) none
