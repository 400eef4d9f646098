-- How heavy the rows of an order are together, before and after a change of one of them.
use Rattle.std.proofs.Common.{◌≡◌, ℕ, ◌+◌, ◌*◌, ◌<◌, ◌≤◌, ◌^◌, ◌==◌, Bool, true, false, cond, Option, Some, None, MatchOption, List, [], ◌∷◌, ◌++◌, length, refl, sym, ap, subst, ◌∙◌, arith, append_assoc}
use Rattle.std.specs.Option.{IsSome, IfSome}
use Rattle.std.specs.List.{AllByRecursion}
use Rattle.moka_model.specs.Maintenance.{total}
use Rattle.moka_model.proofs.Callers.{total-append}
use Rattle.moka_rows.specs.declared.rows.Row.{Row}
use Rattle.moka_table.specs.declared.table.Weights.{Weights}
use Rattle.moka_rows.specs.Rows.{row_under, with_row, without_row, hidden, other, IsOrderOf, NumbersDiffer}
use Rattle.moka_rows.specs.declared.rows.Order.{Order}
use Rattle.moka_rows.specs.declared.rows.Order.TheVariants.{Admitted, Waiting}
use Rattle.moka_table.specs.Table.{Contents, entries, weight_of, weight_in, AreShown, UsesRow, TakesRow, IsConsistent}
use Rattle.moka_rows.proofs.Callers.{all-append, all-front, all-back, absent-before, row_under-at, row_under-append_left, row_under-append_right, split_at_row, length-changed, each-admitted, each-added}
use Rattle.moka_table.proofs.Each.{of-row, of-used, of-taken}

-- an order weighs no more than both
pub weight_in-le : (order : Order) (weights : Weights) → weight_in order weights ≤ weights.admitted + weights.waiting
weight_in-le Admitted weights = omega arith
weight_in-le Waiting weights = omega arith

-- and if both are below a bound, so is it
pub weight_in-below : (bound : ℕ) (order : Order) (weights : Weights) → weights.admitted < bound → weights.waiting < bound → weight_in order weights < bound
weight_in-below bound Admitted weights a w = a
weight_in-below bound Waiting weights a w = w

module _ {K V : Type 0} where
  -- n rows with weights below 2^32 weigh at most n * 2^32 in total
  pub total-light : (rows : List (ℕ × Row K V)) → AllByRecursion (λ p. weight_of p < 2 ^ 32) rows → total weight_of rows ≤ length rows * (2 ^ 32)
  total-light [] light = omega arith
  total-light (p ∷ ps) light = let first = light.0 in let rest = total-light ps light.1 in omega arith

  module _ (n : ℕ) (row : Row K V) (rows : List (ℕ × Row K V)) (there : row_under n rows ≡ Some row) where
    -- the rows without one weigh less by that row's weight,
    pub total-without_row : total weight_of (without_row n rows) + row.info.policy_weight ≡ total weight_of rows
    total-without_row =
        let c = split_at_row n row rows there in
        let whole = total-append weight_of c.0 ((n, row) ∷ c.1) in
        let rest = total-append weight_of c.0 c.1 in
        let before = ap (total weight_of) c.2.whole in
        let after = ap (total weight_of) c.2.rest in
        omega arith

    -- and after a change of one row, the total changes by as much as that row's weight
    pub total-with_row : (change : Row K V → Row K V) → total weight_of (with_row n change rows) + row.info.policy_weight ≡ total weight_of rows + (change row).info.policy_weight
    total-with_row change =
        let c = split_at_row n row rows there in
        let whole = total-append weight_of c.0 ((n, row) ∷ c.1) in
        let changed = total-append weight_of c.0 ((n, change row) ∷ c.1) in
        let before = ap (total weight_of) c.2.whole in
        let after = ap (total weight_of) (c.2.changed change) in
        omega arith

  -- if no two rows have the same number, the row with the number of a pending row is that row
  pub under-waiting : (n : ℕ) (row : Row K V) (admitted waiting : List (ℕ × Row K V)) → NumbersDiffer (admitted ++ waiting) → IsSome (row_under n waiting) → row_under n (admitted ++ waiting) ≡ Some row → row_under n waiting ≡ Some row
  under-waiting n row admitted waiting apart there is = go (row_under n waiting) refl there
    where
      go : (o : Option (Row K V)) → row_under n waiting ≡ o → IsSome o → row_under n waiting ≡ Some row
      go None none some = cc
      go (Some r) found some =
          let c = split_at_row n r waiting found in
          let whole : admitted ++ waiting ≡ (admitted ++ c.0) ++ (n, r) ∷ c.1 = ap (λ l. admitted ++ l) c.2.whole ∙ sym (append_assoc admitted c.0 ((n, r) ∷ c.1)) in
          let none = absent-before n r (admitted ++ c.0) c.1 (subst (λ (l : List (ℕ × Row K V)). NumbersDiffer l) whole apart) in
          let found_there : row_under n (admitted ++ waiting) ≡ Some r = ap (row_under n) whole ∙ row_under-at n r (admitted ++ c.0) c.1 none in
          found ∙ sym found_there ∙ is

  -- a row that waits is stored
  pub stored-waiting : (n : ℕ) (admitted waiting : List (ℕ × Row K V)) → IsSome (row_under n waiting) → IsSome (row_under n (admitted ++ waiting))
  stored-waiting n admitted waiting there = go (row_under n admitted) refl
    where
      go : (o : Option (Row K V)) → row_under n admitted ≡ o → IsSome (row_under n (admitted ++ waiting))
      go None absent = rw (row_under-append_right n admitted waiting absent) there
      go (Some r) found = rw (row_under-append_left n admitted waiting r found) refl

  -- a row that is admitted, or waits, is no heavier than its order
  pub row-le : (n : ℕ) (row : Row K V) (rows : List (ℕ × Row K V)) → row_under n rows ≡ Some row → row.info.policy_weight ≤ total weight_of rows
  row-le n row rows there = let rest = total-without_row n row rows there in omega arith

  -- The weights of both orders once the row under a number has another weight.
  abbrev pub AreWeightsWith : ℕ → ℕ → List (ℕ × Row K V) → List (ℕ × Row K V) → Weights → Type 0
  AreWeightsWith n weight admitted waiting weights = MatchOption (row_under n admitted)
      ((weights.admitted ≡ total weight_of admitted)
      × IfSome (row_under n waiting) (λ row. weights.waiting + row.info.policy_weight ≡ total weight_of waiting + weight))
      (λ row. (weights.admitted + row.info.policy_weight ≡ total weight_of admitted + weight) × (weights.waiting ≡ total weight_of waiting))

  module _ (n : ℕ) (row : Row K V) (admitted waiting : List (ℕ × Row K V)) (there : row_under n (admitted ++ waiting) ≡ Some row) where
    -- the row stands in one of the orders
    stands : (P : Type 0) → (row_under n admitted ≡ Some row → P) → (row_under n admitted ≡ None → row_under n waiting ≡ Some row → P) → P
    stands P admits waits = go (row_under n admitted) refl
      where
        go : (o : Option (Row K V)) → row_under n admitted ≡ o → P
        go None absent = waits absent (sym (row_under-append_right n admitted waiting absent) ∙ there)
        go (Some r) found = admits (found ∙ sym (row_under-append_left n admitted waiting r found) ∙ there)

    module _ (weights : Weights) (a : weights.admitted ≡ total weight_of admitted) (w : weights.waiting ≡ total weight_of waiting) where
      -- where it keeps its weight, both orders keep theirs
      pub with-same : AreWeightsWith n row.info.policy_weight admitted waiting weights
      with-same = stands _ (λ found. rw found (omega (arith, a), w)) (λ absent found. rw (absent, found) (a, omega (arith, w)))

      module _ (order : Order) (is : IsOrderOf n admitted order) where
        -- it is no heavier than its order, which weighs no more than all rows
        pub with-le : row.info.policy_weight ≤ weight_in order weights
        with-le = stands _
            (λ found. let o : order ≡ Admitted = rw found at is in let le = row-le n row admitted found in rw o (omega (arith, a)))
            (λ absent found. let o : order ≡ Waiting = rw absent at is in let le = row-le n row waiting found in rw o (omega (arith, w)))

        -- and if its weight changes, the total of its order changes by as much
        pub with-changed : (weight : ℕ) (after : Weights) → weight_in order after + row.info.policy_weight ≡ weight_in order weights + weight
            → weight_in (other order) after ≡ weight_in (other order) weights → AreWeightsWith n weight admitted waiting after
        with-changed weight after changed others = stands _
            (λ found.
            let o : order ≡ Admitted = rw found at is in
            let c : after.admitted + row.info.policy_weight ≡ weights.admitted + weight = rw o at changed in
            let s : after.waiting ≡ weights.waiting = rw o at others in
            rw found (omega (arith, a, c), s ∙ w))
            (λ absent found.
            let o : order ≡ Waiting = rw absent at is in
            let c : after.waiting + row.info.policy_weight ≡ weights.waiting + weight = rw o at changed in
            let s : after.admitted ≡ weights.admitted = rw o at others in
            rw (absent, found) (s ∙ a, omega (arith, w, c)))

  module _ (n : ℕ) (change : Row K V → Row K V) (row : Row K V) (old new : Contents K V) (weight : ℕ) (weights : Weights)
      (there : row_under n (entries old) ≡ Some row) (changed_weight : (change row).info.policy_weight ≡ weight) (used : UsesRow n change old new) (are : AreWeightsWith n weight old.admitted old.waiting weights) where
    -- after a use of a row the weights of both orders are those with its new weight
    pub weights-used : (weights.admitted ≡ total weight_of new.admitted) × (weights.waiting ≡ total weight_of new.waiting)
    weights-used = go (row_under n old.admitted) refl used are
      where
        go : (o : Option (Row K V)) → row_under n old.admitted ≡ o
            → MatchOption o
            ((new.admitted ≡ old.admitted) × (new.waiting ≡ with_row n change old.waiting))
            (λ r. (new.admitted ≡ without_row n old.admitted ++ (n, change r) ∷ []) × (new.waiting ≡ old.waiting))
            → MatchOption o
            ((weights.admitted ≡ total weight_of old.admitted) × IfSome (row_under n old.waiting) (λ r. weights.waiting + r.info.policy_weight ≡ total weight_of old.waiting + weight))
            (λ r. (weights.admitted + r.info.policy_weight ≡ total weight_of old.admitted + weight) × (weights.waiting ≡ total weight_of old.waiting))
            → (weights.admitted ≡ total weight_of new.admitted) × (weights.waiting ≡ total weight_of new.waiting)
        go None absent u w =
            let found : row_under n old.waiting ≡ Some row = sym (row_under-append_right n old.admitted old.waiting absent) ∙ there in
            let other : weights.waiting + row.info.policy_weight ≡ total weight_of old.waiting + weight = rw found at w.1 in
            let after = total-with_row n row old.waiting found change in
            rw (u.0, u.1) (w.0, omega (arith, other, after, changed_weight))
        go (Some r) found u w =
            let same : Some r ≡ Some row = sym (row_under-append_left n old.admitted old.waiting r found) ∙ there in
            let is : r ≡ row = cc in
            let before : weights.admitted + row.info.policy_weight ≡ total weight_of old.admitted + weight = rw is at w.0 in
            let rest = total-without_row n row old.admitted (found ∙ same) in
            let last = total-append weight_of (without_row n old.admitted) ((n, change row) ∷ []) in
            rw (u.0, u.1, is) (omega (arith, before, rest, last, changed_weight), w.1)

  -- after a removal they are those without its weight
  module _ (n : ℕ) (row : Row K V) (old new : Contents K V) (weights : Weights)
      (there : row_under n (entries old) ≡ Some row) (taken : TakesRow n old new) (are : AreWeightsWith n 0 old.admitted old.waiting weights) where
    pub weights-taken : (weights.admitted ≡ total weight_of new.admitted) × (weights.waiting ≡ total weight_of new.waiting)
    weights-taken = go (row_under n old.admitted) refl taken are
      where
        go : (o : Option (Row K V)) → row_under n old.admitted ≡ o
            → MatchOption o
            ((new.admitted ≡ old.admitted) × (new.waiting ≡ without_row n old.waiting))
            (λ _. (new.admitted ≡ without_row n old.admitted) × (new.waiting ≡ old.waiting))
            → MatchOption o
            ((weights.admitted ≡ total weight_of old.admitted) × IfSome (row_under n old.waiting) (λ r. weights.waiting + r.info.policy_weight ≡ total weight_of old.waiting + 0))
            (λ r. (weights.admitted + r.info.policy_weight ≡ total weight_of old.admitted + 0) × (weights.waiting ≡ total weight_of old.waiting))
            → (weights.admitted ≡ total weight_of new.admitted) × (weights.waiting ≡ total weight_of new.waiting)
        go None absent u w =
            let found : row_under n old.waiting ≡ Some row = sym (row_under-append_right n old.admitted old.waiting absent) ∙ there in
            let other : weights.waiting + row.info.policy_weight ≡ total weight_of old.waiting + 0 = rw found at w.1 in
            let rest = total-without_row n row old.waiting found in
            rw (u.0, u.1) (w.0, omega (arith, other, rest))
        go (Some r) found u w =
            let same : Some r ≡ Some row = sym (row_under-append_left n old.admitted old.waiting r found) ∙ there in
            let is : r ≡ row = cc in
            let before : weights.admitted + row.info.policy_weight ≡ total weight_of old.admitted + 0 = rw is at w.0 in
            let rest = total-without_row n row old.admitted (found ∙ same) in
            rw (u.0, u.1) (omega (arith, before, rest), w.1)

module _ {K V : Type 0} where
  abbrev IsLight : ℕ × Row K V → Type 0
  IsLight p = weight_of p < 2 ^ 32

  abbrev rows : List (ℕ × Row K V) → List (ℕ × Row K V) → Contents K V
  rows admitted waiting = record { admitted = admitted; waiting = waiting; notices = []; may_hide = false; room = 0 }

  abbrev IsShown : ℕ × Row K V → Type 0
  IsShown p = p.1.info.is_hidden ≡ false

  module _ (admitted waiting : List (ℕ × Row K V)) (weights : Weights) (may_hide : Bool) (notices places : ℕ) (kept : IsConsistent admitted waiting weights may_hide notices places)
      (admitted' waiting' : List (ℕ × Row K V)) (weights' : Weights) (notices' places' : ℕ) (few : length (admitted' ++ waiting') + notices' ≤ places') where
    -- A table stays consistent: after a use of a row,
    pub consistent-used : (n : ℕ) (change : Row K V → Row K V) (row : Row K V) (weight : ℕ) → row_under n (admitted ++ waiting) ≡ Some row → (change row).info.policy_weight ≡ weight → weight < 2 ^ 32
        → (row.info.is_hidden ≡ false → (change row).info.is_hidden ≡ false) → UsesRow n change (rows admitted waiting) (rows admitted' waiting') → AreWeightsWith n weight admitted waiting weights' → IsConsistent admitted' waiting' weights' may_hide notices' places'
    consistent-used n change row weight found changed_weight is_light stays_shown used are =
        let after = weights-used n change row (rows admitted waiting) (rows admitted' waiting') weight weights' found changed_weight used are in
        record {
          few = few;
          light = of-used (λ r. r.info.policy_weight < 2 ^ 32) n change row (rows admitted waiting) (rows admitted' waiting') kept.light found (rw changed_weight is_light) used;
          admitted_weight = after.0;
          waiting_weight = after.1;
          shown = λ none. of-used (λ r. r.info.is_hidden ≡ false) n change row (rows admitted waiting) (rows admitted' waiting') (kept.shown none) found (stays_shown (of-row (λ r. r.info.is_hidden ≡ false) n (admitted ++ waiting) row (kept.shown none) found)) used;
        }

    -- after a removal,
    pub consistent-taken : (n : ℕ) (row : Row K V) → row_under n (admitted ++ waiting) ≡ Some row → TakesRow n (rows admitted waiting) (rows admitted' waiting') → AreWeightsWith n 0 admitted waiting weights' → IsConsistent admitted' waiting' weights' may_hide notices' places'
    consistent-taken n row found taken are =
        let after = weights-taken n row (rows admitted waiting) (rows admitted' waiting') weights' found taken are in
        record {
          few = few;
          light = of-taken (λ r. r.info.policy_weight < 2 ^ 32) n row (rows admitted waiting) (rows admitted' waiting') kept.light found taken;
          admitted_weight = after.0;
          waiting_weight = after.1;
          shown = λ none. of-taken (λ r. r.info.is_hidden ≡ false) n row (rows admitted waiting) (rows admitted' waiting') (kept.shown none) found taken;
        }

    -- after an admission,
    pub consistent-admitted : (n : ℕ) (row : Row K V) → row_under n waiting ≡ Some row → admitted' ≡ admitted ++ (n, row) ∷ [] → waiting' ≡ without_row n waiting
        → weights'.admitted ≡ weights.admitted + row.info.policy_weight → weights'.waiting + row.info.policy_weight ≡ weights.waiting → IsConsistent admitted' waiting' weights' may_hide notices' places'
    consistent-admitted n row found a w more less =
        let last = total-append weight_of admitted ((n, row) ∷ []) in
        let left = total-without_row n row waiting found in
        record {
          few = few;
          light = each-admitted IsLight n admitted waiting admitted' waiting' kept.light row found a w;
          admitted_weight = rw a (omega (arith, more, last, kept.admitted_weight));
          waiting_weight = rw w (omega (arith, less, left, kept.waiting_weight));
          shown = λ none. each-admitted IsShown n admitted waiting admitted' waiting' (kept.shown none) row found a w;
        }

    -- and after a row was added
    pub consistent-added : (n : ℕ) (row : Row K V) → row.info.policy_weight < 2 ^ 32 → row.info.is_hidden ≡ false → admitted' ≡ admitted → waiting' ≡ waiting ++ (n, row) ∷ []
        → weights'.admitted ≡ weights.admitted → weights'.waiting ≡ weights.waiting + row.info.policy_weight → IsConsistent admitted' waiting' weights' may_hide notices' places'
    consistent-added n row is_light is_shown a w same more =
        let last = total-append weight_of waiting ((n, row) ∷ []) in
        record {
          few = few;
          light = each-added IsLight n admitted waiting admitted' waiting' kept.light (n, row) is_light a w;
          admitted_weight = rw a (same ∙ kept.admitted_weight);
          waiting_weight = rw w (omega (arith, more, last, kept.waiting_weight));
          shown = λ none. each-added IsShown n admitted waiting admitted' waiting' (kept.shown none) (n, row) is_shown a w;
        }

    -- after the first admitted row left,
    pub consistent-first : (n : ℕ) (row : Row K V) → admitted ≡ (n, row) ∷ admitted' → waiting' ≡ waiting → weights'.admitted + row.info.policy_weight ≡ weights.admitted → weights'.waiting ≡ weights.waiting
        → IsConsistent admitted' waiting' weights' may_hide notices' places'
    consistent-first n row a w less same =
        let sum : total weight_of admitted ≡ row.info.policy_weight + total weight_of admitted' = ap (total weight_of) a in
        let rest : (P : ℕ × Row K V → Type 0) → AllByRecursion P (admitted ++ waiting) → AllByRecursion P (admitted' ++ waiting) = λ P all. (subst (λ l. AllByRecursion P (l ++ waiting)) a all).1 in
        record {
          few = few;
          light = rw w (rest IsLight kept.light);
          admitted_weight = omega (arith, sum, less, kept.admitted_weight);
          waiting_weight = rw w (same ∙ kept.waiting_weight);
          shown = λ none. rw w (rest IsShown (kept.shown none));
        }

-- Hidden rows keep their weights, and their order its own.
module _ {K V : Type 0} (n : ℕ) where
  total-hidden : (rows : List (ℕ × Row K V)) → total weight_of (with_row n hidden rows) ≡ total weight_of rows
  total-hidden [] = refl
  total-hidden (p ∷ ps) = go (p.0 == n) (total-hidden ps)
    where
      go : (b : Bool) → total weight_of (with_row n hidden ps) ≡ total weight_of ps → total weight_of (cond b ((p.0, hidden p.1) ∷ ps) (p ∷ with_row n hidden ps)) ≡ weight_of p + total weight_of ps
      go true same = refl
      go false same = ap (λ w. weight_of p + w) same

  light-hidden : (rows : List (ℕ × Row K V)) → AllByRecursion IsLight rows → AllByRecursion IsLight (with_row n hidden rows)
  light-hidden [] light = tt
  light-hidden (p ∷ ps) light = go (p.0 == n) (light-hidden ps light.1)
    where
      go : (b : Bool) → AllByRecursion IsLight (with_row n hidden ps) → AllByRecursion IsLight (cond b ((p.0, hidden p.1) ∷ ps) (p ∷ with_row n hidden ps))
      go true rest = (light.0, light.1)
      go false rest = (light.0, rest)

  -- so a table stays consistent where one is hidden, and none need be shown from then on
  pub consistent-hidden : (admitted waiting admitted' waiting' : List (ℕ × Row K V)) (weights : Weights) (may_hide : Bool) (notices places : ℕ) → IsConsistent admitted waiting weights may_hide notices places
      → admitted' ≡ with_row n hidden admitted → waiting' ≡ with_row n hidden waiting → IsConsistent admitted' waiting' weights true notices places
  consistent-hidden admitted waiting admitted' waiting' weights may_hide notices places kept a w =
      record {
        few = omega (arith, kept.few, length-changed n hidden admitted waiting admitted' waiting' a w);
        light = rw (a, w) (all-append IsLight (with_row n hidden admitted) (with_row n hidden waiting) (light-hidden admitted (all-front IsLight admitted waiting kept.light)) (light-hidden waiting (all-back IsLight admitted waiting kept.light)));
        admitted_weight = rw a (kept.admitted_weight ∙ sym (total-hidden admitted));
        waiting_weight = rw w (kept.waiting_weight ∙ sym (total-hidden waiting));
        shown = λ (no : true ≡ false). cc;
      }

-- where none is hidden, it is consistent with that too
pub consistent-shown : {K V : Type 0} (admitted waiting : List (ℕ × Row K V)) (weights : Weights) (may_hide : Bool) (notices places : ℕ) → IsConsistent admitted waiting weights may_hide notices places → AreShown (admitted ++ waiting)
    → IsConsistent admitted waiting weights false notices places
consistent-shown admitted waiting weights may_hide notices places kept shown = record {
  few = kept.few;
  light = kept.light;
  admitted_weight = kept.admitted_weight;
  waiting_weight = kept.waiting_weight;
  shown = λ _. shown;
}

-- the first of some admitted rows is no heavier than they are
pub first-le : {K V : Type 0} (n : ℕ) (row : Row K V) (admitted rest : List (ℕ × Row K V)) (weight : ℕ) → admitted ≡ (n, row) ∷ rest → weight ≡ total weight_of admitted → row.info.policy_weight ≤ weight
first-le n row admitted rest weight is sum = let parts : total weight_of admitted ≡ row.info.policy_weight + total weight_of rest = ap (total weight_of) is in omega (arith, sum, parts)
