-- A count is the count, up to the greatest number.
use Rattle.std.proofs.Common.{◌≡◌, ℕ, ◌+◌, ◌≤◌, min, Bool, true, List, [], ◌∷◌, ◌++◌, length, filter, refl, sym, ap, ◌∙◌, arith}
use Rattle.std.specs.Prelude.{sum_by}
use Rattle.std.proofs.lemmas.List.Sums.{sum_by-cons}
use Rattle.moka_model.specs.Lives.{Settings, Write}
use Rattle.moka_model.specs.Maintenance.{total}
use Rattle.moka_model.specs.Removals.{removals}
use Rattle.moka_model.specs.Numbers.{greatest_number}
use Rattle.moka_model.specs.Steps.{AcceptedStep, events_in}
use Rattle.moka_model.specs.Orders.{orders}
use Rattle.moka_model.specs.Conserved.{count_written, count_standing, count_left}
use Rattle.moka_model.proofs.Callers.{total-append, pairs_conserved}
use Rattle.std.specs.Cmp.{IsEquivalence}

min-lesser : (n : ℕ) → n ≤ 18446744073709551615 → min n greatest_number ≡ n
min-lesser n le = omega arith

min-greater : (n : ℕ) → 18446744073709551615 ≤ n → min n greatest_number ≡ 18446744073709551615
min-greater n le = omega arith

-- a count up to the greatest number, of what is as many
pub counts : (m n : ℕ) → m ≡ n → (n ≤ 18446744073709551615 → min m greatest_number ≡ n) × (18446744073709551615 ≤ n → min m greatest_number ≡ 18446744073709551615)
counts m n same = rw same (min-lesser n, min-greater n)

total-sum : {K V : Type 0} (ws : List (Write K V)) → total (λ w. w.policy_weight) ws ≡ sum_by (λ w. w.policy_weight) ws
total-sum [] = refl
total-sum (w ∷ ws) = ap (λ n. w.policy_weight + n) (total-sum ws) ∙ sym (sum_by-cons (λ (u : Write _ _). u.policy_weight) w ws)

pub weighs : {K V : Type 0} (a b : List (Write K V)) → total (λ w. w.policy_weight) (a ++ b) ≡ sum_by (λ w. w.policy_weight) a + sum_by (λ w. w.policy_weight) b
weighs a b = rw (total-append (λ w. w.policy_weight) a b, total-sum a, total-sum b) refl

filter-all : {A : Type 0} (xs : List A) → filter (λ x. true) xs ≡ xs
filter-all [] = refl
filter-all (x ∷ xs) = ap (λ ys. x ∷ ys) (filter-all xs)

pub unremoved : {K V E : Type 0} (eq : K → K → Bool) (settings : Settings K V) → IsEquivalence eq → (steps : List (AcceptedStep K V E)) (n : ℕ)
    → count_written (λ k v. true) (events_in steps) ≡ n + length (removals eq settings (events_in steps))
    → length ((orders eq settings (events_in steps)).admitted ++ (orders eq settings (events_in steps)).waiting) ≡ n
unremoved eq settings laws steps n written =
    let h = events_in steps in
    let stored = (orders eq settings h).admitted ++ (orders eq settings h).waiting in
    let all = pairs_conserved eq settings (λ k v. true) laws (λ a b v same. refl) h in
    let standing : count_standing (λ k v. true) (orders eq settings h) ≡ length stored = ap length (filter-all stored) in
    let left : count_left (λ k v. true) (removals eq settings h) ≡ length (removals eq settings h) = ap length (filter-all (removals eq settings h)) in
    omega (arith, written, all, standing, left)
