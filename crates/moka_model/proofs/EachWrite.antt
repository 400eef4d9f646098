-- What is true of each write that is made, and stays true of it, is true of all that stand.
use Rattle.std.proofs.Common.{◌≡◌, ℕ, Bool, true, cond, Option, Some, None, List, [], ◌∷◌, ◌++◌, map, not, filter, subst, ap, ◌∙◌}
use Rattle.std.specs.Option.{option_to_list}
use Rattle.std.specs.List.{All}
use Rattle.std.specs.Cmp.{IsEquivalence}
use Rattle.std.proofs.lemmas.Bool.{cond_both}
use Rattle.std.proofs.lemmas.List.Elements.{All-nil, All-cons, All-head, All-tail, All-append, All-push, All-filter}
use Rattle.moka_model.specs.Maintenance.{Queues}
use Rattle.moka_model.specs.Lives.{Settings, Write, is_live, hit, after_look, after_write, hidden_by}
use Rattle.moka_model.specs.Events.{Event, Looked, TurnedDown, Written, Invalidated, Hidden, Maintained, Passed, Drawn, Taken, latest}
use Rattle.moka_model.specs.Admission.{frequency, wins}
use Rattle.moka_model.specs.Orders.{changed_where, moved_last, is_of, is_hit, used_where, opened_by, written_in, hidden_in, maintained, orders, standing}
use Rattle.moka_model.specs.OrderLaws.{writes_of}
use Rattle.moka_model.proofs.MaintenanceKept.{kept_within}
use Rattle.moka_model.proofs.OrdersHold.{held-orders}

module _ {A : Type 0} (P : A → Type 0) (p : A → Bool) (change : A → A) (kept : (x : A) → P x → P (change x)) where
  All-changed : (xs : List A) → All P xs → All P (map change xs)
  All-changed [] all = All-nil P
  All-changed (x ∷ xs) all = All-cons P (change x) (map change xs) (kept x (All-head P x xs all)) (All-changed xs (All-tail P x xs all))

  All-changed_where : (xs : List A) → All P xs → All P (changed_where p change xs)
  All-changed_where [] all = All-nil P
  All-changed_where (x ∷ xs) all =
      let here : P x = All-head P x xs all in
      All-cons P (cond (p x) (change x) x) (changed_where p change xs) (cond_both (p x) (change x) x P (λ _. kept x here) (λ _. here)) (All-changed_where xs (All-tail P x xs all))

  All-moved_last : (xs : List A) → All P xs → All P (moved_last p change xs)
  All-moved_last xs all = All-append P (filter (λ x. not (p x)) xs) (map change (filter p xs)) (All-filter (λ x. not (p x)) P xs all) (All-changed (filter p xs) (All-filter p P xs all))

module _ {K V : Type 0} (eq : K → K → Bool) (settings : Settings K V) (P : Write K V → Type 0)
    (opened : (k : K) (v : V) (at : ℕ) → P (after_write settings k v at None))
    (over : (k : K) (v : V) (at : ℕ) (w : Write K V) → P w → P (after_write settings k v at (Some w)))
    (looked : (at : ℕ) (w : Write K V) → P w → P (hit settings at w))
    (hidden : (test : K → V → Bool) (w : Write K V) → P w → P (hidden_by test w)) where
  -- it is true of both orders
  abbrev Holds : Queues (Write K V) → Type 0
  Holds q = All P q.admitted × All P q.waiting

  after_look-holds : (at : ℕ) (w : Write K V) → P w → P (after_look settings at w)
  after_look-holds at w here = cond_both (is_live settings w at) (hit settings at w) w P (λ _. looked at w here) (λ _. here)

  used_where-holds : (p : Write K V → Bool) (change : Write K V → Write K V) → ((w : Write K V) → P w → P (change w)) → (q : Queues (Write K V)) → Holds q → Holds (used_where eq settings p change q)
  used_where-holds p change kept q all = (All-moved_last P p change kept q.admitted all.0, All-changed_where P p change kept q.waiting all.1)

  opened_by-holds : (w : Write K V) (ws : List (Write K V)) (q : Queues (Write K V)) → P w → Holds q → Holds (opened_by eq settings w ws q)
  opened_by-holds w [] q here all = (all.0, All-push P q.waiting w all.1 here)
  opened_by-holds w (u ∷ ws) q here all = all

  written_in-holds : (k : K) (v : V) (at : ℕ) (q : Queues (Write K V)) → Holds q → Holds (written_in eq settings k v at q)
  written_in-holds k v at q all =
      let change : Write K V → Write K V = λ w. after_write settings k v at (Some w) in
      opened_by-holds (after_write settings k v at None) (writes_of eq k (q.admitted ++ q.waiting)) (used_where eq settings (is_of eq settings k) change q) (opened k v at) (used_where-holds (is_of eq settings k) change (over k v at) q all)

  hidden_in-holds : (test : K → V → Bool) (q : Queues (Write K V)) → Holds q → Holds (hidden_in test q)
  hidden_in-holds test q all = (All-changed P (λ _. true) (hidden_by test) (hidden test) q.admitted all.0, All-changed P (λ _. true) (hidden_by test) (hidden test) q.waiting all.1)

  maintained-holds : (frequency_of : ℕ → ℕ) (limit : Option ℕ) (at : ℕ) (q : Queues (Write K V)) → Holds q → Holds (maintained settings frequency_of limit at q)
  maintained-holds frequency_of limit at q all = kept_within P (λ w. w.policy_weight) settings.max_capacity (λ w. is_live settings w at) (wins settings frequency_of) limit q all.0 all.1

  pub orders-hold : (h : List (Event K V)) → All P (orders eq settings h).admitted × All P (orders eq settings h).waiting
  orders-hold [] = (All-nil P, All-nil P)
  orders-hold (Looked k at ∷ h) = used_where-holds (is_hit eq settings k (latest (Looked k at ∷ h))) (after_look settings (latest (Looked k at ∷ h))) (after_look-holds (latest (Looked k at ∷ h))) (orders eq settings h) (orders-hold h)
  orders-hold (TurnedDown k at ∷ h) = orders-hold h
  orders-hold (Written k v at ∷ h) = written_in-holds k v (latest (Written k v at ∷ h)) (orders eq settings h) (orders-hold h)
  orders-hold (Invalidated k at ∷ h) = let all = orders-hold h in (All-filter (λ (w : Write K V). not (eq w.key k)) P (orders eq settings h).admitted all.0, All-filter (λ (w : Write K V). not (eq w.key k)) P (orders eq settings h).waiting all.1)
  orders-hold (Hidden test ∷ h) = hidden_in-holds test (orders eq settings h) (orders-hold h)
  orders-hold (Maintained limit at ∷ h) = maintained-holds (frequency settings h) limit (latest (Maintained limit at ∷ h)) (orders eq settings h) (orders-hold h)
  orders-hold (Passed at ∷ h) = orders-hold h
  orders-hold (Drawn ∷ h) = orders-hold h
  orders-hold (Taken ∷ h) = orders-hold h

  -- and of what stands for a key
  pub standing-holds : IsEquivalence eq → (k : K) (h : List (Event K V)) (w : Write K V) → standing eq settings k h ≡ Some w → P w
  standing-holds laws k h w stands =
      let q : Queues (Write K V) = orders eq settings h in
      let all = orders-hold h in
      let held : All P (writes_of eq k (q.admitted ++ q.waiting)) = All-filter (λ (u : Write K V). eq u.key k) P (q.admitted ++ q.waiting) (All-append P q.admitted q.waiting all.0 all.1) in
      All-head P w [] (subst (All P) (held-orders eq settings laws k h ∙ ap option_to_list stands) held)
