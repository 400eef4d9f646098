-- How many writes a state may store, and what they weigh.
use Rattle.std.proofs.Common.{◌≡◌, ℕ, ◌+◌, ◌≤◌, Bool, List, ◌++◌, length, Option, Some, None, refl, sym, ap, ◌∙◌, subst, arith, length-append}
use Rattle.std.specs.Option.{IfSome}
use Rattle.std.proofs.lemmas.List.{length-map, map-append}
use Rattle.moka_model.specs.Lives.{Settings, Write}
use Rattle.moka_model.specs.Maintenance.{total}
use Rattle.moka_model.specs.Numbers.{flush_point, entry_count, weighted_size}
use Rattle.moka_model.specs.SizeLaws.{WeighsOnes, LimitsSome}
use Rattle.moka_model.specs.Turns.{Turn}
use Rattle.moka_model.specs.Steps.{AcceptedStep, events_in}
use Rattle.moka_model.proofs.Callers.{whole}
use Rattle.moka_model.specs.Calls.{RunPendingTasks, after}
use Rattle.moka_model.specs.StandsFor.{Books, View, StandsFor}
use Rattle.moka_model.proofs.Callers.{entry_count-le, maintained-entry_count-le}
use Rattle.moka_rows.specs.declared.rows.Row.{Row}
use Rattle.moka_expiration.specs.Behaviour.{weight_by}
use Rattle.moka_table.specs.Table.{Contents, entries, weight_of, stored_write, stored_writes}
use Rattle.moka_state.proofs.Maintained.{total-stored}

-- without a weigher a value weighs one
pub weighs_one : {K V W : Type 0} (weight : W → K → V → ℕ) (weigher : Option W) → weigher ≡ None → (k : K) (v : V) → weight_by weight weigher k v ≡ 1
weighs_one weight weigher none k v = ap (λ it. weight_by weight it k v) none

-- the writes of a view
abbrev pub writes_in : {K V : Type 0} → View K V → List (Write K V)
writes_in view = view.books.orders.admitted ++ view.books.orders.waiting

module _ {K V E : Type 0} (eq : K → K → Bool) {is_clone : V → V → Type 0} {turns : List (Turn K V E)} (settings : Settings K V) (view : View K V) (steps : List (AcceptedStep K V E)) (stands : StandsFor eq is_clone settings (whole view turns) steps) where
  -- a state stores as many writes as stand,
  pub writes-counted : length (writes_in view) ≡ entry_count eq settings (events_in steps)
  writes-counted = ap (λ (b : Books K V). length (b.orders.admitted ++ b.orders.waiting)) stands.books

  -- and they weigh as much
  pub writes-weighed : total (λ (w : Write K V). w.policy_weight) (writes_in view) ≡ weighted_size eq settings (events_in steps)
  writes-weighed = ap (λ (b : Books K V). total (λ (w : Write K V). w.policy_weight) (b.orders.admitted ++ b.orders.waiting)) stands.books

  -- where each weighs one, with a capacity, there are as many at most as it says and the flush point together
  pub writes-bounded : WeighsOnes view.settings → LimitsSome view.settings.flush_limit → IfSome view.settings.max_capacity (λ capacity. length (writes_in view) ≤ capacity + flush_point)
  writes-bounded ones limits = go view.settings.max_capacity refl
    where
      go : (o : Option ℕ) → view.settings.max_capacity ≡ o → IfSome o (λ capacity. length (writes_in view) ≤ capacity + flush_point)
      go None none = tt
      go (Some capacity) some =
          let few = entry_count-le eq settings (subst WeighsOnes stands.settings ones) (subst (λ (s : Settings K V). LimitsSome s.flush_limit) stands.settings limits) steps capacity (sym (ap (λ (s : Settings K V). s.max_capacity) stands.settings) ∙ some) stands.legal in
          omega (arith, writes-counted)

-- where each weighs one, with a capacity, no more after a maintenance than it says
pub writes-within : {K V E : Type 0} (eq : K → K → Bool) {is_clone : V → V → Type 0} {turns : List (Turn K V E)} (settings : Settings K V) (view : View K V) (at : ℕ) (steps : List (AcceptedStep K V E)) → WeighsOnes view.settings → StandsFor eq is_clone settings (whole view turns) (after eq settings (RunPendingTasks at) steps)
    → IfSome view.settings.max_capacity (λ capacity. length (writes_in view) ≤ capacity)
writes-within eq settings view at steps ones stands = go view.settings.max_capacity refl
  where
    go : (o : Option ℕ) → view.settings.max_capacity ≡ o → IfSome o (λ capacity. length (writes_in view) ≤ capacity)
    go None none = tt
    go (Some capacity) some =
        let few = maintained-entry_count-le eq settings (subst WeighsOnes stands.settings ones) (events_in steps) at capacity (sym (ap (λ (s : Settings _ _). s.max_capacity) stands.settings) ∙ some) in
        let counted = writes-counted eq settings view (after eq settings (RunPendingTasks at) steps) stands in
        omega arith

module _ {K V : Type 0} (contents : Contents K V) where
  -- as many writes are stored as there are rows,
  pub rows-counted : length (stored_writes contents.admitted ++ stored_writes contents.waiting) ≡ length (entries contents)
  rows-counted =
      let front = length-map contents.admitted (λ p. stored_write {K = K} {V = V} p.1) in
      let back = length-map contents.waiting (λ p. stored_write {K = K} {V = V} p.1) in
      omega (arith, length-append contents.admitted contents.waiting, length-append (stored_writes contents.admitted) (stored_writes contents.waiting))

  -- and they weigh what these do
  pub rows-weighed : total weight_of (entries contents) ≡ total (λ w. w.policy_weight) (stored_writes contents.admitted ++ stored_writes contents.waiting)
  rows-weighed = sym (total-stored (entries contents)) ∙ ap (total (λ (w : Write K V). w.policy_weight)) (map-append (λ (p : ℕ × Row K V). stored_write p.1) contents.admitted contents.waiting)
