-- Calls find what a `get` finds.
use Rattle.std.proofs.Common.{◌≡◌, ℕ, Bool, Option, Some, None, List, option_map, refl}
use Rattle.std.specs.Prelude.{is_some}
use Rattle.std.proofs.lemmas.Bool.{cond_both}
use Rattle.moka_model.specs.declared.turns.Kind.TheVariants.{Compute}
use Rattle.moka_model.specs.declared.turns.Op.TheVariants as ops
use Rattle.moka_model.specs.declared.turns.Outcome.TheVariants as outcomes
use Rattle.moka_model.specs.Lives.{Settings, Write}
use Rattle.moka_model.specs.Turns.{Name, Turn, fits, found, is_open_as}
use Rattle.moka_model.specs.Steps.{AcceptedStep, events_in, turns}
use Rattle.moka_model.specs.Calls.{Entry, Reply, Found, Contains, Run, StillNone, Removed, Finish, accepted, live_at, new_name, entry_of, begun_compute, removed_by, finished, reply_of}

abbrev value_of : {K V : Type 0} → Option (Write K V) → Option V
value_of w = option_map (λ w. w.value) w

module _ {K V E : Type 0} where
  pub contains-found : (w : Option (Write K V)) (value : Option V) → ◌≡◌ {A = Option (Reply K V E)} (Some (Found (value_of w))) (Some (Found value)) → ◌≡◌ {A = Option (Reply K V E)} (Some (Contains (is_some w))) (Some (Contains (is_some value)))
  contains-found None None is = refl
  contains-found (Some w) (Some v) is = refl
  contains-found None (Some v) is = absurd (cc)
  contains-found (Some w) None is = absurd (cc)

  -- what a removal tells is live
  pub removed-live : (name : Name K) (w : Option (Write K V)) (e : Entry K V) → removed_by {E = E} name w ≡ Removed e → value_of w ≡ Some e.value
  removed-live name None e is = absurd (cc)
  removed-live name (Some w) e is = cc

  pub missed-live : (name : Name K) (w : Option (Write K V)) (k : K) → removed_by {E = E} name w ≡ StillNone k → value_of w ≡ None
  missed-live name None k is = refl
  missed-live name (Some w) k is = absurd (cc)

  module _ (eq : K → K → Bool) (settings : Settings K V) (steps : List (AcceptedStep K V E)) where
    -- what a begin shows is live
    pub shown-live : (k : K) (keep : Bool) (at : ℕ) (t : Option (Turn K V E)) (name : Name K) (shown : Option (Entry K V)) → reply_of (Some (begun_compute eq settings (events_in steps) k keep at t)) ≡ Some (Run name shown) → value_of (live_at eq settings k at (events_in steps)) ≡ option_map (λ e. e.value) shown
    shown-live k keep at (Some t) name shown is = absurd (cc)
    shown-live k keep at None name shown is = go (live_at eq settings k at (events_in steps)) is
      where
        go : (w : Option (Write K V)) → ◌≡◌ {A = Option (Reply K V E)} (Some (Run (new_name eq settings (events_in steps) Compute k) (option_map entry_of w))) (Some (Run name shown)) → value_of w ≡ option_map (λ e. e.value) shown
        go None is = cc
        go (Some w) is = cc

    pub of-finish : (name : Name K) (at : ℕ) (said : Reply K V E) → reply_of (accepted eq settings steps (Finish name (outcomes.Op ops.Remove) at)) ≡ Some said → removed_by name (live_at eq settings name.key at (events_in steps)) ≡ said
    of-finish name at said =
        cond_both (fits {V = V} {E = E} name.kind (outcomes.Op ops.Remove)) (option_map (finished eq settings (events_in steps) name (outcomes.Op ops.Remove) at) (found (is_open_as eq name) (turns steps))) None
        (λ it. reply_of it ≡ Some said → removed_by name (live_at eq settings name.key at (events_in steps)) ≡ said) (λ _. go (found (is_open_as eq name) (turns steps))) (λ _ is. absurd (cc))
      where
        go : (t : Option (Turn K V E)) → reply_of (option_map (finished eq settings (events_in steps) name (outcomes.Op ops.Remove) at) t) ≡ Some said → removed_by name (live_at eq settings name.key at (events_in steps)) ≡ said
        go None is = absurd (cc)
        go (Some t) is = cc
