-- When a call that finds a value or writes one runs out of numbers.
use Rattle.std.proofs.Common.{◌≡◌, ◌↔◌, ℕ, ◌<◌, Bool, true, false, cond, Option, Some, None, List, [], ◌∷◌, ◌++◌, refl, sym, subst, arith}
use Rattle.moka_model.specs.Lives.{Settings, Write}
use Rattle.moka_model.specs.Events.{Event, Looked, Written, Maintained, Passed}
use Rattle.moka_model.specs.Numbers.{drawn_in, next_number, greatest_number, stores_nothing, is_flush_due}
use Rattle.moka_model.specs.Steps.{AcceptedStep, events_in, turns}
use Rattle.moka_model.specs.Calls.{OrInsert, or_inserted, live_at, write_events, IsOutOfNumbers, WantsNumber}

module _ {K V E : Type 0} (eq : K → K → Bool) (settings : Settings K V) (k : K) (v : V) (at : ℕ) (steps : List (AcceptedStep K V E)) where
  abbrev h : List (Event K V)
  h = events_in steps

  -- a look, and a write behind its flush or a moment that passes
  abbrev looked-written : Bool → Bool → List (Event K V)
  looked-written nothing due = cond nothing (Passed at ∷ []) (Written k v at ∷ cond due (Maintained settings.flush_limit at ∷ []) []) ++ Looked k at ∷ []

  draws-by : (nothing due : Bool) → (0 < drawn_in (looked-written nothing due)) ↔ (nothing ≡ false)
  draws-by true due = (λ less. absurd (omega (arith, less)), λ e. absurd (no_true e))
    where
      no_true : true ≡ false → ⊥
      no_true e = cc
  draws-by false true = (λ _. refl, λ _. omega arith)
  draws-by false false = (λ _. refl, λ _. omega arith)

  draws : (0 < drawn_in (write_events eq settings k v at (Looked k at ∷ h) ++ Looked k at ∷ [])) ↔ (stores_nothing settings.max_capacity ≡ false)
  draws = draws-by (stores_nothing settings.max_capacity) (is_flush_due eq settings (Looked k at ∷ h))

  abbrev Wants : Option (Write K V) → Type 0
  Wants o = WantsNumber (next_number settings h) (turns steps) (Some (or_inserted {E = E} eq settings h k v at o))

  abbrev HasNone : Option (Write K V) → Type 0
  HasNone o = (o ≡ None) × (stores_nothing settings.max_capacity ≡ false) × (next_number settings h ≡ greatest_number)

  wants-none : (o : Option (Write K V)) → Wants o → HasNone o
  wants-none None wants = (refl, draws.0 wants.0, wants.1)
  wants-none (Some w) wants = absurd (let less = wants.0 in omega (arith, less))

  -- one does where nothing is live, something is stored, and the next number is the greatest
  pub out_of_numbers-or_insert : IsOutOfNumbers eq settings steps (OrInsert k v at) ↔ ((live_at eq settings k at h ≡ None) × (stores_nothing settings.max_capacity ≡ false) × (next_number settings h ≡ greatest_number))
  out_of_numbers-or_insert = (wants-none (live_at eq settings k at h), λ none. subst Wants (sym none.0) (draws.1 none.1, none.2))
