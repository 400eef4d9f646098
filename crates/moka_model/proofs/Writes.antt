-- The events of an accepted write, and the numbers it draws.
use Rattle.std.proofs.Common.{◌≡◌, ◌↔◌, ℕ, ◌<◌, Bool, true, false, if◌then◌else◌, List, [], ◌∷◌, refl, ap, ◌∙◌, arith}
use Rattle.moka_model.specs.Lives.{Settings}
use Rattle.moka_model.specs.Events.{Event, Written, Maintained, Passed}
use Rattle.moka_model.specs.Numbers.{drawn_in, next_number, greatest_number, stores_nothing, is_flush_due}
use Rattle.moka_model.specs.Steps.{AcceptedStep, events_in}
use Rattle.moka_model.specs.Calls.{Insert, write_events, IsOutOfNumbers}

module _ {K V : Type 0} (eq : K → K → Bool) (settings : Settings K V) (k : K) (v : V) (at : ℕ) (h : List (Event K V)) where
  abbrev plain_events : Bool → Bool → List (Event K V)
  plain_events nothing due = if nothing then Passed at ∷ [] else Written k v at ∷ (if due then Maintained settings.flush_limit at ∷ [] else [])

  -- where the capacity is 0, just its moment passes
  pub write_events-nothing : stores_nothing settings.max_capacity ≡ true → write_events eq settings k v at h ≡ Passed at ∷ []
  write_events-nothing nothing = ap (λ t. plain_events t (is_flush_due eq settings h)) nothing

  -- where no flush is due, it is a write alone
  pub write_events-plain : stores_nothing settings.max_capacity ≡ false → is_flush_due eq settings h ≡ false → write_events eq settings k v at h ≡ Written k v at ∷ []
  write_events-plain stores few = ap (λ t. plain_events t (is_flush_due eq settings h)) stores ∙ ap (plain_events false) few

  -- and else a maintenance comes before it
  pub write_events-flushed : stores_nothing settings.max_capacity ≡ false → is_flush_due eq settings h ≡ true → write_events eq settings k v at h ≡ Written k v at ∷ Maintained settings.flush_limit at ∷ []
  write_events-flushed stores due = ap (λ t. plain_events t (is_flush_due eq settings h)) stores ∙ ap (plain_events false) due

module _ {K V E : Type 0} (eq : K → K → Bool) (settings : Settings K V) (k : K) (v : V) (at : ℕ) (steps : List (AcceptedStep K V E)) where
  -- a write draws a number just where something is stored
  drawn-write : (nothing due : Bool) → (0 < drawn_in (plain_events eq settings k v at (events_in steps) nothing due)) ↔ (nothing ≡ false)
  drawn-write true due = (λ less. absurd (omega arith), λ e. absurd (no_true e))
    where
      no_true : true ≡ false → ⊥
      no_true e = cc
  drawn-write false true = (λ _. refl, λ _. omega arith)
  drawn-write false false = (λ _. refl, λ _. omega arith)

  -- a write is out of numbers where something is stored and the next number is the greatest
  pub out_of_numbers-insert : IsOutOfNumbers eq settings steps (Insert k v at) ↔ ((stores_nothing settings.max_capacity ≡ false) × (next_number settings (events_in steps) ≡ greatest_number))
  out_of_numbers-insert =
      let draws = drawn-write (stores_nothing settings.max_capacity) (is_flush_due eq settings (events_in steps)) in
      (λ out. (draws.0 out.0, out.1), λ out. (draws.1 out.0, out.1))
