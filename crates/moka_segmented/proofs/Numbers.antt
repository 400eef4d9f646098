-- When a write of a segment is out of numbers, and when it stores nothing.
use Rattle.std.proofs.Common.{◌≡◌, ℕ, Bool, true, false, List, ◌↔◌, sym, ap, ◌∙◌}
use Rattle.std.proofs.lemmas.Nat.{pow_pos}
use Rattle.moka_model.specs.Lives.{Settings}
use Rattle.moka_model.specs.Numbers.{stores_nothing, greatest_number, next_number}
use Rattle.moka_model.specs.Steps.{AcceptedStep, events_in}
use Rattle.moka_model.specs.Calls.{Insert, IsOutOfNumbers}
use Rattle.moka_model.specs.StandsFor.{Books, WholeView, StandsFor}
use Rattle.moka_model.proofs.Callers.{out_of_numbers-insert}
use Rattle.moka_segment_model.specs.Segments.{SegmentedSettings, share_settings, segments_of}
use Rattle.moka_segment_model.proofs.Callers.{share-nothing}

module _ {K V E : Type 0} (eq : K → K → Bool) {is_clone : V → V → Type 0} (settings : Settings K V) (view : WholeView K V E) (steps : List (AcceptedStep K V E)) (stands : StandsFor eq is_clone settings view steps) where
  -- what holds just where the state has no number left for a write holds just where the write is out of numbers
  pub out-of-numbers : (k : K) (v : V) (at : ℕ) (Q : Type 0) → Q ↔ ((stores_nothing view.values.settings.max_capacity ≡ false) × (view.values.books.next_number ≡ greatest_number)) → Q ↔ IsOutOfNumbers eq settings steps (Insert k v at)
  out-of-numbers k v at Q when =
      let capacity : stores_nothing view.values.settings.max_capacity ≡ stores_nothing settings.max_capacity = ap (λ (s : Settings K V). stores_nothing s.max_capacity) stands.settings in
      let number : view.values.books.next_number ≡ next_number settings (events_in steps) = ap (λ (b : Books K V). b.next_number) stands.books in
      let out = out_of_numbers-insert eq settings k v at steps in
      (λ q. out.1 (sym capacity ∙ (when.0 q).0, sym number ∙ (when.0 q).1), λ it. when.1 (capacity ∙ (out.0 it).0, number ∙ (out.0 it).1))

  -- and what holds where the state stores nothing holds where its settings say so
  pub nothing-stored : (Q : Type 0) → (stores_nothing view.values.settings.max_capacity ≡ true → Q) → stores_nothing settings.max_capacity ≡ true → Q
  nothing-stored Q when none = when (ap (λ (s : Settings K V). stores_nothing s.max_capacity) stands.settings ∙ none)

-- where the whole stores nothing no segment does
pub nothing-shared : {K V : Type 0} (given : SegmentedSettings K V) → stores_nothing given.whole.max_capacity ≡ true → stores_nothing (share_settings given).max_capacity ≡ true
nothing-shared given none = share-nothing (segments_of given) (pow_pos given.bits) given.whole.max_capacity ∙ none
