-- What a call returns that finds a live value or writes one, and what a state stands for after it.
use Rattle.std.proofs.Common.{◌≡◌, ◌↔◌, ℕ, ◌+◌, ◌<◌, ◌^◌, ◌==◌, ◌&&◌, max, not, Bool, true, false, cond, Option, Some, None, List, [], ◌∷◌, ◌++◌, refl, sym, ap, ◌∙◌, subst, arith}
use Rattle.std.specs.Prelude.{Result, Ok, Err, IsSome}
use Rattle.std.specs.Cmp.{IsEquivalence}
use Rattle.std.proofs.lemmas.Bool.{eqb-true, eq-eqb}
use Rattle.std.proofs.lemmas.List.{append_assoc}
use Rattle.moka_policy.specs.declared.policy.Refused.{Refused}
use Rattle.moka_policy.specs.declared.policy.Refused.TheVariants.{OutOfMemory, NumbersUsedUp}
use Rattle.moka_model.specs.declared.turns.Kind.TheVariants.{With}
use Rattle.moka_model.specs.Lives.{Settings, Write}
use Rattle.moka_model.specs.Events.{Event, Looked, Written, Maintained, Passed}
use Rattle.moka_model.specs.Numbers.{drawn_in, next_number, greatest_number, stores_nothing, is_flush_due}
use Rattle.moka_model.specs.Turns.{Turn, found, is_open_for}
use Rattle.moka_model.specs.Steps.{AcceptedStep, events_in, turns}
use Rattle.moka_model.specs.Calls.{Reply, Entry, Begin, OrInsert, Entered, IsCopiedReply, IsCopiedEntry, WantsNumber, acceptable, accepted, after, begun, entry_of, fresh_entry, live_at, or_inserted, with_step, write_events}
use Rattle.moka_model.specs.StandsFor.{View, StandsFor}
use Rattle.moka_model.proofs.Callers.{IsViewOf, whole, view-of, stands-after}
use Rattle.moka_expiration.specs.declared.expiration_policy.ExpirationPolicy.{ExpirationPolicy}
use Rattle.moka_table.specs.declared.write_slot.WritePlan.{WritePlan}
use Rattle.moka_table.specs.declared.write_slot.NewValue.{NewValue}
use Rattle.moka_table.specs.WriteSlot.{IsPlanOf}
use Rattle.moka_table.specs.Table.{Contents}
use Rattle.moka_housekeeper.specs.Write.{WritesAt}
use Rattle.moka_state.specs.Given.{Gives}
use Rattle.moka_state.specs.State.{IsSound}
use Rattle.moka_state.proofs.Becoming.{HasNoted, becomes-passed}
use Rattle.moka_state.proofs.Begins.{after-found, looks-in-vain}
use Rattle.moka_state.proofs.Inserts.{view-nothing, view-written}
use Rattle.moka_state.proofs.Maintained.{HasLives}
use Rattle.moka_state.proofs.Turns.{gives-accepted, gives-memory, no-less}
use Rattle.moka_state.proofs.Views.{view_with, view-becomes}

-- what is acceptable is live
pub acceptable-live : {K V : Type 0} (said : Option Bool) (o : Option (Write K V)) (w : Write K V) → acceptable said o ≡ Some w → IsSome o
acceptable-live said (Some v) w is = refl
acceptable-live None None w is = cc
acceptable-live (Some false) None w is = cc
acceptable-live (Some true) None w is = cc

module _ {K V E : Type 0} (eq : K → K → Bool) (is_clone : V → V → Type 0) (is_infallible : V → Type 0) (settings : Settings K V) (steps : List (AcceptedStep K V E)) (k : K) (v : V) (at : ℕ) where
  abbrev h : List (Event K V)
  h = events_in steps

  abbrev Inserts : Result (Reply K V E) Refused → Type 0
  Inserts = Gives eq is_clone is_infallible settings steps (OrInsert k v at)

  -- the events of a lookup, and of a write after its flush or of a moment that passes
  abbrev looked-written : Bool → Bool → List (Event K V)
  looked-written nothing due = cond nothing (Passed at ∷ []) (Written k v at ∷ cond due (Maintained settings.flush_limit at ∷ []) []) ++ Looked k at ∷ []

  drawn-by : (nothing due : Bool) → (0 < drawn_in (looked-written nothing due)) ↔ (nothing ≡ false)
  drawn-by true due = (λ less. absurd (no-less less), λ e. absurd (no_true e))
    where
      no_true : true ≡ false → ⊥
      no_true e = cc
  drawn-by false true = (λ _. refl, λ _. omega arith)
  drawn-by false false = (λ _. refl, λ _. omega arith)

  accepted-or : (o : Option (Write K V)) → live_at eq settings k at h ≡ o → accepted eq settings steps (OrInsert k v at) ≡ Some (or_inserted eq settings h k v at o)
  accepted-or o is = ap (λ w. Some (or_inserted {E = E} eq settings h k v at w)) is

  -- a begin that returns an entry has found the live value
  begins-live : (o : Option (Write K V)) (t : Option (Turn K V E)) (e : Entry K V) → IsCopiedReply is_clone (begun eq settings h k With None at o t).reply (Entered e) → (w : Write K V) × (o ≡ Some w) × IsCopiedEntry is_clone (entry_of w) e
  begins-live (Some w) t e is = (w, refl, is)
  begins-live None (Some t) e is = cc
  begins-live None None e is = cc

  module _ (e : Entry K V) (begins : Gives eq is_clone is_infallible settings steps (Begin k With None at) (Ok (Entered e))) where
    it : (w : Write K V) × (live_at eq settings k at h ≡ Some w) × IsCopiedEntry is_clone (entry_of w) e
    it = begins-live (live_at eq settings k at h) (found (is_open_for eq With k) (turns steps)) e begins.0

    -- a live value is found, as by a begin,
    pub or-found : Inserts (Ok (Entered e))
    or-found = gives-accepted eq is_clone is_infallible settings steps (OrInsert k v at) (or_inserted eq settings h k v at (Some it.0)) (Entered e) (accepted-or (Some it.0) it.1) it.2 (λ out. no-less out.0)

    -- and used as by it
    pub or-used : after eq settings (Begin k With None at) steps ≡ after eq settings (OrInsert k v at) steps
    or-used =
        after-found eq is_clone is_infallible settings steps k With None at (λ no. cc) it.0 it.1
        ∙ sym (ap (λ a. with_step a steps) (accepted-or (Some it.0) it.1))

  -- if cloning a live value fails, no sequence number was needed
  pub or-uncopied : IsSome (live_at eq settings k at h) → Inserts (Err OutOfMemory)
  or-uncopied live = go (live_at eq settings k at h) refl live
    where
      go : (o : Option (Write K V)) → live_at eq settings k at h ≡ o → IsSome o → Inserts (Err OutOfMemory)
      go None is some = cc
      go (Some w) is some = gives-memory eq is_clone is_infallible settings steps (OrInsert k v at) (or_inserted eq settings h k v at (Some w)) (accepted-or (Some w) is) tt (λ out. no-less out.0)

  -- Where none is live, a value is written.
  module _ (none : live_at eq settings k at h ≡ None) where
    abbrev it_written : List (Event K V)
    it_written = write_events eq settings k v at (Looked k at ∷ h) ++ Looked k at ∷ []

    -- it draws a number and none is left
    abbrev pub OrOutOfNumbers : Type 0
    OrOutOfNumbers = (0 < drawn_in it_written) × (next_number settings h ≡ greatest_number)

    draws : (0 < drawn_in it_written) ↔ (stores_nothing settings.max_capacity ≡ false)
    draws = drawn-by (stores_nothing settings.max_capacity) (is_flush_due eq settings (Looked k at ∷ h))

    -- if the state's own check says so, the call is not out of sequence numbers
    pub or-left : (capacity : Option ℕ) (next : ℕ) → capacity ≡ settings.max_capacity → next ≡ next_number settings h → (not (stores_nothing capacity) && (next == greatest_number)) ≡ false → ¬ OrOutOfNumbers
    or-left capacity next same counted left out =
        let stores : stores_nothing capacity ≡ false = ap stores_nothing same ∙ draws.0 out.0 in
        let used_up : (next == greatest_number) ≡ true = eq-eqb next greatest_number (counted ∙ out.1) in
        let no : true ≡ false = sym (ap (λ b. not b && (next == greatest_number)) stores ∙ used_up) ∙ left in
        cc

    pub or-written : (e : Entry K V) → IsCopiedEntry is_clone (fresh_entry k v false) e → ¬ OrOutOfNumbers → Inserts (Ok (Entered e))
    or-written e same left = gives-accepted eq is_clone is_infallible settings steps (OrInsert k v at) (or_inserted eq settings h k v at None) (Entered e) (accepted-or None none) same left

    pub or-memory : ¬ OrOutOfNumbers → Inserts (Err OutOfMemory)
    or-memory left = gives-memory eq is_clone is_infallible settings steps (OrInsert k v at) (or_inserted eq settings h k v at None) (accepted-or None none) tt left

    pub or-full : (capacity : Option ℕ) (next : ℕ) → capacity ≡ settings.max_capacity → next ≡ next_number settings h → (not (stores_nothing capacity) && (next == greatest_number)) ≡ true → Inserts (Err NumbersUsedUp)
    or-full capacity next same counted full =
        let both = wanted (stores_nothing capacity) (next == greatest_number) full in
        subst (WantsNumber (next_number settings h) (turns steps)) (sym (accepted-or None none))
        (draws.1 (sym (ap stores_nothing same) ∙ both.0), sym counted ∙ eqb-true next greatest_number both.1)
      where
        wanted : (nothing used_up : Bool) → (not nothing && used_up) ≡ true → (nothing ≡ false) × (used_up ≡ true)
        wanted true used_up e = cc
        wanted false used_up e = (refl, e)

    -- The state then stands for the steps with the lookup and the write.
    pub or-stands : (view : View K V) (rows : List (Turn K V E)) → StandsFor eq is_clone settings (whole view rows) steps → (new : View K V) → IsViewOf eq settings new (write_events eq settings k v at (Looked k at ∷ h) ++ Looked k at ∷ h)
        → StandsFor eq is_clone settings (whole new rows) (after eq settings (OrInsert k v at) steps)
    or-stands view rows stands new is =
        stands-after eq settings view steps stands (OrInsert k v at) new it_written
        (ap (λ a. with_step a steps) (accepted-or None none))
        (subst (IsViewOf eq settings new) (sym (append_assoc (write_events eq settings k v at (Looked k at ∷ h)) (Looked k at ∷ []) h)) is)

-- a moment that was recorded is no later
max-again : (a b : ℕ) → max (max a b) b ≡ max a b
max-again a b = omega arith

-- What a lookup that finds no live value, and the write after it, make of a view.
module _ {K V E : Type 0} (eq : K → K → Bool) {is_clone : V → V → Type 0} {rows : List (Turn K V E)} (laws : IsEquivalence eq) (settings : Settings K V) (contents : Contents K V) (frequency noted : List ℕ → ℕ → ℕ) (latest number : ℕ)
    (given : Settings K V) (steps : List (AcceptedStep K V E)) (stands : StandsFor eq is_clone given (whole (view_with settings contents frequency latest number) rows) steps)
    (key : K) (at : ℕ) (none : live_at eq given key at (events_in steps) ≡ None) (notes : HasNoted eq settings contents frequency latest number key noted) where
  abbrev looked : List (Event K V)
  looked = Looked key at ∷ events_in steps

  view-looked : IsViewOf eq given (view_with settings contents noted (max latest at) number) looked
  view-looked =
      view-becomes eq laws given (view_with settings contents frequency latest number) (view_with settings contents noted (max latest at) number) (events_in steps) (Looked key at)
      (view-of eq given (view_with settings contents frequency latest number) steps stands)
      (looks-in-vain eq laws settings contents frequency latest number given steps stands None key at none noted notes)

  -- where the capacity is 0, its moment passes,
  pub view-passed : (v : V) → stores_nothing settings.max_capacity ≡ true → IsViewOf eq given (view_with settings contents noted (max latest at) number) (write_events eq given key v at looked ++ looked)
  view-passed v nothing =
      subst (λ m. IsViewOf eq given (view_with settings contents noted m number) (write_events eq given key v at looked ++ looked)) (max-again latest at)
      (view-nothing eq laws given (view_with settings contents noted (max latest at) number) looked view-looked (view_with settings contents noted (max (max latest at) at) number) key v at nothing
      (becomes-passed eq settings contents noted (max latest at) number at))

  -- and else the value is written to its place
  pub view-or-written : (lives : ExpirationPolicy) → HasLives settings lives → (new : Contents K V) → {keeps : K → V → Type 0} → IsSound keeps settings.behaviour.hash lives contents
      → ((a b : K) → eq a b ≡ true → settings.behaviour.hash a ≡ settings.behaviour.hash b) → (it : NewValue V) → it.hash ≡ settings.behaviour.hash key → it.weight ≡ settings.behaviour.weight key it.value → it.now ≡ max latest at → max latest at < 2 ^ 64
      → (place : WritePlan K) (replaced : Bool) → IsPlanOf eq key it.hash contents place → WritesAt eq settings.behaviour lives (noted []) settings.max_capacity settings.flush_limit place it contents new replaced → stores_nothing settings.max_capacity ≡ false
      → IsViewOf eq given (view_with settings new noted (max latest at) (number + 1)) (write_events eq given key it.value at looked ++ looked)
  view-or-written lives expired_alike new sound respects it hashed weighed timed is_moment place replaced is wrote stores =
      subst (λ m. IsViewOf eq given (view_with settings new noted m (number + 1)) (write_events eq given key it.value at looked ++ looked)) (max-again latest at)
      (view-written eq laws given settings lives expired_alike noted contents new (max latest at) number looked view-looked sound respects key at it hashed weighed (timed ∙ sym (max-again latest at)) (subst (λ m. m < 2 ^ 64) (sym (max-again latest at)) is_moment) place replaced is wrote stores)
