-- A loader on the state of a key's segment is that loader on all segments.
use Rattle.std.proofs.Common.{◌≡◌, ℕ, ◌==◌, Bool, true, false, Option, Some, None, Result, Ok, Err, List, ◌∷◌, refl, sym, ap, ◌∙◌, subst, fold, set}
use Rattle.moka_policy.specs.declared.policy.Refused.{Refused}
use Rattle.moka_model.specs.declared.turns.Kind.{Kind}
use Rattle.moka_model.specs.declared.turns.Kind.TheVariants.{With, Optionally, Try, Compute}
use Rattle.moka_model.specs.declared.turns.Op.{Op}
use Rattle.moka_model.specs.declared.turns.Outcome.{Outcome}
use Rattle.moka_model.specs.declared.turns.Outcome.TheVariants as outcomes
use Rattle.moka_model.specs.Lives.{Behaviour, Settings, Write}
use Rattle.moka_model.specs.Events.{Event}
use Rattle.moka_model.specs.Steps.{AcceptedStep, events_in, turns}
use Rattle.moka_model.specs.Turns.{Name, Turn, found, is_open_for}
use Rattle.moka_model.specs.Calls.{Call, Entry, Reply, Abandon, Begin, BeginCompute, Finish, Run, IsCopiedReply, acceptable, after, begun, begun_compute, live_at}
use Rattle.moka_model.specs.StandsFor.{StandsFor}
use Rattle.moka_expiration.specs.Behaviour.{BehaviourData, hash_by}
use Rattle.moka_expiration.specs.StateData.{StateData, view_by}
use Rattle.moka_state.specs.ComputeForms.{EndsCompute, IsComputeForm}
use Rattle.moka_state.specs.Forms.{EndsTurn, IsForm, IfRefusedUnasked, end_call}
use Rattle.moka_state.specs.Given.{FailsAtOnce, Gives}
use Rattle.moka_segment_model.specs.Segments.{SegmentedSettings, One, segment_of_place, segment_of, segment_of_key, steps_in, place_of, share_settings, AllStandFor, AtEachList, key_in}
use Rattle.moka_segment_model.proofs.Callers.{routed, eqb_refl, stand-here, steps-here, steps-apart}
use Rattle.moka_segmented.specs.SegmentedData.{SegmentedData, segmented_settings_by, segmented_view_by}
use Rattle.moka_segmented.specs.Forms.{EndsComputeIn, EndsTurnIn, IsComputeFormIn, IsFormIn}
use Rattle.moka_segmented.specs.Turns.{FailsAtOnceIn, GivesIn}
use Rattle.moka_segmented.proofs.Routed.{Routing, here-view, index-is, routed-stands}

-- what holds for a loader that fails before its closure runs follows from what held before
pub unasked-by : {K V E G : Type 0} {P Q : Type 0} (given : Option G) (answer : Result (Reply K V E) Refused) → (P → Q) → IfRefusedUnasked P given answer → IfRefusedUnasked Q given answer
unasked-by None (Ok a) implies is = tt
unasked-by None (Err cause) implies is = implies is
unasked-by (Some g) answer implies is = tt

-- equal keys hash alike
pub hash-alike : {K H S I : Type 0} (build_hasher : H → S) (write : S → List I → S) (finish : S → ℕ) (hasher : H) {hash_input : K → List (List I)} {eq : K → K → Bool} → ((a b : K) → eq a b ≡ true → hash_input a ≡ hash_input b)
    → (a b : K) → eq a b ≡ true → hash_by build_hasher write finish hash_input hasher a ≡ hash_by build_hasher write finish hash_input hasher b
hash-alike build_hasher write finish hasher respects a b same = ap (λ input. finish (fold write (build_hasher hasher) input)) (respects a b same)

-- so they are of one segment
pub routing-alike : {K V S : Type 0} (settings : SegmentedSettings K V) (states : List S) (here : S) (index : ℕ) (k q : K) → settings.whole.behaviour.hash k ≡ settings.whole.behaviour.hash q → Routing settings states here index k → Routing settings states here index q
routing-alike settings states here index k q alike routing = record { here_is = routing.here_is; is = routing.is ∙ ap (segment_of settings.bits) alike; within = routing.within }

-- A turn that a begin opens is of the key of the begin.
module _ {K V E : Type 0} (eq : K → K → Bool) (is_clone : V → V → Type 0) (is_infallible : V → Type 0) (settings : Settings K V) (name : Name K) where
  begun-key : (h : List (Event K V)) (k : K) (kind : Kind) (said : Option Bool) (now : ℕ) (shown : Option (Entry K V)) (o : Option (Write K V)) (t : Option (Turn K V E)) → IsCopiedReply is_clone (begun eq settings h k kind said now o t).reply (Run name shown) → name.key ≡ k
  begun-key h k kind said now shown (Some w) t is = cc
  begun-key h k kind said now shown None (Some t) is = cc
  begun-key h k kind said now shown None None is = ap (λ (n : Name K). n.key) is.0

  compute-key : (h : List (Event K V)) (k : K) (keep : Bool) (now : ℕ) (shown : Option (Entry K V)) (t : Option (Turn K V E)) → IsCopiedReply is_clone (begun_compute eq settings h k keep now t).reply (Run name shown) → name.key ≡ k
  compute-key h k keep now shown (Some t) is = cc
  compute-key h k keep now shown None is = ap (λ (n : Name K). n.key) is.0

  pub opened-key : (steps : List (AcceptedStep K V E)) (k : K) (kind : Kind) (said : Option Bool) (now : ℕ) (shown : Option (Entry K V)) → Gives eq is_clone is_infallible settings steps (Begin k kind said now) (Ok (Run name shown)) → name.key ≡ k
  opened-key steps k With said now shown gives = begun-key (events_in steps) k With said now shown (acceptable said (live_at eq settings k now (events_in steps))) (found (is_open_for eq With k) (turns steps)) gives.0
  opened-key steps k Optionally said now shown gives = begun-key (events_in steps) k Optionally said now shown (acceptable said (live_at eq settings k now (events_in steps))) (found (is_open_for eq Optionally k) (turns steps)) gives.0
  opened-key steps k Try said now shown gives = begun-key (events_in steps) k Try said now shown (acceptable said (live_at eq settings k now (events_in steps))) (found (is_open_for eq Try k) (turns steps)) gives.0
  opened-key steps k Compute said now shown gives = compute-key (events_in steps) k false now shown (found (is_open_for eq Compute k) (turns steps)) gives.0

  pub computed-key : (steps : List (AcceptedStep K V E)) (k : K) (keep : Bool) (now : ℕ) (shown : Option (Entry K V)) → Gives eq is_clone is_infallible settings steps (BeginCompute k keep now) (Ok (Run name shown)) → name.key ≡ k
  computed-key steps k keep now shown gives = compute-key (events_in steps) k keep now shown (found (is_open_for eq Compute k) (turns steps)) gives.0

-- what ends a turn is of the turn's key
end-key : {K V E : Type 0} (name : Name K) (outcome : Outcome V E) (now : ℕ) (answer : Result (Reply K V E) Refused) → key_in (end_call name outcome now answer) ≡ Some name.key
end-key name outcome now (Ok answer) = refl
end-key name outcome now (Err cause) = refl

-- Calls of a key that selects an index.
module _ {K V : Type 0} (E : Type 0) (eq : K → K → Bool) (given : SegmentedSettings K V) (index : ℕ) (k : K) (at : index ≡ segment_of_key given k) where
  place-is : (calls : List (Call K V E)) (call : Call K V E) → key_in call ≡ Some k → place_of E eq given calls call ≡ One index
  place-is calls call key = (routed E eq given k call calls key).place ∙ ap One (sym at)

  pub steps-of-key : (calls : List (Call K V E)) (call : Call K V E) → key_in call ≡ Some k → steps_in E eq given (call ∷ calls) index ≡ after eq (share_settings given) call (steps_in E eq given calls index)
  steps-of-key calls call key = steps-here E eq given calls call index (One index) (place-is calls call key) (eqb_refl index)

  pub steps-of-others : (calls : List (Call K V E)) (call : Call K V E) → key_in call ≡ Some k → (i : ℕ) → (i == index) ≡ false → steps_in E eq given (call ∷ calls) i ≡ steps_in E eq given calls i
  steps-of-others calls call key i other = steps-apart E eq given calls call i (One index) (place-is calls call key) other

  -- what is said of the steps at the index is said of those of the segment that is asked
  pub said-in : (P : List (AcceptedStep K V E) → Type 0) (calls : List (Call K V E)) (call : Call K V E) → key_in call ≡ Some k → P (steps_in E eq given calls index) → P (steps_in E eq given calls (segment_of_place (place_of E eq given calls call)))
  said-in P calls call key is = subst (λ place. P (steps_in E eq given calls (segment_of_place place))) (sym (place-is calls call key)) is

module _ {K V H W X F : Type 0} (E : Type 0) (eq : K → K → Bool) (behaviour : BehaviourData H W X → Behaviour K V) (frequency : F → List ℕ → ℕ → ℕ) (opened : F) (cache : SegmentedData K V H W X F E)
    (here : StateData K V H W X F E) (index : ℕ) (k : K) (routing : Routing (segmented_settings_by behaviour (frequency opened) cache) cache.segments here index k) (new : StateData K V H W X F E) (is_clone : V → V → Type 0) (is_infallible : V → Type 0)
    (the_begin : Call K V E) (keyed : key_in the_begin ≡ Some k) (now : ℕ)
    (opens : (s : Settings K V) (steps : List (AcceptedStep K V E)) (name : Name K) (shown : Option (Entry K V)) → Gives eq is_clone is_infallible s steps the_begin (Ok (Run name shown)) → name.key ≡ k) where
  abbrev StandsNew : Settings K V → List (AcceptedStep K V E) → Type 0
  StandsNew s steps = StandsFor eq is_clone s (view_by behaviour frequency opened new) steps

  abbrev StandNew : SegmentedSettings K V → List (Call K V E) → Type 0
  StandNew given calls = AllStandFor eq is_clone given (segmented_view_by behaviour frequency opened (record cache { segments = set cache.segments index new })) calls

  module _ (given : SegmentedSettings K V) (calls : List (Call K V E)) (stand : AllStandFor eq is_clone given (segmented_view_by behaviour frequency opened cache) calls) where
    abbrev share : Settings K V
    share = share_settings given

    abbrev steps : List (AcceptedStep K V E)
    steps = steps_in E eq given calls index

    at : index ≡ segment_of_key given k
    at = index-is E eq behaviour frequency opened cache here index k routing given calls stand

    begins : (result : Result (Reply K V E) Refused) → Gives eq is_clone is_infallible share steps the_begin result → GivesIn eq is_clone is_infallible given calls the_begin result
    begins result = said-in E eq given index k at (λ those. Gives eq is_clone is_infallible share those the_begin result) calls the_begin keyed

    fails : (cause : Refused) → FailsAtOnce eq is_clone is_infallible share steps the_begin cause → FailsAtOnceIn eq is_clone is_infallible given calls the_begin cause
    fails cause = said-in E eq given index k at (λ those. FailsAtOnce eq is_clone is_infallible share those the_begin cause) calls the_begin keyed

    -- after the begin
    first : steps_in E eq given (the_begin ∷ calls) index ≡ after eq share the_begin steps
    first = steps-of-key E eq given index k at calls the_begin keyed

    others : (i : ℕ) → (i == index) ≡ false → steps_in E eq given (the_begin ∷ calls) i ≡ steps_in E eq given calls i
    others = steps-of-others E eq given index k at calls the_begin keyed

    begun-stands : StandsNew share (after eq share the_begin steps) → StandNew given (the_begin ∷ calls)
    begun-stands stands = routed-stands E eq behaviour frequency opened cache here index k routing given calls (the_begin ∷ calls) new (subst (StandsNew share) (sym first) stands) others stand

    -- after the end of the turn
    ended-stands : (end : Call K V E) → key_in end ≡ Some k → StandsNew share (after eq share end (after eq share the_begin steps)) → StandNew given (end ∷ the_begin ∷ calls)
    ended-stands end key stands =
        routed-stands E eq behaviour frequency opened cache here index k routing given calls (end ∷ the_begin ∷ calls) new
        (subst (StandsNew share) (sym (steps-of-key E eq given index k at (the_begin ∷ calls) end key ∙ ap (after eq share end) first)) stands)
        (λ i other. steps-of-others E eq given index k at (the_begin ∷ calls) end key i other ∙ others i other)
        stand

    ends : (name : Name K) (outcome : Outcome V E) (result : Result (Reply K V E) Refused) → name.key ≡ k → EndsTurn eq is_clone is_infallible share (after eq share the_begin steps) name outcome now result (StandsNew share)
        → EndsTurnIn eq is_clone is_infallible given (the_begin ∷ calls) name outcome now result (StandNew given)
    ends name outcome result named is = (
      said-in E eq given index k at (λ those. Gives eq is_clone is_infallible share those (Finish name outcome now) result) (the_begin ∷ calls) (Finish name outcome now) (ap Some named)
          (subst (λ those. Gives eq is_clone is_infallible share those (Finish name outcome now) result) (sym first) is.0),
      ended-stands (end_call name outcome now result) (end-key name outcome now result ∙ ap Some named) is.1,
    )

    form-in : (o : Option (Outcome V E)) (result : Result (Reply K V E) Refused) → IsForm eq is_clone is_infallible share steps the_begin now o result (StandsNew share) → IsFormIn eq is_clone is_infallible given calls the_begin now o result (StandNew given)
    form-in None (Ok a) is = (is.0, begins (Ok a) is.1, begun-stands is.2)
    form-in None (Err cause) is = fails cause is
    form-in (Some outcome) result is = (is.0, begins (Ok (Run is.0 None)) is.1, ends is.0 outcome result (opens share steps is.0 None is.1) is.2)

    -- a compute's turn ends, or is abandoned
    computed : (name : Name K) (op : Option (Op V)) (result : Result (Reply K V E) Refused) → name.key ≡ k → EndsCompute eq is_clone is_infallible share (after eq share the_begin steps) name op now result (StandsNew share)
        → EndsComputeIn eq is_clone is_infallible given (the_begin ∷ calls) name op now result (StandNew given)
    computed name (Some op) result named is = ends name (outcomes.Op op) result named is
    computed name None result named is = (is.0, ended-stands (Abandon name) (ap Some named) is.1)

    compute-in : (shown : Option (Entry K V)) (o : Option (Option (Op V))) (result : Result (Reply K V E) Refused) → IsComputeForm eq is_clone is_infallible share steps the_begin now shown o result (StandsNew share)
        → IsComputeFormIn eq is_clone is_infallible given calls the_begin now shown o result (StandNew given)
    compute-in shown None (Ok a) is = is
    compute-in shown None (Err cause) is = fails cause is
    compute-in shown (Some op) result is = (is.0, begins (Ok (Run is.0 shown)) is.1, computed is.0 op result (opens share steps is.0 shown is.1) is.2)

  -- a loader on the state is that loader on all segments
  form-everywhere : (o : Option (Outcome V E)) (answer : Result (Reply K V E) Refused)
      → ((s : Settings K V) (steps : List (AcceptedStep K V E)) → StandsFor eq is_clone s (view_by behaviour frequency opened here) steps → IsForm eq is_clone is_infallible s steps the_begin now o answer (StandsNew s))
      → AtEachList eq is_clone (segmented_view_by behaviour frequency opened cache) (λ given calls. IsFormIn eq is_clone is_infallible given calls the_begin now o answer (StandNew given))
  form-everywhere o answer form given calls stand =
      form-in given calls stand o answer
      (form (share_settings given) (steps_in E eq given calls index)
      (stand-here E eq given (segmented_view_by behaviour frequency opened cache) calls index (view_by behaviour frequency opened here) (here-view E eq behaviour frequency opened cache here index k routing) stand))

  -- and so is a compute
  compute-everywhere : (shown : Option (Entry K V)) (o : Option (Option (Op V))) (answer : Result (Reply K V E) Refused)
      → ((s : Settings K V) (steps : List (AcceptedStep K V E)) → StandsFor eq is_clone s (view_by behaviour frequency opened here) steps → IsComputeForm eq is_clone is_infallible s steps the_begin now shown o answer (StandsNew s))
      → AtEachList eq is_clone (segmented_view_by behaviour frequency opened cache) (λ given calls. IsComputeFormIn eq is_clone is_infallible given calls the_begin now shown o answer (StandNew given))
  compute-everywhere shown o answer form given calls stand =
      compute-in given calls stand shown o answer
      (form (share_settings given) (steps_in E eq given calls index)
      (stand-here E eq given (segmented_view_by behaviour frequency opened cache) calls index (view_by behaviour frequency opened here) (here-view E eq behaviour frequency opened cache here index k routing) stand))

module _ {K V H W X F : Type 0} (E : Type 0) (eq : K → K → Bool) (behaviour : BehaviourData H W X → Behaviour K V) (frequency : F → List ℕ → ℕ → ℕ) (opened : F) (cache : SegmentedData K V H W X F E)
    (here : StateData K V H W X F E) (index : ℕ) (k : K) (routing : Routing (segmented_settings_by behaviour (frequency opened) cache) cache.segments here index k) (new : StateData K V H W X F E) (is_clone : V → V → Type 0) (is_infallible : V → Type 0) where
  abbrev StandsThen : Settings K V → List (AcceptedStep K V E) → Type 0
  StandsThen s steps = StandsFor eq is_clone s (view_by behaviour frequency opened new) steps

  abbrev StandThen : SegmentedSettings K V → List (Call K V E) → Type 0
  StandThen given calls = AllStandFor eq is_clone given (segmented_view_by behaviour frequency opened (record cache { segments = set cache.segments index new })) calls

  pub routed-form : (kind : Kind) (said : Option Bool) (now : ℕ) (o : Option (Outcome V E)) (answer : Result (Reply K V E) Refused)
      → ((s : Settings K V) (steps : List (AcceptedStep K V E)) → StandsFor eq is_clone s (view_by behaviour frequency opened here) steps → IsForm eq is_clone is_infallible s steps (Begin k kind said now) now o answer (StandsThen s))
      → AtEachList eq is_clone (segmented_view_by behaviour frequency opened cache) (λ given calls. IsFormIn eq is_clone is_infallible given calls (Begin k kind said now) now o answer (StandThen given))
  routed-form kind said now o answer form =
      form-everywhere E eq behaviour frequency opened cache here index k routing new is_clone is_infallible (Begin k kind said now) refl now
      (λ s steps name shown gives. opened-key eq is_clone is_infallible s name steps k kind said now shown gives) o answer form

  pub routed-compute : (keep : Bool) (now : ℕ) (shown : Option (Entry K V)) (o : Option (Option (Op V))) (answer : Result (Reply K V E) Refused)
      → ((s : Settings K V) (steps : List (AcceptedStep K V E)) → StandsFor eq is_clone s (view_by behaviour frequency opened here) steps → IsComputeForm eq is_clone is_infallible s steps (BeginCompute k keep now) now shown o answer (StandsThen s))
      → AtEachList eq is_clone (segmented_view_by behaviour frequency opened cache) (λ given calls. IsComputeFormIn eq is_clone is_infallible given calls (BeginCompute k keep now) now shown o answer (StandThen given))
  routed-compute keep now shown o answer form =
      compute-everywhere E eq behaviour frequency opened cache here index k routing new is_clone is_infallible (BeginCompute k keep now) refl now
      (λ s steps name shown_too gives. computed-key eq is_clone is_infallible s name steps k keep now shown_too gives) shown o answer form
