-- What a maintenance leaves in each segment.
use Rattle.std.proofs.Common.{◌≡◌, ℕ, ◌+◌, ◌≤◌, Bool, true, false, ◌||◌, Option, Some, None, IfSome, List, [], ◌∷◌, ◌++◌, length, map, option_map, refl, sym, ap, ◌∙◌, subst, ⊎_elim, set, append-nil, arith}
use Rattle.std.specs.List.{slice_get, All, AllByRecursion}
use Rattle.std.proofs.lemmas.List.Elements.{recursion_from_All}
use Rattle.std.proofs.lemmas.Option.{slice_get-map}
use Rattle.std.proofs.lemmas.Bool.Decides.{eqb_tells}
use Rattle.moka_model.specs.Admission.{frequency, wins}
use Rattle.moka_model.specs.Events.{Event, Maintained, latest}
use Rattle.moka_model.specs.Lives.{Behaviour, Settings, Write, is_live}
use Rattle.moka_model.specs.Maintenance.{Queues, total}
use Rattle.moka_model.specs.Orders.{orders}
use Rattle.moka_model.specs.SizeLaws.{WeighsOnes}
use Rattle.moka_model.specs.Calls.{Call, RunPendingTasks}
use Rattle.moka_model.specs.StandsFor.{Books, StandsFor}
use Rattle.moka_model.proofs.Callers.{All-live-after, maintained-none_waits, maintained-weighted_size-le, maintained-entry_count-le}
use Rattle.moka_expiration.specs.Behaviour.{BehaviourData}
use Rattle.moka_expiration.specs.StateData.{StateData, view_by}
use Rattle.moka_state.specs.State.{all_writes}
use Rattle.moka_segment_model.specs.Segments.{SegmentedSettings, share, segments_of, share_settings, steps_in, events_of, AllStandFor}
use Rattle.moka_segment_model.proofs.Callers.{slice_get-set_same, slice_get-set_other}
use Rattle.moka_segmented.specs.SegmentedData.{SegmentedData, segmented_view_by, state_at, stored_at, weight_at}
use Rattle.moka_segmented.specs.Maintained.{AllLiveIn, WeighWithinShares, CountWithinShares}

-- what is said of the old and of the new state at each place still is, with one state more
pub each-more : {S : Type 0} (R : Option S → Option S → Type 0) (old now : List S) (i : ℕ) (s t : S) → slice_get now i ≡ Some s → slice_get old i ≡ Some s → R (Some s) (Some t) → ((j : ℕ) → R (slice_get old j) (slice_get now j))
    → (j : ℕ) → R (slice_get old j) (slice_get (set now i t) j)
each-more R old now i s t here before holds was j =
    ⊎_elim
    (λ same.
    let then : slice_get (set now i t) j ≡ Some t = ap (slice_get (set now i t)) same.1 ∙ slice_get-set_same now i t s here in
    let first : slice_get old j ≡ Some s = ap (slice_get old) same.1 ∙ before in
    rw (then, first) holds)
    (λ other. rw (slice_get-set_other now i j t other.1) (was j))
    (eqb_tells j i)

-- where none of two left a part, neither did
pub not-left : (a b : Bool) → a || b ≡ false → a ≡ false
not-left true b none = cc
not-left false b none = refl

pub none-left : (a b : Bool) → a || b ≡ false → b ≡ false
none-left true b none = cc
none-left false b none = none

-- all that stands after a maintenance is live
all-live : {K V : Type 0} (eq : K → K → Bool) (settings : Settings K V) (h : List (Event K V)) (at : ℕ)
    → AllByRecursion (λ (w : Write K V). is_live settings w (latest (Maintained None at ∷ h)) ≡ true) ((orders eq settings (Maintained None at ∷ h)).admitted ++ (orders eq settings (Maintained None at ∷ h)).waiting)
all-live {K} {V} eq settings h at =
    let now : ℕ = latest (Maintained None at ∷ h) in
    let live : Write K V → Type 0 = λ w. is_live settings w now ≡ true in
    let after : Queues (Write K V) = orders eq settings (Maintained None at ∷ h) in
    let alive : All live after.admitted = All-live-after (λ (w : Write K V). w.policy_weight) settings.max_capacity (λ (w : Write K V). is_live settings w now) (wins settings (frequency settings h)) (orders eq settings h) in
    let none : after.waiting ≡ [] = maintained-none_waits eq settings (frequency settings h) now (orders eq settings h) in
    rw (none, append-nil after.admitted) (recursion_from_All live after.admitted alive)

module _ {K V H W X F : Type 0} (E : Type 0) (eq : K → K → Bool) {is_clone : V → V → Type 0} (behaviour : BehaviourData H W X → Behaviour K V) (frequency_in : F → List ℕ → ℕ → ℕ) (opened : F) (cache : SegmentedData K V H W X F E)
    (given : SegmentedSettings K V) (calls : List (Call K V E)) (at : ℕ) (stand : AllStandFor eq is_clone given (segmented_view_by behaviour frequency_in opened cache) (RunPendingTasks at ∷ calls)) where
  share-is : (capacity : ℕ) → cache.settings.max_capacity ≡ Some capacity → (share_settings given).max_capacity ≡ Some (share (segments_of given) capacity)
  share-is capacity some = ap (option_map (share (segments_of given))) (ap (λ (s : SegmentedSettings K V). s.whole.max_capacity) (sym stand.settings) ∙ some)

  books-are : (i : ℕ) (state : StateData K V H W X F E) → slice_get cache.segments i ≡ Some state → StandsFor eq is_clone (share_settings given) (view_by behaviour frequency_in opened state) (steps_in E eq given (RunPendingTasks at ∷ calls) i)
  books-are i state e =
      let here : slice_get (map (view_by behaviour frequency_in opened) cache.segments) i ≡ Some (view_by behaviour frequency_in opened state) = slice_get-map (view_by behaviour frequency_in opened) cache.segments i ∙ ap (option_map (view_by behaviour frequency_in opened)) e in
      rw here at (stand.each i)

  -- after a maintenance of each segment all that is stored is live,
  pub live-in : AllLiveIn eq given calls at cache
  live-in i = by (slice_get cache.segments i) refl
    where
      by : (o : Option (StateData K V H W X F E)) → slice_get cache.segments i ≡ o → IfSome o (λ state. AllByRecursion (λ w. is_live (share_settings given) w (latest (Maintained None at ∷ events_of E eq given calls i)) ≡ true) (all_writes state))
      by None e = tt
      by (Some state) e =
          subst (λ (b : Books K V). AllByRecursion (λ w. is_live (share_settings given) w (latest (Maintained None at ∷ events_of E eq given calls i)) ≡ true) (b.orders.admitted ++ b.orders.waiting)) (sym (books-are i state e).books)
          (all-live eq (share_settings given) (events_of E eq given calls i) at)

  -- each segment weighs no more than its share,
  pub weigh-within : WeighWithinShares given cache
  weigh-within = by cache.settings.max_capacity refl
    where
      each : (capacity : ℕ) → cache.settings.max_capacity ≡ Some capacity → (i : ℕ) (o : Option (StateData K V H W X F E)) → slice_get cache.segments i ≡ o
          → state_at (λ state. total (λ w. w.policy_weight) (all_writes state)) 0 o ≤ share (segments_of given) capacity
      each capacity some i None e = omega arith
      each capacity some i (Some state) e =
          let few = maintained-weighted_size-le eq (share_settings given) (events_of E eq given calls i) at (share (segments_of given) capacity) (share-is capacity some) in
          let weighed = ap (λ (b : Books K V). total (λ (w : Write K V). w.policy_weight) (b.orders.admitted ++ b.orders.waiting)) (books-are i state e).books in
          omega (arith, few, weighed)

      by : (o : Option ℕ) → cache.settings.max_capacity ≡ o → IfSome o (λ capacity. (i : ℕ) → weight_at cache.segments i ≤ share (segments_of given) capacity)
      by None e = tt
      by (Some capacity) e = λ i. each capacity e i (slice_get cache.segments i) refl

  -- and where each entry weighs one, it stores no more
  pub count-within : WeighsOnes (segmented_view_by behaviour frequency_in opened cache).settings.whole → CountWithinShares given cache
  count-within ones = by cache.settings.max_capacity refl
    where
      each : (capacity : ℕ) → cache.settings.max_capacity ≡ Some capacity → (i : ℕ) (o : Option (StateData K V H W X F E)) → slice_get cache.segments i ≡ o
          → state_at (λ state. length (all_writes state)) 0 o ≤ share (segments_of given) capacity
      each capacity some i None e = omega arith
      each capacity some i (Some state) e =
          let weighs : WeighsOnes given.whole = λ k v. ap (λ (s : SegmentedSettings K V). s.whole.behaviour.weight k v) (sym stand.settings) ∙ ones k v in
          let few = maintained-entry_count-le eq (share_settings given) weighs (events_of E eq given calls i) at (share (segments_of given) capacity) (share-is capacity some) in
          let counted = ap (λ (b : Books K V). length (b.orders.admitted ++ b.orders.waiting)) (books-are i state e).books in
          omega (arith, few, counted)

      by : (o : Option ℕ) → cache.settings.max_capacity ≡ o → IfSome o (λ capacity. (i : ℕ) → stored_at cache.segments i ≤ share (segments_of given) capacity)
      by None e = tt
      by (Some capacity) e = λ i. each capacity e i (slice_get cache.segments i) refl
