-- How many writes each segment may store.
use Rattle.std.proofs.Common.{◌≡◌, ℕ, suc, ◌+◌, ◌≤◌, Bool, Option, Some, None, IfSome, List, [], ◌∷◌, ◌++◌, length, map, option_map, refl, sym, ap, ◌∙◌, subst, arith}
use Rattle.std.specs.List.{slice_get, AllByRecursion}
use Rattle.std.proofs.lemmas.Option.{slice_get-map}
use Rattle.moka_model.specs.Lives.{Behaviour}
use Rattle.moka_model.specs.Numbers.{flush_point}
use Rattle.moka_model.specs.SizeLaws.{WeighsOnes, LimitsSome}
use Rattle.moka_model.specs.Calls.{Call}
use Rattle.moka_model.specs.StandsFor.{Books, StandsFor}
use Rattle.moka_model.proofs.Callers.{entry_count-le}
use Rattle.moka_expiration.specs.Behaviour.{BehaviourData}
use Rattle.moka_expiration.specs.StateData.{StateData, view_by}
use Rattle.moka_state.specs.State.{all_writes}
use Rattle.moka_segment_model.specs.Segments.{SegmentedSettings, share, segments_of, share_settings, steps_in, AllStandFor}
use Rattle.moka_segmented.specs.SegmentedData.{SegmentedData, segmented_view_by}

-- what holds at each place of a list holds of all in it
pub all-at : {X : Type 0} (P : X → Type 0) (xs : List X) → ((i : ℕ) → IfSome (slice_get xs i) P) → AllByRecursion P xs
all-at P [] each = tt
all-at P (x ∷ xs) each = (each 0, all-at P xs (λ i. each (suc i)))

module _ {K V H W X F : Type 0} (E : Type 0) (eq : K → K → Bool) {is_clone : V → V → Type 0} (behaviour : BehaviourData H W X → Behaviour K V) (frequency : F → List ℕ → ℕ → ℕ) (opened : F) (cache : SegmentedData K V H W X F E)
    (given : SegmentedSettings K V) (calls : List (Call K V E)) (stand : AllStandFor eq is_clone given (segmented_view_by behaviour frequency opened cache) calls) where
  -- where each weighs one, with a capacity, each segment stores as many at most as its share and the flush point together
  pub all-bounded : WeighsOnes (segmented_view_by behaviour frequency opened cache).settings.whole → LimitsSome cache.settings.flush_limit
      → IfSome cache.settings.max_capacity (λ capacity. AllByRecursion (λ state. length (all_writes state) ≤ share (segments_of given) capacity + flush_point) cache.segments)
  all-bounded ones some_limit = by cache.settings.max_capacity refl
    where
      each : (capacity : ℕ) → cache.settings.max_capacity ≡ Some capacity → (i : ℕ) (o : Option (StateData K V H W X F E)) → slice_get cache.segments i ≡ o
          → IfSome o (λ state. length (all_writes state) ≤ share (segments_of given) capacity + flush_point)
      each capacity some i None e = tt
      each capacity some i (Some state) e =
          let here : slice_get (map (view_by behaviour frequency opened) cache.segments) i ≡ Some (view_by behaviour frequency opened state) = slice_get-map (view_by behaviour frequency opened) cache.segments i ∙ ap (option_map (view_by behaviour frequency opened)) e in
          let one : StandsFor eq is_clone (share_settings given) (view_by behaviour frequency opened state) (steps_in E eq given calls i) = rw here at (stand.each i) in
          let whole : given.whole.max_capacity ≡ Some capacity = ap (λ (s : SegmentedSettings K V). s.whole.max_capacity) (sym stand.settings) ∙ some in
          let weighs : WeighsOnes given.whole = λ k v. ap (λ (s : SegmentedSettings K V). s.whole.behaviour.weight k v) (sym stand.settings) ∙ ones k v in
          let limits : LimitsSome given.whole.flush_limit = subst (λ (s : SegmentedSettings K V). LimitsSome s.whole.flush_limit) stand.settings some_limit in
          let few = entry_count-le eq (share_settings given) weighs limits (steps_in E eq given calls i) (share (segments_of given) capacity) (ap (option_map (share (segments_of given))) whole) one.legal in
          let counted = ap (λ (b : Books K V). length (b.orders.admitted ++ b.orders.waiting)) one.books in
          omega (arith, few, counted)

      by : (o : Option ℕ) → cache.settings.max_capacity ≡ o → IfSome o (λ capacity. AllByRecursion (λ state. length (all_writes state) ≤ share (segments_of given) capacity + flush_point) cache.segments)
      by None e = tt
      by (Some capacity) e = all-at (λ state. length (all_writes state) ≤ share (segments_of given) capacity + flush_point) cache.segments (λ i. each capacity e i (slice_get cache.segments i) refl)
