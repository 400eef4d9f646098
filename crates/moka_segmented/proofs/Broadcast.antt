-- A call to each state of a vector, one after another.
use Rattle.std.proofs.Common.{◌≡◌, ◌≢◌, ◌⊎◌, inl, inr, ℕ, zero, suc, ◌+◌, ◌<◌, ◌≤◌, Bool, true, false, ◌||◌, ◌==◌, cond, ◌↔◌, IsSome, IfSome, Option, Some, None, List, length, map, option_map, refl, sym, ap, ◌∙◌, subst, ⊎_elim, set, arith}
use Rattle.std.specs.List.{slice_get}
use Rattle.std.proofs.lemmas.Option.{slice_get_past, slice_get-map}
use Rattle.std.proofs.lemmas.List.{length-map}
use Rattle.std.proofs.lemmas.Nat.{pow_pos}
use Rattle.std.proofs.lemmas.Bool.Decides.{eqb_tells}
use Rattle.moka_model.specs.Lives.{Behaviour, Settings}
use Rattle.moka_model.specs.Orders.{is_left_at}
use Rattle.moka_model.specs.Calls.{Call, Reply, RunPendingTasksUpTo, Left}
use Rattle.moka_model.specs.StandsFor.{WholeView, StandsFor, Follows, RepliesWith}
use Rattle.moka_expiration.specs.Behaviour.{BehaviourData}
use Rattle.moka_expiration.specs.StateData.{SettingsData, StateData, view_by}
use Rattle.moka_segment_model.specs.Segments.{SegmentedSettings, Each, place_of, segments_of, share_settings, steps_in, events_of, any_below, AllStandFor, FollowsIn, RepliesIn}
use Rattle.moka_segment_model.proofs.Callers.{FollowsAt, slice_get-set_same, slice_get-set_other, length-set, eqb_refl, any_below-same, stand-each, there}
use Rattle.moka_segmented.specs.SegmentedData.{SegmentedData, segmented_view_by}

pub below-or-past : (a b : ℕ) → (a < b) ⊎ (b ≤ a)
below-or-past a zero = inr (omega arith)
below-or-past zero (suc b) = inl (omega arith)
below-or-past (suc a) (suc b) = ⊎_elim (λ lt. inl (omega (arith, lt))) (λ le. inr (omega (arith, le))) (below-or-past a b)

-- The first i of some states have followed a call, and the others are as they were.
pub record Progress {K V E S : Type 0} (eq : K → K → Bool) (is_clone : V → V → Type 0) (view : S → WholeView K V E) (call : Call K V E) (old now : List S) (i : ℕ) : Type 0 where
  pub count : length now ≡ length old
  pub done : (j : ℕ) → j < i → FollowsAt eq is_clone call (option_map view (slice_get old j)) (option_map view (slice_get now j))
  pub rest : (j : ℕ) → i ≤ j → slice_get now j ≡ slice_get old j

module _ {K V E S : Type 0} (eq : K → K → Bool) (is_clone : V → V → Type 0) (view : S → WholeView K V E) (call : Call K V E) where
  pub progress-none : (old : List S) → Progress eq is_clone view call old old 0
  progress-none old = record { count = refl; done = λ j lt. absurd (let no : ⊥ = omega arith in no); rest = λ j le. refl }

  -- one state more
  pub progress-more : (old now : List S) (i : ℕ) (s t : S) → slice_get now i ≡ Some s → Follows eq is_clone (view s) call (view t) → Progress eq is_clone view call old now i → Progress eq is_clone view call old (set now i t) (i + 1)
  progress-more old now i s t here follows was = record {
    count = length-set now i t ∙ was.count;
    done = λ j lt.
        ⊎_elim
        (λ same.
        let new : slice_get (set now i t) j ≡ Some t = ap (slice_get (set now i t)) same.1 ∙ slice_get-set_same now i t s here in
        let before : slice_get old j ≡ Some s = sym (was.rest j (omega (arith, same.1))) ∙ ap (slice_get now) same.1 ∙ here in
        rw (new, before) follows)
        (λ other. rw (slice_get-set_other now i j t other.1) (was.done j (below i j lt other.1)))
        (eqb_tells j i);
    rest = λ j le. slice_get-set_other now i j t (above i j le) ∙ was.rest j (omega arith);
  } where
    below : (i j : ℕ) → j < i + 1 → j ≢ i → j < i
    below i j lt ne = omega (arith, ne)

    above : (i j : ℕ) → i + 1 ≤ j → j ≢ i
    above i j le e = omega (arith, e)

  -- all states
  pub progress-all : (old now : List S) (i : ℕ) → i ≡ length old → Progress eq is_clone view call old now i → (j : ℕ) → FollowsAt eq is_clone call (slice_get (map view old) j) (slice_get (map view now) j)
  progress-all old now i all was j =
      rw (slice_get-map view old j, slice_get-map view now j)
      (⊎_elim (λ lt. was.done j (omega (arith, lt))) (λ le. rw (slice_get_past old j le, slice_get_past now j (omega (arith, was.count, le))) tt) (below-or-past j (length old)))

-- what the state at a place returns, where there is one
abbrev pub RepliesAt : {K V E : Type 0} → (K → K → Bool) → (V → V → Type 0) → Call K V E → Reply K V E → Option (WholeView K V E) → Type 0
RepliesAt eq is_clone call answer None = Unit {0}
RepliesAt eq is_clone call answer (Some v) = RepliesWith eq is_clone v call answer

-- The first i of some states have followed a call, and any of them left something exactly where this says so.
pub record Together {K V E S : Type 0} (eq : K → K → Bool) (is_clone : V → V → Type 0) (view : S → WholeView K V E) (call : Call K V E) (old now : List S) (left : Bool) (i : ℕ) : Type 0 where
  pub progress : Progress eq is_clone view call old now i
  pub answers : ℕ → Bool
  pub each : (j : ℕ) → j < i → RepliesAt eq is_clone call (Left (answers j)) (option_map view (slice_get old j))
  pub any : left ≡ any_below answers i

module _ {K V E S : Type 0} (eq : K → K → Bool) (is_clone : V → V → Type 0) (view : S → WholeView K V E) (call : Call K V E) where
  pub together-none : (old : List S) → Together eq is_clone view call old old false 0
  together-none old = record { progress = progress-none eq is_clone view call old; answers = λ j. false; each = λ j lt. absurd (let no : ⊥ = omega arith in no); any = refl }

  -- one state more
  pub together-more : (old now : List S) (left more : Bool) (i : ℕ) (s t : S) → slice_get now i ≡ Some s → Follows eq is_clone (view s) call (view t) → RepliesWith eq is_clone (view s) call (Left more)
      → Together eq is_clone view call old now left i → Together eq is_clone view call old (set now i t) (left || more) (i + 1)
  together-more old now left more i s t here follows answers was = record {
    progress = progress-more eq is_clone view call old now i s t here follows was.progress;
    answers = with_more;
    each = λ j lt.
        ⊎_elim
        (λ same.
        let before : slice_get old j ≡ Some s = sym (was.progress.rest j (omega (arith, same.1))) ∙ ap (slice_get now) same.1 ∙ here in
        let said : with_more j ≡ more = ap (λ b. cond b more (was.answers j)) same.0 in
        rw before (subst (λ b. RepliesWith eq is_clone (view s) call (Left b)) (sym said) answers))
        (λ other.
        let said : with_more j ≡ was.answers j = ap (λ b. cond b more (was.answers j)) other.0 in
        subst (λ b. RepliesAt eq is_clone call (Left b) (option_map view (slice_get old j))) (sym said) (was.each j (below j lt other.1)))
        (eqb_tells j i);
    any =
        let one : i + 1 ≡ suc i = omega arith in
        ap (λ b. b || more) (was.any ∙ any_below-same was.answers with_more i (λ j lt. sym (ap (λ b. cond b more (was.answers j)) (unlike j lt))))
        ∙ ap (λ b. any_below with_more i || b) (sym (ap (λ b. cond b more (was.answers i)) (eqb_refl i)))
        ∙ ap (any_below with_more) (sym one);
  } where
    with_more : ℕ → Bool
    with_more j = cond (j == i) more (was.answers j)

    below : (j : ℕ) → j < i + 1 → j ≢ i → j < i
    below j lt ne = omega (arith, lt, ne)

    unlike : (j : ℕ) → j < i → (j == i) ≡ false
    unlike j lt = ⊎_elim (λ same. absurd (let no : ⊥ = omega (arith, lt, same.1) in no)) (λ other. other.0) (eqb_tells j i)

module _ {K V H W X F : Type 0} (E : Type 0) (eq : K → K → Bool) {is_clone : V → V → Type 0} (behaviour : BehaviourData H W X → Behaviour K V) (frequency : F → List ℕ → ℕ → ℕ) (opened : F) where
  -- where all states have run a maintenance within a limit, their replies make the whole's
  pub together-answers : (limit at : ℕ) (old : SegmentedData K V H W X F E) (now : List (StateData K V H W X F E)) (left : Bool) (i : ℕ) → i ≡ length old.segments
      → Together eq is_clone (view_by behaviour frequency opened) (RunPendingTasksUpTo limit at) old.segments now left i
      → RepliesIn eq is_clone (segmented_view_by behaviour frequency opened old) (RunPendingTasksUpTo limit at) (Left left)
  together-answers limit at old now left i all was given calls stand =
      ap (λ b. let a : Reply K V E = Left b in a)
      (was.any ∙ any_below-same was.answers (λ j. is_left_at eq (share_settings given) (Some limit) at (events_of E eq given calls j)) i here ∙ ap (any_below (λ j. is_left_at eq (share_settings given) (Some limit) at (events_of E eq given calls j))) count)
    where
      count : i ≡ segments_of given
      count = all ∙ sym (length-map old.segments (view_by behaviour frequency opened)) ∙ stand.count

      by : (j : ℕ) (b : Bool) (o : Option (WholeView K V E)) → IsSome o → RepliesAt eq is_clone (RunPendingTasksUpTo limit at) (Left b) o
          → IfSome o (λ one. StandsFor eq is_clone (share_settings given) one (steps_in E eq given calls j))
          → b ≡ is_left_at eq (share_settings given) (Some limit) at (events_of E eq given calls j)
      by j b None some answers stands = cc
      by j b (Some v) some answers stands = left-is (answers (share_settings given) (steps_in E eq given calls j) stands)
        where
          left-is : {c : Bool} → ◌≡◌ {A = Reply K V E} (Left b) (Left c) → b ≡ c
          left-is e = cc

      here : (j : ℕ) → j < i → was.answers j ≡ is_left_at eq (share_settings given) (Some limit) at (events_of E eq given calls j)
      here j lt =
          let it = there old.segments j (omega (arith, lt, all)) in
          let view-there : slice_get (map (view_by behaviour frequency opened) old.segments) j ≡ Some (view_by behaviour frequency opened it.0) = slice_get-map (view_by behaviour frequency opened) old.segments j ∙ ap (option_map (view_by behaviour frequency opened)) it.1 in
          by j (was.answers j) (Some (view_by behaviour frequency opened it.0)) refl (rw it.1 at (was.each j lt)) (rw view-there at (stand.each j))

  -- where all states have followed a call that goes to each, the cache has
  pub broadcast-follows : (call : Call K V E) (old : SegmentedData K V H W X F E) (bits : ℕ) (settings : SettingsData H W X) (now : List (StateData K V H W X F E)) (i : ℕ) → bits ≡ old.bits → settings ≡ old.settings → i ≡ length old.segments
      → Progress eq is_clone (view_by behaviour frequency opened) call old.segments now i → ((given : SegmentedSettings K V) (calls : List (Call K V E)) → place_of E eq given calls call ≡ Each)
      → FollowsIn eq is_clone (segmented_view_by behaviour frequency opened old) call (segmented_view_by behaviour frequency opened (record { bits = bits; settings = settings; segments = now }))
  broadcast-follows call old bits settings now i b s all was place given calls stand =
      stand-each E eq given (segmented_view_by behaviour frequency opened old) (segmented_view_by behaviour frequency opened (record { bits = bits; settings = settings; segments = now })) calls call (place given calls)
      (ap (λ n. let it : SegmentedSettings K V = record { bits = n; whole = (segmented_view_by behaviour frequency opened (record old { settings = settings })).settings.whole } in it) b
      ∙ ap (λ m. (segmented_view_by behaviour frequency opened (record old { settings = m })).settings) s)
      (length-map now (view_by behaviour frequency opened) ∙ was.count ∙ sym (length-map old.segments (view_by behaviour frequency opened)))
      (progress-all eq is_clone (view_by behaviour frequency opened) call old.segments now i all was)
      stand

  module _ (cache : SegmentedData K V H W X F E) (given : SegmentedSettings K V) (calls : List (Call K V E)) (stand : AllStandFor eq is_clone given (segmented_view_by behaviour frequency opened cache) calls) where
    supports-as : (i : ℕ) (o : Option (StateData K V H W X F E)) → slice_get cache.segments i ≡ o → IfSome o (λ state. state.settings.supports_closures ≡ given.whole.supports_closures)
    supports-as i None e = tt
    supports-as i (Some state) e =
        let here : slice_get (map (view_by behaviour frequency opened) cache.segments) i ≡ Some (view_by behaviour frequency opened state) = slice_get-map (view_by behaviour frequency opened) cache.segments i ∙ ap (option_map (view_by behaviour frequency opened)) e in
        let one : StandsFor eq is_clone (share_settings given) (view_by behaviour frequency opened state) (steps_in E eq given calls i) = rw here at (stand.each i) in
        ap (λ (s : Settings K V). s.supports_closures) one.settings

    -- the segments support closures just where the cache was built to
    pub supported-by : ((i : ℕ) → IfSome (slice_get cache.segments i) (λ state. state.settings.supports_closures ≡ true)) ↔ (given.whole.supports_closures ≡ true)
    supported-by = (
      λ all.
          let some : 0 < length cache.segments = omega (arith, pow_pos given.bits, stand.count, length-map cache.segments (view_by behaviour frequency opened)) in
          let first = there cache.segments 0 some in
          sym (rw first.1 at (supports-as 0 (slice_get cache.segments 0) refl)) ∙ (rw first.1 at (all 0)),
      λ supports i. by (slice_get cache.segments i) (supports-as i (slice_get cache.segments i) refl) supports,
    )
      where
        by : (o : Option (StateData K V H W X F E)) → IfSome o (λ state. state.settings.supports_closures ≡ given.whole.supports_closures) → given.whole.supports_closures ≡ true → IfSome o (λ state. state.settings.supports_closures ≡ true)
        by None same supports = tt
        by (Some state) same supports = same ∙ supports
