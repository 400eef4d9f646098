-- Notices and counts, by what the states of a vector hold.
use Rattle.std.proofs.Common.{◌≡◌, ◌≢◌, ◌==◌, ℕ, suc, ◌+◌, ◌<◌, min, Bool, true, false, not, Option, Some, None, List, [], ◌∷◌, ◌++◌, length, map, option_map, refl, sym, ap, ◌∙◌, subst, get_or, set, arith}
use Rattle.std.specs.List.{slice_get}
use Rattle.std.proofs.lemmas.Option.{slice_get-map}
use Rattle.std.proofs.lemmas.List.{length-map}
use Rattle.moka_model.specs.Lives.{Behaviour, Write}
use Rattle.moka_model.specs.Maintenance.{total}
use Rattle.moka_model.specs.Removals.{Removal}
use Rattle.moka_model.specs.Numbers.{greatest_number}
use Rattle.moka_model.specs.Calls.{Call, Reply, EntryCount, WeightedSize, TakeNotice, Counted, Noticed}
use Rattle.moka_model.specs.StandsFor.{Books, WholeView, Follows, RepliesWith}
use Rattle.moka_expiration.specs.Behaviour.{BehaviourData}
use Rattle.moka_expiration.specs.StateData.{StateData, view_by}
use Rattle.moka_state.specs.State.{all_writes}
use Rattle.moka_segment_model.specs.Segments.{SegmentedSettings, segments_of, sum_below, first_from, first_with_notice, list_of, entries_in, weight_in, notices_in, is_empty, Nowhere, place_of, AllStandFor, FollowsIn, RepliesIn, IsGivenReply}
use Rattle.moka_segment_model.proofs.Callers.{sum_below-one, sum_below-zeros, sum_below-zero, first_from-none-all, notices-same, slice_get-set_same, slice_get-set_other, length-set, eqb_refl, sum_below-same, first_from-same, first_from-passes, noticed-same, entries-same, weight-same, noticed-place, noticed-reply, none-place, none-reply, stand-one, stand-nowhere, reply-at, at_or}
use Rattle.moka_segmented.specs.SegmentedData.{SegmentedData, segmented_view_by, state_at, has_notice, stored_at, weight_at, notices_at, notices_queued}
use Rattle.moka_segmented.proofs.Routed.{view-at, views-set}

-- one that is there has a notice, or has none
pub is-noticed : {X : Type 0} (xs : List X) → 0 < length xs → not (is_empty xs) ≡ true
is-noticed [] lt = absurd (let no : ⊥ = omega (arith, lt) in no)
is-noticed (x ∷ xs) lt = refl

pub none-noticed : {X : Type 0} (xs : List X) → length xs ≡ 0 → not (is_empty xs) ≡ false
none-noticed [] e = refl
none-noticed (x ∷ xs) e = absurd (let no : ⊥ = omega (arith, e) in no)

-- a sum to which one more is added, where no sum passes the greatest number
pub counted-more : (f : ℕ → ℕ) (i count more new : ℕ) → more ≡ f i → count ≡ min (sum_below f i) greatest_number → new ≡ min (count + more) greatest_number
    → new ≡ min (sum_below f (i + 1)) greatest_number
counted-more f i count more new is was e =
    let next : sum_below f (i + 1) ≡ sum_below f i + f i = ap (sum_below f) (let one : i + 1 ≡ suc i = omega arith in one) in
    e ∙ capped (sum_below f i) more count was ∙ ap (λ n. min n greatest_number) (ap (λ n. sum_below f i + n) is ∙ sym next)
  where
    capped : (a b c : ℕ) → c ≡ min a greatest_number → min (c + b) greatest_number ≡ min (a + b) greatest_number
    capped a b c e = omega (arith, e)

-- a capped sum to which one more is added
pub counted-capped : (f : ℕ → ℕ) (i count one more new : ℕ) → one ≡ f i → more ≡ min one greatest_number → count ≡ min (sum_below f i) greatest_number → new ≡ min (count + more) greatest_number
    → new ≡ min (sum_below f (i + 1)) greatest_number
counted-capped f i count one more new is capped was e =
    counted-more f i count one new is was (e ∙ more-capped count one more capped)
  where
    more-capped : (c b m : ℕ) → m ≡ min b greatest_number → min (c + m) greatest_number ≡ min (c + b) greatest_number
    more-capped c b m e = omega (arith, e)

module _ {K V H W X F E : Type 0} where
  pub notice-there : (states : List (StateData K V H W X F E)) (i : ℕ) (s : StateData K V H W X F E) → slice_get states i ≡ Some s → has_notice states i ≡ not (is_empty s.books.notices)
  notice-there states i s e = ap (state_at (λ (s : StateData K V H W X F E). not (is_empty s.books.notices)) false) e

  pub stored-there : (states : List (StateData K V H W X F E)) (i : ℕ) (s : StateData K V H W X F E) → slice_get states i ≡ Some s → stored_at states i ≡ length (all_writes s)
  stored-there states i s e = ap (state_at (λ (s : StateData K V H W X F E). length (all_writes s)) 0) e

  pub weight-there : (states : List (StateData K V H W X F E)) (i : ℕ) (s : StateData K V H W X F E) → slice_get states i ≡ Some s → weight_at states i ≡ total (λ (w : Write K V). w.policy_weight) (all_writes s)
  weight-there states i s e = ap (state_at (λ (s : StateData K V H W X F E). total (λ (w : Write K V). w.policy_weight) (all_writes s)) 0) e

  pub notices-there : (states : List (StateData K V H W X F E)) (i : ℕ) (s : StateData K V H W X F E) → slice_get states i ≡ Some s → notices_at states i ≡ length s.books.notices
  notices-there states i s e = ap (state_at (λ (s : StateData K V H W X F E). length s.books.notices) 0) e

  -- where the state at a place has one notice less, there is one less
  pub queued-fewer : (states : List (StateData K V H W X F E)) (i : ℕ) (here new : StateData K V H W X F E) → i < length states → slice_get states i ≡ Some here → length here.books.notices ≡ length new.books.notices + 1
      → notices_queued states ≡ notices_queued (set states i new) + 1
  queued-fewer states i here new lt at less =
      sum_below-one (notices_at (set states i new)) (notices_at states) (length states) i 1 lt
      (notices-there states i here at ∙ less ∙ ap (λ n. n + 1) (sym (notices-there (set states i new) i new (slice_get-set_same states i new here at))))
      (λ j other. ap (state_at (λ (s : StateData K V H W X F E). length s.books.notices) 0) (sym (slice_get-set_other states i j new (apart j other))))
      ∙ ap (λ n. sum_below (notices_at (set states i new)) n + 1) (sym (length-set states i new))
    where
      apart : (j : ℕ) → (j == i) ≡ false → j ≢ i
      apart j other e = let yes : (j == i) ≡ true = ap (λ n. n == i) e ∙ eqb_refl i in let no : true ≡ false = sym yes ∙ other in cc

  -- where the first that has a notice is at a place, there is one
  pub queued-some : (states : List (StateData K V H W X F E)) (i : ℕ) (here : StateData K V H W X F E) → i < length states → slice_get states i ≡ Some here → has_notice states i ≡ true → (here.books.notices ≡ [] → ⊥) × (notices_queued states ≡ 0 → ⊥)
  queued-some states i here lt at has =
      let some : not (is_empty here.books.notices) ≡ true = sym (notice-there states i here at) ∙ has in
      let filled : here.books.notices ≡ [] → ⊥ = λ e. let no : false ≡ true = sym (ap (λ (l : List (Removal K V)). not (is_empty l)) e) ∙ some in cc in
      (filled, λ none. filled (empty here.books.notices (sym (notices-there states i here at) ∙ sum_below-zero (notices_at states) (length states) i none lt)))
    where
      empty : {X : Type 0} (xs : List X) → length xs ≡ 0 → xs ≡ []
      empty [] e = refl
      empty (x ∷ xs) e = absurd (let no : ⊥ = omega (arith, e) in no)

  -- where none has a notice there is none
  pub queued-none : (states : List (StateData K V H W X F E)) → None ≡ first_from (has_notice states) 0 (length states) → notices_queued states ≡ 0
  queued-none states none =
      sum_below-zeros (notices_at states) (length states) (λ i lt. by (slice_get states i) (first_from-none-all (has_notice states) 0 (length states) (sym none) i (omega arith) (omega (arith, lt))))
    where
      by : (o : Option (StateData K V H W X F E)) → state_at (λ (s : StateData K V H W X F E). not (is_empty s.books.notices)) false o ≡ false → state_at (λ (s : StateData K V H W X F E). length s.books.notices) 0 o ≡ 0
      by None e = refl
      by (Some s) e = nothing s.books.notices e
        where
          nothing : {X : Type 0} (xs : List X) → not (is_empty xs) ≡ false → length xs ≡ 0
          nothing [] e = refl
          nothing (x ∷ xs) e = cc

module _ {K V H W X F : Type 0} (E : Type 0) (eq : K → K → Bool) (behaviour : BehaviourData H W X → Behaviour K V) (frequency : F → List ℕ → ℕ → ℕ) (opened : F) (cache : SegmentedData K V H W X F E) where
  module _ {is_clone : V → V → Type 0} (given : SegmentedSettings K V) (calls : List (Call K V E)) (stand : AllStandFor eq is_clone given (segmented_view_by behaviour frequency opened cache) calls) where
    -- what the views say, by what the states hold
    by-states : {Y : Type 0} (f : Books K V → Y) (other : Y) (i : ℕ)
        → at_or (λ (v : WholeView K V E). f v.values.books) other (slice_get (map (view_by behaviour frequency opened) cache.segments) i) ≡ state_at (λ (s : StateData K V H W X F E). f s.books) other (slice_get cache.segments i)
    by-states f other i = ap (at_or (λ (v : WholeView K V E). f v.values.books) other) (slice_get-map (view_by behaviour frequency opened) cache.segments i) ∙ here (slice_get cache.segments i)
      where
        here : (o : Option (StateData K V H W X F E)) → at_or (λ (v : WholeView K V E). f v.values.books) other (option_map (view_by behaviour frequency opened) o) ≡ state_at (λ (s : StateData K V H W X F E). f s.books) other o
        here None = refl
        here (Some s) = refl

    count : segments_of given ≡ length cache.segments
    count = sym stand.count ∙ length-map cache.segments (view_by behaviour frequency opened)

    -- the first segment that has a notice
    first-by : first_with_notice E eq given (list_of E eq given calls) ≡ first_from (has_notice cache.segments) 0 (length cache.segments)
    first-by =
        noticed-same E eq given (segmented_view_by behaviour frequency opened cache) calls stand
        ∙ first_from-same (λ i. at_or (λ (v : WholeView K V E). not (is_empty v.values.books.notices)) false (slice_get (map (view_by behaviour frequency opened) cache.segments) i)) (has_notice cache.segments) 0 (segments_of given)
        (λ j lt. by-states (λ b. not (is_empty b.notices)) false j)
        ∙ ap (first_from (has_notice cache.segments) 0) count

    -- how many all segments store
    entries-by : entries_in E eq given calls ≡ sum_below (stored_at cache.segments) (length cache.segments)
    entries-by =
        entries-same E eq given (segmented_view_by behaviour frequency opened cache) calls stand
        ∙ sum_below-same (λ i. at_or (λ (v : WholeView K V E). length (v.values.books.orders.admitted ++ v.values.books.orders.waiting)) 0 (slice_get (map (view_by behaviour frequency opened) cache.segments) i)) (stored_at cache.segments) (segments_of given)
        (λ j lt. by-states (λ b. length (b.orders.admitted ++ b.orders.waiting)) 0 j)
        ∙ ap (sum_below (stored_at cache.segments)) count

    -- how many notices they hold
    pub notices-by : notices_in E eq given calls ≡ notices_queued cache.segments
    notices-by =
        notices-same E eq given (segmented_view_by behaviour frequency opened cache) calls stand
        ∙ sum_below-same (λ i. at_or (λ (v : WholeView K V E). length v.values.books.notices) 0 (slice_get (map (view_by behaviour frequency opened) cache.segments) i)) (notices_at cache.segments) (segments_of given)
        (λ j lt. by-states (λ b. length b.notices) 0 j)
        ∙ ap (sum_below (notices_at cache.segments)) count

    -- and what that weighs
    weight-by : weight_in E eq given calls ≡ sum_below (weight_at cache.segments) (length cache.segments)
    weight-by =
        weight-same E eq given (segmented_view_by behaviour frequency opened cache) calls stand
        ∙ sum_below-same (λ i. at_or (λ (v : WholeView K V E). total (λ (w : Write K V). w.policy_weight) (v.values.books.orders.admitted ++ v.values.books.orders.waiting)) 0 (slice_get (map (view_by behaviour frequency opened) cache.segments) i)) (weight_at cache.segments) (segments_of given)
        (λ j lt. by-states (λ b. total (λ (w : Write K V). w.policy_weight) (b.orders.admitted ++ b.orders.waiting)) 0 j)
        ∙ ap (sum_below (weight_at cache.segments)) count

  module _ {is_clone : V → V → Type 0} where
    -- a count is the reply, and changes nothing
    pub entries-answer : (n : ℕ) → n ≡ min (sum_below (stored_at cache.segments) (length cache.segments)) greatest_number → RepliesIn eq is_clone (segmented_view_by behaviour frequency opened cache) EntryCount (Counted n)
    entries-answer n is given calls stand = ap (λ m. let a : Reply K V E = Counted m in a) (is ∙ ap (λ m. min m greatest_number) (sym (entries-by given calls stand)))

    pub weight-answers : (n : ℕ) → n ≡ min (sum_below (weight_at cache.segments) (length cache.segments)) greatest_number → RepliesIn eq is_clone (segmented_view_by behaviour frequency opened cache) WeightedSize (Counted n)
    weight-answers n is given calls stand = ap (λ m. let a : Reply K V E = Counted m in a) (is ∙ ap (λ m. min m greatest_number) (sym (weight-by given calls stand)))

    pub count-stays : (call : Call K V E) → ((given : SegmentedSettings K V) (calls : List (Call K V E)) → place_of E eq given calls call ≡ Nowhere) → FollowsIn eq is_clone (segmented_view_by behaviour frequency opened cache) call (segmented_view_by behaviour frequency opened cache)
    count-stays call place given calls stand = stand-nowhere E eq given (segmented_view_by behaviour frequency opened cache) calls call (place given calls) stand

  module _ (index : ℕ) (here : StateData K V H W X F E) (found : Some index ≡ first_from (has_notice cache.segments) 0 (length cache.segments)) (here_is : here ≡ get_or cache.segments index here) where
    here-view : slice_get (map (view_by behaviour frequency opened) cache.segments) index ≡ Some (view_by behaviour frequency opened here)
    here-view = let passes = first_from-passes (has_notice cache.segments) 0 (length cache.segments) index (sym found) in view-at (view_by behaviour frequency opened) cache.segments index here (omega (arith, passes.0)) here_is

    module _ {is_clone : V → V → Type 0} where
      first-is : (given : SegmentedSettings K V) (calls : List (Call K V E)) → AllStandFor eq is_clone given (segmented_view_by behaviour frequency opened cache) calls → first_with_notice E eq given (list_of E eq given calls) ≡ Some index
      first-is given calls stand = first-by given calls stand ∙ sym found

      -- a notice of the first segment that has one is the reply, and that segment's state goes on
      pub taken-answers : (answer : Reply K V E) → RepliesWith eq is_clone (view_by behaviour frequency opened here) TakeNotice answer → RepliesIn eq is_clone (segmented_view_by behaviour frequency opened cache) TakeNotice answer
      taken-answers answer answers given calls stand =
          subst (λ o. IsGivenReply is_clone o answer) (sym (noticed-reply E eq given calls index (first-is given calls stand)))
          (reply-at E eq given (segmented_view_by behaviour frequency opened cache) calls index (view_by behaviour frequency opened here) TakeNotice answer here-view answers stand)

      pub taken-follows : (new : StateData K V H W X F E) → Follows eq is_clone (view_by behaviour frequency opened here) TakeNotice (view_by behaviour frequency opened new)
          → FollowsIn eq is_clone (segmented_view_by behaviour frequency opened cache) TakeNotice (segmented_view_by behaviour frequency opened (record cache { segments = set cache.segments index new }))
      taken-follows new follows given calls stand =
          rw (views-set (view_by behaviour frequency opened) cache.segments index new)
          (stand-one E eq given (segmented_view_by behaviour frequency opened cache) calls index (view_by behaviour frequency opened here) (view_by behaviour frequency opened new) TakeNotice
          (noticed-place E eq given calls index (first-is given calls stand)) here-view follows stand)

  module _ (none : None ≡ first_from (has_notice cache.segments) 0 (length cache.segments)) where
    module _ {is_clone : V → V → Type 0} where
      -- where no segment has a notice there is none, and nothing changes
      pub none-answers : RepliesIn eq is_clone (segmented_view_by behaviour frequency opened cache) TakeNotice (Noticed None)
      none-answers given calls stand =
          subst (λ (o : Option (Reply K V E)). IsGivenReply is_clone o (Noticed None)) (sym (none-reply E eq given calls (first-by given calls stand ∙ sym none))) refl

      pub none-follows : FollowsIn eq is_clone (segmented_view_by behaviour frequency opened cache) TakeNotice (segmented_view_by behaviour frequency opened cache)
      none-follows given calls stand =
          stand-nowhere E eq given (segmented_view_by behaviour frequency opened cache) calls TakeNotice (none-place E eq given calls (first-by given calls stand ∙ sym none)) stand
