-- What a walk of a session's cache prints.
use Rattle.std.proofs.Common.{◌≡◌, ℕ, zero, suc, ◌<◌, true, Option, Some, None, IfSome, IsSome, option_map, length, map, Result, Ok, List, [], ◌∷◌, ◌++◌, nat_eq, codes, refl, sym, ap, ◌∙◌, subst, inl, inr, arith, append_assoc, append-nil, eqb-true}
use Rattle.std.specs.Cmp.{nat_eq_equiv}
use Rattle.std.specs.Fmt.{decimal}
use Rattle.std.specs.List.{All, AllByRecursion, slice_get}
use Rattle.std.specs.List.Sorted.{IsPermutation, IsNonDecreasingBy}
use Rattle.std.proofs.lemmas.List.Sorted.{All-permutation}
use Rattle.std.proofs.lemmas.List.{length-map}
use Rattle.std.proofs.lemmas.Option.{slice_get-map}
use Rattle.moka_model.specs.Lives.{Write}
use Rattle.moka_model.specs.Numbers.{all_standing}
use Rattle.moka_model.specs.Calls.{Call, IsCopyOf}
use Rattle.moka_model.specs.StandsFor.{StandsFor}
use Rattle.moka_state_iter.specs.States.{WalksTo}
use Rattle.moka_policy.specs.declared.policy.Refused.{Refused}
use Rattle.moka_iter.specs.Walks.{Cursor, start}
use Rattle.moka_iter.specs.Histories.{History, AllStandFor as AllHaveHistories, keys_of, value_of, live_in, RepliesNext}
use Rattle.moka_iter.specs.WalkLaws.{HasOneHome, AreAtHome, YieldsJust}
use Rattle.moka_iter.proofs.Callers.{count-permutation, live-at-home, each-live, each-once}
use Rattle.moka_segment_model.specs.Segments.{segment_of_key, share_settings, steps_in, events_of, AllStandFor}
use Rattle.moka_segment_model.proofs.Callers.{there, segment-within, stands-at-home}
use Rattle.mokabox_syntax.specs.OutputLine.{pairs_text}
use Rattle.mokabox_syntax.specs.declared.command.Command.TheVariants as commands
use Rattle.mokabox_interpreter.specs.Script.{Text, is_copy, is_surely_copied, CacheSettings, live_value, AreTheLive}
use Rattle.mokabox_interpreter.specs.Session.{CacheData, SegmentState, segment_view, view, PartsHashes, Prints, segment_stands_for, IsWholeWalk}

-- where one segment of a script's cache has come, as a history
abbrev pub history_at : CacheSettings → List (Call ℕ Text Text) → ℕ → History ℕ Text Text
history_at settings done i = record { settings = share_settings settings; steps = steps_in Text nat_eq settings done i }

-- a history for each state, by its place
abbrev pub histories_by : (ℕ → History ℕ Text Text) → List SegmentState → List (History ℕ Text Text)
histories_by f [] = []
histories_by f (state ∷ states) = f 0 ∷ histories_by (λ i. f (suc i)) states

at-place : (f : ℕ → History ℕ Text Text) (states : List SegmentState) (i : ℕ) → slice_get (histories_by f states) i ≡ option_map (λ state. f i) (slice_get states i)
at-place f [] i = refl
at-place f (state ∷ states) zero = refl
at-place f (state ∷ states) (suc i) = at-place (λ i. f (suc i)) states i

length-histories : (f : ℕ → History ℕ Text Text) (states : List SegmentState) → length (histories_by f states) ≡ length states
length-histories f [] = refl
length-histories f (state ∷ states) = ap suc (length-histories (λ i. f (suc i)) states)

all-have : (f : ℕ → History ℕ Text Text) (states : List SegmentState) → ((i : ℕ) → IfSome (slice_get states i) (λ state. segment_stands_for (f i).settings state (f i).steps))
    → AllHaveHistories segment_stands_for states (histories_by f states)
all-have f [] each = tt
all-have f (state ∷ states) each = (each 0, all-have (λ i. f (suc i)) states (λ i. each (suc i)))

-- what holds of each element, at each index
all-by : {A : Type 0} (P : A → Type 0) (xs : List A) → AllByRecursion P xs → All P xs
all-by P [] each k d within = absurd (omega (arith, within))
all-by P (x ∷ xs) each zero d within = each.0
all-by P (x ∷ xs) each (suc k) d within = all-by P xs each.1 k d (omega (arith, within))

all-mapped : {A B : Type 0} (P : B → Type 0) (f : A → B) (xs : List A) → AllByRecursion (λ x. P (f x)) xs → AllByRecursion P (map f xs)
all-mapped P f [] each = tt
all-mapped P f (x ∷ xs) each = (each.0, all-mapped P f xs each.1)

module _ (cache : CacheData) (settings : CacheSettings) (done : List (Call ℕ Text Text)) (stand : AllStandFor nat_eq is_copy settings (view cache) done) (parted : PartsHashes settings) where
  -- the histories of all segments
  abbrev pub histories : List (History ℕ Text Text)
  histories = histories_by (history_at settings done) cache.segments

  they-stand : AllHaveHistories segment_stands_for cache.segments histories
  they-stand = all-have (history_at settings done) cache.segments (λ i. by i (slice_get cache.segments i) (subst (λ o. IfSome o (λ one. StandsFor nat_eq is_copy (share_settings settings) one (steps_in Text nat_eq settings done i))) (slice_get-map segment_view cache.segments i) (stand.each i)))
    where
      by : (i : ℕ) (o : Option SegmentState) → IfSome (option_map segment_view o) (λ one. StandsFor nat_eq is_copy (share_settings settings) one (steps_in Text nat_eq settings done i))
          → IfSome o (λ state. segment_stands_for (share_settings settings) state (steps_in Text nat_eq settings done i))
      by i None is = tt
      by i (Some state) is = is

  -- each key has its home in the segment of its hash
  abbrev home : ℕ → ℕ
  home key = segment_of_key settings key

  one-home : HasOneHome nat_eq home
  one-home a b same = ap home (eqb-true a b same)

  at-home : AreAtHome nat_eq home histories
  at-home i = subst (λ o. AllByRecursion (λ key. home key ≡ i) (keys_of nat_eq o)) (sym (at-place (history_at settings done) cache.segments i)) (by (slice_get cache.segments i))
    where
      alike : (k q : ℕ) → nat_eq k q ≡ true → settings.whole.behaviour.hash k ≡ settings.whole.behaviour.hash q
      alike k q same = ap settings.whole.behaviour.hash (eqb-true k q same)

      by : (o : Option SegmentState) → AllByRecursion (λ key. home key ≡ i) (keys_of nat_eq (option_map (λ state. history_at settings done i) o))
      by None = tt
      by (Some state) = all-mapped (λ key. home key ≡ i) (λ (w : Write ℕ Text). w.key) (all_standing nat_eq (share_settings settings) (events_of Text nat_eq settings done i)) (stands-at-home Text nat_eq settings i nat_eq_equiv alike done)

  -- there it has the value that is live for it
  at-segment : (moment i key : ℕ) → i < length cache.segments → live_in nat_eq histories moment i key ≡ value_of nat_eq moment key (Some (history_at settings done i))
  at-segment moment i key lt =
      let it = there cache.segments i lt in
      ap (value_of nat_eq moment key) (at-place (history_at settings done) cache.segments i ∙ ap (option_map (λ (state : SegmentState). history_at settings done i)) it.1)

  live-home : (moment key : ℕ) → live_in nat_eq histories moment (home key) key ≡ live_value settings (record { done = done; moment = moment }) key
  live-home moment key = at-segment moment (home key) key (let lt = segment-within settings.bits (settings.whole.behaviour.hash key) parted.0 (parted.1 key) in let count = stand.count in let same = length-map cache.segments segment_view in omega (arith, lt, count, same))

  -- so what a walk yields of any segment is the live value
  live-here : (moment i key : ℕ) (text : Text) → IsCopyOf is_copy (live_in nat_eq histories moment i key) (Some text) → IsCopyOf is_copy (live_value settings (record { done = done; moment = moment }) key) (Some text)
  live-here moment i key text is =
      let same = live-at-home nat_eq nat_eq_equiv home one-home histories at-home moment i key (some (live_in nat_eq histories moment i key) is) in
      subst (λ o. IsCopyOf is_copy o (Some text)) (ap (λ j. live_in nat_eq histories moment j key) same ∙ live-home moment key) is
    where
      some : (o : Option Text) → IsCopyOf is_copy o (Some text) → IsSome o
      some None is = absurd is
      some (Some it) is = refl

  all-here : (moment : ℕ) (pairs : List (ℕ × Text)) → AllByRecursion (λ (pair : ℕ × Text). (i : ℕ) × IsCopyOf is_copy (live_in nat_eq histories moment i pair.0) (Some pair.1)) pairs
      → AllByRecursion (λ (pair : ℕ × Text). IsCopyOf is_copy (live_value settings (record { done = done; moment = moment }) pair.0) (Some pair.1)) pairs
  all-here moment [] each = tt
  all-here moment (pair ∷ pairs) each = (live-here moment each.0.0 pair.0 pair.1 each.0.1, all-here moment pairs each.1)

  -- the pairs of a whole walk, by rising key, are all that is live
  the-live : (moment : ℕ) (pairs sorted : List (ℕ × Text)) → IsWholeWalk cache moment pairs → IsPermutation pairs sorted → IsNonDecreasingBy (λ (pair : ℕ × Text). pair.0) sorted
      → AreTheLive settings (record { done = done; moment = moment }) sorted
  the-live moment pairs sorted whole same rising =
      let walk = whole histories they-stand in
      let live = all-by _ pairs (all-here moment pairs (each-live nat_eq nat_eq_equiv is_copy is_surely_copied histories moment start pairs walk)) in
      record {
        rising = rising;
        live = All-permutation (λ (pair : ℕ × Text). IsCopyOf is_copy (live_value settings (record { done = done; moment = moment }) pair.0) (Some pair.1)) pairs sorted same live;
        each_once = λ key is.
            sym (count-permutation (λ (pair : ℕ × Text). nat_eq pair.0 key) pairs sorted same)
            ∙ each-once nat_eq nat_eq_equiv is_copy is_surely_copied home histories moment pairs (one-home, at-home) walk key (home key) (subst IsSome (sym (live-home moment key)) is);
      }

-- a walk is printed as the line of what is live,
pub walk_printed : (cache : CacheData) (moment : ℕ) (pairs sorted : List (ℕ × Text)) (lines : List (List ℕ)) → IsWholeWalk cache moment pairs → IsPermutation pairs sorted → IsNonDecreasingBy (λ (pair : ℕ × Text). pair.0) sorted
    → lines ≡ (codes "walk" ++ pairs_text sorted) ∷ [] → Prints cache moment commands.Walk lines cache moment
walk_printed cache moment pairs sorted lines whole same rising are settings before is =
    let live = subst (λ at. AreTheLive settings (record { done = before.done; moment = at }) sorted) is.now (the-live cache settings before.done is.stands is.parted moment pairs sorted whole same rising) in
    (before, ([], [], lines, refl, (refl, refl), inl (sorted, live, are), sym (append-nil lines), sym is.now ∙ is.now), is)

-- and a refused one as its refusal
pub walk_refused : (cache : CacheData) (moment : ℕ) (lines : List (List ℕ)) → lines ≡ (codes "refused " ++ decimal 1) ∷ [] → Prints cache moment commands.Walk lines cache moment
walk_refused cache moment lines are settings before is =
    (before, ([], [], lines, refl, (refl, refl), inr are, sym (append-nil lines), sym is.now ∙ is.now), is)

-- A walk on its way from the first cursor: what it may yield from here on, it may yield behind what it has yielded.
abbrev pub HasWalked : CacheData → ℕ → List (ℕ × Text) → Cursor ℕ → Type 0
HasWalked cache moment so_far here =
    (histories : List (History ℕ Text Text)) → AllHaveHistories segment_stands_for cache.segments histories → (rest : List (ℕ × Text))
    → YieldsJust nat_eq is_copy is_surely_copied histories moment here rest → YieldsJust nat_eq is_copy is_surely_copied histories moment start (so_far ++ rest)

pub walked_first : (cache : CacheData) (moment : ℕ) (here : Cursor ℕ) → here ≡ start → HasWalked cache moment [] here
walked_first cache moment here first histories stand rest walk = subst (λ (c : Cursor ℕ). YieldsJust nat_eq is_copy is_surely_copied histories moment c rest) first walk

module _ (cache : CacheData) (moment : ℕ) (states : List SegmentState) (same : states ≡ cache.segments) (so_far : List (ℕ × Text)) (here next : Cursor ℕ) (was : HasWalked cache moment so_far here) where
  -- what is returned over the segments
  answered-there : (result : Option (Result (ℕ × Text) Refused)) → WalksTo nat_eq is_copy is_surely_copied segment_stands_for states moment here result next → (histories : List (History ℕ Text Text))
      → AllHaveHistories segment_stands_for cache.segments histories → RepliesNext nat_eq is_copy is_surely_copied histories moment here result next
  answered-there result walks histories stand = subst (λ all. WalksTo nat_eq is_copy is_surely_copied segment_stands_for all moment here result next) same walks histories stand

  -- one pair more
  pub walked_more : (pair : ℕ × Text) (more : List (ℕ × Text)) → WalksTo nat_eq is_copy is_surely_copied segment_stands_for states moment here (Some (Ok pair)) next → more ≡ so_far ++ pair ∷ [] → HasWalked cache moment more next
  walked_more pair more walks are histories stand rest walk =
      subst (YieldsJust nat_eq is_copy is_surely_copied histories moment start) (sym (append_assoc so_far (pair ∷ []) rest) ∙ ap (λ l. l ++ rest) (sym are))
      (was histories stand (pair ∷ rest) (next, answered-there (Some (Ok pair)) walks histories stand, walk))

  -- and the end
  pub walked_all : WalksTo nat_eq is_copy is_surely_copied segment_stands_for states moment here None next → IsWholeWalk cache moment so_far
  walked_all walks histories stand =
      subst (YieldsJust nat_eq is_copy is_surely_copied histories moment start) (append-nil so_far)
      (was histories stand [] (next, answered-there None walks histories stand))
