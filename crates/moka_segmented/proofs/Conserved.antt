-- A run over several segments loses and doubles nothing: a segment gives out the notices of the replies to the steps that
-- went to it.
use Rattle.std.proofs.Common.{◌≡◌, ℕ, ◌+◌, ◌==◌, Bool, true, false, cond, Option, Some, None, option_map, IfSome, List, [], ◌∷◌, ◌++◌, length, map, refl, sym, ap, ◌∙◌, subst, ⊎_elim, length-append, append-nil, append_assoc, arith}
use Rattle.std.specs.List.{slice_get}
use Rattle.std.specs.Cmp.{IsEquivalence}
use Rattle.std.proofs.lemmas.Option.{slice_get-map}
use Rattle.std.proofs.lemmas.Bool.Decides.{eqb_tells}
use Rattle.moka_model.specs.Lives.{Behaviour, Settings}
use Rattle.moka_model.specs.Events.{Hidden}
use Rattle.moka_model.specs.Removals.{Removal}
use Rattle.moka_model.specs.Steps.{AcceptedStep, events_in}
use Rattle.moka_model.specs.Calls as calls
use Rattle.moka_model.specs.Calls.{Call, Get, ContainsKey, Insert, Invalidate, Remove, InvalidateAll, InvalidateIf, RunPendingTasks, RunPendingTasksUpTo, EntryCount, WeightedSize, TakeNotice}
use Rattle.moka_model.specs.Calls.{OrInsert, Begin, BeginCompute, Finish, Abandon, Collect, Leave, Accepted, after, with_step, without_move}
use Rattle.moka_model.specs.StandsFor.{Books, StandsFor, books_of}
use Rattle.moka_model.specs.Conserved.{given_out, IsConserved}
use Rattle.moka_model.proofs.Callers.{is_conserved}
use Rattle.moka_expiration.specs.Behaviour.{BehaviourData}
use Rattle.moka_expiration.specs.StateData.{StateData, view_by}
use Rattle.moka_state.specs.declared.step.Step.{Step}
use Rattle.moka_state.specs.declared.step.Reply.{Reply}
use Rattle.moka_state.specs.declared.step.Reply.TheVariants.{Found, Contains, Done, Counted, Left, Noticed, Refused, PredicateRefused}
use Rattle.moka_state.specs.declared.step.Reply.TheVariants.{Entered, Run, Wait, Nothing, Failed, Computed, NotYet, Abandoned, Ended}
use Rattle.moka_state.specs.Step.{call_of, IsReplyTo, after_reply}
use Rattle.moka_state.specs.Noticed.{noticed_in}
use Rattle.moka_state.proofs.Conserved.{given-reply}
use Rattle.moka_segment_model.specs.Segments.{SegmentedSettings, One, goes_to, at_first, segment_of_place, segment_of_key, first_with_notice, list_of, place_of, steps_in, events_of, share_settings, joint_in, AllStandFor}
use Rattle.moka_segment_model.proofs.Callers.{steps-here, steps-apart}
use Rattle.moka_segmented.specs.SegmentedData.{SegmentedData, segmented_view_by}
use Rattle.moka_segmented.specs.Step.{IsReplyBy, IsReplyIn, IsRunIn, after_reply_in, after_all_in}
use Rattle.moka_segmented.specs.Conserved.{noticed_at, IsConservedIn}

no-more : {A : Type 0} (xs ys : List A) → xs ≡ xs ++ ys → ys ≡ []
no-more xs [] same = refl
no-more xs (y ∷ ys) same = absurd (let longer = ap length same in let both = length-append xs (y ∷ ys) in let no : ⊥ = omega (arith, longer, both) in no)

-- The calls and the steps after a reply: those before it, or with its call.
either : {K V C H W X P F L T E S : Type 0} (eq : K → K → Bool) (settings : Settings K V) (Q : List (Call K V E) → List (AcceptedStep K V E) → Type 0) (calls : List (Call K V E)) (steps : List (AcceptedStep K V E)) (call : Call K V E) (reply : Reply K V C H W X P F L T E S)
    → Q calls steps → Q (call ∷ calls) (after eq settings call steps) → Q (after_reply_in call reply calls) (after_reply eq settings call reply steps)
either eq settings Q calls steps call (Found v) same more = more
either eq settings Q calls steps call (Contains b) same more = more
either eq settings Q calls steps call Done same more = more
either eq settings Q calls steps call (Counted n) same more = more
either eq settings Q calls steps call (Left b) same more = more
either eq settings Q calls steps call (Noticed n) same more = more
either eq settings Q calls steps call (Entered entry) same more = more
either eq settings Q calls steps call (Run name entry) same more = more
either eq settings Q calls steps call (Wait name) same more = more
either eq settings Q calls steps call Nothing same more = more
either eq settings Q calls steps call (Failed error) same more = more
either eq settings Q calls steps call (Computed result) same more = more
either eq settings Q calls steps call NotYet same more = more
either eq settings Q calls steps call Abandoned same more = more
either eq settings Q calls steps call Ended same more = more
either eq settings Q calls steps call (Refused cause) same more = same
either eq settings Q calls steps call (PredicateRefused cause) same more = same

-- A call that takes no notice gives out none.
module _ {K V E : Type 0} (eq : K → K → Bool) (settings : Settings K V) where
  abbrev IsQuiet : Call K V E → Type 0
  IsQuiet call = (steps : List (AcceptedStep K V E)) → given_out eq settings (events_in (after eq settings call steps)) ≡ given_out eq settings (events_in steps)

  quiet-all : IsQuiet InvalidateAll
  quiet-all steps = append-nil (given_out eq settings (events_in steps))

  quiet-if : (test : K → V → Bool) → IsQuiet (InvalidateIf test)
  quiet-if test steps = by settings.supports_closures
    where
      by : (b : Bool) → (let it : Option (Accepted K V E) = cond b (Some (without_move calls.Done (Hidden test ∷ []))) None in given_out eq settings (events_in (with_step it steps))) ≡ given_out eq settings (events_in steps)
      by true = append-nil (given_out eq settings (events_in steps))
      by false = refl

  quiet-maintained : (at : ℕ) → IsQuiet (RunPendingTasks at)
  quiet-maintained at steps = append-nil (given_out eq settings (events_in steps))

  quiet-limited : (limit at : ℕ) → IsQuiet (RunPendingTasksUpTo limit at)
  quiet-limited limit at steps = append-nil (given_out eq settings (events_in steps))

module _ {K V C H W X P F L T E S : Type 0} (eq : K → K → Bool) (is_clone : V → V → Type 0) (is_infallible : V → Type 0) (settings : Settings K V) where
  -- if its call takes no notice, a step gives out none, and its reply has none
  quiet-after : (steps : List (AcceptedStep K V E)) (call : Call K V E) (reply : Reply K V C H W X P F L T E S) → IsQuiet eq settings call → given_out eq settings (events_in (after_reply eq settings call reply steps)) ≡ given_out eq settings (events_in steps)
  quiet-after steps call reply quiet = either eq settings (λ _ those. given_out eq settings (events_in those) ≡ given_out eq settings (events_in steps)) [] steps call reply refl (quiet steps)

  quiet-reply : (steps : List (AcceptedStep K V E)) (call : Call K V E) (reply : Reply K V C H W X P F L T E S) → IsQuiet eq settings call → IsReplyTo eq is_clone is_infallible settings steps call reply → noticed_in (reply ∷ []) ≡ []
  quiet-reply steps call reply quiet is = no-more (given_out eq settings (events_in steps)) (noticed_in (reply ∷ [])) (sym (quiet-after steps call reply quiet) ∙ given-reply eq is_clone is_infallible settings steps call reply is)

both-same : {A : Type 0} (b : Bool) (x : A) → x ≡ cond b x x
both-same true x = refl
both-same false x = refl

-- what a segment has given out after a list of calls
abbrev given_in : {K V E : Type 0} → (K → K → Bool) → SegmentedSettings K V → List (Call K V E) → ℕ → List (Removal K V)
given_in {E = E} eq given calls i = given_out eq (share_settings given) (events_of E eq given calls i)

module _ {K V E : Type 0} (eq : K → K → Bool) (given : SegmentedSettings K V) where
  -- the steps of a segment after a reply
  newest : (calls : List (Call K V E)) (call : Call K V E) (i : ℕ) (b : Bool) → goes_to i (place_of E eq given calls call) ≡ b
      → steps_in E eq given (call ∷ calls) i ≡ cond b (after eq (share_settings given) call (steps_in E eq given calls i)) (steps_in E eq given calls i)
  newest calls call i true goes = steps-here E eq given calls call i (place_of E eq given calls call) refl goes
  newest calls call i false goes = steps-apart E eq given calls call i (place_of E eq given calls call) refl goes

module _ {K V C H W X P F L T E S : Type 0} (eq : K → K → Bool) (test : P → K → V → Bool) (is_clone : V → V → Type 0) (is_infallible : V → Type 0) (given : SegmentedSettings K V) where
  steps-then : (calls : List (Call K V E)) (call : Call K V E) (reply : Reply K V C H W X P F L T E S) (i : ℕ) (b : Bool) → goes_to i (place_of E eq given calls call) ≡ b
      → steps_in E eq given (after_reply_in call reply calls) i ≡ cond b (after_reply eq (share_settings given) call reply (steps_in E eq given calls i)) (steps_in E eq given calls i)
  steps-then calls call reply i b goes =
      either eq (share_settings given) (λ those steps. steps_in E eq given those i ≡ cond b steps (steps_in E eq given calls i)) calls (steps_in E eq given calls i) call reply
      (both-same b (steps_in E eq given calls i)) (newest eq given calls call i b goes)

  module _ (calls : List (Call K V E)) (reply : Reply K V C H W X P F L T E S) (i : ℕ) where
    -- what the segment gives out by a step that goes to it
    abbrev Gives : Call K V E → Type 0
    Gives call = given_out eq (share_settings given) (events_in (after_reply eq (share_settings given) call reply (steps_in E eq given calls i))) ≡ given_in eq given calls i ++ noticed_in (reply ∷ [])

    one : (call : Call K V E) (j : ℕ) → place_of E eq given calls call ≡ One j → joint_in E eq given calls call ≡ None → IsReplyIn E eq is_clone is_infallible given calls call reply → goes_to i (place_of E eq given calls call) ≡ true → Gives call
    one call j place joint is goes =
        let own : IsReplyTo eq is_clone is_infallible (share_settings given) (steps_in E eq given calls (segment_of_place (place_of E eq given calls call))) call reply =
        subst (λ o. IsReplyBy o (IsReplyTo eq is_clone is_infallible (share_settings given) (steps_in E eq given calls (segment_of_place (place_of E eq given calls call))) call reply) reply) joint is in
        let at_j : IsReplyTo eq is_clone is_infallible (share_settings given) (steps_in E eq given calls j) call reply = subst (λ p. IsReplyTo eq is_clone is_infallible (share_settings given) (steps_in E eq given calls (segment_of_place p)) call reply) place own in
        let here : (i == j) ≡ true = subst (λ p. goes_to i p ≡ true) place goes in
        let same : i ≡ j = ⊎_elim (λ yes. yes.1) (λ no. absurd (let never : true ≡ false = sym here ∙ no.0 in cc)) (eqb_tells i j) in
        given-reply eq is_clone is_infallible (share_settings given) (steps_in E eq given calls i) call reply (subst (λ n. IsReplyTo eq is_clone is_infallible (share_settings given) (steps_in E eq given calls n) call reply) (sym same) at_j)

    quietly : (call : Call K V E) → IsQuiet eq (share_settings given) call → noticed_in (reply ∷ []) ≡ [] → Gives call
    quietly call quiet none = quiet-after eq is_clone is_infallible (share_settings given) (steps_in E eq given calls i) call reply quiet ∙ sym (ap (λ l. given_in eq given calls i ++ l) none ∙ append-nil (given_in eq given calls i))

    taken : (o : Option ℕ) → first_with_notice E eq given (list_of E eq given calls) ≡ o → IsReplyIn E eq is_clone is_infallible given calls TakeNotice reply → goes_to i (at_first o) ≡ true → Gives TakeNotice
    taken None e is goes = cc
    taken (Some j) e is goes = one TakeNotice j (ap at_first e) refl is (subst (λ p. goes_to i p ≡ true) (sym (ap at_first e)) goes)

    gives : (call : Call K V E) → IsReplyIn E eq is_clone is_infallible given calls call reply → goes_to i (place_of E eq given calls call) ≡ true → Gives call
    gives (Get k at) is goes = one (Get k at) (segment_of_key given k) refl refl is goes
    gives (ContainsKey k at) is goes = one (ContainsKey k at) (segment_of_key given k) refl refl is goes
    gives (Insert k v at) is goes = one (Insert k v at) (segment_of_key given k) refl refl is goes
    gives (Invalidate k at) is goes = one (Invalidate k at) (segment_of_key given k) refl refl is goes
    gives (Remove k at) is goes = one (Remove k at) (segment_of_key given k) refl refl is goes
    gives (OrInsert k v at) is goes = one (OrInsert k v at) (segment_of_key given k) refl refl is goes
    gives (Begin k kind replace at) is goes = one (Begin k kind replace at) (segment_of_key given k) refl refl is goes
    gives (BeginCompute k keep at) is goes = one (BeginCompute k keep at) (segment_of_key given k) refl refl is goes
    gives (Finish name outcome at) is goes = one (Finish name outcome at) (segment_of_key given name.key) refl refl is goes
    gives (Abandon name) is goes = one (Abandon name) (segment_of_key given name.key) refl refl is goes
    gives (Collect name) is goes = one (Collect name) (segment_of_key given name.key) refl refl is goes
    gives (Leave name) is goes = one (Leave name) (segment_of_key given name.key) refl refl is goes
    gives InvalidateAll is goes = quietly InvalidateAll (quiet-all eq (share_settings given)) (quiet-reply eq is_clone is_infallible (share_settings given) (steps_in E eq given calls 0) InvalidateAll reply (quiet-all eq (share_settings given)) is)
    gives (InvalidateIf which) is goes = quietly (InvalidateIf which) (quiet-if eq (share_settings given) which) (quiet-reply eq is_clone is_infallible (share_settings given) (steps_in E eq given calls 0) (InvalidateIf which) reply (quiet-if eq (share_settings given) which) is)
    gives (RunPendingTasks at) is goes = quietly (RunPendingTasks at) (quiet-maintained eq (share_settings given) at) (quiet-reply eq is_clone is_infallible (share_settings given) (steps_in E eq given calls 0) (RunPendingTasks at) reply (quiet-maintained eq (share_settings given) at) is)
    gives (RunPendingTasksUpTo limit at) is goes = quietly (RunPendingTasksUpTo limit at) (quiet-limited eq (share_settings given) limit at) (ap (λ r. noticed_in (r ∷ [])) is)
    gives EntryCount is goes = cc
    gives WeightedSize is goes = cc
    gives TakeNotice is goes = taken (first_with_notice E eq given (list_of E eq given calls)) refl is goes

    -- a step gives out its notice in the segment that it goes to, and none in another
    given-step : (call : Call K V E) → IsReplyIn E eq is_clone is_infallible given calls call reply → (b : Bool) → goes_to i (place_of E eq given calls call) ≡ b
        → given_in eq given (after_reply_in call reply calls) i ≡ given_in eq given calls i ++ cond b (noticed_in (reply ∷ [])) []
    given-step call is true goes = ap (λ those. given_out eq (share_settings given) (events_in those)) (steps-then calls call reply i true goes) ∙ gives call is goes
    given-step call is false goes = ap (λ those. given_out eq (share_settings given) (events_in those)) (steps-then calls call reply i false goes) ∙ sym (append-nil (given_in eq given calls i))

  -- so a run gives out in each segment the notices of the replies to its steps
  given-run : (before : List (Call K V E)) (steps : List (Step K V C H W X P F L T E S)) (replies : List (Reply K V C H W X P F L T E S)) → IsRunIn test eq is_clone is_infallible given before steps replies
      → (i : ℕ) → given_in eq given (after_all_in test steps replies before) i ≡ given_in eq given before i ++ noticed_at eq test given i before steps replies
  given-run before [] [] run i = sym (append-nil (given_in eq given before i))
  given-run before [] (r ∷ rs) run i = absurd run
  given-run before (s ∷ ss) [] run i = absurd run
  given-run before (s ∷ ss) (r ∷ rs) run i =
      let later : List (Call K V E) = after_reply_in (call_of test s) r before in
      let mine : List (Removal K V) = cond (goes_to i (place_of E eq given before (call_of test s))) (noticed_in (r ∷ [])) [] in
      given-run later ss rs run.1 i
      ∙ ap (λ l. l ++ noticed_at eq test given i later ss rs) (given-step before r i (call_of test s) run.0 (goes_to i (place_of E eq given before (call_of test s))) refl)
      ∙ append_assoc (given_in eq given before i) mine (noticed_at eq test given i later ss rs)

  -- and nothing is lost or doubled by it
  pub run-conserved-in : IsEquivalence eq → (behaviour : BehaviourData H W X → Behaviour K V) (frequency : F → List ℕ → ℕ → ℕ) (opened : F) (cache : SegmentedData K V H W X F E)
      (before : List (Call K V E)) (steps : List (Step K V C H W X P F L T E S)) (replies : List (Reply K V C H W X P F L T E S)) → IsRunIn test eq is_clone is_infallible given before steps replies
      → AllStandFor eq is_clone given (segmented_view_by behaviour frequency opened cache) (after_all_in test steps replies before) → IsConservedIn eq test given before steps replies cache.segments
  run-conserved-in laws behaviour frequency opened cache before steps replies run stand i = by (slice_get cache.segments i) refl
    where
      by : (o : Option (StateData K V H W X F E)) → slice_get cache.segments i ≡ o
          → IfSome o (λ state. IsConserved eq (share_settings given) (events_of E eq given (after_all_in test steps replies before) i) state.books (given_in eq given before i ++ noticed_at eq test given i before steps replies))
      by None e = tt
      by (Some state) e =
          let all = events_of E eq given (after_all_in test steps replies before) i in
          let here : slice_get (map (view_by behaviour frequency opened) cache.segments) i ≡ Some (view_by behaviour frequency opened state) = slice_get-map (view_by behaviour frequency opened) cache.segments i ∙ ap (option_map (view_by behaviour frequency opened)) e in
          let stands : StandsFor eq is_clone (share_settings given) (view_by behaviour frequency opened state) (steps_in E eq given (after_all_in test steps replies before) i) = rw here at (stand.each i) in
          subst (λ (b : Books K V). IsConserved eq (share_settings given) all b (given_in eq given before i ++ noticed_at eq test given i before steps replies)) (sym stands.books)
          (subst (IsConserved eq (share_settings given) all (books_of eq (share_settings given) all)) (given-run before steps replies run i) (is_conserved eq (share_settings given) laws all))
