-- What a step of a key replies, and the calls that the states could have come from afterwards.
use Rattle.std.proofs.Common.{◌≡◌, ℕ, true, false, cond, arith, Bool, Option, Some, None, option_map, List, [], ◌∷◌, refl, sym, ap, subst, set}
use Rattle.moka_model.specs.Lives.{Behaviour, Settings}
use Rattle.moka_model.specs.Steps.{AcceptedStep, events_in, turns}
use Rattle.moka_model.specs.Events.{Hidden}
use Rattle.moka_model.specs.Numbers.{next_number}
use Rattle.moka_model.specs.Calls as answers
use Rattle.moka_model.specs.Calls.{Call, InvalidateIf, TakeNotice, Accepted, ClosuresUnsupported, IsRefusedAs, without_move, WantsNumber}
use Rattle.moka_predicate_ids.specs.declared.predicate_error.PredicateError.{PredicateError}
use Rattle.moka_predicate_ids.specs.declared.predicate_error.PredicateError.TheVariants.{InvalidationClosuresDisabled}
use Rattle.std.specs.Arc.{arc_value}
use Rattle.std.specs.declared.alloc.Global.{Global}
use Rattle.std.specs.declared.sync.Arc.{Arc}
use Rattle.moka_model.specs.StandsFor.{StandsFor, IsReplyOf}
use Rattle.moka_expiration.specs.Behaviour.{BehaviourData}
use Rattle.moka_expiration.specs.StateData.{StateData, view_by}
use Rattle.moka_model.specs.declared.notification.Notice.{Notice}
use Rattle.moka_table.specs.Table.{removal_of}
use Rattle.moka_state.specs.declared.step.Step.{Step}
use Rattle.moka_state.specs.declared.step.Step.TheVariants as steps
use Rattle.moka_state.specs.declared.step.Reply.{Reply}
use Rattle.moka_state.specs.declared.step.Reply.TheVariants.{Found, Contains, Done, Counted, Left, Noticed, Refused, PredicateRefused}
use Rattle.moka_state.specs.declared.step.Reply.TheVariants.{Entered, Run, Wait, Nothing, Failed, Computed, NotYet, Abandoned, Ended}
use Rattle.moka_state.specs.Step.{call_of, IsAccepted, IsReplyTo, after_reply}
use Rattle.moka_segment_model.specs.Segments.{SegmentedSettings, segment_of_place, steps_in, place_of, share_settings, AllStandFor, AtEachList, reply_in, IsGivenReply, key_in}
use Rattle.moka_segment_model.proofs.Callers.{routed}
use Rattle.moka_segmented.specs.SegmentedData.{SegmentedData, segmented_settings_by, segmented_view_by}
use Rattle.moka_segmented.specs.Step.{IsReplyBy, IsReplyIn, after_reply_in}
use Rattle.moka_segmented.proofs.Routed.{Routing, routed-follows, routed-stands, routed-history, index-is}

module _ {K V C H W X P F L T S : Type 0} (E : Type 0) (eq : K → K → Bool) {is_clone : V → V → Type 0} (behaviour : BehaviourData H W X → Behaviour K V) (frequency : F → List ℕ → ℕ → ℕ) (opened : F) (cache : SegmentedData K V H W X F E)
    (here : StateData K V H W X F E) (index : ℕ) (k : K) (routing : Routing (segmented_settings_by behaviour (frequency opened) cache) cache.segments here index k) (call : Call K V E) (key : key_in call ≡ Some k) (reply : Reply K V C H W X P F L T E S) where
  -- the reply of the state of its key's segment is the reply
  pub routed-replies : (is_infallible : V → Type 0)
      → ((s : Settings K V) (steps : List (AcceptedStep K V E)) → StandsFor eq is_clone s (view_by behaviour frequency opened here) steps → IsReplyTo eq is_clone is_infallible s steps call reply)
      → AtEachList eq is_clone (segmented_view_by behaviour frequency opened cache) (λ given calls. IsReplyIn E eq is_clone is_infallible given calls call reply)
  routed-replies is_infallible replies given calls stand =
      let it = routed E eq given k call calls key in
      subst (λ joint. IsReplyBy joint (IsReplyTo eq is_clone is_infallible (share_settings given) (steps_in E eq given calls (segment_of_place (place_of E eq given calls call))) call reply) reply) (sym it.joint)
      (subst (λ place. IsReplyTo eq is_clone is_infallible (share_settings given) (steps_in E eq given calls (segment_of_place place)) call reply) (sym it.place)
      (routed-history E eq behaviour frequency opened cache here index k routing (λ s steps. IsReplyTo eq is_clone is_infallible s steps call reply) replies given calls stand))

  -- if that state could have come from its own steps with this one, all could have come from the calls with it
  pub routed-stood : (new : StateData K V H W X F E)
      → ((s : Settings K V) (steps : List (AcceptedStep K V E)) → StandsFor eq is_clone s (view_by behaviour frequency opened here) steps → StandsFor eq is_clone s (view_by behaviour frequency opened new) (after_reply eq s call reply steps))
      → AtEachList eq is_clone (segmented_view_by behaviour frequency opened cache) (λ given calls. AllStandFor eq is_clone given (segmented_view_by behaviour frequency opened (record cache { segments = set cache.segments index new })) (after_reply_in call reply calls))
  routed-stood new stands = by reply stands
    where
      refused : ((s : Settings K V) (steps : List (AcceptedStep K V E)) → StandsFor eq is_clone s (view_by behaviour frequency opened here) steps → StandsFor eq is_clone s (view_by behaviour frequency opened new) steps)
          → AtEachList eq is_clone (segmented_view_by behaviour frequency opened cache) (λ given calls. AllStandFor eq is_clone given (segmented_view_by behaviour frequency opened (record cache { segments = set cache.segments index new })) calls)
      refused same given calls stand =
          routed-stands E eq behaviour frequency opened cache here index k routing given calls calls new
          (subst (λ j. StandsFor eq is_clone (share_settings given) (view_by behaviour frequency opened new) (steps_in E eq given calls j)) (sym (index-is E eq behaviour frequency opened cache here index k routing given calls stand))
          (routed-history E eq behaviour frequency opened cache here index k routing (λ s steps. StandsFor eq is_clone s (view_by behaviour frequency opened new) steps) same given calls stand))
          (λ i other. refl) stand

      by : (it : Reply K V C H W X P F L T E S) → ((s : Settings K V) (steps : List (AcceptedStep K V E)) → StandsFor eq is_clone s (view_by behaviour frequency opened here) steps → StandsFor eq is_clone s (view_by behaviour frequency opened new) (after_reply eq s call it steps))
          → AtEachList eq is_clone (segmented_view_by behaviour frequency opened cache) (λ given calls. AllStandFor eq is_clone given (segmented_view_by behaviour frequency opened (record cache { segments = set cache.segments index new })) (after_reply_in call it calls))
      by (Found v) follows = routed-follows E eq behaviour frequency opened cache here index k routing call new key follows
      by (Contains b) follows = routed-follows E eq behaviour frequency opened cache here index k routing call new key follows
      by Done follows = routed-follows E eq behaviour frequency opened cache here index k routing call new key follows
      by (Counted n) follows = routed-follows E eq behaviour frequency opened cache here index k routing call new key follows
      by (Left b) follows = routed-follows E eq behaviour frequency opened cache here index k routing call new key follows
      by (Noticed n) follows = routed-follows E eq behaviour frequency opened cache here index k routing call new key follows
      by (Entered entry) follows = routed-follows E eq behaviour frequency opened cache here index k routing call new key follows
      by (Run name entry) follows = routed-follows E eq behaviour frequency opened cache here index k routing call new key follows
      by (Wait name) follows = routed-follows E eq behaviour frequency opened cache here index k routing call new key follows
      by Nothing follows = routed-follows E eq behaviour frequency opened cache here index k routing call new key follows
      by (Failed error) follows = routed-follows E eq behaviour frequency opened cache here index k routing call new key follows
      by (Computed result) follows = routed-follows E eq behaviour frequency opened cache here index k routing call new key follows
      by NotYet follows = routed-follows E eq behaviour frequency opened cache here index k routing call new key follows
      by Abandoned follows = routed-follows E eq behaviour frequency opened cache here index k routing call new key follows
      by Ended follows = routed-follows E eq behaviour frequency opened cache here index k routing call new key follows
      by (Refused cause) same = refused same
      by (PredicateRefused cause) same = refused same

-- What a call without a key replies, by what it says of the segment that is asked.
module _ {K V : Type 0} (E : Type 0) (eq : K → K → Bool) (is_clone : V → V → Type 0) (is_infallible : V → Type 0) (given : SegmentedSettings K V) (calls : List (Call K V E)) (test : K → V → Bool) where
  abbrev asked_steps : Call K V E → List (AcceptedStep K V E)
  asked_steps call = steps_in E eq given calls (segment_of_place (place_of E eq given calls call))

  -- a predicate is accepted where closures are supported, and fails by its name where not
  pub hidden-replies : given.whole.supports_closures ≡ true → IsAccepted eq is_clone (share_settings given) (asked_steps (InvalidateIf test)) (InvalidateIf test) answers.Done
  hidden-replies supports =
      subst (λ b. let it : Option (Accepted K V E) = cond b (Some (without_move answers.Done (Hidden test ∷ []))) None in IsReplyOf is_clone it answers.Done × ¬ (WantsNumber (next_number (share_settings given) (events_in (steps_in E eq given calls 0))) (turns (steps_in E eq given calls 0)) it))
      (sym supports) (refl, λ out. let no : ⊥ = omega (arith, out.0) in no)

  pub refused-replies : (given.whole.supports_closures ≡ true → ⊥) → IsRefusedAs eq (share_settings given) ClosuresUnsupported (asked_steps (InvalidateIf test)) (InvalidateIf test)
  refused-replies not = by given.whole.supports_closures refl
    where
      by : (b : Bool) → given.whole.supports_closures ≡ b → IsRefusedAs eq (share_settings given) ClosuresUnsupported (asked_steps (InvalidateIf test)) (InvalidateIf test)
      by true e = absurd (not e)
      by false e = (ap (λ b. let it : Option (Accepted K V E) = cond b (Some (without_move answers.Done (Hidden test ∷ []))) None in it) e, refl)

  -- what taking a notice returns it replies
  pub taken-replies : (notice : Option (Notice K V)) → IsGivenReply is_clone (reply_in E eq given calls TakeNotice) (answers.Noticed (option_map removal_of notice)) → IsAccepted eq is_clone (share_settings given) (asked_steps TakeNotice) TakeNotice (answers.Noticed (option_map removal_of notice))
  taken-replies notice is = (is, λ out. let no : ⊥ = omega (arith, out.0) in no)

-- so does a step of a predicate that is refused
pub refused-step : {K V C H W X P F L T E S : Type 0} (eq : K → K → Bool) (is_clone : V → V → Type 0) (is_infallible : V → Type 0) (given : SegmentedSettings K V) (calls : List (Call K V E)) (test : P → K → V → Bool) (step : Step K V C H W X P F L T E S) (predicate : Arc P Global) (cause : PredicateError)
    → step ≡ steps.InvalidateIf predicate → cause ≡ InvalidationClosuresDisabled → (given.whole.supports_closures ≡ true → ⊥) → (let reply : Reply K V C H W X P F L T E S = PredicateRefused cause in IsReplyIn E eq is_clone is_infallible given calls (call_of test step) reply)
refused-step {K} {V} {C} {H} {W} {X} {P} {F} {L} {T} {E} {S} eq is_clone is_infallible given calls test step predicate cause is_step is_cause not =
    let with_step = λ (s : Step K V C H W X P F L T E S). let reply : Reply K V C H W X P F L T E S = PredicateRefused cause in IsReplyIn E eq is_clone is_infallible given calls (call_of test s) reply in
    let with_cause = λ (it : PredicateError). let reply : Reply K V C H W X P F L T E S = PredicateRefused it in IsReplyIn E eq is_clone is_infallible given calls (InvalidateIf (test (arc_value predicate))) reply in
    subst with_step (sym is_step) (subst with_cause (sym is_cause) (refused-replies E eq is_clone is_infallible given calls (test (arc_value predicate)) not))
