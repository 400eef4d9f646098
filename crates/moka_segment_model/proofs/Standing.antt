-- What calls the states of segments could have come from after one more call, and what they return.
use Rattle.std.proofs.Common.{◌≡◌, ℕ, ◌==◌, Bool, true, false, cond, Option, Some, None, IfSome, List, ◌∷◌, length, refl, sym, ap, ◌∙◌, subst, ⊎_elim, set}
use Rattle.std.specs.List.{slice_get}
use Rattle.std.proofs.lemmas.Bool.Decides.{eqb_tells}
use Rattle.moka_segment_model.proofs.Lists.{eqb_refl}
use Rattle.moka_model.specs.Lives.{Settings}
use Rattle.moka_model.specs.Steps.{AcceptedStep}
use Rattle.moka_model.specs.Calls.{Call, Reply, Accepted, accepted, reply_of, after}
use Rattle.moka_model.specs.StandsFor.{WholeView, StandsFor, Follows, RepliesWith, IsReplyOf}
use Rattle.moka_model.specs.Calls.{RunPendingTasksUpTo, EntryCount, WeightedSize, TakeNotice}
use Rattle.moka_segment_model.specs.Segments.{SegmentedSettings, SegmentedView, share_settings, segment_of_key, place_of_key, key_in, Place, One, Each, Nowhere, goes_to, place_of, steps_after, list_of, steps_in, joint_in, reply_by, reply_in, segment_of_place, IsGivenReply, AllStandFor}
use Rattle.moka_segment_model.proofs.Lists.{slice_get-set_same, slice_get-set_other, length-set}

-- one state follows a call, where there is one
abbrev pub FollowsAt : {K V E : Type 0} → (K → K → Bool) → (V → V → Type 0) → Call K V E → Option (WholeView K V E) → Option (WholeView K V E) → Type 0
FollowsAt eq is_clone call None None = Unit {0}
FollowsAt eq is_clone call (Some v) (Some w) = Follows eq is_clone v call w
FollowsAt eq is_clone call v w = ⊥

answered-of : {K V E : Type 0} (is_clone : V → V → Type 0) (it : Option (Accepted K V E)) (reply : Reply K V E) → IsReplyOf is_clone it reply → IsGivenReply is_clone (reply_of it) reply
answered-of is_clone None reply is = is
answered-of is_clone (Some it) reply is = is

module _ {K V : Type 0} (E : Type 0) (eq : K → K → Bool) (given : SegmentedSettings K V) where
  -- a call is the newest step of a segment that it goes to, and no step of another
  pub steps-here : (calls : List (Call K V E)) (call : Call K V E) (i : ℕ) (place : Place) → place_of E eq given calls call ≡ place → goes_to i place ≡ true
      → steps_in E eq given (call ∷ calls) i ≡ after eq (share_settings given) call (steps_in E eq given calls i)
  steps-here calls call i place is here =
      ap (λ b. steps_after eq (share_settings given) (cond b (call ∷ list_of E eq given calls i) (list_of E eq given calls i))) (ap (goes_to i) is ∙ here)

  pub steps-apart : (calls : List (Call K V E)) (call : Call K V E) (i : ℕ) (place : Place) → place_of E eq given calls call ≡ place → goes_to i place ≡ false
      → steps_in E eq given (call ∷ calls) i ≡ steps_in E eq given calls i
  steps-apart calls call i place is apart =
      ap (λ b. steps_after eq (share_settings given) (cond b (call ∷ list_of E eq given calls i) (list_of E eq given calls i))) (ap (goes_to i) is ∙ apart)

stand-at : {K V E : Type 0} (eq : K → K → Bool) (is_clone : V → V → Type 0) (given : Settings K V) (old new : Option (WholeView K V E)) (steps : List (AcceptedStep K V E)) (call : Call K V E)
    → FollowsAt eq is_clone call old new → IfSome old (λ one. StandsFor eq is_clone given one steps) → IfSome new (λ one. StandsFor eq is_clone given one (after eq given call steps))
stand-at eq is_clone given None None steps call follows stands = tt
stand-at eq is_clone given None (Some w) steps call follows stands = absurd follows
stand-at eq is_clone given (Some v) None steps call follows stands = absurd follows
stand-at eq is_clone given (Some v) (Some w) steps call follows stands = follows _ _ stands

module _ {K V : Type 0} (E : Type 0) (eq : K → K → Bool) {is_clone : V → V → Type 0} (given : SegmentedSettings K V) where
  -- one segment's state stands for its list of more calls, and the lists of all others stay
  pub stand-set : (view : SegmentedView K V E) (calls later : List (Call K V E)) (j : ℕ) (v w : WholeView K V E)
      → slice_get view.segments j ≡ Some v → StandsFor eq is_clone (share_settings given) w (steps_in E eq given later j)
      → ((i : ℕ) → (i == j) ≡ false → steps_in E eq given later i ≡ steps_in E eq given calls i) → AllStandFor eq is_clone given view calls
      → AllStandFor eq is_clone given (record { settings = view.settings; segments = set view.segments j w }) later
  stand-set view calls later j v w here stands others stand = record {
    settings = stand.settings;
    count = length-set view.segments j w ∙ stand.count;
    each = λ i.
        let StandsAt : Option (WholeView K V E) → List (AcceptedStep K V E) → Type 0 = λ o steps. IfSome o (λ one. StandsFor eq is_clone (share_settings given) one steps) in
        ⊎_elim
        (λ same.
        let it : slice_get (set view.segments j w) i ≡ Some w = ap (slice_get (set view.segments j w)) same.1 ∙ slice_get-set_same view.segments j w v here in
        rw it (subst (λ n. StandsFor eq is_clone (share_settings given) w (steps_in E eq given later n)) (sym same.1) stands))
        (λ other. rw (slice_get-set_other view.segments j i w other.1) (subst (StandsAt (slice_get view.segments i)) (sym (others i other.0)) (stand.each i)))
        (eqb_tells i j);
  }

  -- the state at a place stands for its list
  pub stand-here : (view : SegmentedView K V E) (calls : List (Call K V E)) (j : ℕ) (v : WholeView K V E) → slice_get view.segments j ≡ Some v → AllStandFor eq is_clone given view calls
      → StandsFor eq is_clone (share_settings given) v (steps_in E eq given calls j)
  stand-here view calls j v here stand = rw here at (stand.each j)

  -- a call to one segment: that one's state follows it, and all others stay
  pub stand-one : (view : SegmentedView K V E) (calls : List (Call K V E)) (j : ℕ) (v w : WholeView K V E) (call : Call K V E) → place_of E eq given calls call ≡ One j
      → slice_get view.segments j ≡ Some v → Follows eq is_clone v call w → AllStandFor eq is_clone given view calls
      → AllStandFor eq is_clone given (record { settings = view.settings; segments = set view.segments j w }) (call ∷ calls)
  stand-one view calls j v w call place here follows stand =
      stand-set view calls (call ∷ calls) j v w here
      (subst (StandsFor eq is_clone (share_settings given) w) (sym (steps-here E eq given calls call j (One j) place (eqb_refl j))) (follows (share_settings given) (steps_in E eq given calls j) (stand-here view calls j v here stand)))
      (λ i other. steps-apart E eq given calls call i (One j) place other)
      stand

  -- a call to each: each state follows it
  pub stand-each : (old new : SegmentedView K V E) (calls : List (Call K V E)) (call : Call K V E) → place_of E eq given calls call ≡ Each → new.settings ≡ old.settings
      → length new.segments ≡ length old.segments → ((i : ℕ) → FollowsAt eq is_clone call (slice_get old.segments i) (slice_get new.segments i)) → AllStandFor eq is_clone given old calls
      → AllStandFor eq is_clone given new (call ∷ calls)
  stand-each old new calls call place settings same follows stand = record {
    settings = settings ∙ stand.settings;
    count = same ∙ stand.count;
    each = λ i.
        subst (λ steps. IfSome (slice_get new.segments i) (λ one. StandsFor eq is_clone (share_settings given) one steps)) (sym (steps-here E eq given calls call i Each place refl))
        (stand-at eq is_clone (share_settings given) (slice_get old.segments i) (slice_get new.segments i) (steps_in E eq given calls i) call (follows i) (stand.each i));
  }

  -- a call to none: all stay
  pub stand-nowhere : (view : SegmentedView K V E) (calls : List (Call K V E)) (call : Call K V E) → place_of E eq given calls call ≡ Nowhere → AllStandFor eq is_clone given view calls → AllStandFor eq is_clone given view (call ∷ calls)
  stand-nowhere view calls call place stand = record {
    settings = stand.settings;
    count = stand.count;
    each = λ i. subst (λ steps. IfSome (slice_get view.segments i) (λ one. StandsFor eq is_clone (share_settings given) one steps)) (sym (steps-apart E eq given calls call i Nowhere place refl)) (stand.each i);
  }

  -- a state returns what its own list says
  pub reply-at : (view : SegmentedView K V E) (calls : List (Call K V E)) (j : ℕ) (v : WholeView K V E) (call : Call K V E) (reply : Reply K V E)
      → slice_get view.segments j ≡ Some v → RepliesWith eq is_clone v call reply → AllStandFor eq is_clone given view calls
      → IsGivenReply is_clone (reply_of (accepted eq (share_settings given) (steps_in E eq given calls j) call)) reply
  reply-at view calls j v call reply here replies stand =
      answered-of is_clone (accepted eq (share_settings given) (steps_in E eq given calls j) call) reply (replies _ _ (stand-here view calls j v here stand))

-- A call of a key goes only to the segment of its key.
pub record IsRouted {K V : Type 0} (E : Type 0) (eq : K → K → Bool) (given : SegmentedSettings K V) (k : K) (call : Call K V E) (calls : List (Call K V E)) : Type 0 where
  pub place : place_of E eq given calls call ≡ One (segment_of_key given k)
  pub joint : joint_in E eq given calls call ≡ None

pub routed : {K V : Type 0} (E : Type 0) (eq : K → K → Bool) (given : SegmentedSettings K V) (k : K) (call : Call K V E) (calls : List (Call K V E)) → key_in call ≡ Some k → IsRouted E eq given k call calls
routed E eq given k EntryCount calls e = cc
routed E eq given k WeightedSize calls e = cc
routed E eq given k TakeNotice calls e = cc
routed E eq given k (RunPendingTasksUpTo limit at) calls e = cc
routed E eq given k call calls e = record { place = ap (place_of_key given) e; joint = refl }

module _ {K V : Type 0} (E : Type 0) (eq : K → K → Bool) (given : SegmentedSettings K V) where
  -- what is not returned by all together is returned by the segment of the call
  pub reply-asked : (calls : List (Call K V E)) (call : Call K V E) (place : Place) → place_of E eq given calls call ≡ place → joint_in E eq given calls call ≡ None
      → reply_in E eq given calls call ≡ reply_of (accepted eq (share_settings given) (steps_in E eq given calls (segment_of_place place)) call)
  reply-asked calls call place is none =
      ap (λ joint. reply_by joint (reply_of (accepted eq (share_settings given) (steps_in E eq given calls (segment_of_place (place_of E eq given calls call))) call))) none
      ∙ ap (λ p. reply_of (accepted eq (share_settings given) (steps_in E eq given calls (segment_of_place p)) call)) is

-- a cache hashes as it was built to
pub hash-at : {K V : Type 0} (E : Type 0) (eq : K → K → Bool) {is_clone : V → V → Type 0} (given : SegmentedSettings K V) (view : SegmentedView K V E) (calls : List (Call K V E)) (k : K) → AllStandFor eq is_clone given view calls → segment_of_key view.settings k ≡ segment_of_key given k
hash-at {K = K} {V = V} E eq given view calls k stand = ap (λ (s : SegmentedSettings K V). segment_of_key s k) stand.settings
