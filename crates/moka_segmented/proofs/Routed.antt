-- A call of a key, to one state of a vector.
use Rattle.std.proofs.Common.{◌≡◌, ℕ, zero, suc, ◌<◌, ◌==◌, false, Bool, Option, Some, None, Result, Ok, Err, IsOk, IsErr, IfOk, IfSome, OnOk, OnErr, List, [], ◌∷◌, length, map, option_map, refl, sym, ap, ◌∙◌, subst, get_or, set}
use Rattle.std.specs.List.{slice_get}
use Rattle.std.proofs.lemmas.List.{set-get_or}
use Rattle.std.proofs.lemmas.Option.{slice_get_read, slice_get-map}
use Rattle.moka_model.specs.Lives.{Behaviour, Settings}
use Rattle.moka_model.specs.Steps.{AcceptedStep}
use Rattle.moka_model.specs.Calls.{Call, Reply, accepted, reply_of}
use Rattle.moka_model.specs.StandsFor.{StandsFor, Follows, RepliesWith}
use Rattle.moka_expiration.specs.Behaviour.{BehaviourData}
use Rattle.moka_expiration.specs.StateData.{SettingsData, StateData, view_by}
use Rattle.moka_segment_model.specs.Segments.{SegmentedSettings, One, segment_of_key, steps_in, place_of, share_settings, AllStandFor, AtEachList, RepliesIn, FollowsIn, IsGivenReply, key_in}
use Rattle.moka_segment_model.proofs.Callers.{routed, reply-at, reply-asked, hash-at, stand-set, stand-one, stand-here}
use Rattle.moka_segmented.specs.SegmentedData.{SegmentedData, segmented_settings_by, segmented_view_by}

-- what a reply gives, by what its contract says
pub IfOk-by : {A E : Type 0} {P Q : A → Type 0} (r : Result A E) → ((x : A) → P x → Q x) → IfOk r P → IfOk r Q
IfOk-by (Ok x) more is = more x is
IfOk-by (Err e) more is = tt

pub IfSome-by : {A : Type 0} {P Q : A → Type 0} (o : Option A) → ((x : A) → P x → Q x) → IfSome o P → IfSome o Q
IfSome-by None more is = tt
IfSome-by (Some x) more is = more x is

pub OnOk-by : {A E : Type 0} {P Q : Type 0} (r : Result A E) → (P → Q) → OnOk r P → OnOk r Q
OnOk-by (Ok x) more is = more is
OnOk-by (Err e) more is = tt

pub OnErr-by : {A E : Type 0} {P Q : Type 0} (r : Result A E) → (P → Q) → OnErr r P → OnErr r Q
OnErr-by (Ok x) more is = tt
OnErr-by (Err e) more is = more is

pub OnErr-all : {A E : Type 0} {P : Type 0} (r : Result A E) → P → OnErr r P
OnErr-all (Ok x) is = tt
OnErr-all (Err e) is = is

pub not-both : {A E : Type 0} (r : Result A E) → IsErr r → IsOk r → ⊥
not-both (Ok x) err ok = cc
not-both (Err e) err ok = cc

-- what is written back where it was read leaves a list as it was
pub set-same : {S : Type 0} (states : List S) (i : ℕ) (now new : S) → now ≡ get_or states i now → new ≡ now → set states i new ≡ states
set-same states i now new is same = ap (set states i) (same ∙ is) ∙ set-get_or states i now

pub data-same : {K V H W X F E : Type 0} (bits : ℕ) (settings : SettingsData H W X) (states : List (StateData K V H W X F E)) (i : ℕ) (now new : StateData K V H W X F E) → now ≡ get_or states i now → new ≡ now
    → (let it : SegmentedData K V H W X F E = record { bits = bits; settings = settings; segments = set states i new } in it) ≡ record { bits = bits; settings = settings; segments = states }
data-same bits settings states i now new is same =
    ap (λ l. let it : SegmentedData _ _ _ _ _ _ _ = record { bits = bits; settings = settings; segments = l } in it) (set-same states i now new is same)

-- data of the same parts are the same
pub same-data : {K V H W X F E : Type 0} (old : SegmentedData K V H W X F E) (bits : ℕ) (settings : SettingsData H W X) (states : List (StateData K V H W X F E)) → bits ≡ old.bits → settings ≡ old.settings → states ≡ old.segments
    → (let it : SegmentedData K V H W X F E = record { bits = bits; settings = settings; segments = states } in it) ≡ old
same-data old bits settings states b s l =
    ap (λ n. let it : SegmentedData _ _ _ _ _ _ _ = record { bits = n; settings = settings; segments = states } in it) b
    ∙ ap (λ m. let it : SegmentedData _ _ _ _ _ _ _ = record { bits = old.bits; settings = m; segments = states } in it) s
    ∙ ap (λ m. let it : SegmentedData _ _ _ _ _ _ _ = record { bits = old.bits; settings = old.settings; segments = m } in it) l

-- the views once the state at a place is another
pub views-set : {S W : Type 0} (view : S → W) (all : List S) (i : ℕ) (s : S) → map view (set all i s) ≡ set (map view all) i (view s)
views-set view [] i s = refl
views-set view (x ∷ xs) zero s = refl
views-set view (x ∷ xs) (suc i) s = ap (λ vs. view x ∷ vs) (views-set view xs i s)

-- the view of the state at a place
pub view-at : {S W : Type 0} (view : S → W) (states : List S) (i : ℕ) (s : S) → i < length states → s ≡ get_or states i s → slice_get (map view states) i ≡ Some (view s)
view-at view states i s within is = slice_get-map view states i ∙ ap (option_map view) (slice_get_read states (length states) i s refl within is)

-- The state that was called is the one at the index that a key selects.
pub record Routing {K V S : Type 0} (settings : SegmentedSettings K V) (states : List S) (here : S) (index : ℕ) (k : K) : Type 0 where
  pub here_is : here ≡ get_or states index here
  pub is : index ≡ segment_of_key settings k
  pub within : index < length states

module _ {K V H W X F : Type 0} (E : Type 0) (eq : K → K → Bool) (behaviour : BehaviourData H W X → Behaviour K V) (frequency : F → List ℕ → ℕ → ℕ) (opened : F) (cache : SegmentedData K V H W X F E)
    (here : StateData K V H W X F E) (index : ℕ) (k : K) (routing : Routing (segmented_settings_by behaviour (frequency opened) cache) cache.segments here index k) where
  pub here-view : slice_get (map (view_by behaviour frequency opened) cache.segments) index ≡ Some (view_by behaviour frequency opened here)
  here-view = view-at (view_by behaviour frequency opened) cache.segments index here routing.within routing.here_is

  module _ {is_clone : V → V → Type 0} where
    -- the index is that of the key
    pub index-is : (given : SegmentedSettings K V) (calls : List (Call K V E)) → AllStandFor eq is_clone given (segmented_view_by behaviour frequency opened cache) calls → index ≡ segment_of_key given k
    index-is given calls stand = routing.is ∙ hash-at E eq given (segmented_view_by behaviour frequency opened cache) calls k stand

    -- the state's reply is the reply
    pub routed-answers : (call : Call K V E) (answer : Reply K V E) → key_in call ≡ Some k → RepliesWith eq is_clone (view_by behaviour frequency opened here) call answer
        → RepliesIn eq is_clone (segmented_view_by behaviour frequency opened cache) call answer
    routed-answers call answer key answers given calls stand =
        let it = routed E eq given k call calls key in
        subst (λ o. IsGivenReply is_clone o answer) (sym (reply-asked E eq given calls call (One (segment_of_key given k)) it.place it.joint))
        (subst (λ j. IsGivenReply is_clone (reply_of (accepted eq (share_settings given) (steps_in E eq given calls j) call)) answer) (index-is given calls stand)
        (reply-at E eq given (segmented_view_by behaviour frequency opened cache) calls index (view_by behaviour frequency opened here) call answer here-view answers stand))

    -- where it stands for its own steps, and those of all other segments stay, all stand for a list of calls
    pub routed-stands : (given : SegmentedSettings K V) (calls later : List (Call K V E)) (new : StateData K V H W X F E) → StandsFor eq is_clone (share_settings given) (view_by behaviour frequency opened new) (steps_in E eq given later index)
        → ((i : ℕ) → (i == index) ≡ false → steps_in E eq given later i ≡ steps_in E eq given calls i) → AllStandFor eq is_clone given (segmented_view_by behaviour frequency opened cache) calls
        → AllStandFor eq is_clone given (segmented_view_by behaviour frequency opened (record cache { segments = set cache.segments index new })) later
    routed-stands given calls later new stands others stand =
        rw (views-set (view_by behaviour frequency opened) cache.segments index new)
        (stand-set E eq given (segmented_view_by behaviour frequency opened cache) calls later index (view_by behaviour frequency opened here) (view_by behaviour frequency opened new) here-view stands others stand)

    -- and where it follows a call, all do
    pub routed-follows : (call : Call K V E) (new : StateData K V H W X F E) → key_in call ≡ Some k → Follows eq is_clone (view_by behaviour frequency opened here) call (view_by behaviour frequency opened new)
        → FollowsIn eq is_clone (segmented_view_by behaviour frequency opened cache) call (segmented_view_by behaviour frequency opened (record cache { segments = set cache.segments index new }))
    routed-follows call new key follows given calls stand =
        let place : place_of E eq given calls call ≡ One index = (routed E eq given k call calls key).place ∙ ap One (sym (index-is given calls stand)) in
        rw (views-set (view_by behaviour frequency opened) cache.segments index new)
        (stand-one E eq given (segmented_view_by behaviour frequency opened cache) calls index (view_by behaviour frequency opened here) (view_by behaviour frequency opened new) call place here-view follows stand)

    -- so where it is as it was
    pub routed-stays : (call : Call K V E) → key_in call ≡ Some k → Follows eq is_clone (view_by behaviour frequency opened here) call (view_by behaviour frequency opened here)
        → FollowsIn eq is_clone (segmented_view_by behaviour frequency opened cache) call (segmented_view_by behaviour frequency opened cache)
    routed-stays call key follows =
        subst (λ l. FollowsIn eq is_clone (segmented_view_by behaviour frequency opened cache) call (segmented_view_by behaviour frequency opened (record cache { segments = l })))
        (set-same cache.segments index here here routing.here_is refl)
        (routed-follows call here key follows)

    -- what the state of the key's segment says of its steps
    pub routed-history : (P : Settings K V → List (AcceptedStep K V E) → Type 0) → ((s : Settings K V) (steps : List (AcceptedStep K V E)) → StandsFor eq is_clone s (view_by behaviour frequency opened here) steps → P s steps)
        → AtEachList eq is_clone (segmented_view_by behaviour frequency opened cache) (λ given calls. P (share_settings given) (steps_in E eq given calls (segment_of_key given k)))
    routed-history P each given calls stand =
        subst (λ j. P (share_settings given) (steps_in E eq given calls j)) (index-is given calls stand)
        (each _ _ (stand-here E eq given (segmented_view_by behaviour frequency opened cache) calls index (view_by behaviour frequency opened here) here-view stand))
