-- What the state of a key's segment says of a call of the key is said of all segments.
use Rattle.std.proofs.Common.{◌≡◌, ℕ, ◌<◌, Bool, Option, Some, None, Result, IsOk, IfSome, OnOk, OnErr, List, length, option_map, refl, get_or, set}
use Rattle.moka_policy.specs.declared.policy.Refused.{Refused}
use Rattle.moka_model.specs.declared.entry.Entry.{Entry}
use Rattle.moka_model.specs.declared.turns.Kind.{Kind}
use Rattle.moka_model.specs.declared.turns.Op.{Op}
use Rattle.moka_model.specs.declared.turns.Outcome.{Outcome}
use Rattle.moka_model.specs.Entries.{entry_of}
use Rattle.moka_model.specs.Lives.{Behaviour, Lifetimes, Write}
use Rattle.moka_model.specs.Steps.{events_in}
use Rattle.moka_model.specs.Calls.{Call, Reply, Found, Begin, OrInsert, live_at}
use Rattle.moka_expiration.specs.Behaviour.{BehaviourData, hash_by, behaviour_by}
use Rattle.moka_expiration.specs.StateData.{SettingsData, StateData, estimates, settings_by, view_by, StandsForBy, AtEachHistoryBy, FollowsBy, RepliesWithBy}
use Rattle.moka_state.specs.Ends.{Spec, GivesAt, ReadsLive, IsFormIf, Loads, LoadsIf, LoadsEntry, LoadsEntryIf, Computes, Tries, Upserts, OrInserts}
use Rattle.moka_state.specs.Given.{Gives}
use Rattle.moka_segment_model.specs.Segments.{segment_of, live_in, key_in}
use Rattle.moka_segmented.specs.Forms.{IsFormIn}
use Rattle.moka_segmented.specs.SegmentedData.{SegmentedData, segmented_settings_by, segmented_view_by, AllStandForBy, AtEachListBy, FollowsInBy, RepliesInBy}
use Rattle.moka_segmented.specs.Ends.{SegmentedSpec, GivesAtIn, ReadsLiveIn, LoadsIn, LoadsIfIn, LoadsEntryIn, LoadsEntryIfIn, ComputesIn, TriesIn, UpsertsIn, OrInsertsIn}
use Rattle.moka_segmented.proofs.Asked.{routed-asked}
use Rattle.moka_segmented.proofs.Forms.{routed-form, routed-compute, routing-alike, unasked-by}
use Rattle.moka_segmented.proofs.Routed.{IfOk-by, OnOk-by, OnErr-by, Routing, routed-answers, routed-follows, routed-history, data-same}

-- A state of a cache was called: the one at the index that a key selects. The functions say what the data means.
pub record Called {K V H W X F E : Type 0} (behaviour : BehaviourData H W X → Behaviour K V) (frequency : F → List ℕ → ℕ → ℕ) (opened : F) (cache : SegmentedData K V H W X F E) (here : StateData K V H W X F E) (index : ℕ) (k : K) : Type 0 where
  pub routing : Routing (segmented_settings_by behaviour (frequency opened) cache) cache.segments here index k

pub called-at : {K V H W X F E S I : Type 0} (build_hasher : H → S) (write : S → List I → S) (finish : S → ℕ) (hash_input : K → List (List I)) (weight : W → K → V → ℕ) (lifetimes : X → Lifetimes K V) (noted : F → ℕ → F) (count : F → ℕ → ℕ) (opened : F)
    (bits : ℕ) (settings : SettingsData H W X) (states : List (StateData K V H W X F E)) (here : StateData K V H W X F E) (index : ℕ) (k : K)
    → here ≡ get_or states index here → index ≡ segment_of bits (hash_by build_hasher write finish hash_input settings.behaviour.hasher k) → index < length states
    → Called (behaviour_by (hash_by build_hasher write finish hash_input) weight lifetimes) (estimates noted count) opened (record { bits = bits; settings = settings; segments = states }) here index k
called-at build_hasher write finish hash_input weight lifetimes noted count opened bits settings states here index k here_is is within = record { routing = record { here_is = here_is; is = is; within = within } }

module _ {K V H W X F E : Type 0} {behaviour : BehaviourData H W X → Behaviour K V} {frequency : F → List ℕ → ℕ → ℕ} {opened : F} {cache : SegmentedData K V H W X F E} {here : StateData K V H W X F E} {index : ℕ} {k : K} (called : Called behaviour frequency opened cache here index k) where
  -- it is the one of each key that hashes alike
  pub called-alike : (q : K) → (settings_by behaviour (frequency opened) cache.settings).behaviour.hash k ≡ (settings_by behaviour (frequency opened) cache.settings).behaviour.hash q → Called behaviour frequency opened cache here index q
  called-alike q alike = record { routing = routing-alike (segmented_settings_by behaviour (frequency opened) cache) cache.segments here index k q alike called.routing }

-- The specification at the types of a state, and at those of a cache of several segments.
module _ {K V H W X F E : Type 0} (eq : K → K → Bool) (is_clone : V → V → Type 0) (is_infallible : V → Type 0) (behaviour : BehaviourData H W X → Behaviour K V) (frequency : F → List ℕ → ℕ → ℕ) (opened : F) where
  abbrev state_spec : Spec K V E (StateData K V H W X F E)
  state_spec = record {
    eq = eq;
    is_clone = is_clone;
    is_infallible = is_infallible;
    at_each = AtEachHistoryBy eq is_clone (view_by behaviour frequency opened);
    stands_for = StandsForBy eq is_clone (view_by behaviour frequency opened);
    follows = FollowsBy eq is_clone (view_by behaviour frequency opened);
    replies_with = RepliesWithBy eq is_clone (view_by behaviour frequency opened);
  }

  abbrev whole_spec : SegmentedSpec K V E (SegmentedData K V H W X F E)
  whole_spec = record {
    eq = eq;
    is_clone = is_clone;
    is_infallible = is_infallible;
    at_each = AtEachListBy eq is_clone (segmented_view_by behaviour frequency opened);
    stand_for = AllStandForBy eq is_clone (segmented_view_by behaviour frequency opened);
    follows = FollowsInBy eq is_clone (segmented_view_by behaviour frequency opened);
    replies_with = RepliesInBy eq is_clone (segmented_view_by behaviour frequency opened);
  }

module _ {K V H W X F E : Type 0} (eq : K → K → Bool) (is_clone : V → V → Type 0) (is_infallible : V → Type 0) {behaviour : BehaviourData H W X → Behaviour K V} {frequency : F → List ℕ → ℕ → ℕ} {opened : F} {cache : SegmentedData K V H W X F E}
    {here : StateData K V H W X F E} {index : ℕ} {k : K} (called : Called behaviour frequency opened cache here index k) where
  abbrev its : Spec K V E (StateData K V H W X F E)
  its = state_spec eq is_clone is_infallible behaviour frequency opened

  abbrev whole : SegmentedSpec K V E (SegmentedData K V H W X F E)
  whole = whole_spec eq is_clone is_infallible behaviour frequency opened

  pub called-reply : (call : Call K V E) → key_in call ≡ Some k → (result : Result (Reply K V E) Refused) → GivesAt its here call result → GivesAtIn whole cache call result
  called-reply call key result gives = routed-asked E eq behaviour frequency opened cache here index k called.routing call key (λ s steps. Gives eq is_clone is_infallible s steps call result) gives

  module _ (new : StateData K V H W X F E) where
    -- the cache after the call
    abbrev changed : SegmentedData K V H W X F E
    changed = record cache { segments = set cache.segments index new }

    unchanged : new ≡ here → changed ≡ cache
    unchanged same = data-same cache.bits cache.settings cache.segments index here new called.routing.here_is same

    pub called-stands : {A Q : Type 0} (call : Call K V E) → key_in call ≡ Some k → (result : Result A Q) → OnOk result (its.follows here call new) → OnOk result (whole.follows cache call changed)
    called-stands call key result stands = OnOk-by result (λ follows. routed-follows E eq behaviour frequency opened cache here index k called.routing call new key follows) stands

    pub called-refused : {A Q : Type 0} (result : Result A Q) → OnErr result (new ≡ here) → OnErr result (changed ≡ cache)
    called-refused result refused = OnErr-by result unchanged refused

    -- reads
    pub called-reads : (call_at : K → ℕ → Call K V E) (now : ℕ) → key_in (call_at k now) ≡ Some k → (result : Result (Option V) Refused) → ReadsLive its call_at k now here new result → ReadsLiveIn whole call_at k now cache changed result
    called-reads call_at now key result ends = record {
      reply = IfOk-by result (λ found answers. routed-answers E eq behaviour frequency opened cache here index k called.routing (call_at k now) (Found found) key answers) ends.reply;
      stands = called-stands (call_at k now) key result ends.stands;
      refused = called-refused result ends.refused;
      cause = ends.cause;
      miss = routed-history E eq behaviour frequency opened cache here index k called.routing (λ s steps. live_at eq s k now (events_in steps) ≡ None → IsOk result) ends.miss;
      copied = routed-history E eq behaviour frequency opened cache here index k called.routing (λ s steps. IfSome (live_at eq s k now (events_in steps)) (λ live. is_infallible live.value → IsOk result)) ends.copied;
    }

    pub called-or-inserts : {Q : Type 0} (as_reply : Result (Entry K V) Q → Result (Reply K V E) Refused) (value : V) (now : ℕ) (result : Result (Entry K V) Q) → OrInserts its as_reply k value now here new result → OrInsertsIn whole as_reply k value now cache changed result
    called-or-inserts as_reply value now result ends =
        (called-reply (OrInsert k value now) refl (as_reply result) ends.reply, called-stands (OrInsert k value now) refl result ends.stands, called-refused result ends.refused)

    -- loaders
    module _ {G : Type 0} (outcome : G → Outcome V E) (post : G → Type 0) (kind : Kind) (now : ℕ) where
      pub called-loads : {R : Type 0} (is_result : Result (Reply K V E) Refused → R → Type 0) (result : R) → Loads its outcome post is_result k kind now here new result → LoadsIn whole outcome post is_result k kind now cache changed result
      called-loads is_result result form = (
        form.0,
        form.1,
        routed-form E eq behaviour frequency opened cache here index k called.routing new is_clone is_infallible kind None now (option_map outcome form.0) form.1 form.2,
        form.3,
        form.4,
        unasked-by form.0 form.1 unchanged form.5,
      )

      pub called-loads-entry : (reply : Result (Reply K V E) Refused) → LoadsEntry its outcome post k kind now here new reply → LoadsEntryIn whole outcome post k kind now cache changed reply
      called-loads-entry reply form = (
        form.0,
        routed-form E eq behaviour frequency opened cache here index k called.routing new is_clone is_infallible kind None now (option_map outcome form.0) reply form.1,
        form.2,
        unasked-by form.0 reply unchanged form.3,
      )

      -- those with a `replace_if`, of which `says` holds
      module _ (says : Option (Write K V) → Option Bool → Type 0) where
        said-form : (said : Option Bool) (given : Option (Outcome V E)) (reply : Result (Reply K V E) Refused) → IsFormIf its says said k kind now given reply here new
            → whole.at_each cache (λ settings calls. says (live_in E eq settings calls k now) said × IsFormIn eq is_clone is_infallible settings calls (Begin k kind said now) now given reply (λ later. whole.stand_for settings changed later))
        said-form said given reply form settings calls stand = (
          routed-history E eq behaviour frequency opened cache here index k called.routing (λ s steps. says (live_at eq s k now (events_in steps)) said) (λ s steps stands. (form s steps stands).0) settings calls stand,
          routed-form E eq behaviour frequency opened cache here index k called.routing new is_clone is_infallible kind said now given reply (λ s steps stands. (form s steps stands).1) settings calls stand,
        )

        pub called-loads-if : {R : Type 0} (is_result : Result (Reply K V E) Refused → R → Type 0) (result : R) → LoadsIf its says outcome post is_result k kind now here new result → LoadsIfIn whole says outcome post is_result k kind now cache changed result
        called-loads-if is_result result form = (
          form.0,
          form.1,
          form.2,
          said-form form.0 (option_map outcome form.1) form.2 form.3,
          form.4,
          form.5,
          unasked-by form.1 form.2 unchanged form.6,
        )

        pub called-loads-entry-if : (reply : Result (Reply K V E) Refused) → LoadsEntryIf its says outcome post k kind now here new reply → LoadsEntryIfIn whole says outcome post k kind now cache changed reply
        called-loads-entry-if reply form = (
          form.0,
          form.1,
          said-form form.0 (option_map outcome form.1) reply form.2,
          form.3,
          unasked-by form.1 reply unchanged form.4,
        )

    -- computes
    module _ {G : Type 0} (op : G → Option (Op V)) (post : Option (Entry K V) → G → Type 0) (keep : Bool) (now : ℕ) where
      pub called-computes : (reply : Result (Reply K V E) Refused) → Computes its op post k keep now here new reply → ComputesIn whole op post k keep now cache changed reply
      called-computes reply form = (
        form.0,
        form.1,
        routed-compute E eq behaviour frequency opened cache here index k called.routing new is_clone is_infallible keep now (option_map entry_of form.0) (option_map op form.1) reply form.2,
        form.3,
        unasked-by form.1 reply unchanged form.4,
      )

      pub called-tries : (is_error : Option G → Type 0) (reply : Result (Reply K V E) Refused) → Tries its op post is_error k keep now here new reply → TriesIn whole op post is_error k keep now cache changed reply
      called-tries is_error reply form = (
        form.0,
        form.1,
        routed-compute E eq behaviour frequency opened cache here index k called.routing new is_clone is_infallible keep now (option_map entry_of form.0) (option_map op form.1) reply form.2,
        form.3,
        form.4,
        unasked-by form.1 reply unchanged form.5,
      )

      pub called-upserts : {R : Type 0} (is_result : Result (Reply K V E) Refused → R → Type 0) (result : R) → Upserts its op post is_result k keep now here new result → UpsertsIn whole op post is_result k keep now cache changed result
      called-upserts is_result result form = (
        form.0,
        form.1,
        form.2,
        routed-compute E eq behaviour frequency opened cache here index k called.routing new is_clone is_infallible keep now (option_map entry_of form.0) (option_map op form.1) form.2 form.3,
        form.4,
        form.5,
        unasked-by form.1 form.2 unchanged form.6,
      )
