-- How the calls of a cache of several segments end, over all lists of calls that it could have come from. Each word takes
-- the specification at the types of the cache first.
use Rattle.std.specs.Prelude.{◌≡◌, ℕ, Bool, Option, None, List, Result, OnOk, OnErr, IfOk, IfSome, option_map}
use Rattle.moka_policy.specs.declared.policy.Refused.{Refused}
use Rattle.moka_model.specs.declared.entry.Entry.{Entry}
use Rattle.moka_model.specs.declared.turns.Kind.{Kind}
use Rattle.moka_model.specs.declared.turns.Op.{Op}
use Rattle.moka_model.specs.declared.turns.Outcome.{Outcome}
use Rattle.moka_model.specs.Entries.{entry_of}
use Rattle.moka_model.specs.Lives.{Write}
use Rattle.moka_model.specs.Calls as calls
use Rattle.moka_model.specs.Calls.{Call, Reply, Begin, BeginCompute, OrInsert}
use Rattle.moka_state.specs.BegunOf.{BegunOf}
use Rattle.moka_state.specs.Begin.{IsNamed}
use Rattle.moka_state.specs.Ends.{ReadEnds}
use Rattle.moka_state.specs.Forms.{IfRefusedUnasked}
use Rattle.moka_segment_model.specs.Segments.{SegmentedSettings, live_in}
use Rattle.moka_segmented.specs.Forms.{IsComputeFormIn, IsFormIn}
use Rattle.moka_segmented.specs.Turns.{GivesIn, GivesBegunIn}

-- The specification at the types of a cache, for caches S: which keys are equal, what a clone is, which values have clones
-- that cannot fail, and the relations of `SegmentedStateView`.
pub record SegmentedSpec (K V E S : Type 0) : Type 1 where
  pub eq : K → K → Bool
  pub is_clone : V → V → Type 0
  pub is_infallible : V → Type 0
  pub at_each : S → (SegmentedSettings K V → List (Call K V E) → Type 0) → Type 0
  pub stand_for : SegmentedSettings K V → S → List (Call K V E) → Type 0
  pub follows : S → Call K V E → S → Type 0
  pub replies_with : S → Call K V E → Reply K V E → Type 0

module _ {K V E S : Type 0} (spec : SegmentedSpec K V E S) where
  -- After each list, the key's segment may return this to the call.
  abbrev pub GivesAtIn : S → Call K V E → Result (Reply K V E) Refused → Type 0
  GivesAtIn it call result = spec.at_each it (λ settings calls.
      GivesIn spec.eq spec.is_clone spec.is_infallible settings calls call result)

  -- A call that is made of a key and a moment reads the live value in the key's segment.
  abbrev pub ReadsLiveIn : (K → ℕ → Call K V E) → K → ℕ → S → S → Result (Option V) Refused → Type 0
  ReadsLiveIn call_at key now old new result =
      ReadEnds spec.is_infallible spec.at_each (λ settings calls. live_in E spec.eq settings calls key now)
      spec.replies_with spec.follows (call_at key now) old new result

  -- A begin of a loader ends, where `says` holds of the live value and of what `replace_if` returned for it.
  abbrev pub LoaderBeginsIn : (Option (Write K V) → Option Bool → Type 0) → K → Kind → ℕ → Bool → S → S →
      Result (BegunOf K V) Refused → Type 0
  LoaderBeginsIn says key kind now may_wait old new result =
      (said : Option Bool) × spec.at_each old (λ settings calls.
      says (live_in E spec.eq settings calls key now) said
      × GivesBegunIn spec.eq spec.is_clone spec.is_infallible settings calls (Begin key kind said now) may_wait result)
      × OnOk result (spec.follows old (Begin key kind said now) new)

  -- The same for a key by reference: the begin is that of a key of which `is_asked` holds.
  abbrev pub LoaderBeginsByRefIn : (K → Type 0) → (Option (Write K V) → Option Bool → Type 0) → Kind → ℕ → Bool → S → S →
      Result (BegunOf K V) Refused → Type 0
  LoaderBeginsByRefIn is_asked says kind now may_wait old new result =
      (asked : K) × is_asked asked × (said : Option Bool) × spec.at_each old (λ settings calls.
      says (live_in E spec.eq settings calls asked now) said
      × GivesBegunIn spec.eq spec.is_clone spec.is_infallible settings calls (Begin asked kind said now) may_wait result)
      × OnOk result (spec.follows old (Begin asked kind said now) new) × IfOk result (IsNamed kind asked)

  -- A loader ends. `outcome` is the outcome that its closure's result makes, `post` says what the closure may return, and
  -- `is_result` how the loader's result is made of the reply. If it fails and its closure did not run, nothing has changed.
  abbrev pub LoadsIn : {G R : Type 0} → (G → Outcome V E) → (G → Type 0) → (Result (Reply K V E) Refused → R → Type 0) → K → Kind →
      ℕ → S → S → R → Type 0
  LoadsIn {G} outcome post is_result key kind now old new result =
      (given : Option G) × (reply : Result (Reply K V E) Refused)
      × spec.at_each old (λ settings calls.
      IsFormIn spec.eq spec.is_clone spec.is_infallible settings calls (Begin key kind None now) now (option_map outcome given) reply
      (λ later. spec.stand_for settings new later))
      × is_result reply result × IfSome given post × IfRefusedUnasked (new ≡ old) given reply

  -- The same with a `replace_if`.
  abbrev pub LoadsIfIn : {G R : Type 0} → (Option (Write K V) → Option Bool → Type 0) → (G → Outcome V E) → (G → Type 0) →
      (Result (Reply K V E) Refused → R → Type 0) → K → Kind → ℕ → S → S → R → Type 0
  LoadsIfIn {G} says outcome post is_result key kind now old new result =
      (said : Option Bool) × (given : Option G) × (reply : Result (Reply K V E) Refused)
      × spec.at_each old (λ settings calls.
      says (live_in E spec.eq settings calls key now) said
      × IsFormIn spec.eq spec.is_clone spec.is_infallible settings calls (Begin key kind said now) now (option_map outcome given) reply
      (λ later. spec.stand_for settings new later))
      × is_result reply result × IfSome given post × IfRefusedUnasked (new ≡ old) given reply

  -- A loader ends whose result is the reply.
  abbrev pub LoadsEntryIn : {G : Type 0} → (G → Outcome V E) → (G → Type 0) → K → Kind → ℕ → S → S →
      Result (Reply K V E) Refused → Type 0
  LoadsEntryIn {G} outcome post key kind now old new reply =
      (given : Option G) × spec.at_each old (λ settings calls.
      IsFormIn spec.eq spec.is_clone spec.is_infallible settings calls (Begin key kind None now) now (option_map outcome given) reply
      (λ later. spec.stand_for settings new later))
      × IfSome given post × IfRefusedUnasked (new ≡ old) given reply

  -- The same with a `replace_if`.
  abbrev pub LoadsEntryIfIn : {G : Type 0} → (Option (Write K V) → Option Bool → Type 0) → (G → Outcome V E) → (G → Type 0) →
      K → Kind → ℕ → S → S → Result (Reply K V E) Refused → Type 0
  LoadsEntryIfIn {G} says outcome post key kind now old new reply =
      (said : Option Bool) × (given : Option G) × spec.at_each old (λ settings calls.
      says (live_in E spec.eq settings calls key now) said
      × IsFormIn spec.eq spec.is_clone spec.is_infallible settings calls (Begin key kind said now) now (option_map outcome given) reply
      (λ later. spec.stand_for settings new later))
      × IfSome given post × IfRefusedUnasked (new ≡ old) given reply

  -- An `or_insert` or an `or_default` ends. `as_reply` makes its result a reply of the specification.
  abbrev pub OrInsertsIn : {Q : Type 0} → (Result (Entry K V) Q → Result (Reply K V E) Refused) → K → V → ℕ → S → S →
      Result (Entry K V) Q → Type 0
  OrInsertsIn as_reply key value now old new result =
      GivesAtIn old (OrInsert key value now) (as_reply result)
      × OnOk result (spec.follows old (OrInsert key value now) new) × OnErr result (new ≡ old)

  -- A compute is its begin and, if that opens a turn, the end of the turn.
  abbrev pub IsComputeAtIn : Call K V E → ℕ → Option (calls.Entry K V) → Option (Option (Op V)) → Result (Reply K V E) Refused →
      S → S → Type 0
  IsComputeAtIn begin now shown given reply old new = spec.at_each old (λ settings calls.
      IsComputeFormIn spec.eq spec.is_clone spec.is_infallible settings calls begin now shown given reply
      (λ later. spec.stand_for settings new later))

  -- A compute ends. `op` is the operation that its closure's result makes, if any, and `post` says what the closure may
  -- return for the live entry. If it fails and its closure did not run, nothing has changed.
  abbrev pub ComputesIn : {G : Type 0} → (G → Option (Op V)) → (Option (Entry K V) → G → Type 0) → K → Bool → ℕ → S → S →
      Result (Reply K V E) Refused → Type 0
  ComputesIn {G} op post key keep now old new reply =
      (shown : Option (Entry K V)) × (given : Option G)
      × IsComputeAtIn (BeginCompute key keep now) now (option_map entry_of shown) (option_map op given) reply old new
      × IfSome given (post shown) × IfRefusedUnasked (new ≡ old) given reply

  -- The same, where `is_error` holds of what the closure returned.
  abbrev pub TriesIn : {G : Type 0} → (G → Option (Op V)) → (Option (Entry K V) → G → Type 0) → (Option G → Type 0) →
      K → Bool → ℕ → S → S → Result (Reply K V E) Refused → Type 0
  TriesIn {G} op post is_error key keep now old new reply =
      (shown : Option (Entry K V)) × (given : Option G)
      × IsComputeAtIn (BeginCompute key keep now) now (option_map entry_of shown) (option_map op given) reply old new
      × is_error given × IfSome given (post shown) × IfRefusedUnasked (new ≡ old) given reply

  -- The same, for a result that is made of the reply by `is_result`.
  abbrev pub UpsertsIn : {G R : Type 0} → (G → Option (Op V)) → (Option (Entry K V) → G → Type 0) →
      (Result (Reply K V E) Refused → R → Type 0) → K → Bool → ℕ → S → S → R → Type 0
  UpsertsIn {G} op post is_result key keep now old new result =
      (shown : Option (Entry K V)) × (given : Option G) × (reply : Result (Reply K V E) Refused)
      × IsComputeAtIn (BeginCompute key keep now) now (option_map entry_of shown) (option_map op given) reply old new
      × is_result reply result × IfSome given (post shown) × IfRefusedUnasked (new ≡ old) given reply
