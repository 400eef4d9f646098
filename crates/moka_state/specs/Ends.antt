-- How the calls of a state end, over all its histories. Each word takes the specification at the types of the cache first.
use Rattle.std.specs.Prelude.{◌≡◌, ◌≢◌, ◌&&◌, ℕ, Bool, true, false, is_some, not, Option, None, List}
use Rattle.std.specs.Prelude.{Result, IsOk, IfOk, IfErr, OnOk, OnErr, IfSome, IsSome, IsSomeAnd, option_map}
use Rattle.std.specs.Arc.{arc_value}
use Rattle.std.specs.declared.sync.Arc.{Arc}
use Rattle.std.specs.declared.alloc.Global.{Global}
use Rattle.moka_policy.specs.declared.policy.Refused.{Refused}
use Rattle.moka_policy.specs.declared.policy.Refused.TheVariants.{OutOfMemory}
use Rattle.moka_model.specs.declared.entry.Entry.{Entry}
use Rattle.moka_model.specs.declared.turns.Kind.{Kind}
use Rattle.moka_model.specs.declared.turns.Kind.TheVariants.{Compute}
use Rattle.moka_model.specs.declared.turns.Op.{Op}
use Rattle.moka_model.specs.declared.turns.Outcome.{Outcome}
use Rattle.moka_model.specs.Entries.{entry_of}
use Rattle.moka_model.specs.Lives.{Settings, Write}
use Rattle.moka_model.specs.Steps.{AcceptedStep, events_in, turns}
use Rattle.moka_model.specs.Turns.{Name, found, is_open_as, is_open_for}
use Rattle.moka_model.specs.Turns as turning
use Rattle.moka_model.specs.Calls as calls
use Rattle.moka_model.specs.Calls.{Call, Begin, BeginCompute, Finish, Insert, OrInsert}
use Rattle.moka_model.specs.Calls.{Found, acceptable, accepted, is_replacing, live_at, reply_of}
use Rattle.moka_expiration.specs.StateData.{StateData}
use Rattle.moka_turns.specs.declared.handles.Turn.{Turn}
use Rattle.moka_turns.specs.Handles.{turn_name}
use Rattle.moka_state.specs.BegunOf.{BegunOf}
use Rattle.moka_state.specs.declared.answers.BegunCompute.{BegunCompute}
use Rattle.moka_state.specs.declared.answers.Finished.{Finished}
use Rattle.moka_state.specs.declared.answers.FinishRefused.{FinishRefused}
use Rattle.moka_state.specs.declared.handed_out.HandedOut.{HandedOut}
use Rattle.moka_state.specs.declared.step.Reply.{Reply}
use Rattle.moka_state.specs.Begin.{BeginEnds, GivesBegun, GivesLook, IsNamed, LookEnds}
use Rattle.moka_state.specs.Compute.{ComputeBegins, GivesAtOnce}
use Rattle.moka_state.specs.ComputeForms.{EndsCompute, IsComputeForm}
use Rattle.moka_state.specs.Finish.{FinishEnds, outcome_of}
use Rattle.moka_state.specs.Forms.{EndsTurn, IfRefusedUnasked, IsForm}
use Rattle.moka_state.specs.Given.{Gives}
use Rattle.moka_state.specs.HandedOut.{HandsOut}
use Rattle.moka_state.specs.OrInsert.{OrInsertEnds}
use Rattle.moka_state.specs.Step.{IsReplyTo, after_reply}

-- The specification at the types of a cache, for states S: which keys are equal, what a clone is, which values have clones
-- that cannot fail, and the relations of `StateView`.
pub record Spec (K V E S : Type 0) : Type 1 where
  pub eq : K → K → Bool
  pub is_clone : V → V → Type 0
  pub is_infallible : V → Type 0
  pub at_each : S → (Settings K V → List (AcceptedStep K V E) → Type 0) → Type 0
  pub stands_for : Settings K V → S → List (AcceptedStep K V E) → Type 0
  pub follows : S → Call K V E → S → Type 0
  pub replies_with : S → Call K V E → calls.Reply K V E → Type 0

-- A call returns a clone of the live value of a key, or `None`. If it succeeds, the history goes on with the call. If it
-- fails, nothing has changed, and the cause is `OutOfMemory`. It cannot fail if no value is live, or if clones of the
-- live value cannot fail. `at_each` says of a cache what holds after each of its histories, and `live` finds the live
-- value after one.
pub record ReadEnds {K V E S G L : Type 0} (is_infallible : V → Type 0) (at_each : S → (G → L → Type 0) → Type 0)
    (live : G → L → Option (Write K V)) (replies_with : S → Call K V E → calls.Reply K V E → Type 0)
    (follows : S → Call K V E → S → Type 0) (call : Call K V E) (old new : S) (result : Result (Option V) Refused) : Type 0 where
  pub reply : IfOk result (λ found. replies_with old call (Found found))
  pub stands : OnOk result (follows old call new)
  pub refused : OnErr result (new ≡ old)
  pub cause : IfErr result (λ cause. cause ≡ OutOfMemory)
  pub miss : at_each old (λ settings steps. live settings steps ≡ None → IsOk result)
  pub copied : at_each old (λ settings steps. IfSome (live settings steps) (λ w. is_infallible w.value → IsOk result))

-- The same for a call that changes nothing, and is no step.
pub record ScanEnds {K V E S G L : Type 0} (is_infallible : V → Type 0) (at_each : S → (G → L → Type 0) → Type 0)
    (live : G → L → Option (Write K V)) (replies_with : S → Call K V E → calls.Reply K V E → Type 0)
    (call : Call K V E) (state : S) (result : Result (Option V) Refused) : Type 0 where
  pub reply : IfOk result (λ found. replies_with state call (Found found))
  pub cause : IfErr result (λ cause. cause ≡ OutOfMemory)
  pub miss : at_each state (λ settings steps. live settings steps ≡ None → IsOk result)
  pub copied : at_each state (λ settings steps. IfSome (live settings steps) (λ w. is_infallible w.value → IsOk result))

module _ {K V E S : Type 0} (spec : Spec K V E S) where
  -- After each history, the call may return this.
  abbrev pub GivesAt : S → Call K V E → Result (calls.Reply K V E) Refused → Type 0
  GivesAt state call result = spec.at_each state (λ settings steps.
      Gives spec.eq spec.is_clone spec.is_infallible settings steps call result)

  -- No value is live for the key at the moment.
  abbrev pub IsAbsentAt : S → K → ℕ → Type 0
  IsAbsentAt state key now = spec.at_each state (λ settings steps. live_at spec.eq settings key now (events_in steps) ≡ None)

  -- A value is live for the key at the moment.
  abbrev pub IsLiveAt : S → K → ℕ → Type 0
  IsLiveAt state key now = spec.at_each state (λ settings steps. IsSome (live_at spec.eq settings key now (events_in steps)))

  -- No value that a begin accepts is live: none is, or `replace_if` returned true for the live one.
  abbrev pub Misses : S → Option Bool → K → ℕ → Type 0
  Misses state said key now = spec.at_each state (λ settings steps.
      acceptable said (live_at spec.eq settings key now (events_in steps)) ≡ None)

  -- Whether a write of the key at the moment replaces a live value, after each history.
  abbrev pub Replaces : K → ℕ → S → Bool → Type 0
  Replaces key now state replaced =
      spec.at_each state (λ settings steps. replaced ≡ is_replacing spec.eq settings (events_in steps) key now)

  -- A write that draws a sequence number. With `true`, a lookup that found no live value is noted first.
  abbrev pub Commits : Bool → K → V → ℕ → S → S → Type 0
  Commits false key value now old new = spec.follows old (Insert key value now) new
  Commits true key value now old new = IsAbsentAt old key now → spec.follows old (OrInsert key value now) new

  -- A call that is made of a key and a moment reads the live value.
  abbrev pub ReadsLive : (K → ℕ → Call K V E) → K → ℕ → S → S → Result (Option V) Refused → Type 0
  ReadsLive call_at key now old new result =
      ReadEnds spec.is_infallible spec.at_each (λ settings steps. live_at spec.eq settings key now (events_in steps))
      spec.replies_with spec.follows (call_at key now) old new result

  -- The same for a call that changes nothing.
  abbrev pub ScansLive : (K → ℕ → Call K V E) → K → ℕ → S → Result (Option V) Refused → Type 0
  ScansLive call_at key now state result =
      ScanEnds spec.is_infallible spec.at_each (λ settings steps. live_at spec.eq settings key now (events_in steps))
      spec.replies_with (call_at key now) state result

  -- After each history, this reply is right for the call of a step.
  abbrev pub RepliesTo : {C H W X P F L T Y : Type 0} → S → Call K V E → Reply K V C H W X P F L T E Y → Type 0
  RepliesTo state call reply = spec.at_each state (λ settings steps.
      IsReplyTo spec.eq spec.is_clone spec.is_infallible settings steps call reply)

  -- Each history of the old state goes on with the call of a step that had this reply. A failed call is left out.
  abbrev pub GoesOn : {C H W X P F L T Y : Type 0} → S → Call K V E → Reply K V C H W X P F L T E Y → S → Type 0
  GoesOn old call reply new = spec.at_each old (λ settings steps.
      spec.stands_for settings new (after_reply spec.eq settings call reply steps))

  -- Everything that the call's reply hands out is in `out`; a value as a clone.
  abbrev pub HandsOutAt : S → Call K V E → HandedOut K V E → Type 0
  HandsOutAt state call out = spec.at_each state (λ settings steps.
      IfSome (reply_of (accepted spec.eq settings steps call)) (λ answer. HandsOut spec.is_clone answer out))

  -- A turn ends with an outcome: it is finished or, if that fails, abandoned.
  abbrev pub EndsTurnAt : Name K → Outcome V E → ℕ → Result (calls.Reply K V E) Refused → S → S → Type 0
  EndsTurnAt name outcome now reply old new = spec.at_each old (λ settings steps.
      EndsTurn spec.eq spec.is_clone spec.is_infallible settings steps name outcome now reply
      (λ after. spec.stands_for settings new after))

  -- The same, if the turn was open.
  abbrev pub EndsOpenTurn : Name K → Outcome V E → ℕ → Result (calls.Reply K V E) Refused → S → S → Type 0
  EndsOpenTurn name outcome now reply old new = spec.at_each old (λ settings steps.
      IsSome (accepted spec.eq settings steps (Finish name outcome now))
      → EndsTurn spec.eq spec.is_clone spec.is_infallible settings steps name outcome now reply
      (λ after. spec.stands_for settings new after))

  -- A turn ends with an outcome, and the result is made of the reply by `is_result`.
  abbrev pub EndsTurnAs : {R : Type 0} → Name K → Outcome V E → ℕ → (Result (calls.Reply K V E) Refused → R → Type 0) → S → S → R →
      Type 0
  EndsTurnAs name outcome now is_result old new result =
      (reply : Result (calls.Reply K V E) Refused) × EndsTurnAt name outcome now reply old new × is_result reply result

  -- The turn of a compute ends with an operation, or is abandoned if there is none.
  abbrev pub EndsComputeAt : Name K → Option (Op V) → ℕ → Result (calls.Reply K V E) Refused → S → S → Type 0
  EndsComputeAt name op now reply old new = spec.at_each old (λ settings steps.
      EndsCompute spec.eq spec.is_clone spec.is_infallible settings steps name op now reply
      (λ after. spec.stands_for settings new after))

  -- A loader is its begin and, if that opens a turn, the end of the turn.
  abbrev pub IsFormAt : Call K V E → ℕ → Option (Outcome V E) → Result (calls.Reply K V E) Refused → S → S → Type 0
  IsFormAt begin now given reply old new = spec.at_each old (λ settings steps.
      IsForm spec.eq spec.is_clone spec.is_infallible settings steps begin now given reply
      (λ after. spec.stands_for settings new after))

  -- The same, where `says` holds of the live value and of what `replace_if` returned for it.
  abbrev pub IsFormIf : (Option (Write K V) → Option Bool → Type 0) → Option Bool → K → Kind → ℕ → Option (Outcome V E) →
      Result (calls.Reply K V E) Refused → S → S → Type 0
  IsFormIf says said key kind now given reply old new = spec.at_each old (λ settings steps.
      says (live_at spec.eq settings key now (events_in steps)) said
      × IsForm spec.eq spec.is_clone spec.is_infallible settings steps (Begin key kind said now) now given reply
      (λ after. spec.stands_for settings new after))

  -- A compute is its begin and, if that opens a turn, the end of the turn.
  abbrev pub IsComputeFormAt : Call K V E → ℕ → Option (calls.Entry K V) → Option (Option (Op V)) →
      Result (calls.Reply K V E) Refused → S → S → Type 0
  IsComputeFormAt begin now shown given reply old new = spec.at_each old (λ settings steps.
      IsComputeForm spec.eq spec.is_clone spec.is_infallible settings steps begin now shown given reply
      (λ after. spec.stands_for settings new after))

  -- A loader ends. `outcome` is the outcome that its closure's result makes, `post` says what the closure may return, and
  -- `is_result` how the loader's result is made of the reply. If it fails and its closure did not run, nothing has changed.
  abbrev pub Loads : {G R : Type 0} → (G → Outcome V E) → (G → Type 0) → (Result (calls.Reply K V E) Refused → R → Type 0) →
      K → Kind → ℕ → S → S → R → Type 0
  Loads {G} outcome post is_result key kind now old new result =
      (given : Option G) × (reply : Result (calls.Reply K V E) Refused)
      × IsFormAt (Begin key kind None now) now (option_map outcome given) reply old new
      × is_result reply result × IfSome given post × IfRefusedUnasked (new ≡ old) given reply

  -- The same with a `replace_if`.
  abbrev pub LoadsIf : {G R : Type 0} → (Option (Write K V) → Option Bool → Type 0) → (G → Outcome V E) → (G → Type 0) →
      (Result (calls.Reply K V E) Refused → R → Type 0) → K → Kind → ℕ → S → S → R → Type 0
  LoadsIf {G} says outcome post is_result key kind now old new result =
      (said : Option Bool) × (given : Option G) × (reply : Result (calls.Reply K V E) Refused)
      × IsFormIf says said key kind now (option_map outcome given) reply old new
      × is_result reply result × IfSome given post × IfRefusedUnasked (new ≡ old) given reply

  -- A loader ends whose result is the reply.
  abbrev pub LoadsEntry : {G : Type 0} → (G → Outcome V E) → (G → Type 0) → K → Kind → ℕ → S → S →
      Result (calls.Reply K V E) Refused → Type 0
  LoadsEntry {G} outcome post key kind now old new reply =
      (given : Option G) × IsFormAt (Begin key kind None now) now (option_map outcome given) reply old new
      × IfSome given post × IfRefusedUnasked (new ≡ old) given reply

  -- The same with a `replace_if`.
  abbrev pub LoadsEntryIf : {G : Type 0} → (Option (Write K V) → Option Bool → Type 0) → (G → Outcome V E) → (G → Type 0) →
      K → Kind → ℕ → S → S → Result (calls.Reply K V E) Refused → Type 0
  LoadsEntryIf {G} says outcome post key kind now old new reply =
      (said : Option Bool) × (given : Option G)
      × IsFormIf says said key kind now (option_map outcome given) reply old new
      × IfSome given post × IfRefusedUnasked (new ≡ old) given reply

  -- A compute ends. `op` is the operation that its closure's result makes, if any, and `post` says what the closure may
  -- return for the live entry. If it fails and its closure did not run, nothing has changed.
  abbrev pub Computes : {G : Type 0} → (G → Option (Op V)) → (Option (Entry K V) → G → Type 0) → K → Bool → ℕ → S → S →
      Result (calls.Reply K V E) Refused → Type 0
  Computes {G} op post key keep now old new reply =
      (shown : Option (Entry K V)) × (given : Option G)
      × IsComputeFormAt (BeginCompute key keep now) now (option_map entry_of shown) (option_map op given) reply old new
      × IfSome given (post shown) × IfRefusedUnasked (new ≡ old) given reply

  -- The same, where `is_error` holds of what the closure returned.
  abbrev pub Tries : {G : Type 0} → (G → Option (Op V)) → (Option (Entry K V) → G → Type 0) → (Option G → Type 0) →
      K → Bool → ℕ → S → S → Result (calls.Reply K V E) Refused → Type 0
  Tries {G} op post is_error key keep now old new reply =
      (shown : Option (Entry K V)) × (given : Option G)
      × IsComputeFormAt (BeginCompute key keep now) now (option_map entry_of shown) (option_map op given) reply old new
      × is_error given × IfSome given (post shown) × IfRefusedUnasked (new ≡ old) given reply

  -- The same, for a result that is made of the reply by `is_result`.
  abbrev pub Upserts : {G R : Type 0} → (G → Option (Op V)) → (Option (Entry K V) → G → Type 0) →
      (Result (calls.Reply K V E) Refused → R → Type 0) → K → Bool → ℕ → S → S → R → Type 0
  Upserts {G} op post is_result key keep now old new result =
      (shown : Option (Entry K V)) × (given : Option G) × (reply : Result (calls.Reply K V E) Refused)
      × IsComputeFormAt (BeginCompute key keep now) now (option_map entry_of shown) (option_map op given) reply old new
      × is_result reply result × IfSome given (post shown) × IfRefusedUnasked (new ≡ old) given reply

module _ {K V H W X F E : Type 0} (spec : Spec K V E (StateData K V H W X F E)) where
  -- A begin of a loader ends. `said` is what `replace_if` returned for the live value, if it was asked.
  abbrev pub LoaderBeginsAs : Option Bool → K → Kind → ℕ → Bool → StateData K V H W X F E → StateData K V H W X F E →
      Result (BegunOf K V) Refused → Type 0
  LoaderBeginsAs said key kind now may_wait old new result =
      BeginEnds (λ given. spec.at_each old (λ settings steps.
      GivesBegun spec.eq spec.is_clone spec.is_infallible settings steps (Begin key kind said now) may_wait given))
      (spec.follows old (Begin key kind said now) new) old new result

  -- The same, where `says` holds of the live value and of `said`.
  abbrev pub LoaderBeginsSaid : (Option (Write K V) → Option Bool → Type 0) → Option Bool → K → Kind → ℕ → Bool →
      StateData K V H W X F E → StateData K V H W X F E → Result (BegunOf K V) Refused → Type 0
  LoaderBeginsSaid says said key kind now may_wait old new result =
      BeginEnds (λ given. spec.at_each old (λ settings steps.
      says (live_at spec.eq settings key now (events_in steps)) said
      × GivesBegun spec.eq spec.is_clone spec.is_infallible settings steps (Begin key kind said now) may_wait given))
      (spec.follows old (Begin key kind said now) new) old new result

  -- The same, for what `replace_if` returned.
  abbrev pub LoaderBegins : (Option (Write K V) → Option Bool → Type 0) → K → Kind → ℕ → Bool → StateData K V H W X F E →
      StateData K V H W X F E → Result (BegunOf K V) Refused → Type 0
  LoaderBegins says key kind now may_wait old new result =
      (said : Option Bool) × LoaderBeginsSaid says said key kind now may_wait old new result

  -- The same for a key by reference: the begin is that of a key of which `is_asked` holds.
  abbrev pub LoaderBeginsByRef : (K → Type 0) → (Option (Write K V) → Option Bool → Type 0) → Kind → ℕ → Bool →
      StateData K V H W X F E → StateData K V H W X F E → Result (BegunOf K V) Refused → Type 0
  LoaderBeginsByRef is_asked says kind now may_wait old new result =
      (asked : K) × is_asked asked × (said : Option Bool)
      × LoaderBeginsSaid says said asked kind now may_wait old new result × IfOk result (IsNamed kind asked)

  -- The lookup of a begin ends. A hit is a begin of any loader.
  abbrev pub Looks : (Option (Write K V) → Option Bool → Type 0) → K → ℕ → StateData K V H W X F E → StateData K V H W X F E →
      Result (Option (Entry K V)) Refused → Type 0
  Looks says key now old new result =
      (said : Option Bool) × LookEnds (λ given. spec.at_each old (λ settings steps.
      says (live_at spec.eq settings key now (events_in steps)) said
      × GivesLook spec.eq spec.is_clone spec.is_infallible settings steps key said now given))
      ((kind : Kind) → kind ≢ Compute → spec.follows old (Begin key kind said now) new) old new result

  -- The begin of a compute ends.
  abbrev pub BeginsCompute : K → Bool → ℕ → StateData K V H W X F E → StateData K V H W X F E →
      Result (BegunCompute K V) Refused → Type 0
  BeginsCompute key keep now old new result =
      ComputeBegins (λ given. spec.at_each old (λ settings steps.
      Gives spec.eq spec.is_clone spec.is_infallible settings steps (BeginCompute key keep now) given))
      (spec.follows old (BeginCompute key keep now) new) old new result

  -- The same, with a flag for whether it may wait.
  abbrev pub BeginsComputeAtOnce : K → Bool → ℕ → Bool → StateData K V H W X F E → StateData K V H W X F E →
      Result (BegunCompute K V) Refused → Type 0
  BeginsComputeAtOnce key keep now may_wait old new result =
      ComputeBegins (λ given. spec.at_each old (λ settings steps.
      GivesAtOnce spec.eq spec.is_clone spec.is_infallible settings steps (BeginCompute key keep now) may_wait given))
      (spec.follows old (BeginCompute key keep now) new) old new result

  -- The open turn that a state has of a turn's kind and key.
  abbrev pub open_of : Turn K → StateData K V H W X F E → Option (turning.Turn K V E)
  open_of turn state = found (is_open_for spec.eq turn.key.kind (arc_value turn.key.key)) state.turns

  -- The turn is open: the state has it, and it is open after each history.
  pub record IsOpenTurn (turn : Turn K) (state : StateData K V H W X F E) : Type 0 where
    pub stored : IsSomeAnd (open_of turn state) (λ t. t.name.number ≡ turn.number)
    pub in_history : spec.at_each state (λ settings steps.
        IsSomeAnd (found (is_open_as spec.eq (turn_name turn)) (turns steps)) (λ t. t.name.number ≡ turn.number))

  -- That turn has this many unspent tickets.
  abbrev pub IsAwaitedBy : Turn K → ℕ → StateData K V H W X F E → Type 0
  IsAwaitedBy turn waiting state = IfSome (open_of turn state) (λ t. t.unspent ≡ waiting)

  -- Whether a begin has to fail with `TurnIsOpen`: it may not wait, and a turn of the kind and key is open.
  abbrev pub HasToRefuse : Kind → K → Bool → StateData K V H W X F E → Bool → Type 0
  HasToRefuse kind key may_wait state refuses = spec.at_each state (λ settings steps.
      refuses ≡ (not may_wait && is_some (found (is_open_for spec.eq kind key) (turns steps))))

  -- No turn of this name is open after any history.
  abbrev pub IsUnknown : Name K → StateData K V H W X F E → Type 0
  IsUnknown name state = spec.at_each state (λ settings steps. found (is_open_as spec.eq name) (turns steps) ≡ None)

  -- A finish of the turn of this name ends.
  abbrev pub FinishesNamed : Name K → Outcome V (Arc E Global) → ℕ → StateData K V H W X F E → StateData K V H W X F E →
      Result (Finished K V E) (FinishRefused K V E) → Type 0
  FinishesNamed name outcome now old new result =
      FinishEnds spec.is_clone (λ given. spec.at_each old (λ settings steps.
      Gives spec.eq spec.is_clone spec.is_infallible settings steps (Finish name (outcome_of outcome) now) given))
      (spec.follows old (Finish name (outcome_of outcome) now) new) old new name outcome result

  -- The same for a turn.
  abbrev pub FinishesTurn : Turn K → Outcome V (Arc E Global) → ℕ → StateData K V H W X F E → StateData K V H W X F E →
      Result (Finished K V E) (FinishRefused K V E) → Type 0
  FinishesTurn turn = FinishesNamed (turn_name turn)

  -- An `or_insert` or an `or_default` ends. `as_reply` makes its result a reply of the specification.
  abbrev pub OrInserts : {Q : Type 0} → (Result (Entry K V) Q → Result (calls.Reply K V E) Refused) → K → V → ℕ →
      StateData K V H W X F E → StateData K V H W X F E → Result (Entry K V) Q → Type 0
  OrInserts as_reply key value now old new result =
      OrInsertEnds (spec.at_each old (λ settings steps.
      Gives spec.eq spec.is_clone spec.is_infallible settings steps (OrInsert key value now) (as_reply result)))
      (spec.follows old (OrInsert key value now) new) old new result
