-- Clones of steps and of replies, and records of runs.
use Rattle.std.specs.Prelude.{⊤, ◌≡◌, ◌⊎◌, Bool, List, [], ◌∷◌, ◌++◌, map, option_map, Option, Some, None}
use Rattle.std.specs.Arc.{arc_value}
use Rattle.std.specs.List.{AllByRecursion}
use Rattle.std.specs.declared.sync.Arc.{Arc}
use Rattle.std.specs.declared.alloc.Global.{Global}
use Rattle.moka_policy.specs.declared.policy.Refused.TheVariants.{OutOfMemory}
use Rattle.moka_predicate_ids.specs.declared.predicate_error.PredicateError.TheVariants as predicates
use Rattle.moka_model.specs.declared.notification.Notice.{Notice}
use Rattle.moka_model.specs.declared.turns.Outcome.{Outcome}
use Rattle.moka_model.specs.declared.turns.Outcome.TheVariants as outcomes
use Rattle.moka_model.specs.declared.turns.Op.TheVariants as ops
use Rattle.moka_model.specs.CompResults.{of_computed}
use Rattle.moka_model.specs.Entries.{entry_of}
use Rattle.moka_model.specs.Lives.{Settings}
use Rattle.moka_model.specs.Removals.{Removal}
use Rattle.moka_model.specs.Calls.{IsCopiedReply}
use Rattle.moka_model.specs.Calls as calls
use Rattle.moka_model.specs.StandsFor.{WholeView, StandsFor}
use Rattle.moka_turns.specs.Handles.{name_by}
use Rattle.moka_state.specs.declared.step.Step.{Step}
use Rattle.moka_state.specs.declared.step.Step.TheVariants.{Get, ContainsKey, Insert, Invalidate, Remove, InvalidateAll, InvalidateIf}
use Rattle.moka_state.specs.declared.step.Step.TheVariants.{RunPendingTasks, RunPendingTasksUpTo, EntryCount, WeightedSize, TakeNotice}
use Rattle.moka_state.specs.declared.step.Step.TheVariants.{OrInsert, Begin, BeginCompute, Finish, Abandon, Collect, Leave}
use Rattle.moka_state.specs.declared.step.Reply.{Reply}
use Rattle.moka_state.specs.declared.step.Reply.TheVariants.{Found, Contains, Done, Counted, Left, Noticed, Refused, PredicateRefused}
use Rattle.moka_state.specs.declared.step.Reply.TheVariants.{Entered, Run, Wait, Nothing, Failed, Computed, NotYet, Abandoned, Ended}
use Rattle.moka_state.specs.declared.handed_out.HandedOut.{HandedOut}
use Rattle.moka_state.specs.HandedOut.{HandsOut}
use Rattle.moka_state.specs.Replies.{IsRefusal}
use Rattle.moka_state.specs.Step.{IsRun, after_all}

module _ {K V C H W X P F L T E S : Type 0} where
  abbrev pub WantsMemory : Reply K V C H W X P F L T E S → Type 0  -- The step failed with `OutOfMemory`.
  WantsMemory (Refused OutOfMemory) = ⊤
  WantsMemory (PredicateRefused predicates.OutOfMemory) = ⊤
  WantsMemory reply = ⊥

  abbrev pub IsOfKey : Step K V C H W X P F L T E S → Type 0  -- The step looks up, writes or removes a key, without a turn.
  IsOfKey (Get key now) = ⊤
  IsOfKey (ContainsKey key now) = ⊤
  IsOfKey (Insert key value now) = ⊤
  IsOfKey (OrInsert key value now) = ⊤
  IsOfKey (Invalidate key now) = ⊤
  IsOfKey (Remove key now) = ⊤
  IsOfKey step = ⊥

  abbrev pub IsOfTurn : Step K V C H W X P F L T E S → Type 0  -- The step is a begin, or names a turn or a ticket.
  IsOfTurn (Begin key kind replace now) = ⊤
  IsOfTurn (BeginCompute key keep now) = ⊤
  IsOfTurn (Finish name outcome now) = ⊤
  IsOfTurn (Abandon name) = ⊤
  IsOfTurn (Collect name) = ⊤
  IsOfTurn (Leave name) = ⊤
  IsOfTurn step = ⊥

module _ {V : Type 0} (is_clone : V → V → Type 0) where
  -- The second outcome is a clone of the first: it has a clone of the value, and the same error.
  abbrev pub IsOutcomeCopy : {E : Type 0} → Outcome V (Arc E Global) → Outcome V (Arc E Global) → Type 0
  IsOutcomeCopy (outcomes.Value v) (outcomes.Value w) = is_clone v w
  IsOutcomeCopy outcomes.Nothing outcomes.Nothing = ⊤
  IsOutcomeCopy (outcomes.Failed e) (outcomes.Failed d) = arc_value d ≡ arc_value e
  IsOutcomeCopy (outcomes.Op (ops.Put v)) (outcomes.Op (ops.Put w)) = is_clone v w
  IsOutcomeCopy (outcomes.Op ops.Remove) (outcomes.Op ops.Remove) = ⊤
  IsOutcomeCopy (outcomes.Op ops.Nop) (outcomes.Op ops.Nop) = ⊤
  IsOutcomeCopy outcome copy = ⊥

  module _ {K : Type 0} where
    -- The notice is that of the removal. Its value is the removed one, or a clone.
    abbrev pub IsNoticeFor : Option (Removal K V) → Option (Notice K V) → Type 0
    IsNoticeFor None None = ⊤
    IsNoticeFor (Some r) (Some n) =
        (arc_value n.key ≡ r.key) × ((n.value ≡ r.value) ⊎ is_clone r.value n.value) × (n.cause ≡ r.cause)
    IsNoticeFor r n = ⊥

    -- The reply of the specification is a removal, and the notice is that of the removal; or both are none.
    abbrev pub IsNoticed : {E : Type 0} → calls.Reply K V E → Option (Notice K V) → Type 0
    IsNoticed (calls.Noticed r) n = IsNoticeFor r n
    IsNoticed returned n = ⊥

  module _ {K C H W X P F L T E S : Type 0} where
    -- The second step is a clone of the first: it has a clone of the value, and all else is the same.
    abbrev pub IsStepCopy : Step K V C H W X P F L T E S → Step K V C H W X P F L T E S → Type 0
    IsStepCopy (Get k now) (Get j at) = (arc_value j ≡ arc_value k) × (at ≡ now)
    IsStepCopy (ContainsKey k now) (ContainsKey j at) = (arc_value j ≡ arc_value k) × (at ≡ now)
    IsStepCopy (Insert k v now) (Insert j w at) = (arc_value j ≡ arc_value k) × is_clone v w × (at ≡ now)
    IsStepCopy (OrInsert k v now) (OrInsert j w at) = (arc_value j ≡ arc_value k) × is_clone v w × (at ≡ now)
    IsStepCopy (Invalidate k now) (Invalidate j at) = (arc_value j ≡ arc_value k) × (at ≡ now)
    IsStepCopy (Remove k now) (Remove j at) = (arc_value j ≡ arc_value k) × (at ≡ now)
    IsStepCopy InvalidateAll InvalidateAll = ⊤
    IsStepCopy (InvalidateIf p) (InvalidateIf q) = arc_value q ≡ arc_value p
    IsStepCopy (RunPendingTasks now) (RunPendingTasks at) = at ≡ now
    IsStepCopy (RunPendingTasksUpTo limit now) (RunPendingTasksUpTo most at) = (most ≡ limit) × (at ≡ now)
    IsStepCopy EntryCount EntryCount = ⊤
    IsStepCopy WeightedSize WeightedSize = ⊤
    IsStepCopy TakeNotice TakeNotice = ⊤
    IsStepCopy (Begin k kind replace now) (Begin j sort says at) =
        (arc_value j ≡ arc_value k) × (sort ≡ kind) × (says ≡ replace) × (at ≡ now)
    IsStepCopy (BeginCompute k keep now) (BeginCompute j keeps at) = (arc_value j ≡ arc_value k) × (keeps ≡ keep) × (at ≡ now)
    IsStepCopy (Finish name outcome now) (Finish called copy at) =
        (name_by called ≡ name_by name) × IsOutcomeCopy outcome copy × (at ≡ now)
    IsStepCopy (Abandon name) (Abandon called) = name_by called ≡ name_by name
    IsStepCopy (Collect name) (Collect called) = name_by called ≡ name_by name
    IsStepCopy (Leave name) (Leave called) = name_by called ≡ name_by name
    IsStepCopy step copy = ⊥

    -- The second and the third step are clones of the first.
    abbrev pub OneStep : Step K V C H W X P F L T E S → Step K V C H W X P F L T E S → Step K V C H W X P F L T E S → Type 0
    OneStep step one other = IsStepCopy step one × IsStepCopy step other

  module _ {K C H W X P F L T E S : Type 0} where
    -- The reply is this one of the specification, with clones of its values. The value of a notice may also be the original.
    abbrev pub IsSaid : calls.Reply K V E → Reply K V C H W X P F L T E S → Type 0
    IsSaid returned (Found v) = IsCopiedReply is_clone returned (calls.Found v)
    IsSaid returned (Contains b) = IsCopiedReply is_clone returned (calls.Contains b)
    IsSaid returned Done = IsCopiedReply is_clone returned calls.Done
    IsSaid returned (Counted n) = IsCopiedReply is_clone returned (calls.Counted n)
    IsSaid returned (Left b) = IsCopiedReply is_clone returned (calls.Left b)
    IsSaid returned (Noticed n) = IsNoticed returned n
    IsSaid returned (Entered entry) = IsCopiedReply is_clone returned (calls.Entered (entry_of entry))
    IsSaid returned (Run name entry) = IsCopiedReply is_clone returned (calls.Run (name_by name) (option_map entry_of entry))
    IsSaid returned (Wait name) = IsCopiedReply is_clone returned (calls.Wait (name_by name))
    IsSaid returned Nothing = IsCopiedReply is_clone returned calls.GaveNothing
    IsSaid returned (Failed error) = IsCopiedReply is_clone returned (calls.GaveError (arc_value error))
    IsSaid returned (Computed result) = IsCopiedReply is_clone returned (of_computed result)
    IsSaid returned NotYet = IsCopiedReply is_clone returned calls.NotYet
    IsSaid returned Abandoned = IsCopiedReply is_clone returned calls.WasAbandoned
    IsSaid returned Ended = IsCopiedReply is_clone returned calls.HasEnded
    IsSaid returned (Refused cause) = ⊥
    IsSaid returned (PredicateRefused cause) = ⊥

    -- The second reply says what the first says, with these clones of what that hands out; a failure is the same.
    abbrev pub IsSaidAgain : Reply K V C H W X P F L T E S → HandedOut K V E → Reply K V C H W X P F L T E S → Type 0
    IsSaidAgain reply out again =
        ((returned : calls.Reply K V E) → IsSaid returned reply → HandsOut is_clone returned out → IsSaid returned again)
        × (IsRefusal reply → again ≡ reply)

    -- Both are the same reply of the specification, or they are the same failure.
    abbrev pub SameReply : Reply K V C H W X P F L T E S → Reply K V C H W X P F L T E S → Type 0
    SameReply a b = ((returned : calls.Reply K V E) × IsSaid returned a × IsSaid returned b) ⊎ (IsRefusal a × (b ≡ a))

    -- All three are the same reply of the specification, or they are the same failure.
    abbrev pub OneReply : Reply K V C H W X P F L T E S → Reply K V C H W X P F L T E S → Reply K V C H W X P F L T E S → Type 0
    OneReply a b c =
        ((returned : calls.Reply K V E) × IsSaid returned a × IsSaid returned b × IsSaid returned c)
        ⊎ (IsRefusal a × (b ≡ a) × (c ≡ a))

    -- The second list has, place by place, clones of the steps of the first, and the same replies up to clones.
    abbrev pub AreRecords : List (Step K V C H W X P F L T E S × Reply K V C H W X P F L T E S) →
        List (Step K V C H W X P F L T E S × Reply K V C H W X P F L T E S) → Type 0
    AreRecords [] [] = ⊤
    AreRecords (a ∷ xs) (b ∷ ys) = IsStepCopy a.0 b.0 × SameReply a.1 b.1 × AreRecords xs ys
    AreRecords [] (b ∷ ys) = ⊥
    AreRecords (a ∷ xs) [] = ⊥

module _ {K V C H W X P F L T E S D : Type 0} (eq : K → K → Bool) (is_clone : V → V → Type 0) (is_infallible : V → Type 0)
    (test : P → K → V → Bool) (view : D → WholeView K V E) where
  -- The history is, up to clones, a run from nothing under these settings, in which no step failed with `OutOfMemory`.
  -- The state stands for the steps that the run accepted.
  abbrev pub IsRecordUnder : Settings K V → D → List (Step K V C H W X P F L T E S × Reply K V C H W X P F L T E S) → Type 0
  IsRecordUnder settings state history =
      (done : List (Step K V C H W X P F L T E S × Reply K V C H W X P F L T E S))
      × IsRun {E = E} eq test settings is_clone is_infallible [] (map (λ d. d.0) done) (map (λ d. d.1) done)
      × AllByRecursion (λ d. ¬ (WantsMemory d.1)) done × AreRecords is_clone done history
      × StandsFor eq is_clone settings (view state) (after_all eq test settings (map (λ d. d.0) done) (map (λ d. d.1) done) [])

  -- The history is such a run under some settings.
  abbrev pub IsRecord : D → List (Step K V C H W X P F L T E S × Reply K V C H W X P F L T E S) → Type 0
  IsRecord state history = (settings : Settings K V) × IsRecordUnder settings state history

  -- Each history that the old state has, followed by this entry, is one that the new state has, under the same settings.
  abbrev pub Records : D → D → Step K V C H W X P F L T E S × Reply K V C H W X P F L T E S → Type 0
  Records old new entry =
      (settings : Settings K V) (history : List (Step K V C H W X P F L T E S × Reply K V C H W X P F L T E S)) →
      IsRecordUnder settings old history → IsRecordUnder settings new (history ++ entry ∷ [])
