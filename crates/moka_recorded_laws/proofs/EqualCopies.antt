-- If clones equal their originals, a history is the run of which it has clones.
use Rattle.std.proofs.Common.{◌≡◌, ◌⊎◌, Bool, Option, Some, None, option_map, List, [], ◌∷◌, map, refl, sym, ap, ◌∙◌, subst, inl, inr}
use Rattle.std.specs.declared.sync.Arc.{Arc}
use Rattle.std.specs.declared.alloc.Global.{Global}
use Rattle.moka_model.specs.declared.notification.Notice.{Notice}
use Rattle.moka_model.specs.declared.turns.Op.TheVariants as ops
use Rattle.moka_model.specs.declared.turns.Outcome.{Outcome}
use Rattle.moka_model.specs.declared.turns.Outcome.TheVariants as outcomes
use Rattle.moka_model.specs.Lives.{Settings}
use Rattle.moka_model.specs.Removals.{Removal}
use Rattle.moka_model.specs.Steps.{AcceptedStep}
use Rattle.moka_model.specs.Calls as calls
use Rattle.moka_model.specs.Calls.{Call, Entry, IsCopyOf, IsCopiedEntry, IsEntryOf, IsCopiedReply, after}
use Rattle.moka_model.specs.StandsFor.{WholeView, StandsFor}
use Rattle.moka_table.specs.Table.{removal_of}
use Rattle.moka_state.specs.Finish.{outcome_of}
use Rattle.moka_state.specs.Recorded.{IsOutcomeCopy, IsStepCopy, IsNoticeFor, IsNoticed, IsSaid, SameReply, AreRecords, IsRecordUnder}
use Rattle.moka_state.specs.Step.{call_of, IsAccepted, IsReplyTo, IsRun, after_reply, after_all}
use Rattle.moka_state.specs.declared.step.Step.{Step}
use Rattle.moka_state.specs.declared.step.Step.TheVariants.{Get, ContainsKey, Insert, Invalidate, Remove, InvalidateAll, InvalidateIf}
use Rattle.moka_state.specs.declared.step.Step.TheVariants.{RunPendingTasks, RunPendingTasksUpTo, EntryCount, WeightedSize, TakeNotice}
use Rattle.moka_state.specs.declared.step.Step.TheVariants.{OrInsert, Begin, BeginCompute, Finish, Abandon, Collect, Leave}
use Rattle.moka_state.specs.declared.step.Reply.{Reply}
use Rattle.moka_state.specs.declared.step.Reply.TheVariants.{Found, Contains, Done, Counted, Left, Noticed, Refused, PredicateRefused}
use Rattle.moka_state.specs.declared.step.Reply.TheVariants.{Entered, Run, Wait, Nothing, Failed, Computed, NotYet, Abandoned, Ended}

abbrev Line : (K V C H W X P F L T E S : Type 0) → Type 0
Line K V C H W X P F L T E S = Step K V C H W X P F L T E S × Reply K V C H W X P F L T E S

module _ {V : Type 0} (is_clone : V → V → Type 0) (equal : (v w : V) → is_clone v w → w ≡ v) where
  same-option : (a b : Option V) → IsCopyOf is_clone a b → b ≡ a
  same-option None None is = refl
  same-option (Some v) (Some w) is = ap Some (equal v w is)
  same-option None (Some w) is = absurd is
  same-option (Some v) None is = absurd is

  same-outcome : {E : Type 0} (a b : Outcome V (Arc E Global)) → IsOutcomeCopy is_clone a b → outcome_of a ≡ outcome_of b
  same-outcome (outcomes.Value v) (outcomes.Value w) is = ap outcomes.Value (sym (equal v w is))
  same-outcome outcomes.Nothing outcomes.Nothing is = refl
  same-outcome (outcomes.Failed e) (outcomes.Failed d) is = ap outcomes.Failed (sym is)
  same-outcome (outcomes.Op (ops.Put v)) (outcomes.Op (ops.Put w)) is = ap (λ u. outcomes.Op (ops.Put u)) (sym (equal v w is))
  same-outcome (outcomes.Op ops.Remove) (outcomes.Op ops.Remove) is = refl
  same-outcome (outcomes.Op ops.Nop) (outcomes.Op ops.Nop) is = refl
  same-outcome a b is = absurd is

  module _ {K : Type 0} where
    same-entry : (a b : Entry K V) → IsCopiedEntry is_clone a b → b ≡ a
    same-entry a b (key, value, fresh, replaced) = λ i. record { key = key i; value = equal a.value b.value value i; fresh = fresh i; replaced = replaced i }

    same-entries : (a b : Option (Entry K V)) → IsEntryOf is_clone a b → b ≡ a
    same-entries None None is = refl
    same-entries (Some a) (Some b) is = ap Some (same-entry a b is)
    same-entries None (Some b) is = absurd is
    same-entries (Some a) None is = absurd is

    same-reply : {E : Type 0} (a b : calls.Reply K V E) → IsCopiedReply is_clone a b → b ≡ a
    same-reply (calls.Found v) (calls.Found w) is = ap calls.Found (same-option v w is)
    same-reply (calls.Entered a) (calls.Entered b) is = ap calls.Entered (same-entry a b is)
    same-reply (calls.Run name a) (calls.Run called b) (named, shown) = λ i. calls.Run (named i) (same-entries a b shown i)
    same-reply (calls.Unchanged a) (calls.Unchanged b) is = ap calls.Unchanged (same-entry a b is)
    same-reply (calls.Inserted a) (calls.Inserted b) is = ap calls.Inserted (same-entry a b is)
    same-reply (calls.ReplacedWith a) (calls.ReplacedWith b) is = ap calls.ReplacedWith (same-entry a b is)
    same-reply (calls.Removed a) (calls.Removed b) is = ap calls.Removed (same-entry a b is)
    same-reply a b is = is

    same-notice : (r : Option (Removal K V)) (n : Option (Notice K V)) → IsNoticeFor is_clone r n → option_map removal_of n ≡ r
    same-notice None None is = refl
    same-notice (Some r) (Some n) (key, value, cause) = λ i. Some (record { key = key i; value = own value i; cause = cause i })
      where
        own : (n.value ≡ r.value) ⊎ is_clone r.value n.value → n.value ≡ r.value
        own (inl same) = same
        own (inr clone) = equal r.value n.value clone
    same-notice None (Some n) is = absurd is
    same-notice (Some r) None is = absurd is

    same-noticed : {E : Type 0} (a : calls.Reply K V E) (n : Option (Notice K V)) → IsNoticed is_clone a n → ◌≡◌ {A = calls.Reply K V E} (calls.Noticed (option_map removal_of n)) a
    same-noticed (calls.Noticed r) n is = ap calls.Noticed (same-notice r n is)
    same-noticed a n is = absurd is

  module _ {K C H W X P F L T E S : Type 0} (test : P → K → V → Bool) where
    -- a step and its clone are one call
    same-call : (a b : Step K V C H W X P F L T E S) → IsStepCopy is_clone a b → ◌≡◌ {A = Call K V E} (call_of test a) (call_of test b)
    same-call (Get k now) (Get j at) (key, moment) = λ i. calls.Get (sym key i) (sym moment i)
    same-call (ContainsKey k now) (ContainsKey j at) (key, moment) = λ i. calls.ContainsKey (sym key i) (sym moment i)
    same-call (Insert k v now) (Insert j w at) (key, value, moment) = λ i. calls.Insert (sym key i) (sym (equal v w value) i) (sym moment i)
    same-call (OrInsert k v now) (OrInsert j w at) (key, value, moment) = λ i. calls.OrInsert (sym key i) (sym (equal v w value) i) (sym moment i)
    same-call (Invalidate k now) (Invalidate j at) (key, moment) = λ i. calls.Invalidate (sym key i) (sym moment i)
    same-call (Remove k now) (Remove j at) (key, moment) = λ i. calls.Remove (sym key i) (sym moment i)
    same-call InvalidateAll InvalidateAll is = refl
    same-call (InvalidateIf p) (InvalidateIf q) is = λ i. calls.InvalidateIf (test (sym is i))
    same-call (RunPendingTasks now) (RunPendingTasks at) is = λ i. calls.RunPendingTasks (sym is i)
    same-call (RunPendingTasksUpTo limit now) (RunPendingTasksUpTo most at) (limits, moment) = λ i. calls.RunPendingTasksUpTo (sym limits i) (sym moment i)
    same-call EntryCount EntryCount is = refl
    same-call WeightedSize WeightedSize is = refl
    same-call TakeNotice TakeNotice is = refl
    same-call (Begin k kind replace now) (Begin j sort says at) (key, kinds, replaces, moment) = λ i. calls.Begin (sym key i) (sym kinds i) (sym replaces i) (sym moment i)
    same-call (BeginCompute k keep now) (BeginCompute j keeps at) (key, keeping, moment) = λ i. calls.BeginCompute (sym key i) (sym keeping i) (sym moment i)
    same-call (Finish name outcome now) (Finish called copy at) (named, outcomes, moment) = λ i. calls.Finish (sym named i) (same-outcome outcome copy outcomes i) (sym moment i)
    same-call (Abandon name) (Abandon called) is = λ i. calls.Abandon (sym is i)
    same-call (Collect name) (Collect called) is = λ i. calls.Collect (sym is i)
    same-call (Leave name) (Leave called) is = λ i. calls.Leave (sym is i)
    same-call a b is = absurd is

  module _ {K C H W X P F L T E S : Type 0} (eq : K → K → Bool) (is_infallible : V → Type 0) (settings : Settings K V) where
    -- What is right for a call is the reply that its copies say,
    module _ (steps : List (AcceptedStep K V E)) (call : Call K V E) where
      from-said : (returned : calls.Reply K V E) (a : Reply K V C H W X P F L T E S) → IsSaid is_clone returned a → IsReplyTo eq is_clone is_infallible settings steps call a → IsAccepted eq is_clone settings steps call returned
      from-said r (Found v) says right = subst (IsAccepted eq is_clone settings steps call) (same-reply r _ says) right
      from-said r (Contains b) says right = subst (IsAccepted eq is_clone settings steps call) (same-reply r _ says) right
      from-said r Done says right = subst (IsAccepted eq is_clone settings steps call) (same-reply r _ says) right
      from-said r (Counted n) says right = subst (IsAccepted eq is_clone settings steps call) (same-reply r _ says) right
      from-said r (Left b) says right = subst (IsAccepted eq is_clone settings steps call) (same-reply r _ says) right
      from-said r (Noticed n) says right = subst (IsAccepted eq is_clone settings steps call) (same-noticed r n says) right
      from-said r (Entered e) says right = subst (IsAccepted eq is_clone settings steps call) (same-reply r _ says) right
      from-said r (Run name e) says right = subst (IsAccepted eq is_clone settings steps call) (same-reply r _ says) right
      from-said r (Wait name) says right = subst (IsAccepted eq is_clone settings steps call) (same-reply r _ says) right
      from-said r Nothing says right = subst (IsAccepted eq is_clone settings steps call) (same-reply r _ says) right
      from-said r (Failed e) says right = subst (IsAccepted eq is_clone settings steps call) (same-reply r _ says) right
      from-said r (Computed c) says right = subst (IsAccepted eq is_clone settings steps call) (same-reply r _ says) right
      from-said r NotYet says right = subst (IsAccepted eq is_clone settings steps call) (same-reply r _ says) right
      from-said r Abandoned says right = subst (IsAccepted eq is_clone settings steps call) (same-reply r _ says) right
      from-said r Ended says right = subst (IsAccepted eq is_clone settings steps call) (same-reply r _ says) right
      from-said r (Refused cause) says right = absurd says
      from-said r (PredicateRefused cause) says right = absurd says

      to-said : (returned : calls.Reply K V E) (b : Reply K V C H W X P F L T E S) → IsSaid is_clone returned b → IsAccepted eq is_clone settings steps call returned → IsReplyTo eq is_clone is_infallible settings steps call b
      to-said r (Found v) says right = subst (IsAccepted eq is_clone settings steps call) (sym (same-reply r _ says)) right
      to-said r (Contains b) says right = subst (IsAccepted eq is_clone settings steps call) (sym (same-reply r _ says)) right
      to-said r Done says right = subst (IsAccepted eq is_clone settings steps call) (sym (same-reply r _ says)) right
      to-said r (Counted n) says right = subst (IsAccepted eq is_clone settings steps call) (sym (same-reply r _ says)) right
      to-said r (Left b) says right = subst (IsAccepted eq is_clone settings steps call) (sym (same-reply r _ says)) right
      to-said r (Noticed n) says right = subst (IsAccepted eq is_clone settings steps call) (sym (same-noticed r n says)) right
      to-said r (Entered e) says right = subst (IsAccepted eq is_clone settings steps call) (sym (same-reply r _ says)) right
      to-said r (Run name e) says right = subst (IsAccepted eq is_clone settings steps call) (sym (same-reply r _ says)) right
      to-said r (Wait name) says right = subst (IsAccepted eq is_clone settings steps call) (sym (same-reply r _ says)) right
      to-said r Nothing says right = subst (IsAccepted eq is_clone settings steps call) (sym (same-reply r _ says)) right
      to-said r (Failed e) says right = subst (IsAccepted eq is_clone settings steps call) (sym (same-reply r _ says)) right
      to-said r (Computed c) says right = subst (IsAccepted eq is_clone settings steps call) (sym (same-reply r _ says)) right
      to-said r NotYet says right = subst (IsAccepted eq is_clone settings steps call) (sym (same-reply r _ says)) right
      to-said r Abandoned says right = subst (IsAccepted eq is_clone settings steps call) (sym (same-reply r _ says)) right
      to-said r Ended says right = subst (IsAccepted eq is_clone settings steps call) (sym (same-reply r _ says)) right
      to-said r (Refused cause) says right = absurd says
      to-said r (PredicateRefused cause) says right = absurd says

      goes-on : (returned : calls.Reply K V E) (a : Reply K V C H W X P F L T E S) → IsSaid is_clone returned a → after_reply eq settings call a steps ≡ after eq settings call steps
      goes-on r (Refused cause) says = absurd says
      goes-on r (PredicateRefused cause) says = absurd says
      goes-on r a says = refl

      same-right : (a b : Reply K V C H W X P F L T E S) → SameReply is_clone a b → IsReplyTo eq is_clone is_infallible settings steps call a → IsReplyTo eq is_clone is_infallible settings steps call b
      same-right a b (inl (r, of_a, of_b)) right = to-said r b of_b (from-said r a of_a right)
      same-right a b (inr (failed, same)) right = subst (IsReplyTo eq is_clone is_infallible settings steps call) (sym same) right

      same-after : (a b : Reply K V C H W X P F L T E S) → SameReply is_clone a b → after_reply eq settings call a steps ≡ after_reply eq settings call b steps
      same-after a b (inl (r, of_a, of_b)) = goes-on r a of_a ∙ sym (goes-on r b of_b)
      same-after a b (inr (failed, same)) = ap (λ r. after_reply eq settings call r steps) (sym same)

    module _ (test : P → K → V → Bool) where
      abbrev Runs : List (AcceptedStep K V E) → List (Line K V C H W X P F L T E S) → Type 0
      Runs steps lines = IsRun eq test settings is_clone is_infallible steps (map (λ (d : Line K V C H W X P F L T E S). d.0) lines) (map (λ (d : Line K V C H W X P F L T E S). d.1) lines)

      abbrev ends : List (AcceptedStep K V E) → List (Line K V C H W X P F L T E S) → List (AcceptedStep K V E)
      ends steps lines = after_all eq test settings (map (λ (d : Line K V C H W X P F L T E S). d.0) lines) (map (λ (d : Line K V C H W X P F L T E S). d.1) lines) steps

      -- and a list of copies is a run with the same end.
      same-run : (steps : List (AcceptedStep K V E)) (xs ys : List (Line K V C H W X P F L T E S)) → AreRecords is_clone xs ys → Runs steps xs → Runs steps ys × (ends steps xs ≡ ends steps ys)
      same-run steps [] [] is run = (tt, refl)
      same-run steps (x ∷ xs) (y ∷ ys) (step, reply, rest) (right, run) =
          let call = same-call test x.0 y.0 step in
          let next = same-after steps (call_of test x.0) x.1 y.1 reply ∙ ap (λ c. after_reply eq settings c y.1 steps) call in
          let more = same-run (after_reply eq settings (call_of test y.0) y.1 steps) xs ys rest (subst (λ s. Runs s xs) next run) in
          ((subst (λ c. IsReplyTo eq is_clone is_infallible settings steps c y.1) call (same-right steps (call_of test x.0) x.1 y.1 reply right), more.0), ap (λ s. ends s xs) next ∙ more.1)
      same-run steps [] (y ∷ ys) is run = absurd is
      same-run steps (x ∷ xs) [] is run = absurd is

      pub is-run : {D : Type 0} (view : D → WholeView K V E) (state : D) (history : List (Line K V C H W X P F L T E S)) → IsRecordUnder eq is_clone is_infallible test view settings state history
          → Runs [] history × StandsFor eq is_clone settings (view state) (ends [] history)
      is-run view state history (done, run, fine, records, stands) =
          let same = same-run [] done history records run in
          (same.0, subst (StandsFor eq is_clone settings (view state)) same.1 stands)
