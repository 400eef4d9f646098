-- What a shared cache's lock guards always has a history that satisfies `keeps`. So what it returns satisfies `keeps`
-- too.
use Rattle.std.proofs.Common.{◌≡◌, ◌≢◌, ℕ, Bool, Option, Some, None, Result, Ok, Err, refl, sym, subst}
use Rattle.std.specs.Prelude.{OnOk, OnErr, IfOk, IfSome, option_map}
use Rattle.std.specs.Cmp.{IsEquivalence}
use Rattle.std.specs.declared.sync.Arc.{Arc}
use Rattle.std.specs.declared.alloc.Global.{Global}
use Rattle.moka_model.specs.declared.turns.Kind.{Kind}
use Rattle.moka_model.specs.declared.turns.Kind.TheVariants.{With, Optionally, Try, Compute}
use Rattle.moka_model.specs.declared.turns.Op.TheVariants as ops
use Rattle.moka_model.specs.declared.turns.Outcome.{Outcome}
use Rattle.moka_model.specs.declared.turns.Outcome.TheVariants as outcomes
use Rattle.moka_model.specs.declared.comp_result.CompResult.{CompResult}
use Rattle.moka_model.specs.declared.comp_result.CompResult.TheVariants as results
use Rattle.moka_model.specs.CompResults.{of_computed}
use Rattle.moka_model.specs.Turns.{Turn, Name, End, found, has_ticket_as}
use Rattle.moka_model.specs.Turns as turning
use Rattle.moka_model.specs.Steps.{turns}
use Rattle.moka_model.specs.Calls.{Call, Begin, Collect, Finish, accepted, reply_by, collected, IsCopiedReply}
use Rattle.moka_model.specs.Calls as calls
use Rattle.moka_model.specs.StandsFor.{WholeView, AtEachHistory, Follows, IsReplyOf}
use Rattle.moka_value_invariant.specs.Keeps.{IsAlike, IsCopied, CallKeeps, CallReplyKeeps, HasKeptHistory}
use Rattle.moka_value_invariant.specs.Fits.{EndFits}
use Rattle.moka_value_invariant.proofs.Callers.{kept-after, kept-told, ticket-fits}
use Rattle.moka_policy.specs.declared.policy.Refused.{Refused}
use Rattle.moka_model.specs.declared.entry.Entry.{Entry}
use Rattle.moka_state.specs.Begin.{ByFound}
use Rattle.moka_state.specs.Finish.{OutcomeKeeps, outcome_of}
use Rattle.moka_state.specs.Given.{Gives, of_answer, of_finish, of_collect, of_collected}
use Rattle.moka_state.specs.declared.answers.Answer.{Answer}
use Rattle.moka_state.specs.declared.answers.Answer.TheVariants as answers
use Rattle.moka_state.specs.declared.answers.Collected.{Collected}
use Rattle.moka_state.specs.declared.answers.Collected.TheVariants as collects
use Rattle.moka_state.specs.declared.answers.Finished.{Finished}
use Rattle.moka_state.specs.declared.answers.Finished.TheVariants as finishes
use Rattle.moka_state.specs.declared.answers.FinishRefused.{FinishRefused}
use Rattle.moka_turns.specs.declared.handles.CollectRefused.{CollectRefused}
use Rattle.moka_guarded.specs.Kept.{CollectedFits, CollectedKeeps, FinishedKeeps, GivenKeeps, ResultKeeps}

module _ {K V E : Type 0} (keeps : K → V → Type 0) where
  -- a caller whose outcome satisfies `keeps` owes nothing more
  pub outcome-owed : (name : Name K) (at : ℕ) (outcome : Outcome V (Arc E Global)) → OutcomeKeeps (keeps name.key) outcome → CallKeeps keeps (Finish name (outcome_of outcome) at)
  outcome-owed name at (outcomes.Value v) kept = kept
  outcome-owed name at outcomes.Nothing kept = tt
  outcome-owed name at (outcomes.Failed e) kept = tt
  outcome-owed name at (outcomes.Op (ops.Put v)) kept = kept
  outcome-owed name at (outcomes.Op ops.Remove) kept = tt
  outcome-owed name at (outcomes.Op ops.Nop) kept = tt

  -- what the finish of an initializer returns satisfies `keeps`
  given-keeps : (name : Name K) (outcome : Outcome V E) (at : ℕ) (answer : Answer K V E) → CallReplyKeeps keeps (Finish name outcome at) (of_answer answer) → GivenKeeps keeps name.key answer
  given-keeps name outcome at (answers.Entry entry) kept = kept
  given-keeps name outcome at answers.Nothing kept = tt
  given-keeps name outcome at (answers.Failed error) kept = tt

  -- so does what the finish of a compute returns
  result-keeps : (name : Name K) (outcome : Outcome V E) (at : ℕ) (result : CompResult K V) → CallReplyKeeps keeps (Finish name outcome at) (of_computed result) → ResultKeeps keeps name.key result
  result-keeps name outcome at (results.StillNone key) kept = tt
  result-keeps name outcome at (results.Unchanged entry) kept = kept
  result-keeps name outcome at (results.Inserted entry) kept = kept
  result-keeps name outcome at (results.ReplacedWith entry) kept = kept
  result-keeps name outcome at (results.Removed entry) kept = kept

  -- what a collect returns satisfies `keeps`
  collected-keeps : (name : Name K) (told : Collected K V E) → CallReplyKeeps keeps {E = E} (Collect name) (of_collected told) → CollectedKeeps keeps name.key told
  collected-keeps name (collects.Ready (answers.Entry entry)) kept = kept
  collected-keeps name (collects.Ready answers.Nothing) kept = tt
  collected-keeps name (collects.Ready (answers.Failed error)) kept = tt
  collected-keeps name (collects.NotYet ticket) kept = tt
  collected-keeps name collects.Abandoned kept = tt
  collected-keeps name collects.Ended kept = tt

module _ {K V E : Type 0} (is_clone : V → V → Type 0) where
  -- an end that fits a kind gives an answer that the kind may give
  end-told : (name : Name K) (kind : Kind) (end : End V E) (told : Collected K V E) → IsCopiedReply is_clone (reply_by name end) (of_collected told) → EndFits kind end → CollectedFits kind told
  end-told name kind end (collects.NotYet ticket) is fit = tt
  end-told name kind end collects.Abandoned is fit = tt
  end-told name kind end collects.Ended is fit = tt
  end-told name With (turning.Value v replaced) (collects.Ready (answers.Entry entry)) is fit = tt
  end-told name Optionally (turning.Value v replaced) (collects.Ready (answers.Entry entry)) is fit = tt
  end-told name Try (turning.Value v replaced) (collects.Ready (answers.Entry entry)) is fit = tt
  end-told name Compute (turning.Value v replaced) (collects.Ready (answers.Entry entry)) is fit = absurd fit
  end-told name kind (turning.Value v replaced) (collects.Ready answers.Nothing) is fit = cc
  end-told name kind (turning.Value v replaced) (collects.Ready (answers.Failed error)) is fit = cc
  end-told name With turning.Nothing (collects.Ready answers.Nothing) is fit = absurd fit
  end-told name Optionally turning.Nothing (collects.Ready answers.Nothing) is fit = tt
  end-told name Try turning.Nothing (collects.Ready answers.Nothing) is fit = absurd fit
  end-told name Compute turning.Nothing (collects.Ready answers.Nothing) is fit = absurd fit
  end-told name kind turning.Nothing (collects.Ready (answers.Entry entry)) is fit = cc
  end-told name kind turning.Nothing (collects.Ready (answers.Failed error)) is fit = cc
  end-told name With (turning.Failed e) (collects.Ready (answers.Failed error)) is fit = absurd fit
  end-told name Optionally (turning.Failed e) (collects.Ready (answers.Failed error)) is fit = absurd fit
  end-told name Try (turning.Failed e) (collects.Ready (answers.Failed error)) is fit = tt
  end-told name Compute (turning.Failed e) (collects.Ready (answers.Failed error)) is fit = absurd fit
  end-told name kind (turning.Failed e) (collects.Ready (answers.Entry entry)) is fit = cc
  end-told name kind (turning.Failed e) (collects.Ready answers.Nothing) is fit = cc
  end-told name kind turning.Computed (collects.Ready (answers.Entry entry)) is fit = cc
  end-told name kind turning.Computed (collects.Ready answers.Nothing) is fit = cc
  end-told name kind turning.Computed (collects.Ready (answers.Failed error)) is fit = cc
  end-told name kind turning.Abandoned (collects.Ready (answers.Entry entry)) is fit = cc
  end-told name kind turning.Abandoned (collects.Ready answers.Nothing) is fit = cc
  end-told name kind turning.Abandoned (collects.Ready (answers.Failed error)) is fit = cc

  -- a ticket of an open turn is given no answer
  open-told : (name : Name K) (kind : Kind) (told : Collected K V E) → IsCopiedReply is_clone {K = K} {E = E} calls.NotYet (of_collected told) → CollectedFits kind told
  open-told name kind (collects.Ready (answers.Entry entry)) is = cc
  open-told name kind (collects.Ready answers.Nothing) is = cc
  open-told name kind (collects.Ready (answers.Failed error)) is = cc
  open-told name kind (collects.NotYet ticket) is = tt
  open-told name kind collects.Abandoned is = tt
  open-told name kind collects.Ended is = tt

module _ {K V E S : Type 0} (keeps : K → V → Type 0) (eq : K → K → Bool) (is_clone : V → V → Type 0) (laws : IsEquivalence eq) (alike : IsAlike keeps eq) (view : S → WholeView K V E) where
  abbrev pub Kept : S → Type 0
  Kept state = HasKeptHistory keeps eq is_clone (view state)

  -- after a call that satisfies `keeps` and is either done or changes nothing
  pub kept-call : {A B : Type 0} (old new : S) (call : Call K V E) (result : Result A B) → OnOk result (Follows eq is_clone (view old) call (view new)) → OnErr result (new ≡ old) → CallKeeps keeps call → Kept old → Kept new
  kept-call old new call (Ok done) follows same owed kept = kept-after keeps eq is_clone laws alike (view old) (view new) call follows owed kept
  kept-call old new call (Err refused) follows same owed kept = subst Kept (sym same) kept

  -- after the lookup of a begin
  pub kept-look : (old new : S) (key : K) (said : Option Bool) (at : ℕ) (result : Result (Option (Entry K V)) Refused) → ByFound ((kind : Kind) → kind ≢ Compute → Follows eq is_clone (view old) (Begin key kind said at) (view new)) (new ≡ old) result → Kept old → Kept new
  kept-look old new key said at (Ok (Some entry)) stands kept = kept-after keeps eq is_clone laws alike (view old) (view new) (Begin key With said at) (stands With (λ same. cc)) tt kept
  kept-look old new key said at (Ok None) stands kept = subst Kept (sym stands) kept
  kept-look old new key said at (Err refused) stands kept = subst Kept (sym stands) kept

  module _ (copied : IsCopied keeps is_clone) (is_infallible : V → Type 0) where
    pub finish-keeps : (old : S) (name : Name K) (outcome : Outcome V E) (at : ℕ) (result : Result (Finished K V E) (FinishRefused K V E)) → CallKeeps keeps (Finish name outcome at) → AtEachHistory eq is_clone (view old) (λ settings steps. Gives eq is_clone is_infallible settings steps (Finish name outcome at) (of_finish result)) → Kept old → IfOk result (FinishedKeeps keeps name.key)
    finish-keeps old name outcome at (Ok (finishes.Answer answer)) owed gives kept =
        given-keeps keeps name outcome at answer (kept-told keeps eq is_clone laws alike copied (view old) (Finish name outcome at) (of_answer answer) kept owed (gives kept.settings kept.steps kept.stands).0)
    finish-keeps old name outcome at (Ok (finishes.Computed computed)) owed gives kept =
        result-keeps keeps name outcome at computed (kept-told keeps eq is_clone laws alike copied (view old) (Finish name outcome at) (of_computed computed) kept owed (gives kept.settings kept.steps kept.stands).0)
    finish-keeps old name outcome at (Err refused) owed gives kept = tt

    pub collect-keeps : (old : S) (name : Name K) (result : Result (Collected K V E) (CollectRefused K)) → AtEachHistory eq is_clone (view old) (λ settings steps. Gives eq is_clone is_infallible settings steps (Collect name) (of_collect result)) → Kept old → IfOk result (CollectedKeeps keeps name.key)
    collect-keeps old name (Ok told) gives kept =
        collected-keeps keeps name told (kept-told keeps eq is_clone laws alike copied (view old) (Collect name) (of_collected told) kept tt (gives kept.settings kept.steps kept.stands).0)
    collect-keeps old name (Err refused) gives kept = tt

    pub collect-fits : (old : S) (name : Name K) (result : Result (Collected K V E) (CollectRefused K)) → AtEachHistory eq is_clone (view old) (λ settings steps. Gives eq is_clone is_infallible settings steps (Collect name) (of_collect result)) → Kept old → IfOk result (CollectedFits name.kind)
    collect-fits old name (Ok told) gives kept = go (found (has_ticket_as eq name) (turns kept.steps)) refl (gives kept.settings kept.steps kept.stands).0
      where
        go : (o : Option (Turn K V E)) → found (has_ticket_as eq name) (turns kept.steps) ≡ o → IsReplyOf is_clone (option_map (λ t. collected name t.name.number t.end) o) (of_collected told) → CollectedFits name.kind told
        go None is answer = absurd answer
        go (Some t) is answer = by t.end answer (ticket-fits eq kept.settings kept.steps kept.stands.legal name t is)
          where
            by : (end : Option (End V E)) → IsReplyOf is_clone (Some (collected name t.name.number end)) (of_collected told) → IfSome end (EndFits name.kind) → CollectedFits name.kind told
            by None answer fit = open-told is_clone name name.kind told answer
            by (Some end) answer fit = end-told is_clone name name.kind end told answer fit
    collect-fits old name (Err refused) gives kept = tt
