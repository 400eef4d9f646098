-- Replies that are made of the results of the calls of turns.
use Rattle.std.specs.Prelude.{⊤, ◌≡◌, Bool, List, Result, Ok, Err, Some}
use Rattle.moka_policy.specs.declared.policy.Refused as policies
use Rattle.moka_model.specs.Lives.{Settings}
use Rattle.moka_model.specs.Steps.{AcceptedStep}
use Rattle.moka_model.specs.Calls as calls
use Rattle.moka_model.specs.Calls.{Call, after}
use Rattle.moka_state.specs.Given.{Gives}
use Rattle.moka_state.specs.Step.{IsReplyTo, after_reply}
use Rattle.moka_model.specs.Entries.{entry_of}
use Rattle.moka_state.specs.declared.step.Reply.{Reply}
use Rattle.moka_state.specs.declared.step.Reply.TheVariants.{Entered, Noticed, Run, Refused, PredicateRefused}

-- The accepted steps after a call: one more if it succeeded, the same ones if it failed.
abbrev pub after_given : {A B K V E : Type 0} → (K → K → Bool) → Settings K V → Call K V E → Result A B → List (AcceptedStep K V E) →
    List (AcceptedStep K V E)
after_given eq settings call (Ok given) steps = after eq settings call steps
after_given eq settings call (Err refused) steps = steps

-- The reply is right for each call that gives this result.
abbrev pub Says : {K V C H W X P F L T E S : Type 0} → (K → K → Bool) → (V → V → Type 0) → (V → Type 0) →
    Result (calls.Reply K V E) policies.Refused → Reply K V C H W X P F L T E S → Type 0
Says {K} {V} {E = E} eq is_clone is_infallible given reply =
    (settings : Settings K V) (steps : List (AcceptedStep K V E)) (call : Call K V E) →
    Gives eq is_clone is_infallible settings steps call given → IsReplyTo eq is_clone is_infallible settings steps call reply

-- After the reply, the accepted steps are those after a call with this result.
abbrev pub Leaves : {B A K V C H W X P F L T E S : Type 0} → (K → K → Bool) → Result A B → Reply K V C H W X P F L T E S → Type 0
Leaves {K = K} {V = V} {E = E} eq given reply =
    (settings : Settings K V) (steps : List (AcceptedStep K V E)) (call : Call K V E) →
    after_reply eq settings call reply steps ≡ after_given eq settings call given steps

module _ {K V C H W X P F L T E S : Type 0} where
  -- The entry in the reply, if any, satisfies the invariant. The reply has no notice.
  abbrev pub ReplyEntryKeeps : (K → V → Type 0) → Reply K V C H W X P F L T E S → Type 0
  ReplyEntryKeeps keeps (Entered entry) = keeps (entry_of entry).key (entry_of entry).value
  ReplyEntryKeeps keeps (Run name (Some entry)) = keeps (entry_of entry).key (entry_of entry).value
  ReplyEntryKeeps keeps (Noticed notice) = ⊥
  ReplyEntryKeeps keeps reply = ⊤

  -- The reply has no notice.
  abbrev pub HasNoNotice : Reply K V C H W X P F L T E S → Type 0
  HasNoNotice (Noticed notice) = ⊥
  HasNoNotice reply = ⊤

  abbrev pub IsRefusal : Reply K V C H W X P F L T E S → Type 0  -- The step failed.
  IsRefusal (Refused cause) = ⊤
  IsRefusal (PredicateRefused cause) = ⊤
  IsRefusal reply = ⊥
