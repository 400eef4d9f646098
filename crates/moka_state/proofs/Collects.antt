-- What a collect gives, and what a state stands for after it.
use Rattle.std.proofs.Common.{◌≡◌, ℕ, Bool, true, false, Option, Some, None, option_map, List, [], ◌∷◌, refl, sym, ap, ◌∙◌, subst}
use Rattle.std.specs.Prelude.{Result, Ok, Err, OnOk}
use Rattle.moka_policy.specs.declared.policy.Refused.{Refused}
use Rattle.moka_policy.specs.declared.policy.Refused.TheVariants.{OutOfMemory, UnknownTicket}
use Rattle.moka_model.specs.Lives.{Settings}
use Rattle.moka_model.specs.Turns.{Turn, Name, End, Value, Nothing, Failed, Computed, Abandoned, Move, Spent, moved, found, has_ticket_as}
use Rattle.moka_model.specs.Steps.{AcceptedStep, events_in, turns}
use Rattle.moka_model.specs.Calls.{Call, Reply, Accepted, Collect, NotYet, reply_by, collected, accepted, after, with_step, with_move, without_move, IfReplied, ClonesAreInfallible, ReplyMayFail, MayTakeMemory, IsCopiedReply, IsCopiedEnd, Holds}
use Rattle.moka_model.specs.StandsFor.{View, StandsFor}
use Rattle.moka_model.proofs.Callers.{whole, unmoved, stands-question}
use Rattle.moka_turns.specs.declared.table.CollectState.{CollectState}
use Rattle.moka_turns.specs.declared.table.CollectState.TheVariants as tells
use Rattle.moka_turns.specs.declared.handles.CollectRefused.{CollectRefused}
use Rattle.moka_turns.specs.Represents.{end_of}
use Rattle.moka_turns.specs.declared.handles.Ticket.{Ticket}
use Rattle.moka_turns.specs.Handles.{ticket_name}
use Rattle.moka_turns.specs.CollectState.{IsTold, IfNotYet, TakesCopy, IsUnspent}
use Rattle.moka_state.specs.Given.{Gives, collected_as}
use Rattle.moka_state.proofs.Turns.{gives-accepted, gives-memory, stands-by, no-less}

-- the result of a collect in the table of turns, as one of the specification
abbrev pub result_as : {K V E : Type 0} → Name K → Result (CollectState K V E) (CollectRefused K) → Result (Reply K V E) Refused
result_as name (Ok told) = Ok (collected_as name told)
result_as name (Err refused) = Err refused.cause

-- a ticket that comes back has the name of the given one
pub unspent-named : {K V E : Type 0} (ticket : Ticket K) (told : CollectState K V E) → IfNotYet (λ same. same ≡ ticket) told → IfNotYet (λ same. ticket_name same ≡ ticket_name ticket) told
unspent-named ticket (tells.NotYet same) is = ap ticket_name is
unspent-named ticket (tells.Ended key end) is = tt

-- the reply for an end, if there is one
abbrev reply_by-some : {K V E : Type 0} → Name K → Option (End V E) → Reply K V E
reply_by-some name None = NotYet
reply_by-some name (Some end) = reply_by name end

-- the replies for an end and for a clone of it are clones
answers-copied : {K V E : Type 0} (is_clone : V → V → Type 0) (name : Name K) (a b : End V E) → IsCopiedEnd is_clone (Some a) (Some b) → IsCopiedReply is_clone (reply_by name a) (reply_by name b)
answers-copied is_clone name (Value v m) (Value w n) is = (refl, is.0, refl, is.1)
answers-copied is_clone name (Value v m) Nothing is = cc
answers-copied is_clone name (Value v m) (Failed e) is = cc
answers-copied is_clone name (Value v m) Computed is = cc
answers-copied is_clone name (Value v m) Abandoned is = cc
answers-copied is_clone name Nothing b is = ap (reply_by-some name) is
answers-copied is_clone name (Failed e) b is = ap (reply_by-some name) is
answers-copied is_clone name Computed b is = ap (reply_by-some name) is
answers-copied is_clone name Abandoned b is = ap (reply_by-some name) is

module _ {K V E : Type 0} (eq : K → K → Bool) (is_clone : V → V → Type 0) (is_infallible : V → Type 0) (settings : Settings K V) (steps : List (AcceptedStep K V E)) (name : Name K) (After : Turn K V E → Type 0) where
  abbrev its : Turn K V E → Accepted K V E
  its t = collected name t.name.number t.end

  abbrev Collects : Result (Reply K V E) Refused → Type 0
  Collects = Gives eq is_clone is_infallible settings steps (Collect name)

  -- by the end of the turn that has the ticket
  gives-end : (t : Turn K V E) → accepted eq settings steps (Collect name) ≡ Some (its t) → (o : Option (End V E)) → t.end ≡ o → (end : End V E) → IsCopiedEnd is_clone o (Some end) → Collects (Ok (reply_by name end))
  gives-end t is None ended end copied = cc
  gives-end t is (Some e) ended end copied =
      let it : Accepted K V E = collected name t.name.number (Some e) in
      gives-accepted eq is_clone is_infallible settings steps (Collect name) it (reply_by name end) (is ∙ ap (λ o. Some (collected name t.name.number o)) ended) (answers-copied is_clone name e end copied) (λ out. no-less out.0)

  memory : (t : Turn K V E) → accepted eq settings steps (Collect name) ≡ Some (its t) → (e : End V E) → t.end ≡ Some e → IfReplied (ReplyMayFail is_clone is_infallible) (Some (collected name t.name.number (Some e))) → Collects (Err OutOfMemory)
  memory t is e ended may =
      let it = is ∙ ap (λ o. Some (collected name t.name.number o)) ended in
      gives-memory eq is_clone is_infallible settings steps (Collect name) (collected name t.name.number (Some e)) it (subst (IfReplied (ReplyMayFail is_clone is_infallible)) (sym it) may) (λ out. no-less out.0)

  takes-end : (t : Turn K V E) → accepted eq settings steps (Collect name) ≡ Some (its t) → (o : Option (End V E)) → t.end ≡ o → TakesCopy (ClonesAreInfallible is_clone is_infallible) o → Collects (Err OutOfMemory)
  takes-end t is None ended takes = absurd takes
  takes-end t is (Some (Value v m)) ended takes = memory t is (Value v m) ended takes
  takes-end t is (Some (Failed e)) ended takes = memory t is (Failed e) ended tt
  takes-end t is (Some Nothing) ended takes = absurd takes
  takes-end t is (Some Computed) ended takes = absurd takes
  takes-end t is (Some Abandoned) ended takes = absurd takes

  pub collect-gives : (o : Option (Turn K V E)) → found (has_ticket_as eq name) (turns steps) ≡ o → (result : Result (CollectState K V E) (CollectRefused K)) → IsTold is_clone is_infallible After o result → Collects (result_as name result)
  collect-gives None is (Ok told) it = absurd it
  collect-gives None is (Err refused) it = subst (λ cause. Collects (Err cause)) (sym it) (ap (option_map its) is, refl)
  collect-gives (Some t) is (Ok (tells.NotYet ticket)) it =
      gives-accepted eq is_clone is_infallible settings steps (Collect name) (without_move NotYet []) NotYet (ap (option_map its) is ∙ ap (λ o. Some (collected name t.name.number o)) it) refl (λ out. no-less out.0)
  collect-gives (Some t) is (Ok (tells.Ended key end)) it = gives-end t (ap (option_map its) is) t.end refl (end_of end) it.0
  collect-gives (Some t) is (Err refused) it = subst (λ cause. Collects (Err cause)) (sym it.0) (takes-end t (ap (option_map its) is) t.end refl it.1)

module _ {K V E : Type 0} (eq : K → K → Bool) {is_clone : V → V → Type 0} (settings : Settings K V) (view : View K V) (rows left : List (Turn K V E)) (steps : List (AcceptedStep K V E))
    (stands : StandsFor eq is_clone settings (whole view rows) steps) (name : Name K) (Keeps : List (Turn K V E) → Type 0) (holds : (ts : List (Turn K V E)) → Keeps ts → Holds eq is_clone ts left) where
  abbrev Stands : Type 0
  Stands = StandsFor eq is_clone settings (whole view left) (after eq settings (Collect name) steps)

  spent-stands : (t : Turn K V E) → found (has_ticket_as eq name) (turns steps) ≡ Some t → (o : Option (End V E)) → t.end ≡ o → (end : End V E) → IsCopiedEnd is_clone o (Some end) → Keeps (moved (Spent t.name.number) (turns steps)) → Stands
  spent-stands t is None ended end copied kept = cc
  spent-stands t is (Some e) ended end copied kept =
      stands-by eq settings view rows left steps stands (Collect name) (Spent t.name.number)
      (ap (λ u. with_step (option_map (λ (t : Turn K V E). collected name t.name.number t.end) u) steps) is ∙ ap (λ o. with_step (Some (collected name t.name.number o)) steps) ended)
      (holds (moved (Spent t.name.number) (turns steps)) kept)

  pub collect-stands : (is_infallible : V → Type 0) (o : Option (Turn K V E)) → found (has_ticket_as eq name) (turns steps) ≡ o → (result : Result (CollectState K V E) (CollectRefused K)) → IsTold is_clone is_infallible (λ t. Keeps (moved (Spent t.name.number) (turns steps))) o result
      → (IsUnspent result → left ≡ rows) → OnOk result Stands
  collect-stands is_infallible None is (Ok told) it same = absurd it
  collect-stands is_infallible None is (Err refused) it same = tt
  collect-stands is_infallible (Some t) is (Ok (tells.NotYet ticket)) it same =
      subst (λ l. StandsFor eq is_clone settings (whole view l) (after eq settings (Collect name) steps)) (sym (same tt))
      (stands-question eq settings view steps stands (Collect name) (ap (λ u. with_step (option_map (λ (t : Turn K V E). collected name t.name.number t.end) u) steps) is ∙ ap (λ o. with_step (Some (collected name t.name.number o)) steps) it))
  collect-stands is_infallible (Some t) is (Ok (tells.Ended key end)) it same = spent-stands t is t.end refl (end_of end) it.0 it.1
  collect-stands is_infallible (Some t) is (Err refused) it same = tt
