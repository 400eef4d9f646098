-- After steps that satisfy `keeps`, a call that does so gives a step and a reply that satisfy it.
use Rattle.std.proofs.Common.{◌≡◌, ℕ, Bool, true, false, cond, option_map, Option, Some, None, List, [], ◌∷◌, ◌++◌, ◌==◌, ◌&&◌, append-nil, refl, sym, ◌∙◌, subst}
use Rattle.std.specs.Cmp.{IsEquivalence}
use Rattle.std.specs.Option.{IfSome}
use Rattle.std.specs.List.{AllByRecursion}
use Rattle.std.proofs.ByRecursion.{All-append}
use Rattle.std.proofs.lemmas.Bool.{cond_both, and_parts}
use Rattle.std.proofs.lemmas.Option.{same_Some}
use Rattle.moka_model.specs.declared.turns.Kind.{Kind}
use Rattle.moka_model.specs.declared.turns.Kind.TheVariants.{With, Optionally, Try, Compute}
use Rattle.moka_model.specs.declared.turns.Op.TheVariants as ops
use Rattle.moka_model.specs.declared.turns.Outcome.{Outcome}
use Rattle.moka_model.specs.declared.turns.Outcome.TheVariants as outcomes
use Rattle.moka_model.specs.Lives.{Settings, Write}
use Rattle.moka_model.specs.Events.{Event, Looked, Written, Hidden, Maintained, Passed}
use Rattle.moka_model.specs.Numbers.{stores_nothing, is_flush_due}
use Rattle.moka_model.specs.Steps.{AcceptedStep, events_in, turns}
use Rattle.moka_model.specs.Calls.{Call, Get, ContainsKey, Insert, Invalidate, Remove, InvalidateAll, InvalidateIf, RunPendingTasks, RunPendingTasksUpTo, EntryCount, WeightedSize, TakeNotice, OrInsert, Begin, BeginCompute, Finish, Abandon, Collect, Leave}
use Rattle.moka_model.specs.Calls.{Reply, Done, Inserted, ReplacedWith, Accepted, IsLegal, without_move, write_events, look_event, acceptable, entry_of, fresh_entry, begun, begun_compute, or_inserted, put_by, removed_by, kept_by, reply_by, is_replacing, finished, collected, abandons, spends, live_at, accepted, with_step, after, reply_of}
use Rattle.moka_model.specs.Turns.{Turn, Name, End, AreApart, IsIn, fits, found, same_kind, same_name, is_open, has_ticket, is_open_for, is_open_as, has_ticket_as}
use Rattle.moka_model.specs.Turns as turning
use Rattle.moka_model.proofs.Callers.{found-is, numbered-alone, legal-fit, turns-apart}
use Rattle.moka_value_invariant.specs.Keeps.{IsAlike, EventKeeps, EndKeeps, TurnKeeps, StepsKeep, CallKeeps, CallEntryKeeps, CallReplyKeeps}
use Rattle.moka_value_invariant.proofs.KeptWrites.{LiveKeeps, live-keeps, notice-keeps}
use Rattle.moka_value_invariant.proofs.KeptTurns.{MoveKeeps, each-of, moved-keep}

-- the key of a turn that has a name is equal to the name's
same_name-key : {K : Type 0} (eq : K → K → Bool) (a b : Name K) → same_name eq a b ≡ true → eq a.key b.key ≡ true
same_name-key eq a b same = (and_parts (same_kind a.kind b.kind) (eq a.key b.key) (and_parts (a.number == b.number) (same_kind a.kind b.kind && eq a.key b.key) same).1).1

module _ {K V E : Type 0} (keeps : K → V → Type 0) (eq : K → K → Bool) (settings : Settings K V) (laws : IsEquivalence eq) (alike : IsAlike keeps eq) (steps : List (AcceptedStep K V E)) (legal : IsLegal eq settings steps) (keep : StepsKeep keeps steps) where
  abbrev h : List (Event K V)
  h = events_in steps

  abbrev EventsKeep : List (Event K V) → Type 0
  EventsKeep es = AllByRecursion (EventKeeps keeps) es

  -- an accepted call satisfies `keeps` if its events, its move and its reply do
  abbrev ItKeeps : Call K V E → Accepted K V E → Type 0
  ItKeeps call it = EventsKeep it.step.events × MoveKeeps keeps (turns steps) it.step.move × CallReplyKeeps keeps call it.reply

  live : (k : K) (at : ℕ) → IfSome (live_at eq settings k at h) (LiveKeeps keeps eq settings laws alike k)
  live k at = live-keeps keeps eq settings laws alike k at h keep.0

  writes : (k : K) (v : V) (at : ℕ) (before later : List (Event K V)) → keeps k v → EventsKeep later → EventsKeep (write_events eq settings k v at before ++ later)
  writes k v at before later kept all = go (stores_nothing settings.max_capacity) (is_flush_due eq settings before)
    where
      go : (none due : Bool) → EventsKeep (cond none (Passed at ∷ []) (Written k v at ∷ cond due (Maintained settings.flush_limit at ∷ []) []) ++ later)
      go true due = (tt, all)
      go false true = (kept, (tt, all))
      go false false = (kept, all)

  write : (k : K) (v : V) (at : ℕ) → keeps k v → EventsKeep (write_events eq settings k v at h)
  write k v at kept = subst EventsKeep (append-nil (write_events eq settings k v at h)) (writes k v at h [] kept tt)

  looks : (replace : Option Bool) (k : K) (at : ℕ) → EventKeeps keeps (look_event replace k at)
  looks None k at = tt
  looks (Some false) k at = tt
  looks (Some true) k at = tt

  accepts : (k : K) (replace : Option Bool) (o : Option (Write K V)) → IfSome o (LiveKeeps keeps eq settings laws alike k) → IfSome (acceptable replace o) (LiveKeeps keeps eq settings laws alike k)
  accepts k None o kept = kept
  accepts k (Some false) o kept = kept
  accepts k (Some true) o kept = tt

  begins : (k : K) (kind : Kind) (replace : Option Bool) (at : ℕ) (o : Option (Write K V)) (t : Option (Turn K V E)) → IfSome o (LiveKeeps keeps eq settings laws alike k) → ItKeeps (Begin k kind replace at) (begun eq settings h k kind replace at o t)
  begins k kind replace at (Some w) t kept = ((looks replace k at, tt), tt, kept)
  begins k kind replace at None (Some t) kept = ((looks replace k at, tt), tt, tt)
  begins k kind replace at None None kept = ((tt, (looks replace k at, tt)), tt, tt)

  value-keeps : (k : K) (keep : Bool) (o : Option (Write K V)) → IfSome o (LiveKeeps keeps eq settings laws alike k) → IfSome (cond keep (option_map (λ w. w.value) o) None) (keeps k)
  value-keeps k true None kept = tt
  value-keeps k true (Some w) kept = kept.1
  value-keeps k false o kept = tt

  found-keeps : (k : K) (o : Option (Write K V)) → IfSome o (LiveKeeps keeps eq settings laws alike k) → IfSome (option_map (λ w. w.value) o) (keeps k)
  found-keeps k None kept = tt
  found-keeps k (Some w) kept = kept.1

  shown-keeps : (k : K) (aside : Bool) (at : ℕ) (o : Option (Write K V)) → IfSome o (LiveKeeps keeps eq settings laws alike k) → IfSome (option_map entry_of o) (CallEntryKeeps keeps {E = E} (BeginCompute k aside at))
  shown-keeps k aside at None kept = tt
  shown-keeps k aside at (Some w) kept = kept

  computes : (k : K) (aside : Bool) (at : ℕ) (t : Option (Turn K V E)) → ItKeeps (BeginCompute k aside at) (begun_compute eq settings h k aside at t)
  computes k aside at (Some t) = ((tt, tt), tt, tt)
  computes k aside at None = ((tt, (tt, tt)), value-keeps k aside (live_at eq settings k at h) (live k at), shown-keeps k aside at (live_at eq settings k at h) (live k at))

  or_inserts : (k : K) (v : V) (at : ℕ) (o : Option (Write K V)) → keeps k v → IfSome o (LiveKeeps keeps eq settings laws alike k) → ItKeeps (OrInsert k v at) (or_inserted eq settings h k v at o)
  or_inserts k v at (Some w) owed kept = ((tt, tt), tt, kept)
  or_inserts k v at None owed kept = (writes k v at (Looked k at ∷ h) (Looked k at ∷ []) owed (tt, tt), tt, (owed, owed))

  -- a turn of a number is that which was found
  alone : (t u : Turn K V E) → IsIn t (turns steps) → IsIn u (turns steps) → u.name.number ≡ t.name.number → t ≡ u
  alone t u is_t is_u same = numbered-alone (turns steps) (turns-apart eq settings steps (legal-fit eq settings steps legal)) t u is_t is_u (sym same)

  -- the end of a turn that is found satisfies `keeps` with the turn's key
  ends : (t : Turn K V E) → IsIn t (turns steps) → (end : End V E) → EndKeeps keeps t.name.key end → MoveKeeps keeps (turns steps) (Some (turning.Ended t.name.number end))
  ends t is end kept u is_u same = subst (λ (x : Turn K V E). EndKeeps keeps x.name.key end) (alone t u is is_u same) kept

  puts : (name : Name K) (v : V) (at : ℕ) (shown : Bool) → keeps name.key v → CallReplyKeeps keeps (Finish name (outcomes.Op (ops.Put v)) at) (put_by {E = E} name v shown)
  puts name v at shown kept = cond_both shown (ReplacedWith (fresh_entry name.key v true)) (Inserted (fresh_entry name.key v false)) (CallReplyKeeps keeps (Finish name (outcomes.Op (ops.Put v)) at)) (λ _. (kept, kept)) (λ _. (kept, kept))

  removes : (name : Name K) (at : ℕ) (o : Option (Write K V)) → IfSome o (LiveKeeps keeps eq settings laws alike name.key) → CallReplyKeeps keeps (Finish name (outcomes.Op ops.Remove) at) (removed_by {E = E} name o)
  removes name at None kept = tt
  removes name at (Some w) kept = (kept.1, kept.1)

  leaves : (name : Name K) (at : ℕ) (k : K) (o : Option V) → eq k name.key ≡ true → IfSome o (keeps k) → CallReplyKeeps keeps (Finish name (outcomes.Op ops.Nop) at) (kept_by {E = E} name o)
  leaves name at k None same kept = tt
  leaves name at k (Some v) same kept = let here = alike k name.key v same kept in (here, here)

  finishes : (name : Name K) (outcome : Outcome V E) (at : ℕ) (t : Turn K V E) → IsIn t (turns steps) → eq t.name.key name.key ≡ true → CallKeeps keeps (Finish name outcome at) → ItKeeps (Finish name outcome at) (finished eq settings h name outcome at t)
  finishes name (outcomes.Value v) at t is same owed =
      (write name.key v at owed, ends t is (turning.Value v (is_replacing eq settings h name.key at)) (alike name.key t.name.key v (laws.symm name.key t.name.key ∙ same) owed), (owed, owed))
  finishes name outcomes.Nothing at t is same owed = ((tt, tt), ends t is turning.Nothing tt, tt)
  finishes name (outcomes.Failed e) at t is same owed = ((tt, tt), ends t is (turning.Failed e) tt, tt)
  finishes name (outcomes.Op (ops.Put v)) at t is same owed = (write name.key v at owed, ends t is turning.Computed tt, puts name v at t.shown owed)
  finishes name (outcomes.Op ops.Remove) at t is same owed = ((tt, tt), ends t is turning.Computed tt, removes name at (live_at eq settings name.key at h) (live name.key at))
  finishes name (outcomes.Op ops.Nop) at t is same owed = ((tt, tt), ends t is turning.Computed tt, leaves name at t.name.key t.kept same (each-of (TurnKeeps keeps) (turns steps) keep.1 t is).0)

  gives : (name : Name K) (k : K) (end : End V E) → eq k name.key ≡ true → EndKeeps keeps k end → CallReplyKeeps keeps (Collect name) (reply_by name end)
  gives name k (turning.Value v replaced) same kept = let here = alike k name.key v same kept in (here, here)
  gives name k turning.Nothing same kept = tt
  gives name k (turning.Failed e) same kept = tt
  gives name k turning.Computed same kept = tt
  gives name k turning.Abandoned same kept = tt

  collects : (name : Name K) (number : ℕ) (k : K) (o : Option (End V E)) → eq k name.key ≡ true → IfSome o (EndKeeps keeps k) → ItKeeps (Collect name) (collected name number o)
  collects name number k None same kept = (tt, tt, tt)
  collects name number k (Some end) same kept = (tt, tt, gives name k end same kept)

  -- what is made of a turn that is found
  on-found : (call : Call K V E) (test : Turn K V E → Bool) (make : Turn K V E → Accepted K V E) → ((t : Turn K V E) → IsIn t (turns steps) → test t ≡ true → ItKeeps call (make t)) → IfSome (option_map make (found test (turns steps))) (ItKeeps call)
  on-found call test make each = go (found test (turns steps)) refl
    where
      go : (o : Option (Turn K V E)) → found test (turns steps) ≡ o → IfSome (option_map make o) (ItKeeps call)
      go None is = tt
      go (Some t) is = let it = found-is test (turns steps) t is in each t it.0 it.1

  accepted-keeps : (call : Call K V E) → CallKeeps keeps call → IfSome (accepted eq settings steps call) (ItKeeps call)
  accepted-keeps (Get k at) owed = ((tt, tt), tt, found-keeps k (live_at eq settings k at h) (live k at))
  accepted-keeps (ContainsKey k at) owed = (tt, tt, tt)
  accepted-keeps (Insert k v at) owed = (write k v at owed, tt, tt)
  accepted-keeps (Invalidate k at) owed = ((tt, tt), tt, tt)
  accepted-keeps (Remove k at) owed = ((tt, tt), tt, found-keeps k (live_at eq settings k at h) (live k at))
  accepted-keeps InvalidateAll owed = ((tt, tt), tt, tt)
  accepted-keeps (InvalidateIf test) owed = cond_both settings.supports_closures (Some (without_move Done (Hidden test ∷ []))) None (λ it. IfSome it (ItKeeps (InvalidateIf test))) (λ _. ((tt, tt), tt, tt)) (λ _. tt)
  accepted-keeps (RunPendingTasks at) owed = ((tt, tt), tt, tt)
  accepted-keeps (RunPendingTasksUpTo limit at) owed = ((tt, tt), tt, tt)
  accepted-keeps EntryCount owed = (tt, tt, tt)
  accepted-keeps WeightedSize owed = (tt, tt, tt)
  accepted-keeps TakeNotice owed = ((tt, tt), tt, notice-keeps keeps eq settings laws alike h keep.0)
  accepted-keeps (OrInsert k v at) owed = or_inserts k v at (live_at eq settings k at h) owed (live k at)
  accepted-keeps (Begin k With replace at) owed = begins k With replace at (acceptable replace (live_at eq settings k at h)) (found (is_open_for eq With k) (turns steps)) (accepts k replace (live_at eq settings k at h) (live k at))
  accepted-keeps (Begin k Optionally replace at) owed = begins k Optionally replace at (acceptable replace (live_at eq settings k at h)) (found (is_open_for eq Optionally k) (turns steps)) (accepts k replace (live_at eq settings k at h) (live k at))
  accepted-keeps (Begin k Try replace at) owed = begins k Try replace at (acceptable replace (live_at eq settings k at h)) (found (is_open_for eq Try k) (turns steps)) (accepts k replace (live_at eq settings k at h) (live k at))
  accepted-keeps (Begin k Compute replace at) owed = computes k false at (found (is_open_for eq Compute k) (turns steps))
  accepted-keeps (BeginCompute k aside at) owed = computes k aside at (found (is_open_for eq Compute k) (turns steps))
  accepted-keeps (Finish name outcome at) owed =
      cond_both (fits name.kind outcome) (option_map (finished eq settings h name outcome at) (found (is_open_as eq name) (turns steps))) None (λ it. IfSome it (ItKeeps (Finish name outcome at)))
      (λ _. on-found (Finish name outcome at) (is_open_as eq name) (finished eq settings h name outcome at)
      (λ t is passes. finishes name outcome at t is (same_name-key eq t.name name (and_parts (is_open t) (same_name eq t.name name) passes).1) owed))
      (λ _. tt)
  accepted-keeps (Abandon name) owed = on-found (Abandon name) (is_open_as eq name) (λ t. abandons t.name.number) (λ t is passes. (tt, ends t is turning.Abandoned tt, tt))
  accepted-keeps (Collect name) owed =
      on-found (Collect name) (has_ticket_as eq name) (λ t. collected name t.name.number t.end)
      (λ t is passes. collects name t.name.number t.name.key t.end (same_name-key eq t.name name (and_parts (has_ticket t) (same_name eq t.name name) passes).1) (each-of (TurnKeeps keeps) (turns steps) keep.1 t is).1)
  accepted-keeps (Leave name) owed = on-found (Leave name) (has_ticket_as eq name) (λ t. spends t.name.number) (λ t is passes. (tt, tt, tt))

  -- after a call that satisfies `keeps`, the steps do
  pub steps-keep : (call : Call K V E) → CallKeeps keeps call → StepsKeep keeps (after eq settings call steps)
  steps-keep call owed = go (accepted eq settings steps call) (accepted-keeps call owed)
    where
      go : (o : Option (Accepted K V E)) → IfSome o (ItKeeps call) → StepsKeep keeps (with_step o steps)
      go None it_keeps = keep
      go (Some it) it_keeps = (All-append (EventKeeps keeps) it.step.events h it_keeps.0 keep.0, moved-keep keeps (turns steps) it.step.move it_keeps.1 keep.1)

  -- and so does its reply
  pub reply-keeps : (call : Call K V E) (it : Accepted K V E) → CallKeeps keeps call → accepted eq settings steps call ≡ Some it → CallReplyKeeps keeps call it.reply
  reply-keeps call it owed is = let it_keeps : IfSome (Some it) (ItKeeps call) = subst (λ o. IfSome o (ItKeeps call)) is (accepted-keeps call owed) in it_keeps.2

  -- and what it is said to return
  pub said-keeps : (call : Call K V E) (reply : Reply K V E) → CallKeeps keeps call → reply_of (accepted eq settings steps call) ≡ Some reply → CallReplyKeeps keeps call reply
  said-keeps call reply owed = go (accepted eq settings steps call) (accepted-keeps call owed)
    where
      go : (o : Option (Accepted K V E)) → IfSome o (ItKeeps call) → reply_of o ≡ Some reply → CallReplyKeeps keeps call reply
      go None kept says = cc
      go (Some it) kept says = subst (CallReplyKeeps keeps call) (same_Some it.reply reply says) kept.2
