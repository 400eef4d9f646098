-- A reply is of the form that its step has.
use Rattle.std.proofs.Common.{◌≡◌, ◌⊎◌, ℕ, ◌<◌, Bool, true, false, cond, ◌&&◌, List, [], ◌∷◌, Option, Some, None, option_map, refl, sym, ap, ◌∙◌, subst, inl, inr, arith}
use Rattle.std.specs.Prelude.{IfSome}
use Rattle.std.specs.Arc.{arc_value}
use Rattle.std.specs.declared.sync.Arc.{Arc}
use Rattle.std.specs.declared.alloc.Global.{Global}
use Rattle.std.proofs.lemmas.Bool.{and_parts}
use Rattle.moka_policy.specs.declared.policy.Refused as policies
use Rattle.moka_policy.specs.declared.policy.Refused.TheVariants as causes
use Rattle.moka_predicate_ids.specs.declared.predicate_error.PredicateError.TheVariants as predicates
use Rattle.moka_model.specs.declared.notification.Notice.{Notice}
use Rattle.moka_model.specs.declared.comp_result.CompResult.{CompResult}
use Rattle.moka_model.specs.declared.comp_result.CompResult.TheVariants as results
use Rattle.moka_model.specs.CompResults.{of_computed}
use Rattle.moka_model.specs.Entries as entries_of
use Rattle.moka_model.specs.declared.turns.Kind.{Kind}
use Rattle.moka_model.specs.declared.turns.Kind.TheVariants.{With, Optionally, Try, Compute}
use Rattle.moka_model.specs.declared.turns.Op.TheVariants as ops
use Rattle.moka_model.specs.declared.turns.Outcome.{Outcome}
use Rattle.moka_model.specs.declared.turns.Outcome.TheVariants as outcomes
use Rattle.moka_model.specs.Lives.{Settings, Write}
use Rattle.moka_model.specs.Events.{Hidden}
use Rattle.moka_model.specs.Turns.{Turn, Name, End, found, is_open_for, is_open_as, has_ticket_as, fits, is_open, same_kind}
use Rattle.moka_model.specs.Turns as turning
use Rattle.moka_model.specs.Steps.{AcceptedStep, events_in, turns}
use Rattle.moka_model.specs.Calls.{Call, Accepted, accepted, reply_of, IsCopiedReply, IsEntryOf, IsOutOfNumbers, IsRefusedAs, UnknownTurn, UnknownTicket, ClosuresUnsupported, refusal_due, IsLegal}
use Rattle.moka_model.specs.Calls.{begun, begun_compute, or_inserted, acceptable, new_name, finished, reply_of_finish, put_by, removed_by, kept_by, collected, live_at, abandons, spends, without_move, WantsNumber}
use Rattle.moka_model.specs.Calls as calls
use Rattle.moka_model.specs.Numbers.{next_number}
use Rattle.moka_model.proofs.Callers.{found-is, same_kind-is}
use Rattle.moka_value_invariant.specs.Fits.{EndFits}
use Rattle.moka_value_invariant.proofs.Callers.{ticket-fits}
use Rattle.moka_turns.specs.declared.turn_name.TurnName.{TurnName}
use Rattle.moka_turns.specs.Handles.{name_by}
use Rattle.moka_state.specs.Finish.{outcome_of}
use Rattle.moka_state.specs.Recorded.{IsNoticed, IsSaid, WantsMemory}
use Rattle.moka_state.specs.Replies.{IsRefusal}
use Rattle.moka_state.specs.Step.{call_of, IsReplyTo}
use Rattle.moka_state.specs.declared.step.Step.{Step}
use Rattle.moka_state.specs.declared.step.Step.TheVariants.{Get, ContainsKey, Insert, Invalidate, Remove, InvalidateAll, InvalidateIf}
use Rattle.moka_state.specs.declared.step.Step.TheVariants.{RunPendingTasks, RunPendingTasksUpTo, EntryCount, WeightedSize, TakeNotice}
use Rattle.moka_state.specs.declared.step.Step.TheVariants.{OrInsert, Begin, BeginCompute, Finish, Abandon, Collect, Leave}
use Rattle.moka_state.specs.declared.step.Reply.{Reply}
use Rattle.moka_state.specs.declared.step.Reply.TheVariants.{Found, Contains, Done, Counted, Left, Noticed, Refused, PredicateRefused}
use Rattle.moka_state.specs.declared.step.Reply.TheVariants.{Entered, Run, Wait, Nothing, Failed, Computed, NotYet, Abandoned, Ended}
use Rattle.moka_state.proofs.Replied.{said}
use Rattle.moka_recorded.specs.StepForm.{Sort, a_value, a_test, nothing_to_say, a_count, a_rest, a_notice, an_entry, a_turn, a_ticket, no_value, an_error, a_result, not_yet, was_abandoned, has_ended}
use Rattle.moka_recorded.specs.StepForm.{IsSort, RefusedOr, IsCollected, IsTurnOf, IsComputing, IsInitializing, IsBegun, sort_of_outcome, Never, OutOfNumbers, NoTurn, NoTicket, NoTurnOrNumbers, IsOfForm}

no-less : 0 < 0 → ⊥
no-less less = absurd (omega (arith, less))

sort-of-outcome : {V E : Type 0} (outcome : Outcome V (Arc E Global)) → sort_of_outcome (outcome_of outcome) ≡ sort_of_outcome outcome
sort-of-outcome (outcomes.Value v) = refl
sort-of-outcome outcomes.Nothing = refl
sort-of-outcome (outcomes.Failed e) = refl
sort-of-outcome (outcomes.Op op) = refl

module _ {K V E : Type 0} where
  abbrev sort : calls.Reply K V E → Sort
  sort (calls.Found v) = a_value
  sort (calls.Contains b) = a_test
  sort calls.Done = nothing_to_say
  sort (calls.Counted n) = a_count
  sort (calls.Left b) = a_rest
  sort (calls.Noticed n) = a_notice
  sort (calls.Entered e) = an_entry
  sort (calls.Run name e) = a_turn
  sort (calls.Wait name) = a_ticket
  sort calls.GaveNothing = no_value
  sort (calls.GaveError e) = an_error
  sort (calls.StillNone k) = a_result
  sort (calls.Unchanged e) = a_result
  sort (calls.Inserted e) = a_result
  sort (calls.ReplacedWith e) = a_result
  sort (calls.Removed e) = a_result
  sort calls.NotYet = not_yet
  sort calls.WasAbandoned = was_abandoned
  sort calls.HasEnded = has_ended

  abbrev sort_in : Option (calls.Reply K V E) → Sort
  sort_in None = has_ended
  sort_in (Some a) = sort a

  -- the turn that is to be waited for
  abbrev waited : Name K → calls.Reply K V E → Name K
  waited name (calls.Wait n) = n
  waited name a = name

  -- an answer that is handed out is of the answer's sort
  alike : (is_clone : V → V → Type 0) (a b : calls.Reply K V E) → IsCopiedReply is_clone a b → sort b ≡ sort a
  alike is_clone (calls.Found v) (calls.Found w) is = refl
  alike is_clone (calls.Entered a) (calls.Entered b) is = refl
  alike is_clone (calls.Run name a) (calls.Run called b) is = refl
  alike is_clone (calls.Unchanged a) (calls.Unchanged b) is = refl
  alike is_clone (calls.Inserted a) (calls.Inserted b) is = refl
  alike is_clone (calls.ReplacedWith a) (calls.ReplacedWith b) is = refl
  alike is_clone (calls.Removed a) (calls.Removed b) is = refl
  alike is_clone a b is = ap sort is

  notice-sort : (is_clone : V → V → Type 0) (a : calls.Reply K V E) (n : Option (Notice K V)) → IsNoticed is_clone a n → a_notice ≡ sort a
  notice-sort is_clone (calls.Noticed r) n is = refl
  notice-sort is_clone a n is = absurd is

-- a turn in a reply is of its name's kind and key
named : {K : Type 0} (name : Name K) (called : TurnName K) → name_by called ≡ name → IsTurnOf name.kind name.key called
named name called same = (ap (λ (n : Name _). n.kind) same, ap (λ (n : Name _). n.key) same)

result-sort : {K V : Type 0} (E : Type 0) (r : CompResult K V) → sort {E = E} (of_computed r) ≡ a_result
result-sort E (results.StillNone k) = refl
result-sort E (results.Unchanged e) = refl
result-sort E (results.Inserted e) = refl
result-sort E (results.ReplacedWith e) = refl
result-sort E (results.Removed e) = refl

module _ {K V C H W X P F L T E S : Type 0} where
  abbrev OfSort : Reply K V C H W X P F L T E S → Sort → Type 0
  OfSort r s = IsSort s r

  -- a reply that says an answer is of its sort
  sorted : (is_clone : V → V → Type 0) (a : calls.Reply K V E) (r : Reply K V C H W X P F L T E S) → IsSaid is_clone a r → IsSort (sort a) r
  sorted is_clone a (Found v) is = subst (OfSort (Found v)) (alike is_clone a (calls.Found v) is) tt
  sorted is_clone a (Contains b) is = subst (OfSort (Contains b)) (alike is_clone a (calls.Contains b) is) tt
  sorted is_clone a Done is = subst (OfSort Done) (alike is_clone a calls.Done is) tt
  sorted is_clone a (Counted n) is = subst (OfSort (Counted n)) (alike is_clone a (calls.Counted n) is) tt
  sorted is_clone a (Left b) is = subst (OfSort (Left b)) (alike is_clone a (calls.Left b) is) tt
  sorted is_clone a (Noticed n) is = subst (OfSort (Noticed n)) (notice-sort is_clone a n is) tt
  sorted is_clone a (Entered e) is = subst (OfSort (Entered e)) (alike is_clone a (calls.Entered (entries_of.entry_of e)) is) tt
  sorted is_clone a (Run name e) is = subst (OfSort (Run name e)) (alike is_clone a (calls.Run (name_by name) (option_map entries_of.entry_of e)) is) tt
  sorted is_clone a (Wait name) is = subst (OfSort (Wait name)) (alike is_clone a (calls.Wait (name_by name)) is) tt
  sorted is_clone a Nothing is = subst (OfSort Nothing) (alike is_clone a calls.GaveNothing is) tt
  sorted is_clone a (Failed e) is = subst (OfSort (Failed e)) (alike is_clone a (calls.GaveError (arc_value e)) is) tt
  sorted is_clone a (Computed r) is = subst (OfSort (Computed r)) (sym (result-sort E r) ∙ alike is_clone a (of_computed r) is) tt
  sorted is_clone a NotYet is = subst (OfSort NotYet) (alike is_clone a calls.NotYet is) tt
  sorted is_clone a Abandoned is = subst (OfSort Abandoned) (alike is_clone a calls.WasAbandoned is) tt
  sorted is_clone a Ended is = subst (OfSort Ended) (alike is_clone a calls.HasEnded is) tt
  sorted is_clone a (Refused c) is = absurd is
  sorted is_clone a (PredicateRefused c) is = absurd is

  -- what the begin of a compute says
  run-computes : (is_clone : V → V → Type 0) (name : Name K) (e : Option (calls.Entry K V)) (key : K) → name.kind ≡ Compute → name.key ≡ key → (r : Reply K V C H W X P F L T E S) → IsSaid is_clone (calls.Run name e) r → IsSort a_turn r → IsComputing key r
  run-computes is_clone name e key kind keyed (Run called entry) is s = let it = named name called is.0 in (it.0 ∙ kind, it.1 ∙ keyed)
  run-computes is_clone name e key kind keyed r is s = absurd s

  wait-computes : (is_clone : V → V → Type 0) (name : Name K) (key : K) → name.kind ≡ Compute → name.key ≡ key → (r : Reply K V C H W X P F L T E S) → IsSaid is_clone (calls.Wait name) r → IsSort a_ticket r → IsComputing key r
  wait-computes is_clone name key kind keyed (Wait called) is s = let it = named name called (ap (waited name) is) in (it.0 ∙ kind, it.1 ∙ keyed)
  wait-computes is_clone name key kind keyed r is s = absurd s

  -- and that of an initializer
  entry-begins : (kind : Kind) (key : K) (r : Reply K V C H W X P F L T E S) → IsSort an_entry r → IsInitializing kind key r
  entry-begins kind key (Entered e) s = tt
  entry-begins kind key r s = absurd s

  run-begins : (is_clone : V → V → Type 0) (name : Name K) (kind : Kind) (key : K) → name.kind ≡ kind → name.key ≡ key → (r : Reply K V C H W X P F L T E S) → IsSaid is_clone (calls.Run name None) r → IsSort a_turn r → IsInitializing kind key r
  run-begins is_clone name kind key same keyed (Run called None) is s = let it = named name called is.0 in (it.0 ∙ same, it.1 ∙ keyed)
  run-begins is_clone name kind key same keyed (Run called (Some entry)) is s = absurd is.1
  run-begins is_clone name kind key same keyed r is s = absurd s

  wait-begins : (is_clone : V → V → Type 0) (name : Name K) (kind : Kind) (key : K) → name.kind ≡ kind → name.key ≡ key → (r : Reply K V C H W X P F L T E S) → IsSaid is_clone (calls.Wait name) r → IsSort a_ticket r → IsInitializing kind key r
  wait-begins is_clone name kind key same keyed (Wait called) is s = let it = named name called (ap (waited name) is) in (it.0 ∙ same, it.1 ∙ keyed)
  wait-begins is_clone name kind key same keyed r is s = absurd s

  -- what a ticket collects
  not-yet : (kind : Kind) (r : Reply K V C H W X P F L T E S) → IsSort not_yet r → IsCollected kind r
  not-yet With NotYet s = tt
  not-yet Optionally NotYet s = tt
  not-yet Try NotYet s = tt
  not-yet Compute NotYet s = tt
  not-yet kind r s = absurd s

  abandoned : (kind : Kind) (r : Reply K V C H W X P F L T E S) → IsSort was_abandoned r → IsCollected kind r
  abandoned With Abandoned s = tt
  abandoned Optionally Abandoned s = tt
  abandoned Try Abandoned s = tt
  abandoned Compute Abandoned s = tt
  abandoned kind r s = absurd s

  with-entry : (r : Reply K V C H W X P F L T E S) → IsSort an_entry r → IsCollected With r
  with-entry (Entered e) s = tt
  with-entry r s = absurd s

  optional-entry : (r : Reply K V C H W X P F L T E S) → IsSort an_entry r → IsCollected Optionally r
  optional-entry (Entered e) s = tt
  optional-entry r s = absurd s

  tried-entry : (r : Reply K V C H W X P F L T E S) → IsSort an_entry r → IsCollected Try r
  tried-entry (Entered e) s = tt
  tried-entry r s = absurd s

  no-entry : (r : Reply K V C H W X P F L T E S) → IsSort no_value r → IsCollected Optionally r
  no-entry Nothing s = tt
  no-entry r s = absurd s

  tried-error : (r : Reply K V C H W X P F L T E S) → IsSort an_error r → IsCollected Try r
  tried-error (Failed e) s = tt
  tried-error r s = absurd s

  computed : (r : Reply K V C H W X P F L T E S) → IsSort has_ended r → IsCollected Compute r
  computed Ended s = tt
  computed r s = absurd s

  told : (name : Name K) (number : ℕ) (kind : Kind) (end : Option (End V E)) → IfSome end (EndFits kind) → (r : Reply K V C H W X P F L T E S) → IsSort (sort (collected name number end).reply) r → IsCollected kind r
  told name number kind None fit r s = not-yet kind r s
  told name number kind (Some turning.Abandoned) fit r s = abandoned kind r s
  told name number With (Some (turning.Value v m)) fit r s = with-entry r s
  told name number Optionally (Some (turning.Value v m)) fit r s = optional-entry r s
  told name number Try (Some (turning.Value v m)) fit r s = tried-entry r s
  told name number Compute (Some (turning.Value v m)) fit r s = absurd fit
  told name number With (Some turning.Nothing) fit r s = absurd fit
  told name number Optionally (Some turning.Nothing) fit r s = no-entry r s
  told name number Try (Some turning.Nothing) fit r s = absurd fit
  told name number Compute (Some turning.Nothing) fit r s = absurd fit
  told name number With (Some (turning.Failed e)) fit r s = absurd fit
  told name number Optionally (Some (turning.Failed e)) fit r s = absurd fit
  told name number Try (Some (turning.Failed e)) fit r s = tried-error r s
  told name number Compute (Some (turning.Failed e)) fit r s = absurd fit
  told name number With (Some turning.Computed) fit r s = absurd fit
  told name number Optionally (Some turning.Computed) fit r s = absurd fit
  told name number Try (Some turning.Computed) fit r s = absurd fit
  told name number Compute (Some turning.Computed) fit r s = computed r s

module _ {K V E : Type 0} (eq : K → K → Bool) (settings : Settings K V) (steps : List (AcceptedStep K V E)) where
  abbrev RepliesWith : Call K V E → calls.Reply K V E → Type 0
  RepliesWith call a = reply_of (accepted eq settings steps call) ≡ Some a

  or-sort : (k : K) (v : V) (at : ℕ) (o : Option (Write K V)) → sort (or_inserted {E = E} eq settings (events_in steps) k v at o).reply ≡ an_entry
  or-sort k v at None = refl
  or-sort k v at (Some w) = refl

  hide-sort : (test : K → V → Bool) (b : Bool) (a : calls.Reply K V E) → reply_of (cond b (Some (without_move calls.Done (Hidden test ∷ []))) None) ≡ Some a → sort a ≡ nothing_to_say
  hide-sort test true a there = ap sort_in (sym there)
  hide-sort test false a there = cc

  hide-numbers : (test : K → V → Bool) (b : Bool) → WantsNumber (next_number settings (events_in steps)) (turns steps) (cond b (Some (without_move calls.Done (Hidden test ∷ []))) None) → ⊥
  hide-numbers test true out = no-less out.0
  hide-numbers test false out = out

  finish-sort : (name : Name K) (at : ℕ) (outcome : Outcome V E) (t : Turn K V E) → sort (reply_of_finish eq settings (events_in steps) t at outcome name) ≡ sort_of_outcome outcome
  finish-sort name at (outcomes.Value v) t = refl
  finish-sort name at outcomes.Nothing t = refl
  finish-sort name at (outcomes.Failed e) t = refl
  finish-sort name at (outcomes.Op (ops.Put v)) t = by t.shown
    where
      by : (b : Bool) → sort (put_by {E = E} name v b) ≡ a_result
      by true = refl
      by false = refl
  finish-sort name at (outcomes.Op ops.Remove) t = by (live_at eq settings name.key at (events_in steps))
    where
      by : (o : Option (Write K V)) → sort (removed_by {E = E} name o) ≡ a_result
      by None = refl
      by (Some w) = refl
  finish-sort name at (outcomes.Op ops.Nop) t = by t.kept
    where
      by : (o : Option V) → sort (kept_by {E = E} name o) ≡ a_result
      by None = refl
      by (Some v) = refl

  finish-sorts : (name : Name K) (at : ℕ) (outcome : Outcome V E) (b : Bool) (o : Option (Turn K V E)) (a : calls.Reply K V E) → reply_of (cond b (option_map (finished eq settings (events_in steps) name outcome at) o) None) ≡ Some a → sort a ≡ sort_of_outcome outcome
  finish-sorts name at outcome true None a there = cc
  finish-sorts name at outcome true (Some t) a there = ap sort_in (sym there) ∙ finish-sort name at outcome t
  finish-sorts name at outcome false o a there = cc

  abandon-sort : (o : Option (Turn K V E)) (a : calls.Reply K V E) → reply_of (option_map (λ (t : Turn K V E). abandons t.name.number) o) ≡ Some a → sort a ≡ nothing_to_say
  abandon-sort None a there = cc
  abandon-sort (Some t) a there = ap sort_in (sym there)

  abandon-numbers : (o : Option (Turn K V E)) → WantsNumber (next_number settings (events_in steps)) (turns steps) (option_map (λ (t : Turn K V E). abandons t.name.number) o) → ⊥
  abandon-numbers None out = out
  abandon-numbers (Some t) out = no-less out.0

  leave-sort : (o : Option (Turn K V E)) (a : calls.Reply K V E) → reply_of (option_map (λ (t : Turn K V E). spends t.name.number) o) ≡ Some a → sort a ≡ nothing_to_say
  leave-sort None a there = cc
  leave-sort (Some t) a there = ap sort_in (sym there)

  leave-numbers : (o : Option (Turn K V E)) → WantsNumber (next_number settings (events_in steps)) (turns steps) (option_map (λ (t : Turn K V E). spends t.name.number) o) → ⊥
  leave-numbers None out = out
  leave-numbers (Some t) out = no-less out.0

  collect-numbers : (name : Name K) (o : Option (Turn K V E)) → WantsNumber (next_number settings (events_in steps)) (turns steps) (option_map (λ (t : Turn K V E). collected name t.name.number t.end) o) → ⊥
  collect-numbers name None out = out
  collect-numbers name (Some t) out = by t.end out
    where
      by : (end : Option (End V E)) → WantsNumber (next_number settings (events_in steps)) (turns steps) (Some (collected name t.name.number end)) → ⊥
      by None out = no-less out.0
      by (Some end) out = no-less out.0

  -- an open turn that is found for a kind is of it
  kind-of : (kind : Kind) (k : K) (t : Turn K V E) → found (is_open_for eq kind k) (turns steps) ≡ Some t → t.name.kind ≡ kind
  kind-of kind k t is =
      let on = and_parts (is_open t) (same_kind t.name.kind kind && eq t.name.key k) (found-is (is_open_for eq kind k) (turns steps) t is).1 in
      same_kind-is t.name.kind kind (and_parts (same_kind t.name.kind kind) (eq t.name.key k) on.1).0

module _ {K V C H W X P F L T E S : Type 0} (eq : K → K → Bool) (is_clone : V → V → Type 0) (is_infallible : V → Type 0) (settings : Settings K V) (steps : List (AcceptedStep K V E)) where
  -- a reply is refused for a cause that there may be, or it says the answer of the definitions
  given-form : (call : Call K V E) (May : policies.Refused → Type 0) (Q : Reply K V C H W X P F L T E S → Type 0) → (IsOutOfNumbers eq settings steps call → May causes.NumbersUsedUp) → (IsRefusedAs eq settings UnknownTurn steps call → May causes.UnknownTurn) → (IsRefusedAs eq settings UnknownTicket steps call → May causes.UnknownTicket) → (IsRefusedAs eq settings ClosuresUnsupported steps call → ⊥)
      → ((r : Reply K V C H W X P F L T E S) (a : calls.Reply K V E) → RepliesWith eq settings steps call a → IsSaid is_clone a r → Q r) → (r : Reply K V C H W X P F L T E S) → IsReplyTo eq is_clone is_infallible settings steps call r → ¬ (WantsMemory r) → RefusedOr May Q r
  given-form call May Q numbers turn ticket closures says (Refused causes.OutOfMemory) is given = absurd (given tt)
  given-form call May Q numbers turn ticket closures says (Refused causes.NumbersUsedUp) is given = numbers is
  given-form call May Q numbers turn ticket closures says (Refused causes.UnknownTurn) is given = turn is
  given-form call May Q numbers turn ticket closures says (Refused causes.UnknownTicket) is given = ticket is
  given-form call May Q numbers turn ticket closures says (Refused causes.TurnIsOpen) is given = absurd is
  given-form call May Q numbers turn ticket closures says (Refused causes.WaitsAbandoned) is given = absurd is
  given-form call May Q numbers turn ticket closures says (PredicateRefused predicates.InvalidationClosuresDisabled) is given = closures is
  given-form call May Q numbers turn ticket closures says (PredicateRefused predicates.OutOfMemory) is given = absurd is
  given-form call May Q numbers turn ticket closures says r is given = go (said eq is_clone is_infallible settings steps call r is) (λ no. no)
    where
      go : IsRefusal r ⊎ ((a : calls.Reply K V E) × RepliesWith eq settings steps call a × IsSaid is_clone a r) → (IsRefusal r → ⊥) → Q r
      go (inl refusal) other = absurd (other refusal)
      go (inr (a, there, says_it)) other = says r a there says_it

  -- the same where the answer is of one sort
  sort-form : (call : Call K V E) (s : Sort) (May : policies.Refused → Type 0) → ((a : calls.Reply K V E) → RepliesWith eq settings steps call a → sort a ≡ s) → (IsOutOfNumbers eq settings steps call → May causes.NumbersUsedUp) → (IsRefusedAs eq settings UnknownTurn steps call → May causes.UnknownTurn) → (IsRefusedAs eq settings UnknownTicket steps call → May causes.UnknownTicket) → (IsRefusedAs eq settings ClosuresUnsupported steps call → ⊥)
      → (r : Reply K V C H W X P F L T E S) → IsReplyTo eq is_clone is_infallible settings steps call r → ¬ (WantsMemory r) → RefusedOr May (IsSort s) r
  sort-form call s May sorts numbers turn ticket closures = given-form call May (IsSort s) numbers turn ticket closures (λ r a there says. subst (λ s. IsSort s r) (sorts a there) (sorted is_clone a r says))

  collect-told : (legal : IsLegal eq settings steps) (name : Name K) (r : Reply K V C H W X P F L T E S) (a : calls.Reply K V E) → RepliesWith eq settings steps (calls.Collect name) a → IsSaid is_clone a r → IsCollected name.kind r
  collect-told legal name r a there says = go (found (has_ticket_as eq name) (turns steps)) refl there
    where
      go : (o : Option (Turn K V E)) → found (has_ticket_as eq name) (turns steps) ≡ o → reply_of (option_map (λ (t : Turn K V E). collected name t.name.number t.end) o) ≡ Some a → IsCollected name.kind r
      go None is there = cc
      go (Some t) is there = told name t.name.number name.kind t.end (ticket-fits eq settings steps legal name t is) r (subst (λ s. IsSort s r) (ap sort_in (sym there)) (sorted is_clone a r says))

  -- the begin of a compute
  compute-told : (k : K) (keep : Bool) (at : ℕ) (o : Option (Turn K V E)) → found (is_open_for eq Compute k) (turns steps) ≡ o → (r : Reply K V C H W X P F L T E S) (a : calls.Reply K V E) → reply_of (Some (begun_compute eq settings (events_in steps) k keep at o)) ≡ Some a → IsSaid is_clone a r → IsComputing k r
  compute-told k keep at None is r a there says =
      let none : Option (Turn K V E) = None in
      let it = begun_compute eq settings (events_in steps) k keep at none in
      let mine = subst (λ o. IfSome o (λ a. IsSaid is_clone a r)) (sym there) says in
      run-computes is_clone (new_name eq settings (events_in steps) Compute k) (option_map calls.entry_of (live_at eq settings k at (events_in steps))) k refl refl r mine (sorted is_clone it.reply r mine)
  compute-told k keep at (Some t) is r a there says =
      let mine = subst (λ o. IfSome o (λ a. IsSaid is_clone a r)) (sym there) says in
      let name : Name K = record t.name { key = k } in
      wait-computes is_clone name k (kind-of eq settings steps Compute k t is) refl r mine (sorted is_clone (calls.Wait name) r mine)

  -- and that of an initializer
  begin-told : (k : K) (kind : Kind) (replace : Option Bool) (at : ℕ) (w : Option (Write K V)) (o : Option (Turn K V E)) → found (is_open_for eq kind k) (turns steps) ≡ o → (r : Reply K V C H W X P F L T E S) (a : calls.Reply K V E) → reply_of (Some (begun eq settings (events_in steps) k kind replace at w o)) ≡ Some a → IsSaid is_clone a r → IsInitializing kind k r
  begin-told k kind replace at (Some w) o is r a there says =
      let mine = subst (λ o. IfSome o (λ a. IsSaid is_clone a r)) (sym there) says in
      entry-begins kind k r (sorted is_clone (calls.Entered (calls.entry_of w)) r mine)
  begin-told k kind replace at None None is r a there says =
      let mine = subst (λ o. IfSome o (λ a. IsSaid is_clone a r)) (sym there) says in
      let name = new_name eq settings (events_in steps) kind k in
      run-begins is_clone name kind k refl refl r mine (sorted is_clone (calls.Run name None) r mine)
  begin-told k kind replace at None (Some t) is r a there says =
      let mine = subst (λ o. IfSome o (λ a. IsSaid is_clone a r)) (sym there) says in
      let name : Name K = record t.name { key = k } in
      wait-begins is_clone name kind k (kind-of eq settings steps kind k t is) refl r mine (sorted is_clone (calls.Wait name) r mine)

module _ {K V C H W X P F L T E S : Type 0} (eq : K → K → Bool) (test : P → K → V → Bool) (is_clone : V → V → Type 0) (is_infallible : V → Type 0) (settings : Settings K V) (steps : List (AcceptedStep K V E)) (legal : IsLegal eq settings steps) where
  begin-form : (k : K) (kind : Kind) (replace : Option Bool) (at : ℕ) (r : Reply K V C H W X P F L T E S) → IsReplyTo eq is_clone is_infallible settings steps (calls.Begin k kind replace at) r → ¬ (WantsMemory r) → RefusedOr OutOfNumbers (IsBegun kind k) r
  begin-form k Compute replace at = given-form eq is_clone is_infallible settings steps (calls.Begin k Compute replace at) OutOfNumbers (IsBegun Compute k) (λ out. tt) (λ no. let off = no.1 in cc) (λ no. let off = no.1 in cc) (λ no. let off = no.1 in cc)
      (λ r a there says. compute-told eq is_clone is_infallible settings steps k false at (found (is_open_for eq Compute k) (turns steps)) refl r a there says)
  begin-form k With replace at = given-form eq is_clone is_infallible settings steps (calls.Begin k With replace at) OutOfNumbers (IsBegun With k) (λ out. tt) (λ no. let off = no.1 in cc) (λ no. let off = no.1 in cc) (λ no. let off = no.1 in cc)
      (λ r a there says. begin-told eq is_clone is_infallible settings steps k With replace at (acceptable replace (live_at eq settings k at (events_in steps))) (found (is_open_for eq With k) (turns steps)) refl r a there says)
  begin-form k Optionally replace at = given-form eq is_clone is_infallible settings steps (calls.Begin k Optionally replace at) OutOfNumbers (IsBegun Optionally k) (λ out. tt) (λ no. let off = no.1 in cc) (λ no. let off = no.1 in cc) (λ no. let off = no.1 in cc)
      (λ r a there says. begin-told eq is_clone is_infallible settings steps k Optionally replace at (acceptable replace (live_at eq settings k at (events_in steps))) (found (is_open_for eq Optionally k) (turns steps)) refl r a there says)
  begin-form k Try replace at = given-form eq is_clone is_infallible settings steps (calls.Begin k Try replace at) OutOfNumbers (IsBegun Try k) (λ out. tt) (λ no. let off = no.1 in cc) (λ no. let off = no.1 in cc) (λ no. let off = no.1 in cc)
      (λ r a there says. begin-told eq is_clone is_infallible settings steps k Try replace at (acceptable replace (live_at eq settings k at (events_in steps))) (found (is_open_for eq Try k) (turns steps)) refl r a there says)

  -- one whose replies are of one sort, and that never fails but with `OutOfMemory`
  never : (call : Call K V E) (s : Sort) → ((a : calls.Reply K V E) → reply_of (accepted eq settings steps call) ≡ Some a → sort a ≡ s) → (IsOutOfNumbers eq settings steps call → ⊥) → refusal_due call ≡ None → (r : Reply K V C H W X P F L T E S) → IsReplyTo eq is_clone is_infallible settings steps call r → ¬ (WantsMemory r) → RefusedOr Never (IsSort s) r
  never call s sorts numbers due = sort-form eq is_clone is_infallible settings steps call s Never sorts numbers
      (λ no. let off : None ≡ Some UnknownTurn = sym due ∙ no.1 in cc) (λ no. let off : None ≡ Some UnknownTicket = sym due ∙ no.1 in cc) (λ no. let off : None ≡ Some ClosuresUnsupported = sym due ∙ no.1 in cc)

  -- one whose replies are of one sort, and that else fails with `NumbersUsedUp` alone
  drawing : (call : Call K V E) (s : Sort) → ((a : calls.Reply K V E) → reply_of (accepted eq settings steps call) ≡ Some a → sort a ≡ s) → refusal_due call ≡ None → (r : Reply K V C H W X P F L T E S) → IsReplyTo eq is_clone is_infallible settings steps call r → ¬ (WantsMemory r) → RefusedOr OutOfNumbers (IsSort s) r
  drawing call s sorts due = sort-form eq is_clone is_infallible settings steps call s OutOfNumbers sorts (λ out. tt)
      (λ no. let off : None ≡ Some UnknownTurn = sym due ∙ no.1 in cc) (λ no. let off : None ≡ Some UnknownTicket = sym due ∙ no.1 in cc) (λ no. let off : None ≡ Some ClosuresUnsupported = sym due ∙ no.1 in cc)

  hide-form : (p : Arc P Global) (r : Reply K V C H W X P F L T E S) → IsReplyTo eq is_clone is_infallible settings steps (calls.InvalidateIf (test (arc_value p))) r → ¬ (WantsMemory r) → IsOfForm (InvalidateIf p) r
  hide-form p (PredicateRefused predicates.InvalidationClosuresDisabled) is given = tt
  hide-form p (PredicateRefused predicates.OutOfMemory) is given = absurd is
  hide-form p (Refused causes.OutOfMemory) is given = absurd (given tt)
  hide-form p (Refused causes.NumbersUsedUp) is given = hide-numbers eq settings steps (test (arc_value p)) settings.supports_closures is
  hide-form p (Refused causes.UnknownTurn) is given = let off = is.1 in cc
  hide-form p (Refused causes.UnknownTicket) is given = let off = is.1 in cc
  hide-form p (Refused causes.TurnIsOpen) is given = absurd is
  hide-form p (Refused causes.WaitsAbandoned) is given = absurd is
  hide-form p r is given = go (said eq is_clone is_infallible settings steps (calls.InvalidateIf (test (arc_value p))) r is) (λ no. no)
    where
      go : IsRefusal r ⊎ ((a : calls.Reply K V E) × (reply_of (accepted eq settings steps (calls.InvalidateIf (test (arc_value p)))) ≡ Some a) × IsSaid is_clone a r) → (IsRefusal r → ⊥) → IsSort nothing_to_say r
      go (inl refusal) other = absurd (other refusal)
      go (inr (a, there, says)) other = subst (λ s. IsSort s r) (hide-sort eq settings steps (test (arc_value p)) settings.supports_closures a there) (sorted is_clone a r says)

  pub form : (step : Step K V C H W X P F L T E S) (r : Reply K V C H W X P F L T E S) → IsReplyTo eq is_clone is_infallible settings steps (call_of test step) r → ¬ (WantsMemory r) → IsOfForm step r
  form (Get key now) = never (calls.Get (arc_value key) now) a_value (λ a there. ap sort_in (sym there)) (λ out. no-less out.0) refl
  form (ContainsKey key now) = never (calls.ContainsKey (arc_value key) now) a_test (λ a there. ap sort_in (sym there)) (λ out. no-less out.0) refl
  form (Insert key value now) = drawing (calls.Insert (arc_value key) value now) nothing_to_say (λ a there. ap sort_in (sym there)) refl
  form (OrInsert key value now) = drawing (calls.OrInsert (arc_value key) value now) an_entry (λ a there. ap sort_in (sym there) ∙ or-sort eq settings steps (arc_value key) value now (live_at eq settings (arc_value key) now (events_in steps))) refl
  form (Invalidate key now) = never (calls.Invalidate (arc_value key) now) nothing_to_say (λ a there. ap sort_in (sym there)) (λ out. no-less out.0) refl
  form (Remove key now) = never (calls.Remove (arc_value key) now) a_value (λ a there. ap sort_in (sym there)) (λ out. no-less out.0) refl
  form InvalidateAll = never calls.InvalidateAll nothing_to_say (λ a there. ap sort_in (sym there)) (λ out. no-less out.0) refl
  form (InvalidateIf predicate) = hide-form predicate
  form (RunPendingTasks now) = never (calls.RunPendingTasks now) nothing_to_say (λ a there. ap sort_in (sym there)) (λ out. no-less out.0) refl
  form (RunPendingTasksUpTo limit now) = never (calls.RunPendingTasksUpTo limit now) a_rest (λ a there. ap sort_in (sym there)) (λ out. no-less out.0) refl
  form EntryCount = never calls.EntryCount a_count (λ a there. ap sort_in (sym there)) (λ out. no-less out.0) refl
  form WeightedSize = never calls.WeightedSize a_count (λ a there. ap sort_in (sym there)) (λ out. no-less out.0) refl
  form TakeNotice = never calls.TakeNotice a_notice (λ a there. ap sort_in (sym there)) (λ out. no-less out.0) refl
  form (Begin key kind replace now) = begin-form (arc_value key) kind replace now
  form (BeginCompute key keep now) = given-form eq is_clone is_infallible settings steps (calls.BeginCompute (arc_value key) keep now) OutOfNumbers (IsComputing (arc_value key)) (λ out. tt) (λ no. let off = no.1 in cc) (λ no. let off = no.1 in cc) (λ no. let off = no.1 in cc)
      (λ r a there says. compute-told eq is_clone is_infallible settings steps (arc_value key) keep now (found (is_open_for eq Compute (arc_value key)) (turns steps)) refl r a there says)
  form (Finish name outcome now) = sort-form eq is_clone is_infallible settings steps (calls.Finish (name_by name) (outcome_of outcome) now) (sort_of_outcome outcome) NoTurnOrNumbers
      (λ a there. finish-sorts eq settings steps (name_by name) now (outcome_of outcome) (fits name.kind (outcome_of outcome)) (found (is_open_as eq (name_by name)) (turns steps)) a there ∙ sort-of-outcome outcome)
      (λ out. tt) (λ no. tt) (λ no. let off = no.1 in cc) (λ no. let off = no.1 in cc)
  form (Abandon name) = sort-form eq is_clone is_infallible settings steps (calls.Abandon (name_by name)) nothing_to_say NoTurn (abandon-sort eq settings steps (found (is_open_as eq (name_by name)) (turns steps)))
      (λ out. abandon-numbers eq settings steps (found (is_open_as eq (name_by name)) (turns steps)) out) (λ no. tt) (λ no. let off = no.1 in cc) (λ no. let off = no.1 in cc)
  form (Collect name) = given-form eq is_clone is_infallible settings steps (calls.Collect (name_by name)) NoTicket (IsCollected name.kind)
      (λ out. collect-numbers eq settings steps (name_by name) (found (has_ticket_as eq (name_by name)) (turns steps)) out) (λ no. let off = no.1 in cc) (λ no. tt) (λ no. let off = no.1 in cc)
      (collect-told eq is_clone is_infallible settings steps legal (name_by name))
  form (Leave name) = sort-form eq is_clone is_infallible settings steps (calls.Leave (name_by name)) nothing_to_say NoTicket (leave-sort eq settings steps (found (has_ticket_as eq (name_by name)) (turns steps)))
      (λ out. leave-numbers eq settings steps (found (has_ticket_as eq (name_by name)) (turns steps)) out) (λ no. let off = no.1 in cc) (λ no. tt) (λ no. let off = no.1 in cc)
