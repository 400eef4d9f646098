-- What a call writes is under its own key.
use Rattle.std.proofs.Common.{◌≡◌, ℕ, zero, suc, ◌+◌, Bool, true, false, cond, Option, Some, None, option_map, List, [], ◌∷◌, ◌++◌, refl, sym, ap, ◌∙◌, arith}
use Rattle.std.specs.List.{AllByRecursion}
use Rattle.std.proofs.lemmas.Bool.{cond_both}
use Rattle.moka_model.specs.declared.turns.Kind.{Kind}
use Rattle.moka_model.specs.declared.turns.Kind.TheVariants.{With, Optionally, Try, Compute}
use Rattle.moka_model.specs.declared.turns.Op.TheVariants as ops
use Rattle.moka_model.specs.declared.turns.Outcome.{Outcome}
use Rattle.moka_model.specs.declared.turns.Outcome.TheVariants as outcomes
use Rattle.moka_model.specs.Lives.{Settings, Write}
use Rattle.moka_model.specs.Events.{Event, Written, Passed, Maintained, Looked, Hidden}
use Rattle.moka_model.specs.Numbers.{stores_nothing, is_flush_due}
use Rattle.moka_model.specs.Turns.{Turn, Name, End, fits, found, is_open_for, is_open_as, has_ticket_as}
use Rattle.moka_model.specs.Steps.{AcceptedStep, events_in, turns}
use Rattle.moka_model.specs.Calls.{Call, Get, ContainsKey, Insert, Invalidate, Remove, InvalidateAll, InvalidateIf, RunPendingTasks, RunPendingTasksUpTo, EntryCount, WeightedSize, TakeNotice, OrInsert, Begin, BeginCompute, Finish, Abandon, Collect, Leave, Accepted, Done, without_move, accepted, with_step, write_events, look_event, begun, begun_compute, or_inserted, finished, collected, abandons, spends, acceptable, live_at}
use Rattle.moka_model.specs.Conserved.{count_written}
use Rattle.moka_segment_model.specs.Segments.{key_in}
use Rattle.moka_segment_model.specs.SegmentLaws.{events_by}

module _ {K V : Type 0} (test : K → V → Bool) where
  -- an event that writes no pair which passes the test
  abbrev pub IsUncounted : Event K V → Type 0
  IsUncounted (Written k v at) = test k v ≡ false
  IsUncounted e = Unit {0}

  uncounted-one : (e : Event K V) (h : List (Event K V)) → IsUncounted e → count_written test (e ∷ h) ≡ count_written test h
  uncounted-one (Written k v at) h fails = ap (λ b. cond b (suc (count_written test h)) (count_written test h)) fails
  uncounted-one e h none = refl

  -- such events are none that count
  pub uncounted : (es : List (Event K V)) → AllByRecursion IsUncounted es → count_written test es ≡ 0
  uncounted [] all = refl
  uncounted (e ∷ es) all = uncounted-one e es all.0 ∙ uncounted es all.1

  written-more : (e : Event K V) (es h : List (Event K V)) → count_written test (es ++ h) ≡ count_written test es + count_written test h
      → count_written test (e ∷ es ++ h) ≡ count_written test (e ∷ es) + count_written test h
  written-more (Written k v at) es h more = by (test k v)
    where
      by : (b : Bool) → cond b (suc (count_written test (es ++ h))) (count_written test (es ++ h)) ≡ cond b (suc (count_written test es)) (count_written test es) + count_written test h
      by true = omega (arith, more)
      by false = more
  written-more e es h more = more

  pub written-append : (es h : List (Event K V)) → count_written test (es ++ h) ≡ count_written test es + count_written test h
  written-append [] h = omega arith
  written-append (e ∷ es) h = written-more e es h (written-append es h)

  -- what is written after a call is what the call writes, and what was written before
  pub written-after : {E : Type 0} (it : Option (Accepted K V E)) (steps : List (AcceptedStep K V E))
      → count_written test (events_in (with_step it steps)) ≡ count_written test (events_by it) + count_written test (events_in steps)
  written-after None steps = omega arith
  written-after (Some it) steps = written-append it.step.events (events_in steps)

  abbrev IsUncountedBy : {E : Type 0} → Option (Accepted K V E) → Type 0
  IsUncountedBy it = AllByRecursion IsUncounted (events_by it)

module _ {K V E : Type 0} (eq : K → K → Bool) (settings : Settings K V) (steps : List (AcceptedStep K V E)) (test : K → V → Bool) where
  abbrev h : List (Event K V)
  h = events_in steps

  uncounted-write : (k : K) (v : V) (at : ℕ) (before later : List (Event K V)) → test k v ≡ false → AllByRecursion (IsUncounted test) later
      → AllByRecursion (IsUncounted test) (write_events eq settings k v at before ++ later)
  uncounted-write k v at before later fails all = by (stores_nothing settings.max_capacity) (is_flush_due eq settings before)
    where
      by : (none due : Bool) → AllByRecursion (IsUncounted test) (cond none (Passed at ∷ []) (Written k v at ∷ cond due (Maintained settings.flush_limit at ∷ []) []) ++ later)
      by true due = (tt, all)
      by false true = (fails, (tt, all))
      by false false = (fails, all)

  uncounted-alone : (k : K) (v : V) (at : ℕ) → test k v ≡ false → AllByRecursion (IsUncounted test) (write_events eq settings k v at h)
  uncounted-alone k v at fails = by (stores_nothing settings.max_capacity) (is_flush_due eq settings h)
    where
      by : (none due : Bool) → AllByRecursion (IsUncounted test) (cond none (Passed at ∷ []) (Written k v at ∷ cond due (Maintained settings.flush_limit at ∷ []) []))
      by true due = (tt, tt)
      by false true = (fails, (tt, tt))
      by false false = (fails, tt)

  uncounted-look : (replace : Option Bool) (k : K) (at : ℕ) → IsUncounted test (look_event replace k at)
  uncounted-look None k at = tt
  uncounted-look (Some false) k at = tt
  uncounted-look (Some true) k at = tt

  uncounted-begun : (k : K) (kind : Kind) (replace : Option Bool) (at : ℕ) (w : Option (Write K V)) (t : Option (Turn K V E)) → IsUncountedBy test (Some (begun eq settings h k kind replace at w t))
  uncounted-begun k kind replace at (Some w) t = (uncounted-look replace k at, tt)
  uncounted-begun k kind replace at None (Some t) = (uncounted-look replace k at, tt)
  uncounted-begun k kind replace at None None = (tt, (uncounted-look replace k at, tt))

  uncounted-compute : (k : K) (keep : Bool) (at : ℕ) (t : Option (Turn K V E)) → IsUncountedBy test (Some (begun_compute eq settings h k keep at t))
  uncounted-compute k keep at (Some t) = (tt, tt)
  uncounted-compute k keep at None = (tt, (tt, tt))

  uncounted-or_inserted : (k : K) (v : V) (at : ℕ) (w : Option (Write K V)) → test k v ≡ false → IsUncountedBy test (Some (or_inserted {E = E} eq settings h k v at w))
  uncounted-or_inserted k v at (Some w) fails = (tt, tt)
  uncounted-or_inserted k v at None fails = uncounted-write k v at (Looked k at ∷ h) (Looked k at ∷ []) fails (tt, tt)

  uncounted-finished : (name : Name K) (at : ℕ) (outcome : Outcome V E) (t : Turn K V E) → ((v : V) → test name.key v ≡ false) → IsUncountedBy test (Some (finished eq settings h name outcome at t))
  uncounted-finished name at (outcomes.Value v) t fails = uncounted-alone name.key v at (fails v)
  uncounted-finished name at outcomes.Nothing t fails = (tt, tt)
  uncounted-finished name at (outcomes.Failed e) t fails = (tt, tt)
  uncounted-finished name at (outcomes.Op (ops.Put v)) t fails = uncounted-alone name.key v at (fails v)
  uncounted-finished name at (outcomes.Op ops.Remove) t fails = (tt, tt)
  uncounted-finished name at (outcomes.Op ops.Nop) t fails = (tt, tt)

  uncounted-collected : (name : Name K) (number : ℕ) (end : Option (End V E)) → IsUncountedBy test (Some (collected name number end))
  uncounted-collected name number None = tt
  uncounted-collected name number (Some end) = tt

  uncounted-made : (make : Turn K V E → Accepted K V E) → ((t : Turn K V E) → IsUncountedBy test (Some (make t))) → (o : Option (Turn K V E)) → IsUncountedBy test (option_map make o)
  uncounted-made make each None = tt
  uncounted-made make each (Some t) = each t

  abbrev FailsUnder : Option K → Type 0
  FailsUnder key = (k : K) (v : V) → key ≡ Some k → test k v ≡ false

  -- a call writes no pair that passes a test which fails for all values under its key; and none, where it has no key
  pub uncounted-call : (call : Call K V E) → FailsUnder (key_in call) → IsUncountedBy test (accepted eq settings steps call)
  uncounted-call (Get k at) fails = (tt, tt)
  uncounted-call (ContainsKey k at) fails = tt
  uncounted-call (Insert k v at) fails = uncounted-alone k v at (fails k v refl)
  uncounted-call (Invalidate k at) fails = (tt, tt)
  uncounted-call (Remove k at) fails = (tt, tt)
  uncounted-call InvalidateAll fails = (tt, tt)
  uncounted-call (InvalidateIf hide) fails = by settings.supports_closures
    where
      by : (b : Bool) → IsUncountedBy test (cond b (Some (without_move {E = E} Done (Hidden hide ∷ []))) None)
      by true = (tt, tt)
      by false = tt
  uncounted-call (RunPendingTasks at) fails = (tt, tt)
  uncounted-call (RunPendingTasksUpTo limit at) fails = (tt, tt)
  uncounted-call EntryCount fails = tt
  uncounted-call WeightedSize fails = tt
  uncounted-call TakeNotice fails = (tt, tt)
  uncounted-call (OrInsert k v at) fails = uncounted-or_inserted k v at (live_at eq settings k at h) (fails k v refl)
  uncounted-call (Begin k With replace at) fails = uncounted-begun k With replace at (acceptable replace (live_at eq settings k at h)) (found (is_open_for eq With k) (turns steps))
  uncounted-call (Begin k Optionally replace at) fails = uncounted-begun k Optionally replace at (acceptable replace (live_at eq settings k at h)) (found (is_open_for eq Optionally k) (turns steps))
  uncounted-call (Begin k Try replace at) fails = uncounted-begun k Try replace at (acceptable replace (live_at eq settings k at h)) (found (is_open_for eq Try k) (turns steps))
  uncounted-call (Begin k Compute replace at) fails = uncounted-compute k false at (found (is_open_for eq Compute k) (turns steps))
  uncounted-call (BeginCompute k keep at) fails = uncounted-compute k keep at (found (is_open_for eq Compute k) (turns steps))
  uncounted-call (Finish name outcome at) fails =
      cond_both (fits name.kind outcome) (option_map (finished eq settings h name outcome at) (found (is_open_as eq name) (turns steps))) None (IsUncountedBy test)
      (λ _. uncounted-made (finished eq settings h name outcome at) (λ t. uncounted-finished name at outcome t (λ v. fails name.key v refl)) (found (is_open_as eq name) (turns steps)))
      (λ _. tt)
  uncounted-call (Abandon name) fails = uncounted-made (λ t. abandons t.name.number) (λ t. tt) (found (is_open_as eq name) (turns steps))
  uncounted-call (Collect name) fails = uncounted-made (λ t. collected name t.name.number t.end) (λ t. uncounted-collected name t.name.number t.end) (found (has_ticket_as eq name) (turns steps))
  uncounted-call (Leave name) fails = uncounted-made (λ t. spends t.name.number) (λ t. tt) (found (has_ticket_as eq name) (turns steps))

  -- so a call without a key writes none
  pub keyless-none : (call : Call K V E) → key_in call ≡ None → count_written test (events_by (accepted eq settings steps call)) ≡ 0
  keyless-none call e = uncounted test (events_by (accepted eq settings steps call)) (uncounted-call call (λ k v some. let no : None ≡ Some k = sym e ∙ some in cc))
