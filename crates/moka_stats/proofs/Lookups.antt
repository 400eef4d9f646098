-- The recorded lookups among the events of a call, and of a run.
use Rattle.std.proofs.Common.{◌≡◌, ℕ, ◌+◌, min, Bool, true, false, option_map, Option, Some, None, List, [], ◌∷◌, ◌++◌, refl, sym, ap, ◌∙◌, subst, arith}
use Rattle.std.proofs.lemmas.Bool.{cond_both}
use Rattle.moka_model.specs.Lives.{Settings, Write}
use Rattle.moka_model.specs.Events.{Event, Looked, TurnedDown, Written, Invalidated, Hidden, Maintained, Passed, Drawn, Taken}
use Rattle.moka_model.specs.Numbers.{stores_nothing, is_flush_due}
use Rattle.moka_model.specs.Steps.{AcceptedStep, events_in, turns}
use Rattle.moka_model.specs.Calls.{Call, Get, ContainsKey, Insert, Invalidate, Remove, InvalidateAll, InvalidateIf, RunPendingTasks, RunPendingTasksUpTo, EntryCount, WeightedSize, TakeNotice, OrInsert, Begin, BeginCompute, Finish, Abandon, Collect, Leave, Reply, Done, Accepted, without_move, accepted, acceptable, look_event, live_at, begun, begun_compute, or_inserted, finished, finish_events, collected, abandons, spends, flush, write_events}
use Rattle.moka_model.specs.declared.turns.Kind.{Kind}
use Rattle.moka_model.specs.declared.turns.Kind.TheVariants.{With, Optionally, Try, Compute}
use Rattle.moka_model.specs.declared.turns.Op.TheVariants as ops
use Rattle.moka_model.specs.declared.turns.Outcome.{Outcome}
use Rattle.moka_model.specs.declared.turns.Outcome.TheVariants as outcomes
use Rattle.moka_model.specs.Turns.{Turn, Name, End, fits, found, is_open_for, is_open_as, has_ticket_as}
use Rattle.moka_stats.specs.declared.statistics.Statistics.{Statistics}
use Rattle.moka_stats.specs.Statistics.{IsRun, after_call, counted, greatest_count, hit_count, hits_in, lookup_count, lookup_of, lookups_in, miss_count, misses_in}

plus_one : (a b : ℕ) → (a + b) + 1 ≡ (a + 1) + b
plus_one a b = omega arith

plus_zero : (n : ℕ) → n ≡ n + 0
plus_zero n = omega arith

zero_plus : (n : ℕ) → n ≡ 0 + n
zero_plus n = omega arith

module _ {K V : Type 0} where
  -- the lookups of two lists of events
  lookups-append : (first rest : List (Event K V)) → lookups_in (first ++ rest) ≡ lookups_in first + lookups_in rest
  lookups-append [] rest = zero_plus (lookups_in rest)
  lookups-append (Looked k at ∷ first) rest = ap (λ n. n + 1) (lookups-append first rest) ∙ plus_one (lookups_in first) (lookups_in rest)
  lookups-append (TurnedDown k at ∷ first) rest = ap (λ n. n + 1) (lookups-append first rest) ∙ plus_one (lookups_in first) (lookups_in rest)
  lookups-append (Written k v at ∷ first) rest = lookups-append first rest
  lookups-append (Invalidated k at ∷ first) rest = lookups-append first rest
  lookups-append (Hidden test ∷ first) rest = lookups-append first rest
  lookups-append (Maintained limit at ∷ first) rest = lookups-append first rest
  lookups-append (Passed at ∷ first) rest = lookups-append first rest
  lookups-append (Drawn ∷ first) rest = lookups-append first rest
  lookups-append (Taken ∷ first) rest = lookups-append first rest

look-one : {K : Type 0} (V : Type 0) (replace : Option Bool) (k : K) (at : ℕ) → lookups_in {V = V} (look_event replace k at ∷ []) ≡ 1
look-one V None k at = refl
look-one V (Some false) k at = refl
look-one V (Some true) k at = refl

module _ {K V : Type 0} (eq : K → K → Bool) (settings : Settings K V) where
  -- a write looks nothing up
  by_write : (P : List (Event K V) → Type 0) (k : K) (v : V) (at : ℕ) (h : List (Event K V)) → P (Passed at ∷ []) → P (Written k v at ∷ []) → P (Written k v at ∷ Maintained settings.flush_limit at ∷ []) → P (write_events eq settings k v at h)
  by_write P k v at h passed written flushed =
      cond_both (stores_nothing settings.max_capacity) (Passed at ∷ []) (Written k v at ∷ flush eq settings at h) P
      (λ _. passed)
      (λ _. cond_both (is_flush_due eq settings h) (Maintained settings.flush_limit at ∷ []) [] (λ events. P (Written k v at ∷ events)) (λ _. flushed) (λ _. written))

  write-none : (k : K) (v : V) (at : ℕ) (h : List (Event K V)) → lookups_in (write_events eq settings k v at h) ≡ 0
  write-none k v at h = by_write (λ events. lookups_in events ≡ 0) k v at h refl refl refl

  looked_write-one : (k : K) (v : V) (at : ℕ) (h : List (Event K V)) → lookups_in (write_events eq settings k v at h ++ Looked k at ∷ []) ≡ 1
  looked_write-one k v at h = by_write (λ events. lookups_in (events ++ Looked k at ∷ []) ≡ 1) k v at h refl refl refl

module _ {K V E : Type 0} (eq : K → K → Bool) (settings : Settings K V) (steps : List (AcceptedStep K V E)) where
  abbrev h : List (Event K V)
  h = events_in steps

  -- an accepted call has as many lookups as its reply says
  abbrev Says : Call K V E → Accepted K V E → Type 0
  Says call it = lookups_in it.step.events ≡ lookup_count (lookup_of call it.reply)

  abbrev SaysIf : Call K V E → Option (Accepted K V E) → Type 0
  SaysIf call None = Unit {0}
  SaysIf call (Some it) = Says call it

  begun-one : (k : K) (kind : Kind) (replace : Option Bool) (at : ℕ) (w : Option (Write K V)) (t : Option (Turn K V E)) → lookups_in (begun eq settings h k kind replace at w t).step.events ≡ 1
  begun-one k kind replace at (Some w) t = look-one V replace k at
  begun-one k kind replace at None (Some t) = look-one V replace k at
  begun-one k kind replace at None None = look-one V replace k at

  computes-say : (k : K) (keep : Bool) (at : ℕ) (t : Option (Turn K V E)) → Says (BeginCompute k keep at) (begun_compute eq settings h k keep at t)
  computes-say k keep at (Some t) = refl
  computes-say k keep at None = refl

  inserts-one : (k : K) (v : V) (at : ℕ) (w : Option (Write K V)) → lookups_in (or_inserted {E = E} eq settings h k v at w).step.events ≡ 1
  inserts-one k v at (Some w) = refl
  inserts-one k v at None = looked_write-one eq settings k v at (Looked k at ∷ h)

  finish-none : (k : K) (at : ℕ) (outcome : Outcome V E) → lookups_in (finish_events eq settings h k at outcome) ≡ 0
  finish-none k at (outcomes.Value v) = write-none eq settings k v at h
  finish-none k at outcomes.Nothing = refl
  finish-none k at (outcomes.Failed e) = refl
  finish-none k at (outcomes.Op (ops.Put v)) = write-none eq settings k v at h
  finish-none k at (outcomes.Op ops.Remove) = refl
  finish-none k at (outcomes.Op ops.Nop) = refl

  collected-none : (name : Name K) (number : ℕ) (end : Option (End V E)) → lookups_in (collected {K = K} name number end).step.events ≡ 0
  collected-none name number None = refl
  collected-none name number (Some end) = refl

  each-says : (call : Call K V E) (make : Turn K V E → Accepted K V E) → ((t : Turn K V E) → Says call (make t)) → (o : Option (Turn K V E)) → SaysIf call (option_map make o)
  each-says call make each None = tt
  each-says call make each (Some t) = each t

  accepted-says : (call : Call K V E) → SaysIf call (accepted eq settings steps call)
  accepted-says (Get k at) = refl
  accepted-says (ContainsKey k at) = refl
  accepted-says (Insert k v at) = write-none eq settings k v at h
  accepted-says (Invalidate k at) = refl
  accepted-says (Remove k at) = refl
  accepted-says InvalidateAll = refl
  accepted-says (InvalidateIf test) = cond_both settings.supports_closures (Some (without_move Done (Hidden test ∷ []))) None (SaysIf (InvalidateIf test)) (λ _. refl) (λ _. tt)
  accepted-says (RunPendingTasks at) = refl
  accepted-says (RunPendingTasksUpTo limit at) = refl
  accepted-says EntryCount = refl
  accepted-says WeightedSize = refl
  accepted-says TakeNotice = refl
  accepted-says (OrInsert k v at) = inserts-one k v at (live_at eq settings k at h)
  accepted-says (Begin k With replace at) = begun-one k With replace at (acceptable replace (live_at eq settings k at h)) (found (is_open_for eq With k) (turns steps))
  accepted-says (Begin k Optionally replace at) = begun-one k Optionally replace at (acceptable replace (live_at eq settings k at h)) (found (is_open_for eq Optionally k) (turns steps))
  accepted-says (Begin k Try replace at) = begun-one k Try replace at (acceptable replace (live_at eq settings k at h)) (found (is_open_for eq Try k) (turns steps))
  accepted-says (Begin k Compute replace at) = computes-say k false at (found (is_open_for eq Compute k) (turns steps))
  accepted-says (BeginCompute k keep at) = computes-say k keep at (found (is_open_for eq Compute k) (turns steps))
  accepted-says (Finish name outcome at) =
      cond_both (fits name.kind outcome) (option_map (finished eq settings h name outcome at) (found (is_open_as eq name) (turns steps))) None (SaysIf (Finish name outcome at))
      (λ _. each-says (Finish name outcome at) (finished eq settings h name outcome at) (λ t. finish-none name.key at outcome) (found (is_open_as eq name) (turns steps)))
      (λ _. tt)
  accepted-says (Abandon name) = each-says (Abandon name) (λ t. abandons t.name.number) (λ t. refl) (found (is_open_as eq name) (turns steps))
  accepted-says (Collect name) = each-says (Collect name) (λ t. collected name t.name.number t.end) (λ t. collected-none name t.name.number t.end) (found (has_ticket_as eq name) (turns steps))
  accepted-says (Leave name) = each-says (Leave name) (λ t. spends t.name.number) (λ t. refl) (found (has_ticket_as eq name) (turns steps))

  pub says_lookup : (call : Call K V E) (it : Accepted K V E) → accepted eq settings steps call ≡ Some it → Says call it
  says_lookup call it is = subst (SaysIf call) is (accepted-says call)

sums : (a b c d n m all : ℕ) → a + c ≡ n → b + d ≡ m → all ≡ m + n → (a + b) + (c + d) ≡ all
sums a b c d n m all first second whole = omega (arith, first, second, whole)

-- a lookup is a hit or a miss
one_of : (lookup : Option Bool) → hit_count lookup + miss_count lookup ≡ lookup_count lookup
one_of None = refl
one_of (Some true) = refl
one_of (Some false) = refl

module _ {K V E : Type 0} (eq : K → K → Bool) (settings : Settings K V) where
  pub all_lookups : (run : List (Call K V E × Reply K V E)) (steps : List (AcceptedStep K V E)) → IsRun eq settings run steps → hits_in run + misses_in run ≡ lookups_in (events_in steps)
  all_lookups [] steps empty = sym (ap (λ all. lookups_in (events_in all)) empty)
  all_lookups (made ∷ run) steps (before, it, is_run, is, reply, same) =
      let below : hits_in run + misses_in run ≡ lookups_in (events_in before) = all_lookups run before is_run in
      let own : lookups_in it.step.events ≡ lookup_count (lookup_of made.0 made.1) = says_lookup eq settings before made.0 it is ∙ ap (λ r. lookup_count (lookup_of made.0 r)) (sym reply) in
      let both : hit_count (lookup_of made.0 made.1) + miss_count (lookup_of made.0 made.1) ≡ lookup_count (lookup_of made.0 made.1) = one_of (lookup_of made.0 made.1) in
      let whole : lookups_in (events_in steps) ≡ lookups_in it.step.events + lookups_in (events_in before) = ap (λ all. lookups_in (events_in all)) same ∙ lookups-append it.step.events (events_in before) in
      sums (hits_in run) (hit_count (lookup_of made.0 made.1)) (misses_in run) (miss_count (lookup_of made.0 made.1)) _ _ _ below (both ∙ sym own) whole

-- one more of what stops at the greatest count
capped : (n old : ℕ) → old ≡ min n greatest_count → min (old + 1) greatest_count ≡ min (n + 1) greatest_count
capped n old same = omega (arith, same)

same_cap : (n old : ℕ) → old ≡ min n greatest_count → old ≡ min (n + 0) greatest_count
same_cap n old same = same ∙ ap (λ m. min m greatest_count) (plus_zero n)

hits_after : (lookup : Option Bool) (n : ℕ) (before : Statistics) → before.hits ≡ min n greatest_count → (after_call lookup before).hits ≡ min (n + hit_count lookup) greatest_count
hits_after None n before same = same_cap n before.hits same
hits_after (Some true) n before same = capped n before.hits same
hits_after (Some false) n before same = same_cap n before.hits same

misses_after : (lookup : Option Bool) (n : ℕ) (before : Statistics) → before.misses ≡ min n greatest_count → (after_call lookup before).misses ≡ min (n + miss_count lookup) greatest_count
misses_after None n before same = same_cap n before.misses same
misses_after (Some true) n before same = same_cap n before.misses same
misses_after (Some false) n before same = capped n before.misses same

module _ {K V E : Type 0} where
  pub hits_counted : (run : List (Call K V E × Reply K V E)) → (counted run).hits ≡ min (hits_in run) greatest_count
  hits_counted [] = refl
  hits_counted (made ∷ run) = hits_after (lookup_of made.0 made.1) (hits_in run) (counted run) (hits_counted run)

  pub misses_counted : (run : List (Call K V E × Reply K V E)) → (counted run).misses ≡ min (misses_in run) greatest_count
  misses_counted [] = refl
  misses_counted (made ∷ run) = misses_after (lookup_of made.0 made.1) (misses_in run) (counted run) (misses_counted run)
