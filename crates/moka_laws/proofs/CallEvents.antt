-- What calls look up, what a write does first, and what a maintenance with a limit leaves.
use Rattle.std.proofs.Common.{◌≡◌, ℕ, Bool, true, false, option_map, Option, Some, None, List, [], ◌∷◌, ◌++◌, refl, subst, max, if◌then◌else◌, is_some, drop, length, ap, sym, ◌↔◌, ◌+◌, ◌-◌, ◌<◌, nat_le, cond, map, arith, length-append}
use Rattle.std.proofs.lemmas.Bool.{cond_both, le-leb, lt-leb, leb-false}
use Rattle.moka_model.specs.declared.turns.Kind.{Kind}
use Rattle.moka_model.specs.declared.turns.Kind.TheVariants.{With, Optionally, Try, Compute}
use Rattle.moka_model.specs.declared.turns.Outcome.{Outcome}
use Rattle.moka_model.specs.Lives.{Settings, Write}
use Rattle.moka_model.specs.Events.{Event, Looked, Hidden, Written, Maintained, Passed, latest}
use Rattle.moka_model.specs.Turns.{Name, Turn, End, fits, found, is_open_for, is_open_as, has_ticket_as, Value}
use Rattle.moka_model.specs.Steps.{AcceptedStep, events_in, turns}
use Rattle.moka_model.specs.Calls.{Call, Get, ContainsKey, Insert, Invalidate, Remove, InvalidateAll, InvalidateIf, RunPendingTasks, RunPendingTasksUpTo, EntryCount, WeightedSize, TakeNotice, OrInsert, Begin, BeginCompute, Finish, Abandon, Collect, Leave, Accepted, Done, accepted, acceptable, without_move, live_at, look_event, write_events, begun, begun_compute, or_inserted, finish_events, finished, abandons, collected, spends, flush, is_replacing, Reply, Left}
use Rattle.moka_laws.specs.CallLaws.{looks, looks_of, look_of_begin, FlushesFirst, IsWritten, EvictsAll, EvictsFewer}
use Rattle.moka_laws.proofs.CallSteps.{by_write}
use Rattle.std.proofs.lemmas.Option.{same_Some}
use Rattle.moka_model.specs.Orders.{live, orders, evicted_at, is_left_at, parts_at}
use Rattle.moka_model.specs.Numbers.{flush_point, stores_nothing}
use Rattle.moka_model.proofs.Callers.{write_events-nothing, write_events-plain, write_events-flushed, done-all}
use Rattle.moka_laws.specs.TurnLaws.{FinishTells, TellsReplaced}
use Rattle.std.proofs.lemmas.List.{length-map}
use Rattle.moka_model.specs.declared.notification.RemovalCause.TheVariants.{Size}
use Rattle.moka_model.specs.Maintenance.{Part, done, is_left, evicted_in}
use Rattle.moka_model.specs.Admission.{frequency}
use Rattle.moka_model.specs.Removals.{removal_of}
use Rattle.moka_model.specs.declared.turns.Op.TheVariants as ops
use Rattle.moka_model.specs.declared.turns.Outcome.TheVariants as outcomes

module _ {K V E : Type 0} (eq : K → K → Bool) (settings : Settings K V) (steps : List (AcceptedStep K V E)) where
  abbrev Told : Call K V E → Option (Accepted K V E) → Type 0
  Told call None = Unit {0}
  Told call (Some it) = looks it.step.events ≡ looks_of call it.reply

  look-told : (replace : Option Bool) (k : K) (at : ℕ) → looks (look_event {V = V} replace k at ∷ []) ≡ look_of_begin k replace at ∷ []
  look-told None k at = refl
  look-told (Some false) k at = refl
  look-told (Some true) k at = refl

  begun-told : (k : K) (kind : Kind) (replace : Option Bool) (at : ℕ) (w : Option (Write K V)) (t : Option (Turn K V E))
      → looks (begun eq settings (events_in steps) k kind replace at w t).step.events ≡ look_of_begin k replace at ∷ []
  begun-told k kind replace at (Some w) t = look-told replace k at
  begun-told k kind replace at None (Some t) = look-told replace k at
  begun-told k kind replace at None None = look-told replace k at

  computes-told : (k : K) (keep : Bool) (at : ℕ) (t : Option (Turn K V E)) → Told (BeginCompute k keep at) (Some (begun_compute eq settings (events_in steps) k keep at t))
  computes-told k keep at (Some t) = refl
  computes-told k keep at None = refl

  write-told : (k : K) (v : V) (at : ℕ) → looks (write_events eq settings k v at (events_in steps)) ≡ []
  write-told k v at = by_write eq settings (λ events. looks events ≡ []) k v at (events_in steps) refl refl refl

  inserts-told : (k : K) (v : V) (at : ℕ) (w : Option (Write K V)) → Told (OrInsert k v at) (Some (or_inserted eq settings (events_in steps) k v at w))
  inserts-told k v at (Some w) = refl
  inserts-told k v at None = by_write eq settings (λ events. looks (events ++ Looked k at ∷ []) ≡ Looked k at ∷ []) k v at (Looked k at ∷ (events_in steps)) refl refl refl

  finish-told : (k : K) (at : ℕ) (outcome : Outcome V E) → looks (finish_events eq settings (events_in steps) k at outcome) ≡ []
  finish-told k at (outcomes.Value v) = write-told k v at
  finish-told k at outcomes.Nothing = refl
  finish-told k at (outcomes.Failed e) = refl
  finish-told k at (outcomes.Op (ops.Put v)) = write-told k v at
  finish-told k at (outcomes.Op ops.Remove) = refl
  finish-told k at (outcomes.Op ops.Nop) = refl

  collected-told : (name : Name K) (number : ℕ) (end : Option (End V E)) → Told (Collect name) (Some (collected name number end))
  collected-told name number None = refl
  collected-told name number (Some end) = refl

  each-told : (call : Call K V E) (make : Turn K V E → Accepted K V E) → ((t : Turn K V E) → Told call (Some (make t))) → (o : Option (Turn K V E)) → Told call (option_map make o)
  each-told call make each None = tt
  each-told call make each (Some t) = each t

  accepted-told : (call : Call K V E) → Told call (accepted eq settings steps call)
  accepted-told (Get k at) = refl
  accepted-told (ContainsKey k at) = refl
  accepted-told (Insert k v at) = write-told k v at
  accepted-told (Invalidate k at) = refl
  accepted-told (Remove k at) = refl
  accepted-told InvalidateAll = refl
  accepted-told (InvalidateIf test) = cond_both settings.supports_closures (Some (without_move Done (Hidden test ∷ []))) None (Told (InvalidateIf test)) (λ _. refl) (λ _. tt)
  accepted-told (RunPendingTasks at) = refl
  accepted-told (RunPendingTasksUpTo limit at) = refl
  accepted-told EntryCount = refl
  accepted-told WeightedSize = refl
  accepted-told TakeNotice = refl
  accepted-told (OrInsert k v at) = inserts-told k v at (live_at eq settings k at (events_in steps))
  accepted-told (Begin k With replace at) = begun-told k With replace at (acceptable replace (live_at eq settings k at (events_in steps))) (found (is_open_for eq With k) (turns steps))
  accepted-told (Begin k Optionally replace at) = begun-told k Optionally replace at (acceptable replace (live_at eq settings k at (events_in steps))) (found (is_open_for eq Optionally k) (turns steps))
  accepted-told (Begin k Try replace at) = begun-told k Try replace at (acceptable replace (live_at eq settings k at (events_in steps))) (found (is_open_for eq Try k) (turns steps))
  accepted-told (Begin k Compute replace at) = computes-told k false at (found (is_open_for eq Compute k) (turns steps))
  accepted-told (BeginCompute k keep at) = computes-told k keep at (found (is_open_for eq Compute k) (turns steps))
  accepted-told (Finish name outcome at) =
      cond_both (fits name.kind outcome) (option_map (finished eq settings (events_in steps) name outcome at) (found (is_open_as eq name) (turns steps))) None (Told (Finish name outcome at))
      (λ _. each-told (Finish name outcome at) (finished eq settings (events_in steps) name outcome at) (λ t. finish-told name.key at outcome) (found (is_open_as eq name) (turns steps)))
      (λ _. tt)
  accepted-told (Abandon name) = each-told (Abandon name) (λ t. abandons t.name.number) (λ t. refl) (found (is_open_as eq name) (turns steps))
  accepted-told (Collect name) = each-told (Collect name) (λ t. collected name t.name.number t.end) (λ t. collected-told name t.name.number t.end) (found (has_ticket_as eq name) (turns steps))
  accepted-told (Leave name) = each-told (Leave name) (λ t. spends t.name.number) (λ t. refl) (found (has_ticket_as eq name) (turns steps))

  pub looks-told : (call : Call K V E) (it : Accepted K V E) → accepted eq settings steps call ≡ Some it → looks it.step.events ≡ looks_of call it.reply
  looks-told call it is = subst (Told call) is (accepted-told call)

module _ {K V : Type 0} (eq : K → K → Bool) (settings : Settings K V) where
  is-written : (k : K) (v : V) (at : ℕ) (h : List (Event K V)) → IsWritten eq settings k v at h (write_events eq settings k v at h)
  is-written k v at h = record {
    nothing = write_events-nothing eq settings k v at h;
    alone = λ stores few. write_events-plain eq settings k v at h stores (lt-leb flush_point (length (orders eq settings h).waiting) few);
    flushed = λ stores many. write_events-flushed eq settings k v at h stores (le-leb flush_point (length (orders eq settings h).waiting) many);
  }

  -- where a write comes last, it comes after its flush
  before-written : (k : K) (v : V) (at : ℕ) (h before : List (Event K V)) → write_events eq settings k v at h ≡ Written k v at ∷ before → flush eq settings at h ≡ before
  before-written k v at h before is = go (stores_nothing settings.max_capacity) is
    where
      go : (nothing : Bool) → ◌≡◌ {A = List (Event K V)} (if nothing then Passed at ∷ [] else Written k v at ∷ flush eq settings at h) (Written k v at ∷ before) → flush eq settings at h ≡ before
      go true other = cc
      go false same = ap (λ (l : List (Event K V)). drop 1 l) same

module _ {K V E : Type 0} (eq : K → K → Bool) (settings : Settings K V) (steps : List (AcceptedStep K V E)) where
  -- P holds of each accepted finish, if it holds of the finish of each turn
  finish-by : (P : Accepted K V E → Type 0) (name : Name K) (outcome : Outcome V E) (at : ℕ) → ((t : Turn K V E) → P (finished eq settings (events_in steps) name outcome at t))
      → (it : Accepted K V E) → accepted eq settings steps (Finish name outcome at) ≡ Some it → P it
  finish-by P name outcome at each it is = go (fits name.kind outcome) (found (is_open_as eq name) (turns steps)) is
    where
      go : (b : Bool) (o : Option (Turn K V E)) → ◌≡◌ {A = Option (Accepted K V E)} (if b then option_map (finished eq settings (events_in steps) name outcome at) o else None) (Some it) → P it
      go false o never = cc
      go true None never = cc
      go true (Some t) same = subst P (same_Some (finished eq settings (events_in steps) name outcome at t) it same) (each t)

  inserts-first : (k : K) (v : V) (at : ℕ) (w : Option (Write K V)) (it : Accepted K V E) → Some (or_inserted eq settings (events_in steps) k v at w) ≡ Some it → w ≡ None
      → (events : List (Event K V)) × (it.step.events ≡ events ++ Looked k at ∷ []) × IsWritten eq settings k v at (Looked k at ∷ (events_in steps)) events
  inserts-first k v at (Some w) it same absent = cc
  inserts-first k v at None it same absent =
      (write_events eq settings k v at (Looked k at ∷ (events_in steps)), ap (λ (a : Accepted K V E). a.step.events) (sym (same_Some (or_inserted eq settings (events_in steps) k v at None) it same)), is-written eq settings k v at (Looked k at ∷ (events_in steps)))

  abbrev IsWrittenBy : K → V → ℕ → Option (Accepted K V E) → Type 0
  IsWrittenBy k v at None = Unit {0}
  IsWrittenBy k v at (Some it) = IsWritten eq settings k v at (events_in steps) it.step.events

  pub flushes_first : FlushesFirst eq settings steps
  flushes_first = record {
    insert = λ k v at it is. subst (λ (o : Option (Accepted K V E)). IsWrittenBy k v at o) is (is-written eq settings k v at (events_in steps));
    or_insert = λ k v at it is. inserts-first k v at (live_at eq settings k at (events_in steps)) it is;
    finish = λ name v at it is. finish-by (λ a. IsWritten eq settings name.key v at (events_in steps) a.step.events) name (outcomes.Value v) at (λ t. is-written eq settings name.key v at (events_in steps)) it is;
    put = λ name v at it is. finish-by (λ a. IsWritten eq settings name.key v at (events_in steps) a.step.events) name (outcomes.Op (ops.Put v)) at (λ t. is-written eq settings name.key v at (events_in steps)) it is;
  }

  pub finish_tells : FinishTells eq settings steps
  finish_tells name v at it is =
      finish-by (TellsReplaced eq settings steps name v at) name (outcomes.Value v) at
      (λ t. record {
        replaced = is_replacing eq settings (events_in steps) name.key at;
        number = t.name.number;
        reply = refl;
        ends = refl;
        before = λ before same. ap (λ (l : List (Event K V)). is_some (live eq settings name.key (max (latest (events_in steps)) at) (l ++ (events_in steps)))) (before-written eq settings name.key v at (events_in steps) before same);
      }) it is

module _ {X : Type 0} where
  pub fewer : (limit : ℕ) (ps : List (Part X)) → is_left (Some limit) ps ≡ true → length (evicted_in (done (Some limit) ps)) < length (evicted_in ps)
  fewer limit [] none = cc
  fewer limit (p ∷ ps) cut = go (nat_le (length p.evicted) limit) refl cut (λ more. fewer (limit - length p.evicted) ps more)
    where
      go : (b : Bool) → nat_le (length p.evicted) limit ≡ b → cond b (is_left (Some (limit - length p.evicted)) ps) true ≡ true
          → (is_left (Some (limit - length p.evicted)) ps ≡ true → length (evicted_in (done (Some (limit - length p.evicted)) ps)) < length (evicted_in ps))
          → length (evicted_in (cond b (p ∷ done (Some (limit - length p.evicted)) ps) [])) < length (p.evicted ++ evicted_in ps)
      go true e more rest =
          let less = rest more in
          let one = length-append p.evicted (evicted_in (done (Some (limit - length p.evicted)) ps)) in
          let all = length-append p.evicted (evicted_in ps) in
          omega (arith, less, one, all)
      go false e more rest =
          let over = leb-false (length p.evicted) limit e in
          let all = length-append p.evicted (evicted_in ps) in
          omega (arith, over, all)

module _ {K V : Type 0} (eq : K → K → Bool) (settings : Settings K V) (limit at : ℕ) (h : List (Event K V)) where
  abbrev now : ℕ
  now = latest (Maintained (Some limit) at ∷ h)

  cut-fewer : is_left_at eq settings (Some limit) at h ≡ true → EvictsFewer eq settings limit at h
  cut-fewer cut =
      let less = fewer limit (parts_at settings (frequency settings h) now (orders eq settings h)) cut in
      let some = length-map (evicted_at eq settings (Some limit) at h) (removal_of settings Size now) in
      let all = length-map (evicted_at eq settings None at h) (removal_of settings Size now) in
      omega (arith, less, some, all)

  whole-all : is_left_at eq settings (Some limit) at h ≡ false → EvictsAll eq settings limit at h
  whole-all none =
      ap (λ ps. map (removal_of settings Size now) (evicted_in ps)) (done-all (Some limit) (parts_at settings (frequency settings h) now (orders eq settings h)) none)

  not-both : EvictsAll eq settings limit at h → EvictsFewer eq settings limit at h → ⊥
  not-both same less = let alike = ap length same in omega (arith, less, alike)

  module _ (E : Type 0) where
    abbrev Says : Bool → Bool → Type 0
    Says left told = ◌≡◌ {A = Option (Reply K V E)} (Some (Left left)) (Some (Left told))

    -- what is said, by whether a part is left
    pub tells_left : (left : Bool) → is_left_at eq settings (Some limit) at h ≡ left → (Says left true ↔ EvictsFewer eq settings limit at h) × (Says left false ↔ EvictsAll eq settings limit at h)
    tells_left true cut = ((λ _. cut-fewer cut, λ _. refl), (λ no. cc, λ same. absurd (not-both same (cut-fewer cut))))
    tells_left false none = ((λ no. cc, λ less. absurd (not-both (whole-all none) less)), (λ _. whole-all none, λ _. refl))
