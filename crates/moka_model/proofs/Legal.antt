-- Legal lists of accepted steps: each is made by calls, and a call keeps a list legal.
use Rattle.std.proofs.Common.{◌≡◌, ℕ, Bool, true, false, if◌then◌else◌, option_map, Option, Some, None, List, [], ◌∷◌, ◌++◌, refl, sym, ap, ◌∙◌, subst, append_assoc}
use Rattle.std.proofs.lemmas.Bool.{cond_both}
use Rattle.moka_model.specs.declared.turns.Kind.{Kind}
use Rattle.moka_model.specs.declared.turns.Kind.TheVariants.{With, Optionally, Try, Compute}
use Rattle.moka_model.specs.declared.turns.Op.TheVariants as ops
use Rattle.moka_model.specs.declared.turns.Outcome.{Outcome}
use Rattle.moka_model.specs.declared.turns.Outcome.TheVariants as outcomes
use Rattle.moka_model.specs.Lives.{Settings, Write}
use Rattle.moka_model.specs.Events.{Event, Looked, TurnedDown, Written, Invalidated, Hidden, Maintained, Passed, Drawn, Taken}
use Rattle.moka_model.specs.Numbers.{stores_nothing}
use Rattle.moka_model.specs.Steps.{AcceptedStep, events_in, turns}
use Rattle.moka_model.specs.Calls.{Call, Get, ContainsKey, Insert, Invalidate, Remove, InvalidateAll, InvalidateIf, RunPendingTasks, RunPendingTasksUpTo, EntryCount, WeightedSize, TakeNotice, OrInsert, Begin, BeginCompute, Finish, Abandon, Collect, Leave, Done, Accepted, without_move, accepted, with_step, after, flush, write_events, look_event, begun, begun_by, begun_compute, or_inserted, acceptable, live_at, collected, spends, abandons, finished, finish_events, IsLegal}
use Rattle.moka_model.specs.Turns.{Turn, Name, End, found, is_open_for, is_open_as, has_ticket_as, fits}

-- an event that is no write
abbrev pub IsNoWrite : {K V : Type 0} → Event K V → Type 0
IsNoWrite (Written k v at) = ⊥
IsNoWrite e = Unit {0}

-- the events of some steps behind others
pub events_in-append : {K V E : Type 0} (later steps : List (AcceptedStep K V E)) → events_in (later ++ steps) ≡ events_in later ++ events_in steps
events_in-append [] steps = refl
events_in-append (step ∷ later) steps = ap (λ h. step.events ++ h) (events_in-append later steps) ∙ sym (append_assoc step.events (events_in later) (events_in steps))

module _ {K V E : Type 0} (eq : K → K → Bool) (settings : Settings K V) where
  -- a call keeps a list legal
  pub IsLegal-after : (call : Call K V E) (steps : List (AcceptedStep K V E)) → IsLegal eq settings steps → IsLegal eq settings (after eq settings call steps)
  IsLegal-after call steps legal = go (accepted eq settings steps call) refl
    where
      go : (o : Option (Accepted K V E)) → accepted eq settings steps call ≡ o → IsLegal eq settings (with_step o steps)
      go None is = legal
      go (Some it) is = ((call, it, is, refl), legal)

  -- what holds of no steps, and stays so with each call, holds of each legal list
  pub legal-by_calls : (P : List (AcceptedStep K V E) → Type 0) → P [] → ((call : Call K V E) (steps : List (AcceptedStep K V E)) → IsLegal eq settings steps → P steps → P (after eq settings call steps))
      → (steps : List (AcceptedStep K V E)) → IsLegal eq settings steps → P steps
  legal-by_calls P none more [] legal = none
  legal-by_calls P none more (step ∷ steps) legal =
      let made = legal.0 in
      let before : P steps = legal-by_calls P none more steps legal.1 in
      subst (λ s. P (s ∷ steps)) made.3 (subst (λ o. P (with_step o steps)) made.2 (more made.0 steps legal.1 before))

  -- what holds of no events, and stays so with each event that is no write, and with a write behind the flush that comes
  -- first, holds of the events of each legal list
  pub legal-by_events : (P : List (Event K V) → Type 0) → P [] → ((e : Event K V) → IsNoWrite e → (h : List (Event K V)) → P h → P (e ∷ h))
      → ((k : K) (v : V) (at : ℕ) (h : List (Event K V)) → stores_nothing settings.max_capacity ≡ false → P h → P (Written k v at ∷ (flush eq settings at h ++ h)))
      → (steps : List (AcceptedStep K V E)) → IsLegal eq settings steps → P (events_in steps)
  legal-by_events P none others written = legal-by_calls (λ steps. P (events_in steps)) none more
    where
      -- what an accepted call leaves, if it is accepted
      Leaves : List (AcceptedStep K V E) → Option (Accepted K V E) → Type 0
      Leaves steps it = P (events_in (with_step it steps))

      writes : (k : K) (v : V) (at : ℕ) (h : List (Event K V)) → P h → P (write_events eq settings k v at h ++ h)
      writes k v at h p =
          cond_both (stores_nothing settings.max_capacity) (Passed at ∷ []) (Written k v at ∷ flush eq settings at h) (λ events. P (events ++ h))
          (λ _. others (Passed at) tt h p)
          (λ stores. written k v at h stores p)

      looks : (replace : Option Bool) (k : K) (at : ℕ) (h : List (Event K V)) → P h → P (look_event replace k at ∷ h)
      looks None k at h p = others (Looked k at) tt h p
      looks (Some false) k at h p = others (Looked k at) tt h p
      looks (Some true) k at h p = others (TurnedDown k at) tt h p

      begins : (k : K) (kind : Kind) (replace : Option Bool) (at : ℕ) (steps : List (AcceptedStep K V E)) → P (events_in steps) → (w : Option (Write K V)) (t : Option (Turn K V E)) → P ((begun eq settings (events_in steps) k kind replace at w t).step.events ++ events_in steps)
      begins k kind replace at steps p (Some w) t = looks replace k at (events_in steps) p
      begins k kind replace at steps p None (Some t) = looks replace k at (events_in steps) p
      begins k kind replace at steps p None None = others Drawn tt (look_event replace k at ∷ events_in steps) (looks replace k at (events_in steps) p)

      computes : (k : K) (keep : Bool) (at : ℕ) (steps : List (AcceptedStep K V E)) → P (events_in steps) → (t : Option (Turn K V E)) → P ((begun_compute eq settings (events_in steps) k keep at t).step.events ++ events_in steps)
      computes k keep at steps p (Some t) = others (Passed at) tt (events_in steps) p
      computes k keep at steps p None = others Drawn tt (Looked k at ∷ events_in steps) (others (Looked k at) tt (events_in steps) p)

      begins_by : (k : K) (kind : Kind) (replace : Option Bool) (at : ℕ) (steps : List (AcceptedStep K V E)) → P (events_in steps) → P ((begun_by eq settings (events_in steps) (turns steps) k kind replace at).step.events ++ events_in steps)
      begins_by k With replace at steps p = begins k With replace at steps p (acceptable replace (live_at eq settings k at (events_in steps))) (found (is_open_for eq With k) (turns steps))
      begins_by k Optionally replace at steps p = begins k Optionally replace at steps p (acceptable replace (live_at eq settings k at (events_in steps))) (found (is_open_for eq Optionally k) (turns steps))
      begins_by k Try replace at steps p = begins k Try replace at steps p (acceptable replace (live_at eq settings k at (events_in steps))) (found (is_open_for eq Try k) (turns steps))
      begins_by k Compute replace at steps p = computes k false at steps p (found (is_open_for eq Compute k) (turns steps))

      inserts : (k : K) (v : V) (at : ℕ) (steps : List (AcceptedStep K V E)) → P (events_in steps) → (w : Option (Write K V)) → P ((or_inserted {E = E} eq settings (events_in steps) k v at w).step.events ++ events_in steps)
      inserts k v at steps p (Some w) = others (Looked k at) tt (events_in steps) p
      inserts k v at steps p None =
          let h : List (Event K V) = Looked k at ∷ events_in steps in
          subst P (sym (append_assoc (write_events eq settings k v at h) (Looked k at ∷ []) (events_in steps))) (writes k v at h (others (Looked k at) tt (events_in steps) p))

      ends : (k : K) (at : ℕ) (outcome : Outcome V E) (h : List (Event K V)) → P h → P (finish_events eq settings h k at outcome ++ h)
      ends k at (outcomes.Value v) h p = writes k v at h p
      ends k at outcomes.Nothing h p = others (Passed at) tt h p
      ends k at (outcomes.Failed e) h p = others (Passed at) tt h p
      ends k at (outcomes.Op (ops.Put v)) h p = writes k v at h p
      ends k at (outcomes.Op ops.Remove) h p = others (Invalidated k at) tt h p
      ends k at (outcomes.Op ops.Nop) h p = others (Passed at) tt h p

      -- what is made of a turn that is found, or of none
      made : (steps : List (AcceptedStep K V E)) (make : Turn K V E → Accepted K V E) → P (events_in steps) → ((t : Turn K V E) → P ((make t).step.events ++ events_in steps)) → (o : Option (Turn K V E)) → Leaves steps (option_map make o)
      made steps make p each None = p
      made steps make p each (Some t) = each t

      collects : (name : Name K) (number : ℕ) (end : Option (End V E)) (steps : List (AcceptedStep K V E)) → P (events_in steps) → P ((collected name number end).step.events ++ events_in steps)
      collects name number None steps p = p
      collects name number (Some end) steps p = p

      more : (call : Call K V E) (steps : List (AcceptedStep K V E)) → IsLegal eq settings steps → P (events_in steps) → P (events_in (after eq settings call steps))
      more (Get k at) steps legal p = others (Looked k at) tt (events_in steps) p
      more (ContainsKey k at) steps legal p = p
      more (Insert k v at) steps legal p = writes k v at (events_in steps) p
      more (Invalidate k at) steps legal p = others (Invalidated k at) tt (events_in steps) p
      more (Remove k at) steps legal p = others (Invalidated k at) tt (events_in steps) p
      more InvalidateAll steps legal p = others (Hidden (λ _ _. true)) tt (events_in steps) p
      more (InvalidateIf test) steps legal p =
          cond_both settings.supports_closures (Some (without_move Done (Hidden test ∷ []))) None (λ it. P (events_in (with_step it steps)))
          (λ _. others (Hidden test) tt (events_in steps) p)
          (λ _. p)
      more (RunPendingTasks at) steps legal p = others (Maintained None at) tt (events_in steps) p
      more (RunPendingTasksUpTo limit at) steps legal p = others (Maintained (Some limit) at) tt (events_in steps) p
      more EntryCount steps legal p = p
      more WeightedSize steps legal p = p
      more TakeNotice steps legal p = others Taken tt (events_in steps) p
      more (OrInsert k v at) steps legal p = inserts k v at steps p (live_at eq settings k at (events_in steps))
      more (Begin k kind replace at) steps legal p = begins_by k kind replace at steps p
      more (BeginCompute k keep at) steps legal p = computes k keep at steps p (found (is_open_for eq Compute k) (turns steps))
      more (Finish name outcome at) steps legal p =
          cond_both (fits name.kind outcome) (option_map (finished eq settings (events_in steps) name outcome at) (found (is_open_as eq name) (turns steps))) None (Leaves steps)
          (λ _. made steps (finished eq settings (events_in steps) name outcome at) p (λ t. ends name.key at outcome (events_in steps) p) (found (is_open_as eq name) (turns steps)))
          (λ _. p)
      more (Abandon name) steps legal p = made steps (λ t. abandons t.name.number) p (λ t. p) (found (is_open_as eq name) (turns steps))
      more (Collect name) steps legal p = made steps (λ t. collected name t.name.number t.end) p (λ t. collects name t.name.number t.end steps p) (found (has_ticket_as eq name) (turns steps))
      more (Leave name) steps legal p = made steps (λ t. spends t.name.number) p (λ t. p) (found (has_ticket_as eq name) (turns steps))
