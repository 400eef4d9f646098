-- The events of the step that a call is.
use Rattle.std.proofs.Common.{◌≡◌, ◌⊎◌, inl, inr, ℕ, ◌<◌, max, Bool, true, false, option_map, Option, Some, None, List, [], ◌∷◌, ◌++◌, refl, sym, ap, ◌∙◌, subst, arith}
use Rattle.std.specs.List.{AllByRecursion}
use Rattle.std.proofs.lemmas.Bool.{cond_both}
use Rattle.moka_model.specs.Lives.{Settings, Write}
use Rattle.moka_model.specs.Events.{Event, Looked, TurnedDown, Written, Invalidated, Hidden, Maintained, Passed, Drawn, Taken, recorded, latest}
use Rattle.moka_model.specs.Numbers.{stores_nothing, is_flush_due, next_number}
use Rattle.moka_model.specs.Steps.{AcceptedStep, events_in, turns}
use Rattle.moka_model.specs.Calls.{Call, Get, ContainsKey, Insert, Invalidate, Remove, InvalidateAll, InvalidateIf, RunPendingTasks, RunPendingTasksUpTo, EntryCount, WeightedSize, TakeNotice, OrInsert, Begin, BeginCompute, Finish, Abandon, Collect, Leave, Done, Accepted, without_move, accepted, acceptable, look_event, live_at, begun, begun_by, begun_compute, or_inserted, finished, finish_events, collected, abandons, spends, flush, write_events, IsOutOfNumbers, WantsNumber}
use Rattle.moka_model.specs.declared.turns.Kind.{Kind}
use Rattle.moka_model.specs.declared.turns.Kind.TheVariants.{With, Optionally, Try, Compute}
use Rattle.moka_model.specs.declared.turns.Op.TheVariants as ops
use Rattle.moka_model.specs.declared.turns.Outcome.{Outcome}
use Rattle.moka_model.specs.declared.turns.Outcome.TheVariants as outcomes
use Rattle.moka_model.specs.Turns.{Turn, Name, End, fits, found, is_open_for, is_open_as, has_ticket_as}
use Rattle.moka_laws.specs.Laws.{moment_of, IsWrite}

max-zero : (n : ℕ) → n ≡ max n 0
max-zero n = omega arith

max-twice : (n at : ℕ) → max (max n at) at ≡ max n at
max-twice n at = omega arith

max-thrice : (n at : ℕ) → max (max (max n at) at) at ≡ max n at
max-thrice n at = omega arith

module _ {K V : Type 0} (eq : K → K → Bool) (settings : Settings K V) where
  -- what the events of a write are in each case
  pub by_write : (P : List (Event K V) → Type 0) (k : K) (v : V) (at : ℕ) (h : List (Event K V)) → P (Passed at ∷ []) → P (Written k v at ∷ []) → P (Written k v at ∷ Maintained settings.flush_limit at ∷ []) → P (write_events eq settings k v at h)
  by_write P k v at h passed written flushed =
      cond_both (stores_nothing settings.max_capacity) (Passed at ∷ []) (Written k v at ∷ flush eq settings at h) P
      (λ _. passed)
      (λ _. cond_both (is_flush_due eq settings h) (Maintained settings.flush_limit at ∷ []) [] (λ events. P (Written k v at ∷ events)) (λ _. flushed) (λ _. written))

module _ {K V E : Type 0} (eq : K → K → Bool) (settings : Settings K V) where
  module _ (steps : List (AcceptedStep K V E)) where
    abbrev h : List (Event K V)
    h = events_in steps

    -- Some events at a moment: each records it, or none, and so the latest moment is the greater of it and the one before.
    abbrev pub AreAt : ℕ → List (Event K V) → Type 0
    AreAt at events = AllByRecursion (λ e. (recorded e ≡ at) ⊎ (recorded e ≡ 0)) events

    pub record MadeAt (at : ℕ) (events : List (Event K V)) : Type 0 where
      pub each : AreAt at events
      pub moment : latest (events ++ h) ≡ max (latest h) at

    abbrev IsMadeAt : ℕ → Option (Accepted K V E) → Type 0
    IsMadeAt at None = Unit {0}
    IsMadeAt at (Some it) = MadeAt at it.step.events

    nothing : MadeAt 0 []
    nothing = record { each = tt; moment = max-zero (latest h) }

    look-recorded : (replace : Option Bool) (k : K) (at : ℕ) → recorded (look_event {V = V} replace k at) ≡ at
    look-recorded None k at = refl
    look-recorded (Some false) k at = refl
    look-recorded (Some true) k at = refl

    look-made : (replace : Option Bool) (k : K) (at : ℕ) → MadeAt at (look_event replace k at ∷ [])
    look-made replace k at = record { each = (inl (look-recorded replace k at), tt); moment = ap (max (latest h)) (look-recorded replace k at) }

    drawn-made : (at : ℕ) (events : List (Event K V)) → MadeAt at events → MadeAt at (Drawn ∷ events)
    drawn-made at events made = record { each = (inr refl, made.each); moment = sym (max-zero (latest (events ++ h))) ∙ made.moment }

    write-made : (k : K) (v : V) (at : ℕ) → MadeAt at (write_events eq settings k v at h)
    write-made k v at =
        by_write eq settings (MadeAt at) k v at h (record { each = (inl refl, tt); moment = refl }) (record { each = (inl refl, tt); moment = refl })
        (record { each = (inl refl, (inl refl, tt)); moment = max-twice (latest h) at })

    looked_write-made : (k : K) (v : V) (at : ℕ) → MadeAt at (write_events eq settings k v at (Looked k at ∷ h) ++ Looked k at ∷ [])
    looked_write-made k v at =
        by_write eq settings (λ events. MadeAt at (events ++ Looked k at ∷ [])) k v at (Looked k at ∷ h)
        (record { each = (inl refl, (inl refl, tt)); moment = max-twice (latest h) at })
        (record { each = (inl refl, (inl refl, tt)); moment = max-twice (latest h) at })
        (record { each = (inl refl, (inl refl, (inl refl, tt))); moment = max-thrice (latest h) at })

    begun-made : (k : K) (kind : Kind) (replace : Option Bool) (at : ℕ) (w : Option (Write K V)) (t : Option (Turn K V E)) → MadeAt at (begun eq settings h k kind replace at w t).step.events
    begun-made k kind replace at (Some w) t = look-made replace k at
    begun-made k kind replace at None (Some t) = look-made replace k at
    begun-made k kind replace at None None = drawn-made at (look_event replace k at ∷ []) (look-made replace k at)

    computes-made : (k : K) (keep : Bool) (at : ℕ) (t : Option (Turn K V E)) → MadeAt at (begun_compute eq settings h k keep at t).step.events
    computes-made k keep at (Some t) = record { each = (inl refl, tt); moment = refl }
    computes-made k keep at None = drawn-made at (Looked k at ∷ []) (look-made None k at)

    inserts-made : (k : K) (v : V) (at : ℕ) (w : Option (Write K V)) → MadeAt at (or_inserted {E = E} eq settings h k v at w).step.events
    inserts-made k v at (Some w) = look-made None k at
    inserts-made k v at None = looked_write-made k v at

    finish-made : (k : K) (at : ℕ) (outcome : Outcome V E) → MadeAt at (finish_events eq settings h k at outcome)
    finish-made k at (outcomes.Value v) = write-made k v at
    finish-made k at outcomes.Nothing = record { each = (inl refl, tt); moment = refl }
    finish-made k at (outcomes.Failed e) = record { each = (inl refl, tt); moment = refl }
    finish-made k at (outcomes.Op (ops.Put v)) = write-made k v at
    finish-made k at (outcomes.Op ops.Remove) = record { each = (inl refl, tt); moment = refl }
    finish-made k at (outcomes.Op ops.Nop) = record { each = (inl refl, tt); moment = refl }

    collected-made : (name : Name K) (number : ℕ) (end : Option (End V E)) → MadeAt 0 (collected name number end).step.events
    collected-made name number None = nothing
    collected-made name number (Some end) = nothing

    each-made : (at : ℕ) (make : Turn K V E → Accepted K V E) → ((t : Turn K V E) → MadeAt at (make t).step.events) → (o : Option (Turn K V E)) → IsMadeAt at (option_map make o)
    each-made at make each None = tt
    each-made at make each (Some t) = each t

    accepted-made : (call : Call K V E) → IsMadeAt (moment_of call) (accepted eq settings steps call)
    accepted-made (Get k at) = look-made None k at
    accepted-made (ContainsKey k at) = nothing
    accepted-made (Insert k v at) = write-made k v at
    accepted-made (Invalidate k at) = record { each = (inl refl, tt); moment = refl }
    accepted-made (Remove k at) = record { each = (inl refl, tt); moment = refl }
    accepted-made InvalidateAll = record { each = (inr refl, tt); moment = refl }
    accepted-made (InvalidateIf test) = cond_both settings.supports_closures (Some (without_move Done (Hidden test ∷ []))) None (IsMadeAt 0) (λ _. record { each = (inr refl, tt); moment = refl }) (λ _. tt)
    accepted-made (RunPendingTasks at) = record { each = (inl refl, tt); moment = refl }
    accepted-made (RunPendingTasksUpTo limit at) = record { each = (inl refl, tt); moment = refl }
    accepted-made EntryCount = nothing
    accepted-made WeightedSize = nothing
    accepted-made TakeNotice = record { each = (inr refl, tt); moment = refl }
    accepted-made (OrInsert k v at) = inserts-made k v at (live_at eq settings k at h)
    accepted-made (Begin k With replace at) = begun-made k With replace at (acceptable replace (live_at eq settings k at h)) (found (is_open_for eq With k) (turns steps))
    accepted-made (Begin k Optionally replace at) = begun-made k Optionally replace at (acceptable replace (live_at eq settings k at h)) (found (is_open_for eq Optionally k) (turns steps))
    accepted-made (Begin k Try replace at) = begun-made k Try replace at (acceptable replace (live_at eq settings k at h)) (found (is_open_for eq Try k) (turns steps))
    accepted-made (Begin k Compute replace at) = computes-made k false at (found (is_open_for eq Compute k) (turns steps))
    accepted-made (BeginCompute k keep at) = computes-made k keep at (found (is_open_for eq Compute k) (turns steps))
    accepted-made (Finish name outcome at) =
        cond_both (fits name.kind outcome) (option_map (finished eq settings h name outcome at) (found (is_open_as eq name) (turns steps))) None (IsMadeAt at)
        (λ _. each-made at (finished eq settings h name outcome at) (λ t. finish-made name.key at outcome) (found (is_open_as eq name) (turns steps)))
        (λ _. tt)
    accepted-made (Abandon name) = each-made 0 (λ t. abandons t.name.number) (λ t. nothing) (found (is_open_as eq name) (turns steps))
    accepted-made (Collect name) = each-made 0 (λ t. collected name t.name.number t.end) (λ t. collected-made name t.name.number t.end) (found (has_ticket_as eq name) (turns steps))
    accepted-made (Leave name) = each-made 0 (λ t. spends t.name.number) (λ t. nothing) (found (has_ticket_as eq name) (turns steps))

    made_by : (call : Call K V E) (it : Accepted K V E) → accepted eq settings steps call ≡ Some it → MadeAt (moment_of call) it.step.events
    made_by call it is = subst (IsMadeAt (moment_of call)) is (accepted-made call)

    pub latest-after : (call : Call K V E) (it : Accepted K V E) → accepted eq settings steps call ≡ Some it → latest (it.step.events ++ h) ≡ max (latest h) (moment_of call)
    latest-after call it is = (made_by call it is).moment

    pub one_moment : (call : Call K V E) (it : Accepted K V E) → accepted eq settings steps call ≡ Some it → AreAt (moment_of call) it.step.events
    one_moment call it is = (made_by call it is).each

    -- a call that wants a number
    abbrev Wants : Option (Accepted K V E) → Type 0
    Wants it = WantsNumber (next_number settings h) (turns steps) it

    wants-none : (make : Turn K V E → Accepted K V E) → ((t : Turn K V E) → ¬ (Wants (Some (make t)))) → (o : Option (Turn K V E)) → ¬ (Wants (option_map make o))
    wants-none make each None wants = wants
    wants-none make each (Some t) wants = each t wants

    collects-none : (name : Name K) (number : ℕ) (end : Option (End V E)) → ¬ (Wants (Some (collected name number end)))
    collects-none name number None wants = let some = wants.0 in omega arith
    collects-none name number (Some end) wants = let some = wants.0 in omega arith

    pub none_drawn : (call : Call K V E) → IsOutOfNumbers eq settings steps call → IsWrite call
    none_drawn (Get k at) out = let some = out.0 in absurd (omega arith)
    none_drawn (ContainsKey k at) out = let some = out.0 in absurd (omega arith)
    none_drawn (Insert k v at) out = tt
    none_drawn (Invalidate k at) out = let some = out.0 in absurd (omega arith)
    none_drawn (Remove k at) out = let some = out.0 in absurd (omega arith)
    none_drawn InvalidateAll out = let some = out.0 in absurd (omega arith)
    none_drawn (InvalidateIf test) out =
        absurd (cond_both settings.supports_closures (Some (without_move Done (Hidden test ∷ []))) None (λ it. ¬ (Wants it)) (λ _ wants. let some = wants.0 in omega arith) (λ _ wants. wants) out)
    none_drawn (RunPendingTasks at) out = let some = out.0 in absurd (omega arith)
    none_drawn (RunPendingTasksUpTo limit at) out = let some = out.0 in absurd (omega arith)
    none_drawn EntryCount out = let some = out.0 in absurd (omega arith)
    none_drawn WeightedSize out = let some = out.0 in absurd (omega arith)
    none_drawn TakeNotice out = let some = out.0 in absurd (omega arith)
    none_drawn (OrInsert k v at) out = tt
    none_drawn (Begin k kind replace at) out = tt
    none_drawn (BeginCompute k keep at) out = tt
    none_drawn (Finish name outcome at) out = tt
    none_drawn (Abandon name) out = absurd (wants-none (λ t. abandons t.name.number) (λ t wants. let some = wants.0 in omega arith) (found (is_open_as eq name) (turns steps)) out)
    none_drawn (Collect name) out = absurd (wants-none (λ t. collected name t.name.number t.end) (λ t. collects-none name t.name.number t.end) (found (has_ticket_as eq name) (turns steps)) out)
    none_drawn (Leave name) out = absurd (wants-none (λ t. spends t.name.number) (λ t wants. let some = wants.0 in omega arith) (found (has_ticket_as eq name) (turns steps)) out)
