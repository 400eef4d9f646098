-- Which calls may run out of memory.
use Rattle.std.proofs.Common.{◌≡◌, ◌↔◌, ℕ, Bool, Option, Some, None, List, option_map, refl, subst}
use Rattle.std.specs.Prelude.{IsSome, IsSomeAnd}
use Rattle.moka_model.specs.Lives.{Settings, Write}
use Rattle.moka_model.specs.Turns.{Name, Turn, End}
use Rattle.moka_model.specs.Turns as turning
use Rattle.moka_model.specs.Steps.{AcceptedStep}
use Rattle.moka_model.specs.Calls.{Call, ContainsKey, Invalidate, InvalidateAll, InvalidateIf, RunPendingTasks, RunPendingTasksUpTo, EntryCount, WeightedSize, TakeNotice, Abandon, Leave, Entry, Reply, Found, Entered, Accepted, collected, reply_of, IfReplied, ReplyMayFail, MayTakeMemory}
use Rattle.moka_reply_laws.specs.MemoryLaws.{IsFree, HasValueOrError}

abbrev Fails : {K V : Type 0} → (V → Type 0) → Option (Write K V) → Type 0
Fails is_infallible w = IsSomeAnd w (λ w. ¬ (is_infallible w.value))

module _ {K V E : Type 0} (is_infallible : V → Type 0) where
  pub missed : (w : Option (Write K V)) → ◌≡◌ {A = Option (Reply K V E)} (Some (Found (option_map (λ w. w.value) w))) (Some (Found None)) → ¬ (Fails is_infallible w)
  missed None is may = may
  missed (Some w) is may = absurd (cc)

  pub found-may : (w : Option (Write K V)) (v : V) → ◌≡◌ {A = Option (Reply K V E)} (Some (Found (option_map (λ w. w.value) w))) (Some (Found (Some v))) → Fails is_infallible w ↔ (¬ (is_infallible v))
  found-may None v is = absurd (cc)
  found-may (Some w) v is = let same : w.value ≡ v = cc in subst (λ u. (¬ (is_infallible w.value)) ↔ (¬ (is_infallible u))) same (λ may. may, λ may. may)

  module _ (is_clone : V → V → Type 0) where
    has-value : (name : Name K) (number : ℕ) (end : Option (End V E)) → ReplyMayFail is_clone is_infallible (collected name number end).reply → HasValueOrError (collected name number end).reply
    has-value name number (Some (turning.Value v replaced)) may = tt
    has-value name number (Some (turning.Failed e)) may = tt
    has-value name number None may = may
    has-value name number (Some turning.Nothing) may = may
    has-value name number (Some turning.Computed) may = may
    has-value name number (Some turning.Abandoned) may = may

    pub replied : (name : Name K) (t : Option (Turn K V E)) → IfReplied (ReplyMayFail is_clone is_infallible) (option_map (λ t. collected name t.name.number t.end) t)
        → (said : Reply K V E) × (reply_of (option_map (λ t. collected name t.name.number t.end) t) ≡ Some said) × HasValueOrError said
    replied name None may = absurd may
    replied name (Some t) may = ((collected name t.name.number t.end).reply, refl, has-value name t.name.number t.end may)

    pub safe : (it : Option (Accepted K V E)) (e : Entry K V) → ((v : V) → is_infallible v) → reply_of it ≡ Some (Entered e) → ¬ (IfReplied (ReplyMayFail is_clone is_infallible) it)
    safe None e all is may = may
    safe (Some it) e all is may = let same : it.reply ≡ Entered e = cc in subst (ReplyMayFail is_clone is_infallible) same may (λ w clone. all w)

  pub rejected : (it : Option (Accepted K V E)) → reply_of it ≡ None → ¬ (IsSome it)
  rejected None is some = absurd (cc)
  rejected (Some it) is some = absurd (cc)

module _ {K V E : Type 0} (eq : K → K → Bool) (is_clone : V → V → Type 0) (is_infallible : V → Type 0) (settings : Settings K V) (steps : List (AcceptedStep K V E)) where
  -- what neither stores nor clones asks for no memory
  pub free : (call : Call K V E) → IsFree call → ¬ (MayTakeMemory eq is_clone is_infallible settings steps call)
  free (ContainsKey k at) is may = may
  free (Invalidate k at) is may = may
  free InvalidateAll is may = may
  free (InvalidateIf test) is may = may
  free (RunPendingTasks at) is may = may
  free (RunPendingTasksUpTo limit at) is may = may
  free EntryCount is may = may
  free WeightedSize is may = may
  free TakeNotice is may = may
  free (Abandon name) is may = may
  free (Leave name) is may = may
  free call is may = absurd is
