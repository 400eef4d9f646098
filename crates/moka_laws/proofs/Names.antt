-- Which calls may be refused by their names.
use Rattle.std.proofs.Common.{◌≡◌, Bool, None, List, ◌⊎◌, ◌↔◌, inl, inr, ⊎_elim, true, false, cond, Option, Some, refl}
use Rattle.moka_model.specs.Lives.{Settings}
use Rattle.moka_model.specs.Steps.{AcceptedStep}
use Rattle.moka_model.specs.Calls.{Call, Get, ContainsKey, Insert, Invalidate, Remove, InvalidateAll, InvalidateIf, RunPendingTasks, RunPendingTasksUpTo, EntryCount, WeightedSize, TakeNotice, OrInsert, Begin, BeginCompute, Finish, Abandon, Collect, Leave, accepted}
use Rattle.moka_laws.specs.HidingLaws.{IsByName}
use Rattle.std.specs.Option.{option_map}

pub by_name : {K V E : Type 0} (eq : K → K → Bool) (settings : Settings K V) (steps : List (AcceptedStep K V E)) (call : Call K V E) → accepted eq settings steps call ≡ None → IsByName call
by_name eq settings steps (Get k at) none = cc
by_name eq settings steps (ContainsKey k at) none = cc
by_name eq settings steps (Insert k v at) none = cc
by_name eq settings steps (Invalidate k at) none = cc
by_name eq settings steps (Remove k at) none = cc
by_name eq settings steps InvalidateAll none = cc
by_name eq settings steps (InvalidateIf test) none = tt
by_name eq settings steps (RunPendingTasks at) none = cc
by_name eq settings steps (RunPendingTasksUpTo limit at) none = cc
by_name eq settings steps EntryCount none = cc
by_name eq settings steps WeightedSize none = cc
by_name eq settings steps TakeNotice none = cc
by_name eq settings steps (OrInsert k v at) none = cc
by_name eq settings steps (Begin k kind replace at) none = cc
by_name eq settings steps (BeginCompute k keep at) none = cc
by_name eq settings steps (Finish name outcome at) none = tt
by_name eq settings steps (Abandon name) none = tt
by_name eq settings steps (Collect name) none = tt
by_name eq settings steps (Leave name) none = tt

-- Which names are refused.
module _ {A B : Type 0} (f : A → B) where
  pub map-none : (o : Option A) → (option_map f o ≡ None) ↔ (o ≡ None)
  map-none None = (λ e. refl, λ e. refl)
  map-none (Some x) = (λ e. cc, λ e. cc)

  pub map-none-if : (b : Bool) (o : Option A) → (cond b (option_map f o) None ≡ None) ↔ ((b ≡ false) ⊎ (o ≡ None))
  map-none-if true o = (λ e. inr ((map-none o).0 e), λ either. ⊎_elim (λ no. cc) (λ none. (map-none o).1 none) either)
  map-none-if false o = (λ e. inl refl, λ e. refl)
