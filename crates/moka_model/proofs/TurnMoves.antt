-- The move of each accepted call fits the turns before it.
use Rattle.std.proofs.Common.{◌≡◌, inl, ℕ, ◌<◌, Bool, true, false, Option, Some, None, List, [], ◌∷◌, ◌++◌, refl, arith, subst, filter}
use Rattle.std.proofs.lemmas.Bool.{cond_both, and_parts}
use Rattle.std.specs.Option.{option_map}
use Rattle.moka_model.specs.declared.turns.Kind.{Kind}
use Rattle.moka_model.specs.declared.turns.Kind.TheVariants.{Compute, Optionally, Try, With}
use Rattle.moka_model.specs.Lives.{Settings, Write}
use Rattle.moka_model.specs.Events.{Event}
use Rattle.moka_model.specs.Numbers.{next_number}
use Rattle.moka_model.specs.Turns.{End, Ended, IsIn, Move, Name, Opened, Spent, Turn, Waited, first_of, fits, found, has_ticket, has_ticket_as, is_for, is_open, is_open_as, is_open_for, same_name}
use Rattle.moka_model.specs.Steps.{AcceptedStep, events_in, turns}
use Rattle.moka_model.specs.Calls.{Abandon, Accepted, Begin, BeginCompute, Call, Collect, ContainsKey, EntryCount, Finish, Get, Insert, Invalidate, InvalidateAll, InvalidateIf, Leave, OrInsert, Remove, RunPendingTasks, RunPendingTasksUpTo, TakeNotice, WeightedSize, accepted, begun, begun_by, begun_compute, collected, live_at, or_inserted}
use Rattle.moka_model.proofs.TurnLists.{OnSome, in_filter}

-- the first of some is among them
first-in : {K V E : Type 0} (ts : List (Turn K V E)) (t : Turn K V E) → first_of ts ≡ Some t → IsIn t ts
first-in [] t e = cc
first-in (u ∷ us) t e = inl cc

pub first-none : {K V E : Type 0} (ts : List (Turn K V E)) → first_of ts ≡ None → ts ≡ []
first-none [] e = refl
first-none (u ∷ us) e = cc

-- what is found is a turn that passes the test
pub found-is : {K V E : Type 0} (test : Turn K V E → Bool) (ts : List (Turn K V E)) (t : Turn K V E) → found test ts ≡ Some t → IsIn t ts × (test t ≡ true)
found-is test ts t e = in_filter test t ts (first-in (filter test ts) t e)

module _ {K V E : Type 0} (eq : K → K → Bool) (settings : Settings K V) where
  -- a move of a step with these events fits the turns before it
  abbrev pub Fits : List (AcceptedStep K V E) → List (Event K V) → Option (Move K V E) → Type 0
  Fits ds events None = Unit {0}
  Fits ds events (Some (Opened name look kept)) = (name.number ≡ next_number settings (events_in ds)) × (name.number < next_number settings (events ++ events_in ds)) × (filter (is_open_for eq name.kind name.key) (turns ds) ≡ [])
  Fits ds events (Some (Waited number)) = (t : Turn K V E) × IsIn t (turns ds) × (t.name.number ≡ number) × (is_open t ≡ true)
  Fits ds events (Some (Ended number end)) = (t : Turn K V E) × IsIn t (turns ds) × (t.name.number ≡ number) × (is_open t ≡ true)
  Fits ds events (Some (Spent number)) = (t : Turn K V E) × IsIn t (turns ds) × (t.name.number ≡ number) × (has_ticket t ≡ true)

  module _ (ds : List (AcceptedStep K V E)) where
    abbrev ItFits : Accepted K V E → Type 0
    ItFits it = Fits ds it.step.events it.step.move

    open_found : (kind : Kind) (k : K) (t : Turn K V E) → found (is_open_for eq kind k) (turns ds) ≡ Some t → (u : Turn K V E) × IsIn u (turns ds) × (u.name.number ≡ t.name.number) × (is_open u ≡ true)
    open_found kind k t e = let it = found-is (is_open_for eq kind k) (turns ds) t e in (t, it.0, refl, (and_parts (is_open t) (is_for eq kind k t) it.1).0)

    begun-fits : (k : K) (kind : Kind) (replace : Option Bool) (at : ℕ) (w : Option (Write K V)) (t : Option (Turn K V E)) → found (is_open_for eq kind k) (turns ds) ≡ t → ItFits (begun eq settings (events_in ds) k kind replace at w t)
    begun-fits k kind replace at (Some w) t e = tt
    begun-fits k kind replace at None (Some t) e = open_found kind k t e
    begun-fits k kind replace at None None e = (refl, omega arith, first-none _ e)

    begun_compute-fits : (k : K) (keep : Bool) (at : ℕ) (t : Option (Turn K V E)) → found (is_open_for eq Compute k) (turns ds) ≡ t → ItFits (begun_compute eq settings (events_in ds) k keep at t)
    begun_compute-fits k keep at (Some t) e = open_found Compute k t e
    begun_compute-fits k keep at None e = (refl, omega arith, first-none _ e)

    begun_by-fits : (k : K) (kind : Kind) (replace : Option Bool) (at : ℕ) → ItFits (begun_by eq settings (events_in ds) (turns ds) k kind replace at)
    begun_by-fits k With replace at = begun-fits k With replace at _ _ refl
    begun_by-fits k Optionally replace at = begun-fits k Optionally replace at _ _ refl
    begun_by-fits k Try replace at = begun-fits k Try replace at _ _ refl
    begun_by-fits k Compute replace at = begun_compute-fits k false at _ refl

    or_inserted-fits : (k : K) (v : V) (at : ℕ) (w : Option (Write K V)) → ItFits (or_inserted eq settings (events_in ds) k v at w)
    or_inserted-fits k v at None = tt
    or_inserted-fits k v at (Some w) = tt

    -- what is made of a turn that is found
    on-found : (test : Turn K V E → Bool) (make : Turn K V E → Accepted K V E) → ((t : Turn K V E) → IsIn t (turns ds) → test t ≡ true → ItFits (make t)) → OnSome ItFits (option_map make (found test (turns ds)))
    on-found test make each = go (found test (turns ds)) refl
      where
        go : (o : Option (Turn K V E)) → found test (turns ds) ≡ o → OnSome ItFits (option_map make o)
        go None e = tt
        go (Some t) e = let it = found-is test (turns ds) t e in each t it.0 it.1

    collected-fits : (name : Name K) (t : Turn K V E) (end : Option (End V E)) → IsIn t (turns ds) → has_ticket t ≡ true → ItFits (collected name t.name.number end)
    collected-fits name t None is has = tt
    collected-fits name t (Some end) is has = (t, is, refl, has)

    -- the move of an accepted call fits
    pub accepted-fits : (call : Call K V E) → OnSome ItFits (accepted eq settings ds call)
    accepted-fits (Get k at) = tt
    accepted-fits (ContainsKey k at) = tt
    accepted-fits (Insert k v at) = tt
    accepted-fits (OrInsert k v at) = or_inserted-fits k v at (live_at eq settings k at (events_in ds))
    accepted-fits (Invalidate k at) = tt
    accepted-fits (Remove k at) = tt
    accepted-fits InvalidateAll = tt
    accepted-fits (InvalidateIf test) = cond_both settings.supports_closures _ _ (OnSome ItFits) (λ _. tt) (λ _. tt)
    accepted-fits (RunPendingTasks at) = tt
    accepted-fits (RunPendingTasksUpTo limit at) = tt
    accepted-fits EntryCount = tt
    accepted-fits WeightedSize = tt
    accepted-fits TakeNotice = tt
    accepted-fits (Begin k kind replace at) = begun_by-fits k kind replace at
    accepted-fits (BeginCompute k keep at) = begun_compute-fits k keep at _ refl
    accepted-fits (Finish name outcome at) = cond_both (fits name.kind outcome) _ _ (OnSome ItFits) (λ _. on-found (is_open_as eq name) _ (λ t is passes. (t, is, refl, (and_parts (is_open t) (same_name eq t.name name) passes).0))) (λ _. tt)
    accepted-fits (Abandon name) = on-found (is_open_as eq name) _ (λ t is passes. (t, is, refl, (and_parts (is_open t) (same_name eq t.name name) passes).0))
    accepted-fits (Collect name) = on-found (has_ticket_as eq name) _ (λ t is passes. collected-fits name t t.end is (and_parts (has_ticket t) (same_name eq t.name name) passes).0)
    accepted-fits (Leave name) = on-found (has_ticket_as eq name) _ (λ t is passes. (t, is, refl, (and_parts (has_ticket t) (same_name eq t.name name) passes).0))

    -- so does that of each step of a legal list
    pub step-fits : (d : AcceptedStep K V E) → ((call : Call K V E) × (it : Accepted K V E) × (accepted eq settings ds call ≡ Some it) × (it.step ≡ d)) → Fits ds d.events d.move
    step-fits d (call, it, is, same) = subst (λ (u : AcceptedStep K V E). Fits ds u.events u.move) same (subst (OnSome ItFits) is (accepted-fits call))
