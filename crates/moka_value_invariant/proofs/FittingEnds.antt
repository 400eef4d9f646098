-- Each turn ends as its kind may.
use Rattle.std.proofs.Common.{◌≡◌, ◌⊎◌, ⊎_elim, inl, inr, ℕ, Bool, true, false, option_map, Option, Some, None, List, [], ◌∷◌, ◌++◌, ◌==◌, ◌&&◌, refl, sym, subst}
use Rattle.std.specs.Option.{IfSome}
use Rattle.std.specs.List.{AllByRecursion}
use Rattle.std.proofs.lemmas.Bool.{cond_both, and_parts}
use Rattle.moka_model.specs.declared.turns.Kind.{Kind}
use Rattle.moka_model.specs.declared.turns.Kind.TheVariants.{With, Optionally, Try, Compute}
use Rattle.moka_model.specs.declared.turns.Outcome.{Outcome}
use Rattle.moka_model.specs.declared.turns.Outcome.TheVariants as outcomes
use Rattle.moka_model.specs.Lives.{Settings, Write}
use Rattle.moka_model.specs.Events.{Event, Hidden}
use Rattle.moka_model.specs.Steps.{AcceptedStep, events_in, turns}
use Rattle.moka_model.specs.Calls.{Call, Get, ContainsKey, Insert, Invalidate, Remove, InvalidateAll, InvalidateIf, RunPendingTasks, RunPendingTasksUpTo, EntryCount, WeightedSize, TakeNotice, OrInsert, Begin, BeginCompute, Finish, Abandon, Collect, Leave}
use Rattle.moka_model.specs.Calls.{Done, Accepted, IsLegal, without_move, acceptable, begun, begun_compute, or_inserted, end_by, is_replacing, finished, collected, abandons, spends, live_at, accepted}
use Rattle.moka_model.specs.Turns.{Turn, Name, End, Move, Opened, Waited, Ended, Spent, IsIn, fits, found, same_kind, same_name, is_open, has_ticket, is_open_for, is_open_as, has_ticket_as, opening, waited_for, ended_with, spent, moved_by}
use Rattle.moka_model.specs.Turns as turning
use Rattle.moka_model.proofs.Callers.{found-is, in_append, in_numbered, Was, changed, left, numbered-alone, legal-fit, turns-apart}
use Rattle.moka_value_invariant.specs.Fits.{EndFits, TurnFits}
use Rattle.moka_value_invariant.proofs.KeptTurns.{each-of, all-of}

same_kind-is : (a b : Kind) → same_kind a b ≡ true → a ≡ b
same_kind-is With With same = refl
same_kind-is Optionally Optionally same = refl
same_kind-is Try Try same = refl
same_kind-is Compute Compute same = refl
same_kind-is With Optionally same = cc
same_kind-is With Try same = cc
same_kind-is With Compute same = cc
same_kind-is Optionally With same = cc
same_kind-is Optionally Try same = cc
same_kind-is Optionally Compute same = cc
same_kind-is Try With same = cc
same_kind-is Try Optionally same = cc
same_kind-is Try Compute same = cc
same_kind-is Compute With same = cc
same_kind-is Compute Optionally same = cc
same_kind-is Compute Try same = cc

-- the kind of a turn that has a name is the name's
same_name-kind : {K : Type 0} (eq : K → K → Bool) (a b : Name K) → same_name eq a b ≡ true → a.kind ≡ b.kind
same_name-kind eq a b same = same_kind-is a.kind b.kind (and_parts (same_kind a.kind b.kind) (eq a.key b.key) (and_parts (a.number == b.number) (same_kind a.kind b.kind && eq a.key b.key) same).1).0

-- an outcome that fits a kind is an end that does
end-fits : {V E : Type 0} (kind : Kind) (outcome : Outcome V E) (replaced : Bool) → fits kind outcome ≡ true → EndFits kind (end_by outcome replaced)
end-fits With (outcomes.Value v) replaced is = tt
end-fits Optionally (outcomes.Value v) replaced is = tt
end-fits Optionally outcomes.Nothing replaced is = tt
end-fits Try (outcomes.Value v) replaced is = tt
end-fits Try (outcomes.Failed e) replaced is = tt
end-fits Compute (outcomes.Op op) replaced is = tt
end-fits With outcomes.Nothing replaced is = cc
end-fits With (outcomes.Failed e) replaced is = cc
end-fits With (outcomes.Op op) replaced is = cc
end-fits Optionally (outcomes.Failed e) replaced is = cc
end-fits Optionally (outcomes.Op op) replaced is = cc
end-fits Try outcomes.Nothing replaced is = cc
end-fits Try (outcomes.Op op) replaced is = cc
end-fits Compute (outcomes.Value v) replaced is = cc
end-fits Compute outcomes.Nothing replaced is = cc
end-fits Compute (outcomes.Failed e) replaced is = cc

abandoned-fits : (V E : Type 0) (kind : Kind) → EndFits {V = V} {E = E} kind turning.Abandoned
abandoned-fits V E With = tt
abandoned-fits V E Optionally = tt
abandoned-fits V E Try = tt
abandoned-fits V E Compute = tt

module _ {K V E : Type 0} where
  -- a move ends a turn as its kind may, where it ends one
  abbrev MoveFits : List (Turn K V E) → Option (Move K V E) → Type 0
  MoveFits ts (Some (Ended number end)) = (t : Turn K V E) → IsIn t ts → t.name.number ≡ number → EndFits t.name.kind end
  MoveFits ts move = Unit {0}

  unended : (number : ℕ) (change : Turn K V E → Turn K V E) → ((u : Turn K V E) → TurnFits u → TurnFits (change u)) → (u t : Turn K V E) → Was number change u t → TurnFits u → TurnFits t
  unended number change fit u t (changed here same) fits_so = subst TurnFits same (fit u fits_so)
  unended number change fit u t (left other same) fits_so = subst TurnFits same fits_so

  moved-fit : (ts : List (Turn K V E)) (m : Option (Move K V E)) → MoveFits ts m → AllByRecursion TurnFits ts → AllByRecursion TurnFits (moved_by m ts)
  moved-fit ts m move all = all-of TurnFits (moved_by m ts) (each m move)
    where
      before : (t : Turn K V E) → IsIn t ts → TurnFits t
      before = each-of TurnFits ts all

      each : (m : Option (Move K V E)) → MoveFits ts m → (t : Turn K V E) → IsIn t (moved_by m ts) → TurnFits t
      each None move t is = before t is
      each (Some (Opened name shown kept)) move t is =
          ⊎_elim (λ here. before t here) (λ last. ⊎_elim (λ same. subst TurnFits same tt) (λ none. absurd none) last) (in_append t ts (opening name shown kept ∷ []) is)
      each (Some (Waited number)) move t is = let it = in_numbered number waited_for t ts is in unended number waited_for (λ u fit. fit) it.0 t it.2 (before it.0 it.1)
      each (Some (Ended number end)) move t is =
          let it = in_numbered number (ended_with end) t ts is in
          ended it.0 it.1 it.2
        where
          ended : (u : Turn K V E) → IsIn u ts → Was number (ended_with end) u t → TurnFits t
          ended u is (changed here same) = subst TurnFits same (move u is here)
          ended u is (left other same) = subst TurnFits same (before u is)
      each (Some (Spent number)) move t is = let it = in_numbered number spent t ts is in unended number spent (λ u fit. fit) it.0 t it.2 (before it.0 it.1)

module _ {K V E : Type 0} (eq : K → K → Bool) (settings : Settings K V) where
  module _ (steps : List (AcceptedStep K V E)) (legal : IsLegal eq settings steps) where
    -- the end of a turn that is found fits where it fits that turn
    ends : (t : Turn K V E) → IsIn t (turns steps) → (end : End V E) → EndFits t.name.kind end → MoveFits (turns steps) (Some (Ended t.name.number end))
    ends t is end fit u is_u same =
        subst (λ (x : Turn K V E). EndFits x.name.kind end) (numbered-alone (turns steps) (turns-apart eq settings steps (legal-fit eq settings steps legal)) t u is is_u (sym same)) fit

    abbrev ItFits : Accepted K V E → Type 0
    ItFits it = MoveFits (turns steps) it.step.move

    begins : (k : K) (kind : Kind) (replace : Option Bool) (at : ℕ) (o : Option (Write K V)) (t : Option (Turn K V E)) → ItFits (begun eq settings (events_in steps) k kind replace at o t)
    begins k kind replace at (Some w) t = tt
    begins k kind replace at None (Some t) = tt
    begins k kind replace at None None = tt

    computes : (k : K) (aside : Bool) (at : ℕ) (t : Option (Turn K V E)) → ItFits (begun_compute eq settings (events_in steps) k aside at t)
    computes k aside at (Some t) = tt
    computes k aside at None = tt

    or_inserts : (k : K) (v : V) (at : ℕ) (o : Option (Write K V)) → ItFits (or_inserted eq settings (events_in steps) k v at o)
    or_inserts k v at (Some w) = tt
    or_inserts k v at None = tt

    collects : (name : Name K) (number : ℕ) (o : Option (End V E)) → ItFits (collected name number o)
    collects name number None = tt
    collects name number (Some end) = tt

    on-found : (test : Turn K V E → Bool) (make : Turn K V E → Accepted K V E) → ((t : Turn K V E) → IsIn t (turns steps) → test t ≡ true → ItFits (make t)) → IfSome (option_map make (found test (turns steps))) ItFits
    on-found test make each = go (found test (turns steps)) refl
      where
        go : (o : Option (Turn K V E)) → found test (turns steps) ≡ o → IfSome (option_map make o) ItFits
        go None is = tt
        go (Some t) is = let it = found-is test (turns steps) t is in each t it.0 it.1

    accepted-fits : (call : Call K V E) → IfSome (accepted eq settings steps call) ItFits
    accepted-fits (Get k at) = tt
    accepted-fits (ContainsKey k at) = tt
    accepted-fits (Insert k v at) = tt
    accepted-fits (Invalidate k at) = tt
    accepted-fits (Remove k at) = tt
    accepted-fits InvalidateAll = tt
    accepted-fits (InvalidateIf test) = cond_both settings.supports_closures (Some (without_move Done (Hidden test ∷ []))) None (λ it. IfSome it ItFits) (λ _. tt) (λ _. tt)
    accepted-fits (RunPendingTasks at) = tt
    accepted-fits (RunPendingTasksUpTo limit at) = tt
    accepted-fits EntryCount = tt
    accepted-fits WeightedSize = tt
    accepted-fits TakeNotice = tt
    accepted-fits (OrInsert k v at) = or_inserts k v at (live_at eq settings k at (events_in steps))
    accepted-fits (Begin k With replace at) = begins k With replace at (acceptable replace (live_at eq settings k at (events_in steps))) (found (is_open_for eq With k) (turns steps))
    accepted-fits (Begin k Optionally replace at) = begins k Optionally replace at (acceptable replace (live_at eq settings k at (events_in steps))) (found (is_open_for eq Optionally k) (turns steps))
    accepted-fits (Begin k Try replace at) = begins k Try replace at (acceptable replace (live_at eq settings k at (events_in steps))) (found (is_open_for eq Try k) (turns steps))
    accepted-fits (Begin k Compute replace at) = computes k false at (found (is_open_for eq Compute k) (turns steps))
    accepted-fits (BeginCompute k aside at) = computes k aside at (found (is_open_for eq Compute k) (turns steps))
    accepted-fits (Finish name outcome at) =
        cond_both (fits name.kind outcome) (option_map (finished eq settings (events_in steps) name outcome at) (found (is_open_as eq name) (turns steps))) None (λ it. IfSome it ItFits)
        (λ so. on-found (is_open_as eq name) (finished eq settings (events_in steps) name outcome at)
        (λ t is passes. ends t is (end_by outcome (is_replacing eq settings (events_in steps) name.key at))
        (subst (λ kind. EndFits kind (end_by outcome (is_replacing eq settings (events_in steps) name.key at))) (sym (same_name-kind eq t.name name (and_parts (is_open t) (same_name eq t.name name) passes).1))
        (end-fits name.kind outcome (is_replacing eq settings (events_in steps) name.key at) so))))
        (λ _. tt)
    accepted-fits (Abandon name) = on-found (is_open_as eq name) (λ t. abandons t.name.number) (λ t is passes. ends t is turning.Abandoned (abandoned-fits V E t.name.kind))
    accepted-fits (Collect name) = on-found (has_ticket_as eq name) (λ t. collected name t.name.number t.end) (λ t is passes. collects name t.name.number t.end)
    accepted-fits (Leave name) = on-found (has_ticket_as eq name) (λ t. spends t.name.number) (λ t is passes. tt)

  -- each turn of a legal list has ended as its kind may
  pub turns-fit : (steps : List (AcceptedStep K V E)) → IsLegal eq settings steps → AllByRecursion TurnFits (turns steps)
  turns-fit [] legal = tt
  turns-fit (step ∷ steps) legal =
      moved-fit (turns steps) step.move (move (accepted eq settings steps legal.0.0) (accepted-fits steps legal.1 legal.0.0) legal.0.2) (turns-fit steps legal.1)
    where
      move : (o : Option (Accepted K V E)) → IfSome o (ItFits steps legal.1) → o ≡ Some legal.0.1 → MoveFits (turns steps) step.move
      move None fit is = cc
      move (Some it) fit is = subst (λ (s : AcceptedStep K V E). MoveFits (turns steps) s.move) legal.0.3 (subst (λ o. IfSome o (ItFits steps legal.1)) is fit)

  -- the turn of a ticket has ended as the ticket's kind may, if it has ended
  pub ticket-fits : (steps : List (AcceptedStep K V E)) → IsLegal eq settings steps → (name : Name K) (t : Turn K V E) → found (has_ticket_as eq name) (turns steps) ≡ Some t → IfSome t.end (EndFits name.kind)
  ticket-fits steps legal name t is =
      let it = found-is (has_ticket_as eq name) (turns steps) t is in
      subst (λ kind. IfSome t.end (EndFits kind)) (same_name-kind eq t.name name (and_parts (has_ticket t) (same_name eq t.name name) it.1).1)
      (each-of TurnFits (turns steps) (turns-fit steps legal) t it.0)
