-- What the reply of an accepted call tells of its move: `Run` opens the turn of that name, and `Wait` waits for it.
use Rattle.std.proofs.Common.{◌≡◌, ℕ, ◌<◌, Bool, true, false, Option, Some, None, List, ◌∷◌, ◌++◌, refl, sym, ap, subst}
use Rattle.std.specs.Option.{option_map}
use Rattle.std.proofs.lemmas.Bool.{cond_both}
use Rattle.moka_model.specs.declared.turns.Kind.{Kind}
use Rattle.moka_model.specs.declared.turns.Kind.TheVariants.{Compute, Optionally, Try, With}
use Rattle.moka_model.specs.declared.turns.Op.TheVariants as ops
use Rattle.moka_model.specs.declared.turns.Outcome.{Outcome}
use Rattle.moka_model.specs.declared.turns.Outcome.TheVariants as outcomes
use Rattle.moka_model.specs.Lives.{Settings, Write}
use Rattle.moka_model.specs.Events.{Event}
use Rattle.moka_model.specs.Numbers.{next_number}
use Rattle.moka_model.specs.Turns.{Move, Opened, Waited, End, Name, Turn, found, fits, has_ticket_as, is_open_as, is_open_for}
use Rattle.moka_model.specs.Turns as turning
use Rattle.moka_model.specs.Steps.{AcceptedStep, events_in, turns}
use Rattle.moka_model.specs.Calls.{Call, Get, ContainsKey, Insert, Invalidate, Remove, InvalidateAll, InvalidateIf, RunPendingTasks, RunPendingTasksUpTo, EntryCount, WeightedSize, TakeNotice, OrInsert, Begin, BeginCompute, Finish, Abandon, Collect, Leave}
use Rattle.moka_model.specs.Calls.{Reply, Run, Wait, Entry, Accepted, IsCopiedReply, IsEntryOf, IsLegal, accepted, accepted_beside, begun, begun_compute, or_inserted, collected, reply_by, reply_of_finish, put_by, removed_by, kept_by, finished, live_at}
use Rattle.moka_model.specs.Calls as calls
use Rattle.moka_model.specs.StandsFor.{IsReplyOf}
use Rattle.moka_model.proofs.Callers.{OnSome, legal-fit, Fits}

module _ {K V E : Type 0} where
  -- what a reply tells of the move
  abbrev pub Tells : Reply K V E → Option (Move K V E) → Type 0
  Tells (Run name shown) m = (look : Bool) × (kept : Option V) × (m ≡ Some (Opened name look kept))
  Tells (Wait name) m = m ≡ Some (Waited name.number)
  Tells reply m = Unit {0}

  abbrev pub ItTells : Accepted K V E → Type 0
  ItTells it = Tells it.reply it.step.move

module _ {K V E : Type 0} (eq : K → K → Bool) (settings : Settings K V) (h : List (Event K V)) (ts : List (Turn K V E)) where
  begun-tells : (k : K) (kind : Kind) (replace : Option Bool) (at : ℕ) (w : Option (Write K V)) (t : Option (Turn K V E)) → ItTells (begun eq settings h k kind replace at w t)
  begun-tells k kind replace at (Some w) t = tt
  begun-tells k kind replace at None (Some t) = refl
  begun-tells k kind replace at None None = (false, None, refl)

  begun_compute-tells : (k : K) (keep : Bool) (at : ℕ) (t : Option (Turn K V E)) → ItTells (begun_compute eq settings h k keep at t)
  begun_compute-tells k keep at (Some t) = refl
  begun_compute-tells k keep at None = (_, _, refl)

  or_inserted-tells : (k : K) (v : V) (at : ℕ) (w : Option (Write K V)) → ItTells {E = E} (or_inserted eq settings h k v at w)
  or_inserted-tells k v at None = tt
  or_inserted-tells k v at (Some w) = tt

  collected-tells : (name : Name K) (number : ℕ) (o : Option (End V E)) → ItTells (collected name number o)
  collected-tells name number None = tt
  collected-tells name number (Some (turning.Value v replaced)) = tt
  collected-tells name number (Some turning.Nothing) = tt
  collected-tells name number (Some (turning.Failed e)) = tt
  collected-tells name number (Some turning.Computed) = tt
  collected-tells name number (Some turning.Abandoned) = tt

  put-tells : (name : Name K) (v : V) (shown : Bool) (m : Option (Move K V E)) → Tells (put_by name v shown) m
  put-tells name v true m = tt
  put-tells name v false m = tt

  removed-tells : (name : Name K) (w : Option (Write K V)) (m : Option (Move K V E)) → Tells (removed_by name w) m
  removed-tells name None m = tt
  removed-tells name (Some w) m = tt

  kept-tells : (name : Name K) (v : Option V) (m : Option (Move K V E)) → Tells (kept_by name v) m
  kept-tells name None m = tt
  kept-tells name (Some v) m = tt

  finish-tells : (t : Turn K V E) (at : ℕ) (outcome : Outcome V E) (name : Name K) (m : Option (Move K V E)) → Tells (reply_of_finish eq settings h t at outcome name) m
  finish-tells t at (outcomes.Value v) name m = tt
  finish-tells t at outcomes.Nothing name m = tt
  finish-tells t at (outcomes.Failed e) name m = tt
  finish-tells t at (outcomes.Op (ops.Put v)) name m = put-tells name v t.shown m
  finish-tells t at (outcomes.Op ops.Remove) name m = removed-tells name _ m
  finish-tells t at (outcomes.Op ops.Nop) name m = kept-tells name t.kept m

  made : (make : Turn K V E → Accepted K V E) → ((t : Turn K V E) → ItTells (make t)) → (o : Option (Turn K V E)) → OnSome ItTells (option_map make o)
  made make each None = tt
  made make each (Some t) = each t

  -- so of each accepted call
  tells : (call : Call K V E) → OnSome ItTells (accepted_beside eq settings h ts call)
  tells (Get k at) = tt
  tells (ContainsKey k at) = tt
  tells (Insert k v at) = tt
  tells (OrInsert k v at) = or_inserted-tells k v at (live_at eq settings k at h)
  tells (Invalidate k at) = tt
  tells (Remove k at) = tt
  tells InvalidateAll = tt
  tells (InvalidateIf test) = cond_both settings.supports_closures _ _ (OnSome ItTells) (λ _. tt) (λ _. tt)
  tells (RunPendingTasks at) = tt
  tells (RunPendingTasksUpTo limit at) = tt
  tells EntryCount = tt
  tells WeightedSize = tt
  tells TakeNotice = tt
  tells (Begin k With replace at) = begun-tells k With replace at _ _
  tells (Begin k Optionally replace at) = begun-tells k Optionally replace at _ _
  tells (Begin k Try replace at) = begun-tells k Try replace at _ _
  tells (Begin k Compute replace at) = begun_compute-tells k false at _
  tells (BeginCompute k keep at) = begun_compute-tells k keep at _
  tells (Finish name outcome at) = cond_both (fits name.kind outcome) _ _ (OnSome ItTells) (λ _. made (finished eq settings h name outcome at) (λ t. finish-tells t at outcome name _) (found (is_open_as eq name) ts)) (λ _. tt)
  tells (Abandon name) = made (λ t. calls.abandons t.name.number) (λ t. tt) (found (is_open_as eq name) ts)
  tells (Collect name) = made (λ t. collected name t.name.number t.end) (λ t. collected-tells name t.name.number t.end) (found (has_ticket_as eq name) ts)
  tells (Leave name) = made (λ t. calls.spends t.name.number) (λ t. tt) (found (has_ticket_as eq name) ts)

module _ {K V E : Type 0} (is_clone : V → V → Type 0) where
  -- a reply that is returned is that of an accepted call, up to clones
  pub by : (o : Option (Accepted K V E)) (answer : Reply K V E) → IsReplyOf is_clone o answer → (it : Accepted K V E) × (o ≡ Some it) × IsCopiedReply is_clone it.reply answer
  by None answer is = absurd is
  by (Some it) answer is = (it, refl, is)

  -- the result whose copy is `Run`, `Wait` or `Entered`
  pub of-run : (r : Reply K V E) (name : Name K) (shown : Option (Entry K V)) → IsCopiedReply is_clone r (Run name shown) → (own : Option (Entry K V)) × (r ≡ Run name own)
  of-run (Run called own) name shown is = (own, ap (λ n. Run n own) (sym is.0))
  of-run r name shown is = cc

  pub of-wait : (r : Reply K V E) (name : Name K) → IsCopiedReply is_clone r (Wait name) → r ≡ Wait name
  of-wait (Wait called) name is = sym is
  of-wait r name is = cc

  pub of-entered : (r : Reply K V E) (b : Entry K V) → IsCopiedReply is_clone r (calls.Entered b) → (a : Entry K V) × (r ≡ calls.Entered a) × calls.IsCopiedEntry is_clone a b
  of-entered (calls.Entered a) b is = (a, refl, is)
  of-entered r b is = cc

module _ {K V E : Type 0} (eq : K → K → Bool) (settings : Settings K V) (ds : List (AcceptedStep K V E)) (legal : IsLegal eq settings ds) (call : Call K V E) (it : Accepted K V E) (is : accepted eq settings ds call ≡ Some it) where
  pub told : ItTells it
  told = subst (OnSome ItTells) is (tells eq settings (events_in ds) (turns ds) call)

  fit : Fits eq settings ds it.step.events it.step.move
  fit = (legal-fit eq settings (it.step ∷ ds) ((call, it, is, refl), legal)).0

  -- `Run` draws the next number
  pub draws : (name : Name K) (shown : Option (Entry K V)) → it.reply ≡ Run name shown → (name.number ≡ next_number settings (events_in ds)) × (name.number < next_number settings (it.step.events ++ events_in ds))
  draws name shown says =
      let opens = subst (λ r. Tells r it.step.move) says told in
      let fits_it = subst (Fits eq settings ds it.step.events) opens.2 fit in
      (fits_it.0, fits_it.1)

  -- `Wait` waits
  pub waits : (name : Name K) → it.reply ≡ Wait name → it.step.move ≡ Some (Waited name.number)
  waits name says = subst (λ r. Tells r it.step.move) says told
