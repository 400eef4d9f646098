-- A begin hands out no more than what is live, and the key of the name of a turn.
use Rattle.std.proofs.Common.{◌≡◌, ℕ, Bool, true, false, List, Option, Some, None, option_map, refl}
use Rattle.std.specs.Prelude.{IfSome, IsSome}
use Rattle.moka_model.specs.declared.turns.Kind.{Kind}
use Rattle.moka_model.specs.declared.turns.Kind.TheVariants.{With, Optionally, Try, Compute}
use Rattle.moka_model.specs.Lives.{Settings, Write}
use Rattle.moka_model.specs.Turns.{Turn, found, is_open_for}
use Rattle.moka_model.specs.Steps.{AcceptedStep, events_in, turns}
use Rattle.moka_model.specs.Calls.{Accepted, Begin, BeginCompute, accepted, reply_of, acceptable, begun, begun_compute, entry_of, live_at}
use Rattle.moka_state.specs.declared.handed_out.HandedOut.{HandedOut}
use Rattle.moka_state.specs.HandedOut.{HasName, HasEntry, HandsOut, HidesLive}

module _ {K V E : Type 0} (eq : K → K → Bool) (is_clone : V → V → Type 0) (settings : Settings K V) (steps : List (AcceptedStep K V E)) (out : HandedOut K V E) where
  -- all is there that an accepted call hands out
  abbrev pub Out : Option (Accepted K V E) → Type 0
  Out it = IfSome (reply_of it) (λ answer. HandsOut is_clone answer out)

  -- what is live
  abbrev pub HasLive : Option (Write K V) → Type 0
  HasLive o = IfSome o (λ w. HasEntry is_clone (entry_of w) out)

  module _ (k : K) (at : ℕ) (named : HasName k out) where
    shown : (o : Option (Write K V)) → HasLive o → IfSome (option_map entry_of o) (λ e. HasEntry is_clone e out)
    shown None is = tt
    shown (Some w) is = is

    compute-out : HasLive (live_at eq settings k at (events_in steps)) → (keep : Bool) (o : Option (Turn K V E)) → Out (Some (begun_compute eq settings (events_in steps) k keep at o))
    compute-out live keep None = (named, shown (live_at eq settings k at (events_in steps)) live)
    compute-out live keep (Some t) = named

    none-out : (kind : Kind) (replace : Option Bool) (o : Option (Turn K V E)) → Out (Some (begun eq settings (events_in steps) k kind replace at None o))
    none-out kind replace None = (named, tt)
    none-out kind replace (Some t) = named

    initializer-out : (kind : Kind) (replace : Option Bool) (w : Option (Write K V)) → HasLive w → (o : Option (Turn K V E)) → Out (Some (begun eq settings (events_in steps) k kind replace at (acceptable replace w) o))
    initializer-out kind None None is o = none-out kind None o
    initializer-out kind None (Some w) is o = is
    initializer-out kind (Some false) None is o = none-out kind (Some false) o
    initializer-out kind (Some false) (Some w) is o = is
    initializer-out kind (Some true) w is o = none-out kind (Some true) o

    hidden-compute : (keep : Bool) (o : Option (Turn K V E)) → IsSome o → Out (Some (begun_compute eq settings (events_in steps) k keep at o))
    hidden-compute keep None is = let off : false ≡ true = is in cc
    hidden-compute keep (Some t) is = named

    replaced-out : (kind : Kind) (replace : Option Bool) → replace ≡ Some true → (w : Option (Write K V)) (o : Option (Turn K V E)) → Out (Some (begun eq settings (events_in steps) k kind replace at (acceptable replace w) o))
    replaced-out kind replace is w o = rw is (none-out kind (Some true) o)

    -- A begin hands out a name of a turn and, if it may show it, what is live.
    pub begin-hands : (shows : Bool) (kind : Kind) (replace : Option Bool) → (shows ≡ true → HasLive (live_at eq settings k at (events_in steps))) → (shows ≡ false → HidesLive eq (turns steps) k kind replace)
        → Out (accepted eq settings steps (Begin k kind replace at))
    begin-hands true Compute replace live hides = compute-out (live refl) false (found (is_open_for eq Compute k) (turns steps))
    begin-hands true With replace live hides = initializer-out With replace (live_at eq settings k at (events_in steps)) (live refl) (found (is_open_for eq With k) (turns steps))
    begin-hands true Optionally replace live hides = initializer-out Optionally replace (live_at eq settings k at (events_in steps)) (live refl) (found (is_open_for eq Optionally k) (turns steps))
    begin-hands true Try replace live hides = initializer-out Try replace (live_at eq settings k at (events_in steps)) (live refl) (found (is_open_for eq Try k) (turns steps))
    begin-hands false Compute replace live hides = hidden-compute false (found (is_open_for eq Compute k) (turns steps)) (hides refl)
    begin-hands false With replace live hides = replaced-out With replace (hides refl) (live_at eq settings k at (events_in steps)) (found (is_open_for eq With k) (turns steps))
    begin-hands false Optionally replace live hides = replaced-out Optionally replace (hides refl) (live_at eq settings k at (events_in steps)) (found (is_open_for eq Optionally k) (turns steps))
    begin-hands false Try replace live hides = replaced-out Try replace (hides refl) (live_at eq settings k at (events_in steps)) (found (is_open_for eq Try k) (turns steps))

    pub compute-hands : (shows keep : Bool) (replace : Option Bool) → (shows ≡ true → HasLive (live_at eq settings k at (events_in steps))) → (shows ≡ false → HidesLive eq (turns steps) k Compute replace)
        → Out (accepted eq settings steps (BeginCompute k keep at))
    compute-hands true keep replace live hides = compute-out (live refl) keep (found (is_open_for eq Compute k) (turns steps))
    compute-hands false keep replace live hides = hidden-compute keep (found (is_open_for eq Compute k) (turns steps)) (hides refl)
