-- Clones of what a step hands out, made before the step.
use Rattle.std.specs.Prelude.{⊤, ◌≡◌, Bool, true, List, Option, Some, None, IsSome, IfSome, IsSomeAnd}
use Rattle.std.specs.Arc.{arc_value}
use Rattle.moka_model.specs.declared.turns.Kind.{Kind}
use Rattle.moka_model.specs.declared.turns.Kind.TheVariants.{Compute}
use Rattle.moka_model.specs.Lives.{Write}
use Rattle.moka_model.specs.Turns.{Turn, found, is_open_for}
use Rattle.moka_model.specs.Calls.{Entry, Reply, IsCopyOf}
use Rattle.moka_model.specs.Calls as calls
use Rattle.moka_table.specs.Notices.{IsNoticeOf}
use Rattle.moka_state.specs.declared.handed_out.HandedOut.{HandedOut}

-- The stored key and a clone of the value of a live write, if there is one.
abbrev pub IsPairOf : {K V A : Type 0} → (A → K) → (V → V → Type 0) → Option (Write K V) → Option (A × V) → Type 0
IsPairOf key_of is_clone None None = ⊤
IsPairOf key_of is_clone (Some w) (Some p) = (key_of p.0 ≡ w.key) × is_clone w.value p.1
IsPairOf key_of is_clone w p = ⊥

-- A begin of this key and kind does not return the live entry: a compute has to wait for an open turn, or the caller of
-- an initializer replaces the live value.
abbrev pub HidesLive : {K V E : Type 0} → (K → K → Bool) → List (Turn K V E) → K → Kind → Option Bool → Type 0
HidesLive eq turns key Compute replace = IsSome (found (is_open_for eq Compute key) turns)
HidesLive eq turns key kind replace = replace ≡ Some true

module _ {K V E : Type 0} where
  abbrev pub HasKey : K → HandedOut K V E → Type 0  -- The key of the entry is there.
  HasKey k out = IsSomeAnd out.key (λ own. arc_value own ≡ k)

  abbrev pub HasName : K → HandedOut K V E → Type 0  -- The key in the name of the turn is there.
  HasName k out = IsSomeAnd out.name (λ own. arc_value own ≡ k)

  abbrev pub HasError : E → HandedOut K V E → Type 0  -- The error is there.
  HasError e out = IsSomeAnd out.error (λ own. arc_value own ≡ e)

  -- The key of the entry is there, and a clone of its value.
  abbrev pub HasEntry : (V → V → Type 0) → Entry K V → HandedOut K V E → Type 0
  HasEntry is_clone e out = HasKey e.key out × IsSomeAnd out.value (is_clone e.value)

  -- Everything that a reply hands out is there; a value as a clone.
  abbrev pub HandsOut : (V → V → Type 0) → Reply K V E → HandedOut K V E → Type 0
  HandsOut is_clone (calls.Found v) out = IsCopyOf is_clone v out.value
  HandsOut is_clone (calls.Noticed n) out = IsNoticeOf is_clone n out.notice
  HandsOut is_clone (calls.Entered e) out = HasEntry is_clone e out
  HandsOut is_clone (calls.Run name e) out = HasName name.key out × IfSome e (λ e. HasEntry is_clone e out)
  HandsOut is_clone (calls.Wait name) out = HasName name.key out
  HandsOut is_clone (calls.GaveError e) out = HasError e out
  HandsOut is_clone (calls.StillNone k) out = HasKey k out
  HandsOut is_clone (calls.Unchanged e) out = HasEntry is_clone e out
  HandsOut is_clone (calls.Inserted e) out = HasEntry is_clone e out
  HandsOut is_clone (calls.ReplacedWith e) out = HasEntry is_clone e out
  HandsOut is_clone (calls.Removed e) out = HasEntry is_clone e out
  HandsOut is_clone answer out = ⊤
