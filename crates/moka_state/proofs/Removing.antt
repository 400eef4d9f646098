-- What the removal of a row returns, and what hiding rows makes of a state's view.
use Rattle.std.proofs.Common.{◌≡◌, ℕ, Bool, true, false, not, cond, Option, Some, None, List, [], ◌∷◌, map, option_map, refl, ap, subst, ◌∙◌}
use Rattle.std.specs.Arc.{arc_value}
use Rattle.std.specs.Option.{IfSome}
use Rattle.std.specs.List.{AllByRecursion}
use Rattle.std.proofs.lemmas.List.{map-append}
use Rattle.moka_model.specs.Lives.{Settings, Write, hidden_by}
use Rattle.moka_model.specs.Events.{Hidden}
use Rattle.moka_model.specs.Calls.{IsCopyOf}
use Rattle.moka_rows.specs.declared.rows.Row.{Row}
use Rattle.moka_expiration.specs.declared.expiration_policy.ExpirationPolicy.{ExpirationPolicy}
use Rattle.moka_expiration.specs.ExpirationPolicy.{IsDated}
use Rattle.moka_table.specs.Table.{Contents, entries, stored_write, stored_writes, removal_of, hidden_if, hidden_where}
use Rattle.moka_state.specs.State.{IsSound}
use Rattle.moka_state.proofs.Orders.{same-orders}
use Rattle.moka_state.proofs.Views.{view_with, Becomes}

module _ {K V : Type 0} where
  -- the value of a write that is live where a test does not hold
  pub value-live : (d : Bool) (w : Write K V) → option_map (λ (x : Write K V). x.value) (cond (not d) (Some w) None) ≡ cond d None (Some w.value)
  value-live true w = refl
  value-live false w = refl

  -- it does where none is live
  pub none-live : (d : Bool) (w : Write K V) → ◌≡◌ {A = Option (Write K V)} (cond (not d) (Some w) None) None → d ≡ true
  none-live true w is = refl
  none-live false w is = let no : Some w ≡ None = is in cc

  -- what follows of the live value
  pub if-live : (P : V → Type 0) (Q : Type 0) (d : Bool) (w : Write K V) → (P w.value → Q) → IfSome (cond (not d) (Some w) None) (λ (x : Write K V). P x.value → Q)
  if-live P Q true w follows = tt
  if-live P Q false w follows = follows

-- what holds of each copy of a value holds of the copy that is found
pub if-copied : {V : Type 0} (is_clone : V → V → Type 0) (P : V → Type 0) (d : Bool) (v : V) (found : Option V) → ((w : V) → is_clone v w → P w) → IsCopyOf is_clone (cond d None (Some v)) found → IfSome found P
if-copied is_clone P d v None each copy = tt
if-copied is_clone P true v (Some w) each copy = absurd copy
if-copied is_clone P false v (Some w) each copy = each w copy

module _ {K V : Type 0} (test : K → V → Bool) where
  -- what holds of each row, hidden or not, holds of them once some are hidden
  each-hidden : (P : Row K V → Type 0) → ((r : Row K V) → P r → P (hidden_if test r)) → (ps : List (ℕ × Row K V)) → AllByRecursion (λ (p : ℕ × Row K V). P p.1) ps → AllByRecursion (λ (p : ℕ × Row K V). P p.1) (hidden_where test ps)
  each-hidden P keeps [] all = tt
  each-hidden P keeps (p ∷ ps) all = (keeps p.1 all.0, each-hidden P keeps ps all.1)

  -- the writes that hidden rows store
  stored-hidden : (ps : List (ℕ × Row K V)) → stored_writes (hidden_where test ps) ≡ map (hidden_by test) (stored_writes ps)
  stored-hidden [] = refl
  stored-hidden (p ∷ ps) = ap (λ l. hidden_by test (stored_write p.1) ∷ l) (stored-hidden ps)

  module _ (old new : Contents K V) (admitted : new.admitted ≡ hidden_where test old.admitted) (waiting : new.waiting ≡ hidden_where test old.waiting) (notices : new.notices ≡ old.notices) where
    each-entry : (P : Row K V → Type 0) → ((r : Row K V) → P r → P (hidden_if test r)) → AllByRecursion (λ (p : ℕ × Row K V). P p.1) (entries old) → AllByRecursion (λ (p : ℕ × Row K V). P p.1) (entries new)
    each-entry P keeps all =
        rw (admitted, waiting) (subst (AllByRecursion (λ (p : ℕ × Row K V). P p.1)) (map-append (λ (p : ℕ × Row K V). (p.0, hidden_if test p.1)) old.admitted old.waiting) (each-hidden P keeps (entries old) all))

    -- a state stays sound where some of its rows are hidden,
    pub IsSound-hidden : (keeps : K → V → Type 0) (hash_of : K → ℕ) (lives : ExpirationPolicy) → IsSound keeps hash_of lives old → IsSound keeps hash_of lives new
    IsSound-hidden keeps hash_of lives sound = record {
      dated = each-entry (λ r. IsDated lives r.info) (λ r is. is) sound.dated;
      hashed = each-entry (λ r. r.hash ≡ hash_of (arc_value r.key)) (λ r is. is) sound.hashed;
      kept = each-entry (λ r. keeps (arc_value r.key) r.value) (λ r is. is) sound.kept;
      notices_kept = rw notices sound.notices_kept;
    }

    -- and its view becomes that after all was hidden of which the test holds
    pub becomes-hidden : (eq : K → K → Bool) (settings : Settings K V) (frequency : List ℕ → ℕ → ℕ) (latest number : ℕ)
        → Becomes eq (view_with settings old frequency latest number) (Hidden test) (view_with settings new frequency latest number)
    becomes-hidden eq settings frequency latest number = record {
      settings = refl;
      orders = same-orders _ _ (ap stored_writes admitted ∙ stored-hidden old.admitted) (ap stored_writes waiting ∙ stored-hidden old.waiting);
      notices = ap (map removal_of) notices;
      latest = refl;
      next_number = refl;
      frequency = λ more hash. refl;
    }
