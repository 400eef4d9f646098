-- A begin opens a turn exactly where none is open, and finds what is acceptable.
use Rattle.std.proofs.Common.{◌≡◌, ◌↔◌, ℕ, max, if◌then◌else◌, Bool, Option, Some, None, List, [], ◌∷◌, filter, refl, ap, ◌∙◌, ◌<◌, ◌==◌, true, false, ◌++◌, inl, inr, ⊎_elim, sym, subst, arith, is_some, option_map, ◌≢◌}
use Rattle.std.specs.Option.{IsSome, option_map}
use Rattle.std.proofs.lemmas.Option.{same_Some}
use Rattle.moka_model.specs.declared.turns.Kind.{Kind}
use Rattle.moka_model.specs.declared.turns.Kind.TheVariants.{Compute, Optionally, Try, With}
use Rattle.moka_model.specs.Lives.{Settings, Write, after_look, hit, is_live, live_one}
use Rattle.moka_model.specs.Turns.{Name, Turn, first_of, is_open_for, IsIn, found, is_open, is_open_as, opening, same_name, AreApart}
use Rattle.moka_model.specs.Steps.{AcceptedStep, events_in, turns}
use Rattle.moka_model.specs.Calls.{Accepted, Entered, Entry, Removed, Run, Wait, begun, entry_under, removed_by, begun_compute, entry_of, live_at, new_name, Finish, accepted, reply_of_finish, finished}
use Rattle.moka_laws.specs.TurnLaws.{LeavesLive, ComputesExactly, FindsAcceptable, OpensExactly, ComputesAtOnce, computed_at_once, NumbersName}
use Rattle.std.specs.Cmp.{IsEquivalence}
use Rattle.std.proofs.Math.Bool.{and-false}
use Rattle.std.proofs.lemmas.Bool.{ne_eqb}
use Rattle.std.proofs.lemmas.Bool.Decides.{eqb_tells}
use Rattle.moka_model.specs.declared.turns.Op.{Op}
use Rattle.moka_model.specs.declared.turns.Op.TheVariants as ops
use Rattle.moka_model.specs.declared.turns.Outcome.TheVariants as outcomes
use Rattle.moka_model.specs.Events.{Event, Looked, Drawn, latest}
use Rattle.moka_model.specs.Orders.{standing}
use Rattle.moka_model.proofs.Callers.{AllFit, turns-below, in_place, turns-apart}

module _ {K V E : Type 0} (eq : K → K → Bool) (settings : Settings K V) where
  module _ (ds : List (AcceptedStep K V E)) (k : K) where
    abbrev Runs : Accepted K V E → Type 0
    Runs made = (name : Name K) × (it : Accepted K V E) × (Some made ≡ Some it) × (it.reply ≡ Run name None)

    begun-runs : (kind : Kind) (replace : Option Bool) (at : ℕ) (w : Option (Write K V)) (ts : List (Turn K V E)) → Runs (begun eq settings (events_in ds) k kind replace at w (first_of ts)) → (w ≡ None) × (ts ≡ [])
    begun-runs kind replace at (Some w) ts (name, it, same, runs) = cc
    begun-runs kind replace at None (t ∷ ts) (name, it, same, runs) = cc
    begun-runs kind replace at None [] (name, it, same, runs) = (refl, refl)

    runs-begun : (kind : Kind) (replace : Option Bool) (at : ℕ) (w : Option (Write K V)) (ts : List (Turn K V E)) → (w ≡ None) × (ts ≡ []) → Runs (begun eq settings (events_in ds) k kind replace at w (first_of ts))
    runs-begun kind replace at w ts (absent, none) = rw (absent, none) (new_name eq settings (events_in ds) kind k, begun eq settings (events_in ds) k kind replace at None None, refl, refl)

  pub opens_exactly : (ds : List (AcceptedStep K V E)) → OpensExactly eq settings ds
  opens_exactly ds k With initializer replace at = (begun-runs ds k With replace at _ _, runs-begun ds k With replace at _ _)
  opens_exactly ds k Optionally initializer replace at = (begun-runs ds k Optionally replace at _ _, runs-begun ds k Optionally replace at _ _)
  opens_exactly ds k Try initializer replace at = (begun-runs ds k Try replace at _ _, runs-begun ds k Try replace at _ _)
  opens_exactly ds k Compute initializer replace at = absurd (initializer refl)

  computes-begun : (ds : List (AcceptedStep K V E)) (k : K) (keep : Bool) (at : ℕ) (ts : List (Turn K V E)) →
      ((name : Name K) × (shown : Option (Entry K V)) × (it : Accepted K V E) × (Some (begun_compute eq settings (events_in ds) k keep at (first_of ts)) ≡ Some it) × (it.reply ≡ Run name shown)) ↔ (ts ≡ [])
  computes-begun ds k keep at [] = (λ _. refl, λ _. (new_name eq settings (events_in ds) Compute k, option_map entry_of (live_at eq settings k at (events_in ds)), begun_compute eq settings (events_in ds) k keep at None, refl, refl))
  computes-begun ds k keep at (t ∷ ts) = (λ (name, shown, it, same, runs). let waits : Wait (record t.name { key = k }) ≡ Run name shown = ap (λ (a : Accepted K V E). a.reply) (same_Some (begun_compute eq settings (events_in ds) k keep at (Some t)) it same) ∙ runs in cc, λ none. cc)

  pub computes_exactly : (ds : List (AcceptedStep K V E)) → ComputesExactly eq settings ds
  computes_exactly ds k keep at = computes-begun ds k keep at (filter (is_open_for eq Compute k) (turns ds))

  begun-finds : (ds : List (AcceptedStep K V E)) (k : K) (kind : Kind) (replace : Option Bool) (at : ℕ) (e : Entry K V) (it : Accepted K V E) (w : Option (Write K V)) (t : Option (Turn K V E)) → Some (begun eq settings (events_in ds) k kind replace at w t) ≡ Some it → it.reply ≡ Entered e → (own : Write K V) × (w ≡ Some own) × (e ≡ entry_of own)
  begun-finds ds k kind replace at e it (Some w) t same says =
      let found_it : Entered (entry_of w) ≡ Entered e = ap (λ (a : Accepted K V E). a.reply) (same_Some (begun eq settings (events_in ds) k kind replace at (Some w) t) it same) ∙ says in
      let entry_is : e ≡ entry_of w = cc in (w, refl, entry_is)
  begun-finds ds k kind replace at e it None (Some t) same says = let waits : Wait (record t.name { key = k }) ≡ Entered e = ap (λ (a : Accepted K V E). a.reply) (same_Some (begun eq settings (events_in ds) k kind replace at None (Some t)) it same) ∙ says in cc
  begun-finds ds k kind replace at e it None None same says = let runs : Run (new_name eq settings (events_in ds) kind k) None ≡ Entered e = ap (λ (a : Accepted K V E). a.reply) (same_Some (begun eq settings (events_in ds) k kind replace at None None) it same) ∙ says in cc

  pub finds_acceptable : (ds : List (AcceptedStep K V E)) → FindsAcceptable eq settings ds
  finds_acceptable ds k With initializer replace at e it = begun-finds ds k With replace at e it _ _
  finds_acceptable ds k Optionally initializer replace at e it = begun-finds ds k Optionally replace at e it _ _
  finds_acceptable ds k Try initializer replace at e it = begun-finds ds k Try replace at e it _ _
  finds_acceptable ds k Compute initializer replace at e it = absurd (initializer refl)

-- What a compute is answered that begins and ends in one go.
same : (n : ℕ) → (n == n) ≡ true
same n = ⊎_elim (λ yes. yes.0) (λ no. absurd (no.1 refl)) (eqb_tells n n)

module _ {K V E : Type 0} where
  -- what none of some passes is found behind them
  found-last : (test : Turn K V E → Bool) (ts : List (Turn K V E)) (u : Turn K V E) → ((t : Turn K V E) → IsIn t ts → test t ≡ false) → test u ≡ true → found test (ts ++ u ∷ []) ≡ Some u
  found-last test [] u none is = rw is refl
  found-last test (t ∷ ts) u none is = rw (none t (inl refl)) (found-last test ts u (λ s in_rest. none s (inr in_rest)) is)

  other-number : (eq : K → K → Bool) (name : Name K) (t : Turn K V E) → t.name.number < name.number → is_open_as eq name t ≡ false
  other-number eq name t low = let apart = ne_eqb t.name.number name.number (λ same. omega (arith, low, same)) in rw apart (and-false (is_open t))

abbrev value_of : {K V : Type 0} → Option (Write K V) → Option V
value_of {K} {V} w = option_map (λ (u : Write K V). u.value) w

max-again : (n at : ℕ) → max (max (max n at) 0) at ≡ max n at
max-again n at = omega arith

module _ {K V : Type 0} (eq : K → K → Bool) (settings : Settings K V) where
  -- where the lookup of a live value leaves one live, it is the same value
  looked-one : (now : ℕ) (o : Option (Write K V)) → (IsSome (live_one settings now o) → IsSome (live_one settings now (option_map (after_look settings now) o)))
      → value_of (live_one settings now (option_map (after_look settings now) o)) ≡ value_of (live_one settings now o)
  looked-one now None left = refl
  looked-one now (Some w) left = go (is_live settings w now) refl left
    where
      hit-live : (s : Bool) → IsSome {T = Write K V} (if s then Some (hit settings now w) else None) → value_of (if s then Some (hit settings now w) else None) ≡ Some w.value
      hit-live true lives = refl
      hit-live false lives = cc

      go : (t : Bool) → is_live settings w now ≡ t → (IsSome {T = Write K V} (if t then Some w else None) → IsSome (live_one settings now (Some (if t then hit settings now w else w))))
          → value_of (live_one settings now (Some (if t then hit settings now w else w))) ≡ value_of (if t then Some w else None)
      go true lives left = hit-live (is_live settings (hit settings now w) now) (left refl)
      go false dies left = rw dies refl

  looked-at : (now later : ℕ) (t : Bool) (o : Option (Write K V)) → later ≡ now → t ≡ true
      → (IsSome (live_one settings now o) → IsSome (live_one settings later (if t then option_map (after_look settings now) o else o)))
      → value_of (live_one settings later (if t then option_map (after_look settings now) o else o)) ≡ value_of (live_one settings now o)
  looked-at now later false o same own = cc
  looked-at now later true o same own =
      subst (λ n. (IsSome (live_one settings now o) → IsSome (live_one settings n (option_map (after_look settings now) o)))
      → value_of (live_one settings n (option_map (after_look settings now) o)) ≡ value_of (live_one settings now o)) (sym same) (looked-one now o)

  looked-live : (k : K) (at : ℕ) (h : List (Event K V)) → eq k k ≡ true → (IsSome (live_at eq settings k at h) → IsSome (live_at eq settings k at (Drawn ∷ Looked k at ∷ h)))
      → value_of (live_at eq settings k at (Drawn ∷ Looked k at ∷ h)) ≡ value_of (live_at eq settings k at h)
  looked-live k at h own left = looked-at (max (latest h) at) (max (max (max (latest h) at) 0) at) (eq k k) (standing eq settings k h) (max-again (latest h) at) own left

module _ {K V E : Type 0} (eq : K → K → Bool) (settings : Settings K V) where
  removed-alike : (name : Name K) (o live : Option (Write K V)) → value_of o ≡ value_of live → removed_by {E = E} name o ≡ removed_by name live
  removed-alike name None None same = refl
  removed-alike name None (Some w) same = cc
  removed-alike name (Some u) None same = cc
  removed-alike name (Some u) (Some w) same = ap (λ v. Removed (entry_under name.key v)) (same_Some u.value w.value same)

  removed-here : (name : Name K) (at : ℕ) (h2 : List (Event K V)) (live : Option (Write K V)) → value_of (live_at eq settings name.key at h2) ≡ value_of live
      → removed_by {E = E} name (live_at eq settings name.key at h2) ≡ computed_at_once eq settings name.key live ops.Remove
  removed-here name at h2 None same = removed-alike name (live_at eq settings name.key at h2) None same
  removed-here name at h2 (Some w) same = removed-alike name (live_at eq settings name.key at h2) (Some w) same

  -- by the value that was live, and what is to be done
  answered : (k : K) (h2 : List (Event K V)) (at : ℕ) (op : Op V) (name : Name K) (live : Option (Write K V)) → name.key ≡ k → value_of (live_at eq settings k at h2) ≡ value_of live
      → reply_of_finish {E = E} eq settings h2 (opening name (is_some live) (option_map (λ w. w.value) live)) at (outcomes.Op op) name ≡ computed_at_once eq settings k live op
  answered k h2 at (ops.Put v) name None keyed same = rw keyed refl
  answered k h2 at (ops.Put v) name (Some w) keyed same = rw keyed refl
  answered k h2 at ops.Remove name live keyed same =
      subst (λ q. value_of (live_at eq settings q at h2) ≡ value_of live → removed_by {E = E} name (live_at eq settings name.key at h2) ≡ computed_at_once eq settings q live ops.Remove) keyed
      (removed-here name at h2 live) same
  answered k h2 at ops.Nop name None keyed same = rw keyed refl
  answered k h2 at ops.Nop name (Some w) keyed same = rw keyed refl

  module _ (laws : IsEquivalence eq) (ds : List (AcceptedStep K V E)) (fit : AllFit eq settings ds) (k : K) (at : ℕ) where
    abbrev own : Name K
    own = new_name eq settings (events_in ds) Compute k

    abbrev looked : Option (Write K V)
    looked = live_at eq settings k at (events_in ds)

    abbrev opened : Accepted K V E
    opened = begun_compute eq settings (events_in ds) k true at None

    abbrev turn : Turn K V E
    turn = opening own (is_some looked) (option_map (λ w. w.value) looked)

    own-found : found (is_open_as eq own) (turns (opened.step ∷ ds)) ≡ Some turn
    own-found = found-last (is_open_as eq own) (turns ds) turn (λ t is_in. other-number eq own t (turns-below eq settings ds fit t is_in)) (let same_number = same own.number in let same_key = laws.refl k in rw (same_number, same_key) refl)

    -- where a turn is opened it is the one that ends
    at_once : (op : Op V) (name : Name K) (shown : Option (Entry K V)) (o : Option (Turn K V E)) (begun : Accepted K V E) → Some (begun_compute eq settings (events_in ds) k true at o) ≡ Some begun → begun.reply ≡ Run name shown
        → LeavesLive eq settings ds k at begun
        → (it : Accepted K V E) × (accepted eq settings (begun.step ∷ ds) (Finish name (outcomes.Op op) at) ≡ Some it) × (it.reply ≡ computed_at_once eq settings k looked op)
    at_once op name shown (Some t) begun is_begun runs kept = let waits : Wait (record t.name { key = k }) ≡ Run name shown = ap (λ (a : Accepted K V E). a.reply) (same_Some (begun_compute eq settings (events_in ds) k true at (Some t)) begun is_begun) ∙ runs in cc
    at_once op name shown None begun is_begun runs kept =
        let is : opened ≡ begun = same_Some opened begun is_begun in
        let ran : Run own (option_map entry_of looked) ≡ Run name shown = ap (λ (a : Accepted K V E). a.reply) is ∙ runs in
        let named : own ≡ name = cc in
        subst (λ (b : Accepted K V E). LeavesLive eq settings ds k at b → (it : Accepted K V E) × (accepted eq settings (b.step ∷ ds) (Finish name (outcomes.Op op) at) ≡ Some it) × (it.reply ≡ computed_at_once eq settings k looked op)) is
        (subst (λ (n : Name K). LeavesLive eq settings ds k at opened → (it : Accepted K V E) × (accepted eq settings (opened.step ∷ ds) (Finish n (outcomes.Op op) at) ≡ Some it) × (it.reply ≡ computed_at_once eq settings k looked op)) named
        (λ left. (finished eq settings (events_in (opened.step ∷ ds)) own (outcomes.Op op) at turn, ap (option_map (finished eq settings (events_in (opened.step ∷ ds)) own (outcomes.Op op) at)) own-found, answered k (events_in (opened.step ∷ ds)) at op own looked refl (looked-live eq settings k at (events_in ds) (laws.refl k) left)))) kept

  pub computes_at_once : IsEquivalence eq → (ds : List (AcceptedStep K V E)) → AllFit eq settings ds → ComputesAtOnce eq settings ds
  computes_at_once laws ds fit k at op name shown begun = at_once laws ds fit k at op name shown (found (is_open_for eq Compute k) (turns ds)) begun

-- No number names two turns.
apart-places : {K V E : Type 0} (ts before middle after : List (Turn K V E)) (a b : Turn K V E) → AreApart ts → ts ≡ before ++ a ∷ (middle ++ b ∷ after) → a.name.number ≢ b.name.number
apart-places {K} {V} {E} ts before middle after a b apart place = go before (subst AreApart place apart)
  where
    go : (front : List (Turn K V E)) → AreApart (front ++ a ∷ (middle ++ b ∷ after)) → a.name.number ≢ b.name.number
    go [] apart = apart.0 b (in_place b middle after)
    go (t ∷ ts) apart = go ts apart.1

pub numbers_name : {K V E : Type 0} (eq : K → K → Bool) (settings : Settings K V) (ds : List (AcceptedStep K V E)) → AllFit eq settings ds → NumbersName ds
numbers_name eq settings ds fit before middle after a b place = apart-places (turns ds) before middle after a b (turns-apart eq settings ds fit) place
