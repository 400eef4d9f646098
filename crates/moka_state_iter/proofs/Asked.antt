-- What states return, by the histories that they could have come from.
use Rattle.std.proofs.Common.{◌≡◌, ℕ, zero, suc, ◌+◌, Bool, true, false, Option, Some, None, Result, Ok, Err, IsOk, IfOk, IfErr, IfSome, IsSomeAnd, List, [], ◌∷◌, ◌++◌, length, map, option_map, refl, sym, ap, ◌∙◌, subst}
use Rattle.std.specs.List.{AllZip, slice_get, AllByRecursion}
use Rattle.std.specs.List.Sorted.{IsPermutation}
use Rattle.std.proofs.lemmas.List.Sorted.{IsPermutation-refl}
use Rattle.moka_policy.specs.declared.policy.Refused.{Refused}
use Rattle.moka_policy.specs.declared.policy.Refused.TheVariants.{OutOfMemory}
use Rattle.moka_model.specs.Lives.{Settings, Write}
use Rattle.moka_model.specs.Steps.{AcceptedStep, events_in}
use Rattle.moka_model.specs.Calls.{IsCopyOf, live_at}
use Rattle.moka_model.specs.StandsFor.{Books, books_of}
use Rattle.moka_iter.specs.Walks.{Cursor, Advance, reply_of, Ending, Yielded, KeyRefused, SegmentRefused, Finished, AllStand, IsEnding, Advances}
use Rattle.moka_iter.specs.Histories.{History, AllStandFor, keys_of, standing_in, value_of, StandsIn, FindsIn}
use Rattle.moka_iter.specs.Cursors.{key_list, with_key}
use Rattle.moka_state_iter.specs.States.{WalksTo, StateStands, StateFinds}

-- lists that agree place by place are of one length
pub zip-length : {A B : Type 0} (R : A → B → Type 0) (xs : List A) (ys : List B) → AllZip R xs ys → length ys ≡ length xs
zip-length R [] [] all = refl
zip-length R [] (y ∷ ys) all = absurd all
zip-length R (x ∷ xs) [] all = absurd all
zip-length R (x ∷ xs) (y ∷ ys) all = ap suc (zip-length R xs ys all.1)

-- and at each place both have something
pub zip-at : {A B : Type 0} (R : A → B → Type 0) (xs : List A) (ys : List B) → AllZip R xs ys → (i : ℕ) (x : A) → slice_get xs i ≡ Some x → (y : B) × (slice_get ys i ≡ Some y) × R x y
zip-at R [] ys all i x e = cc
zip-at R (x ∷ xs) [] all i z e = absurd all
zip-at R (x ∷ xs) (y ∷ ys) all zero z e = let same : x ≡ z = cc in (y, refl, subst (λ w. R w y) same all.0)
zip-at R (x ∷ xs) (y ∷ ys) all (suc i) z e = zip-at R xs ys all.1 i z e

-- where one has nothing, the other has nothing
pub none-at : {A B : Type 0} (R : A → B → Type 0) (xs : List A) (ys : List B) → AllZip R xs ys → (i : ℕ) → slice_get xs i ≡ None → slice_get ys i ≡ None
none-at R [] [] all i e = refl
none-at R [] (y ∷ ys) all i e = absurd all
none-at R (x ∷ xs) [] all i e = absurd all
none-at R (x ∷ xs) (y ∷ ys) all zero e = cc
none-at R (x ∷ xs) (y ∷ ys) all (suc i) e = none-at R xs ys all.1 i e

no-ok : (T : Type 0) (e : Refused) → IsOk {T = T} (Err e) → ⊥
no-ok T e is = let no : false ≡ true = is in cc

module _ {K V E S : Type 0} (eq : K → K → Bool) (is_clone : V → V → Type 0) (is_infallible : V → Type 0)
    (stands_for : Settings K V → S → List (AcceptedStep K V E) → Type 0) (states : List S) (now : ℕ) where
  -- the reply of a state that is asked for its keys
  pub stands-stored : (i : ℕ) (state : S) → slice_get states i ≡ Some state → (books : Books K V) → ((settings : Settings K V) (steps : List (AcceptedStep K V E)) → stands_for settings state steps → books ≡ books_of eq settings (events_in steps))
      → (result : Result (List K) Refused) → IfOk result (λ keys. keys ≡ map (λ (w : Write K V). w.key) (books.orders.admitted ++ books.orders.waiting)) → IfErr result (λ e. e ≡ OutOfMemory)
      → StateStands eq is_clone is_infallible stands_for states now i result
  stands-stored i state there books are (Ok keys) is cause = record {
    stood = λ histories stand.
        let it = zip-at (λ (s : S) (h : History K V E). stands_for h.settings s h.steps) states histories stand i state there in
        let same : standing_in eq histories i ≡ keys = ap (keys_of eq) it.1 ∙ sym (is ∙ ap (λ (b : Books K V). map (λ (w : Write K V). w.key) (b.orders.admitted ++ b.orders.waiting)) (are it.0.settings it.0.steps it.2)) in
        subst (IsPermutation (standing_in eq histories i)) same (IsPermutation-refl (standing_in eq histories i));
    cause = tt;
  }
  stands-stored i state there books are (Err e) is cause = record { stood = λ histories stand. cause; cause = cause }

  -- where there is no state nothing is live
  pub finds-none : (keeps : K → V → Type 0) (i : ℕ) (k : K) → slice_get states i ≡ None → StateFinds eq is_clone is_infallible stands_for states now keeps i k (Ok None)
  finds-none keeps i k past = record {
    found = λ histories stand. rw (none-at (λ (s : S) (h : History K V E). stands_for h.settings s h.steps) states histories stand i past) tt;
    kept = tt;
    cause = tt;
  }

  -- the reply of a state that is asked for a key's live value
  live-copied : (o : Option (Write K V)) (e : Refused) → (o ≡ None → IsOk {T = Option V} (Err e)) → IfSome o (λ (w : Write K V). is_infallible w.value → IsOk {T = Option V} (Err e)) → IsSomeAnd (option_map (λ (w : Write K V). w.value) o) (λ v. ¬ (is_infallible v))
  live-copied None e miss copied = absurd (no-ok (Option V) e (miss refl))
  live-copied (Some w) e miss copied = λ sure. no-ok (Option V) e (copied sure)

  pub finds-kept : (keeps : K → V → Type 0) (i : ℕ) (k : K) (state : S) → slice_get states i ≡ Some state → (result : Result (Option V) Refused)
      → IfOk result (λ found. (settings : Settings K V) (steps : List (AcceptedStep K V E)) → stands_for settings state steps → IsCopyOf is_clone (option_map (λ (w : Write K V). w.value) (live_at eq settings k now (events_in steps))) found)
      → IfOk result (λ found. IfSome found (keeps k)) → IfErr result (λ e. e ≡ OutOfMemory)
      → ((settings : Settings K V) (steps : List (AcceptedStep K V E)) → stands_for settings state steps → live_at eq settings k now (events_in steps) ≡ None → IsOk result)
      → ((settings : Settings K V) (steps : List (AcceptedStep K V E)) → stands_for settings state steps → IfSome (live_at eq settings k now (events_in steps)) (λ (w : Write K V). is_infallible w.value → IsOk result))
      → StateFinds eq is_clone is_infallible stands_for states now keeps i k result
  finds-kept keeps i k state there (Ok found) reply kept cause miss copied = record {
    found = λ histories stand.
        let it = zip-at (λ (s : S) (h : History K V E). stands_for h.settings s h.steps) states histories stand i state there in
        subst (λ o. IsCopyOf is_clone (value_of eq now k o) found) (sym it.1) (reply it.0.settings it.0.steps it.2);
    kept = kept;
    cause = tt;
  }
  finds-kept keeps i k state there (Err e) reply kept cause miss copied = record {
    found = λ histories stand.
        let it = zip-at (λ (s : S) (h : History K V E). stands_for h.settings s h.steps) states histories stand i state there in (
          subst (λ o. IsSomeAnd (value_of eq now k o) (λ v. ¬ (is_infallible v))) (sym it.1) (live-copied (live_at eq it.0.settings k now (events_in it.0.steps)) e (miss it.0.settings it.0.steps it.2) (copied it.0.settings it.0.steps it.2)),
          cause,
        );
    kept = tt;
    cause = cause;
  }

  -- So a call over the states is one over their histories.
  module _ (keeps : K → V → Type 0) where
    abbrev pub Advance-of : Cursor K → Advance K V Refused → Cursor K → Type 0
    Advance-of = Advances (length states) (StateStands eq is_clone is_infallible stands_for states now) (StateFinds eq is_clone is_infallible stands_for states now keeps)

    module _ (histories : List (History K V E)) (stand : AllStandFor stands_for states histories) where
      all-stood : (i : ℕ) (taken : List (List K)) → AllStand {V = V} (length states) (StateStands eq is_clone is_infallible stands_for states now) (StateFinds eq is_clone is_infallible stands_for states now keeps) i taken
          → AllStand {V = V} (length histories) (StandsIn eq is_clone is_infallible histories now) (FindsIn eq is_clone is_infallible histories now) i taken
      all-stood i [] all = tt
      all-stood i (keys ∷ more) all = (all.0.stood histories stand, all-stood (i + 1) more all.1)

      all-dead : (passed : List (ℕ × K)) → AllByRecursion (λ p. StateFinds eq is_clone is_infallible stands_for states now keeps p.0 p.1 (Ok None)) passed → AllByRecursion (λ p. FindsIn eq is_clone is_infallible histories now p.0 p.1 (Ok None)) passed
      all-dead [] all = tt
      all-dead (p ∷ ps) all = (all.0.found histories stand, all-dead ps all.1)

      same-length : length histories ≡ length states
      same-length = zip-length (λ (s : S) (h : History K V E). stands_for h.settings s h.steps) states histories stand

      ending : (reached : ℕ) (how : Ending K V Refused) (new : Cursor K) → IsEnding (length states) (StateStands eq is_clone is_infallible stands_for states now) (StateFinds eq is_clone is_infallible stands_for states now keeps) reached how new
          → IsEnding (length histories) (StandsIn eq is_clone is_infallible histories now) (FindsIn eq is_clone is_infallible histories now) reached how new
      ending reached (Yielded i k v) new ends = (ends.0.found histories stand, ends.1, ends.2)
      ending reached (KeyRefused i k e) new ends = (ends.0.found histories stand, ends.1, ends.2)
      ending reached (SegmentRefused e) new ends = (ends.0.stood histories stand, rw same-length ends.1, ends.2)
      ending reached Finished new ends = (rw same-length ends.0, ends.1)

      pub over-histories : (old : Cursor K) (it : Advance K V Refused) (new : Cursor K) → Advance-of old it new → Advances (length histories) (StandsIn eq is_clone is_infallible histories now) (FindsIn eq is_clone is_infallible histories now) old it new
      over-histories old it new advances = record {
        stood = all-stood old.reached it.taken advances.stood;
        within = rw same-length advances.within;
        dead = all-dead it.passed advances.dead;
        ends = ending (old.reached + length it.taken) it.ending new advances.ends;
        once = advances.once;
      }

    pub walks-to : (old new : Cursor K) (result : Option (Result (K × V) Refused)) → (it : Advance K V Refused) × Advance-of old it new × (result ≡ reply_of it.ending) → WalksTo eq is_clone is_infallible stands_for states now old result new
    walks-to old new result does histories stand = (does.0, over-histories histories stand old does.0 new does.1, does.2)

    -- What it returns satisfies `keeps`,
    ends-kept : (reached : ℕ) (how : Ending K V Refused) (new : Cursor K) → IsEnding (length states) (StateStands eq is_clone is_infallible stands_for states now) (StateFinds eq is_clone is_infallible stands_for states now keeps) reached how new
        → IfSome (reply_of how) (λ pair. IfOk pair (λ (p : K × V). keeps p.0 p.1)) × IfSome (reply_of how) (λ pair. IfErr pair (λ e. e ≡ OutOfMemory))
    ends-kept reached (Yielded i k v) new ends = (ends.0.kept, tt)
    ends-kept reached (KeyRefused i k e) new ends = (tt, ends.0.cause)
    ends-kept reached (SegmentRefused e) new ends = (tt, ends.0.cause)
    ends-kept reached Finished new ends = (tt, tt)

    -- and it fails only with `OutOfMemory`.
    pub hands-out : (old new : Cursor K) (result : Option (Result (K × V) Refused)) → (it : Advance K V Refused) × Advance-of old it new × (result ≡ reply_of it.ending)
        → IfSome result (λ pair. IfOk pair (λ (p : K × V). keeps p.0 p.1)) × IfSome result (λ pair. IfErr pair (λ e. e ≡ OutOfMemory))
    hands-out old new result does =
        subst (λ r. IfSome r (λ pair. IfOk pair (λ (p : K × V). keeps p.0 p.1)) × IfSome r (λ pair. IfErr pair (λ e. e ≡ OutOfMemory))) (sym does.2)
        (ends-kept (old.reached + length does.0.taken) does.0.ending new does.1.ends)

module _ {K V E S Q : Type 0} (eq : K → K → Bool) (is_clone : V → V → Type 0) (is_infallible : V → Type 0)
    (stands_for : Settings K V → S → List (AcceptedStep K V E) → Type 0) (states : List S) (now : ℕ) where
  -- the reply of a state that is asked for its keys, as it is handed out
  pub stands-shown : (keys : Q → List K) (i : ℕ) (state : S) → slice_get states i ≡ Some state → (books : Books K V) → ((settings : Settings K V) (steps : List (AcceptedStep K V E)) → stands_for settings state steps → books ≡ books_of eq settings (events_in steps))
      → (result : Result Q Refused) → IfOk result (λ q. keys q ≡ map (λ (w : Write K V). w.key) (books.orders.admitted ++ books.orders.waiting)) → IfErr result (λ e. e ≡ OutOfMemory)
      → StateStands eq is_clone is_infallible stands_for states now i (key_list keys result)
  stands-shown keys i state there books are (Ok q) is cause = stands-stored eq is_clone is_infallible stands_for states now i state there books are (Ok (keys q)) is cause
  stands-shown keys i state there books are (Err e) is cause = stands-stored eq is_clone is_infallible stands_for states now i state there books are (Err e) is cause

-- what holds of the keys themselves holds of what is handed out
pub kept-shown : {A K V : Type 0} (value : A → K) (P : K → V → Type 0) (r : Option (Result (A × V) Refused)) → IfSome (option_map (with_key value) r) (λ pair. IfOk pair (λ p. P p.0 p.1)) → IfSome r (λ pair. IfOk pair (λ p. P (value p.0) p.1))
kept-shown value P None is = tt
kept-shown value P (Some (Ok pair)) is = is
kept-shown value P (Some (Err e)) is = tt

pub cause-shown : {A K V : Type 0} (value : A → K) (r : Option (Result (A × V) Refused)) → IfSome (option_map (with_key value) r) (λ pair. IfErr pair (λ e. e ≡ OutOfMemory)) → IfSome r (λ pair. IfErr pair (λ e. e ≡ OutOfMemory))
cause-shown value None is = tt
cause-shown value (Some (Ok pair)) is = tt
cause-shown value (Some (Err e)) is = is
