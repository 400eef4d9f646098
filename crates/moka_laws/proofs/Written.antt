-- A look after a write finds its value, unless a life of nothing has ended.
use Rattle.std.proofs.Common.{◌≡◌, ◌≢◌, ◌⊎◌, inl, inr, ⊎_elim, ℕ, zero, suc, ◌+◌, ◌≤◌, max, Bool, true, false, if◌then◌else◌, Option, Some, None, IsSome, List, [], ◌∷◌, ◌++◌, refl, sym, ap, ◌∙◌, arith}
use Rattle.std.specs.Option.{option_map}
use Rattle.std.specs.Cmp.{IsEquivalence}
use Rattle.std.proofs.lemmas.Bool.{cases_Bool, cond-true, le-leb, lt-leb}
use Rattle.std.proofs.lemmas.List.{append_assoc}
use Rattle.moka_model.specs.declared.turns.Outcome.TheVariants as outcomes
use Rattle.moka_model.specs.Lives.{Settings, Write, ends_at, earlier, has_come, own_end, given, is_expired, live_one, life_given, after_write}
use Rattle.moka_model.specs.Events.{Event, Looked, Written, Passed, latest}
use Rattle.moka_model.specs.Orders.{standing}
use Rattle.moka_model.specs.Numbers.{stores_nothing}
use Rattle.moka_model.specs.Turns.{Name, Turn, fits, found, is_open_as}
use Rattle.moka_model.specs.Steps.{AcceptedStep, events_in, turns}
use Rattle.moka_model.specs.Calls.{Get, Insert, OrInsert, Finish, Found, Entered, accepted, entry_of, fresh_entry, finished, or_inserted, with_step, live_at, flush, after, IsLegal}
use Rattle.moka_laws.specs.Laws.{reply, and_then, life_by_write}
use Rattle.moka_laws.proofs.Deadlines.{has_come-earlier}
use Rattle.moka_model.proofs.Callers.{standing_congr, standing-empty, IsLegal-after}

-- a life that is not nothing ends later than it begins
has_come-not_nothing : (life : Option ℕ) (from at : ℕ) → at ≤ from → life ≢ Some 0 → has_come (ends_at life from) at ≡ false
has_come-not_nothing None from at le some = refl
has_come-not_nothing (Some zero) from at le some = absurd (some refl)
has_come-not_nothing (Some (suc n)) from at le some = lt-leb (from + suc n) at (omega arith)

-- and a life of nothing has ended where it begins
has_come-nothing : (life : Option ℕ) (from at : ℕ) → from ≤ at → life ≡ Some 0 → has_come (ends_at life from) at ≡ true
has_come-nothing life from at le none = rw none (le-leb (from + 0) at (omega arith))

-- of two deadlines that have not come the earlier has not
has_come-neither : (a b : Option ℕ) (at : ℕ) → has_come a at ≡ false → has_come b at ≡ false → has_come (earlier a b) at ≡ false
has_come-neither a b at not_a not_b =
    ⊎_elim
    (λ come. ⊎_elim (λ first. let no = sym not_a ∙ first in cc) (λ second. let no = sym not_b ∙ second in cc) ((has_come-earlier a b at).0 come))
    (λ not. not)
    (cases_Bool (has_come (earlier a b) at))

-- a life that is given at a moment ends at their sum
own_end-given : (life : Option ℕ) (at : ℕ) → own_end (given life at) ≡ ends_at life at
own_end-given None at = refl
own_end-given (Some n) at = refl

module _ {K V : Type 0} (settings : Settings K V) (k : K) (v : V) (at : ℕ) where
  -- the three deadlines of a write
  pub is_expired-after_write : (o : Option (Write K V)) (now : ℕ) → is_expired settings (after_write settings k v at o) now ≡ has_come (earlier (earlier (ends_at settings.time_to_live at) (ends_at settings.time_to_idle at)) (ends_at (life_given settings k v at o) at)) now
  is_expired-after_write None now = ap (λ d. has_come (earlier (earlier (ends_at settings.time_to_live at) (ends_at settings.time_to_idle at)) d) now) (own_end-given (life_given settings k v at None) at)
  is_expired-after_write (Some w) now = ap (λ d. has_come (earlier (earlier (ends_at settings.time_to_live at) (ends_at settings.time_to_idle at)) d) now) (own_end-given (life_given settings k v at (Some w)) at)

  pub after_write-shown : (o : Option (Write K V)) → (after_write settings k v at o).is_hidden ≡ false
  after_write-shown None = refl
  after_write-shown (Some w) = refl

  pub after_write-value : (o : Option (Write K V)) → (after_write settings k v at o).value ≡ v
  after_write-value None = refl
  after_write-value (Some w) = refl

  -- where no life is nothing it is live at its moment and before
  live-after_write : (o : Option (Write K V)) (now : ℕ) → now ≤ at → settings.time_to_live ≢ Some 0 → settings.time_to_idle ≢ Some 0 → life_given settings k v at o ≢ Some 0 → option_map (λ (w : Write K V). w.value) (live_one settings now (Some (after_write settings k v at o))) ≡ Some v
  live-after_write o now le live idle own =
      let ends = has_come-neither (earlier (ends_at settings.time_to_live at) (ends_at settings.time_to_idle at)) (ends_at (life_given settings k v at o) at) now
      (has_come-neither (ends_at settings.time_to_live at) (ends_at settings.time_to_idle at) now (has_come-not_nothing settings.time_to_live at now le live) (has_come-not_nothing settings.time_to_idle at now le idle))
      (has_come-not_nothing (life_given settings k v at o) at now le own) in
      rw (after_write-shown o, is_expired-after_write o now ∙ ends) (ap Some (after_write-value o))

  -- and where one is nothing it never is
  expired-after_write : (o : Option (Write K V)) (now : ℕ) → at ≤ now → (settings.time_to_live ≡ Some 0) ⊎ (settings.time_to_idle ≡ Some 0) ⊎ (life_given settings k v at o ≡ Some 0) → live_one settings now (Some (after_write settings k v at o)) ≡ None
  expired-after_write o now le some =
      let live = ends_at settings.time_to_live at in
      let idle = ends_at settings.time_to_idle at in
      let own = ends_at (life_given settings k v at o) at in
      let shared = (has_come-earlier live idle now).1 in
      let whole = (has_come-earlier (earlier live idle) own now).1 in
      let ends : has_come (earlier (earlier live idle) own) now ≡ true =
      ⊎_elim
      (λ e. whole (inl (shared (inl (has_come-nothing settings.time_to_live at now le e)))))
      (λ more. ⊎_elim (λ e. whole (inl (shared (inr (has_come-nothing settings.time_to_idle at now le e))))) (λ e. whole (inr (has_come-nothing (life_given settings k v at o) at now le e))) more)
      some in
      rw (after_write-shown o, is_expired-after_write o now ∙ ends) refl

module _ {K V : Type 0} (eq : K → K → Bool) (settings : Settings K V) (laws : IsEquivalence eq) (k q : K) (v : V) (at now : ℕ) (same : eq k q ≡ true) where
  module _ (h : List (Event K V)) where
    -- what stands for the key after the write
    abbrev stands_then : Option (Write K V)
    stands_then = Some (after_write settings k v (latest (Written k v at ∷ h)) (standing eq settings q h))

    standing-after : standing eq settings q (Written k v at ∷ h) ≡ stands_then
    standing-after = cond-true (eq k q) stands_then (standing eq settings q h) same

    life-after : life_given settings k v (latest (Written k v at ∷ h)) (standing eq settings q h) ≡ life_by_write eq settings k v at h
    life-after = ap (life_given settings k v (latest (Written k v at ∷ h))) (sym (standing_congr eq settings laws k q h same))

    -- the value that a look finds behind it
    abbrev found_then : Option V
    found_then = option_map (λ (w : Write K V). w.value) (live_at eq settings q now (Written k v at ∷ h))

    found-written : now ≤ at → settings.time_to_live ≢ Some 0 → settings.time_to_idle ≢ Some 0 → life_by_write eq settings k v at h ≢ Some 0 → found_then ≡ Some v
    found-written le live idle own =
        ap (λ o. option_map (λ (w : Write K V). w.value) (live_one settings (max (latest (Written k v at ∷ h)) now) o)) standing-after
        ∙ live-after_write settings k v (latest (Written k v at ∷ h)) (standing eq settings q h) (max (latest (Written k v at ∷ h)) now) (omega arith) live idle (λ none. own (sym life-after ∙ none))

    found-ended : (settings.time_to_live ≡ Some 0) ⊎ (settings.time_to_idle ≡ Some 0) ⊎ (life_by_write eq settings k v at h ≡ Some 0) → found_then ≡ None
    found-ended some =
        ap (λ o. option_map (λ (w : Write K V). w.value) (live_one settings (max (latest (Written k v at ∷ h)) now) o)) standing-after
        ∙ ap (λ (o : Option (Write K V)). option_map (λ w. w.value) o)
        (expired-after_write settings k v (latest (Written k v at ∷ h)) (standing eq settings q h) (max (latest (Written k v at ∷ h)) now) (omega arith)
        (⊎_elim (λ e. inl e) (λ more. ⊎_elim (λ e. inr (inl e)) (λ e. inr (inr (life-after ∙ e))) more) some))

  module _ {E : Type 0} (steps : List (AcceptedStep K V E)) where
    pub get-written : now ≤ at → settings.time_to_live ≢ Some 0 → settings.time_to_idle ≢ Some 0 → life_by_write eq settings k v at (events_in steps) ≢ Some 0 → reply eq settings (Get q now) (and_then (Written k v at ∷ []) steps) ≡ Some (Found (Some v))
    get-written le live idle own = ap (λ o. Some (Found o)) (found-written (events_in steps) le live idle own)

    pub get-ended : (settings.time_to_live ≡ Some 0) ⊎ (settings.time_to_idle ≡ Some 0) ⊎ (life_by_write eq settings k v at (events_in steps) ≡ Some 0) → reply eq settings (Get q now) (and_then (Written k v at ∷ []) steps) ≡ Some (Found None)
    get-ended some = ap (λ o. Some (Found o)) (found-ended (events_in steps) some)

    -- an accepted write comes behind a maintenance or not
    pub get-accepted : now ≤ at → stores_nothing settings.max_capacity ≡ false → settings.time_to_live ≢ Some 0 → settings.time_to_idle ≢ Some 0
        → life_by_write eq settings k v at (flush eq settings at (events_in steps) ++ events_in steps) ≢ Some 0
        → reply eq settings (Get q now) (after eq settings (Insert k v at) steps) ≡ Some (Found (Some v))
    get-accepted le stores live idle own =
        let h : List (Event K V) = events_in steps in
        let behind : List (Event K V) = flush eq settings at h in
        ap (λ t. Some (Found (option_map (λ (w : Write K V). w.value) (live_at eq settings q now ((if t then Passed at ∷ [] else Written k v at ∷ behind) ++ h))))) stores
        ∙ ap (λ o. Some (Found o)) (found-written (behind ++ h) le live idle own)

-- a call that finds a value or writes one
module _ {K V E : Type 0} (eq : K → K → Bool) (settings : Settings K V) (k : K) (v : V) (at : ℕ) (steps : List (AcceptedStep K V E)) where
  -- is a hit where a value is live,
  pub or_inserted-hit : (w : Write K V) → live_at eq settings k at (events_in steps) ≡ Some w
      → (reply eq settings (OrInsert k v at) steps ≡ Some (Entered (entry_of w))) × (reply eq settings (Get k at) steps ≡ Some (Found (Some w.value))) × (after eq settings (OrInsert k v at) steps ≡ after eq settings (Get k at) steps)
  or_inserted-hit w live = (
    ap (λ o. Some ((or_inserted {E = E} eq settings (events_in steps) k v at o).reply)) live,
    ap (λ o. Some (Found (option_map (λ (w : Write K V). w.value) o))) live,
    ap (λ o. with_step (Some (or_inserted {E = E} eq settings (events_in steps) k v at o)) steps) live,
  )

  -- and fresh where none is
  pub or_inserted-fresh : live_at eq settings k at (events_in steps) ≡ None → reply eq settings (OrInsert k v at) steps ≡ Some (Entered (fresh_entry k v false))
  or_inserted-fresh none = ap (λ o. Some ((or_inserted {E = E} eq settings (events_in steps) k v at o).reply)) none

  -- Then it is a look, and a write behind it.
  module _ (laws : IsEquivalence eq) (q : K) (now : ℕ) (same : eq k q ≡ true) where
    pub get-or_inserted : now ≤ at → stores_nothing settings.max_capacity ≡ false → settings.time_to_live ≢ Some 0 → settings.time_to_idle ≢ Some 0
        → life_by_write eq settings k v at (flush eq settings at (Looked k at ∷ events_in steps) ++ Looked k at ∷ events_in steps) ≢ Some 0
        → live_at eq settings k at (events_in steps) ≡ None
        → reply eq settings (Get q now) (after eq settings (OrInsert k v at) steps) ≡ Some (Found (Some v))
    get-or_inserted le stores live idle own none =
        let looked : List (Event K V) = Looked k at ∷ events_in steps in
        let behind : List (Event K V) = flush eq settings at looked in
        ap (λ o. reply eq settings (Get q now) (with_step (Some (or_inserted {E = E} eq settings (events_in steps) k v at o)) steps)) none
        ∙ ap (λ t. Some (Found (option_map (λ (w : Write K V). w.value) (live_at eq settings q now (((if t then Passed at ∷ [] else Written k v at ∷ behind) ++ Looked k at ∷ []) ++ events_in steps))))) stores
        ∙ ap (λ l. Some (Found (option_map (λ (w : Write K V). w.value) (live_at eq settings q now (Written k v at ∷ l))))) (append_assoc behind (Looked k at ∷ []) (events_in steps))
        ∙ ap (λ o. Some (Found o)) (found-written eq settings laws k q v at now same (behind ++ looked) le live idle own)

-- the end of a turn with a value is behind it as a write is
module _ {K V E : Type 0} (eq : K → K → Bool) (settings : Settings K V) (laws : IsEquivalence eq) (name : Name K) (q : K) (v : V) (at now : ℕ) (same : eq name.key q ≡ true)
    (steps : List (AcceptedStep K V E)) where
  pub get-finished : now ≤ at → stores_nothing settings.max_capacity ≡ false → settings.time_to_live ≢ Some 0 → settings.time_to_idle ≢ Some 0
      → life_by_write eq settings name.key v at (flush eq settings at (events_in steps) ++ events_in steps) ≢ Some 0
      → IsSome (accepted eq settings steps (Finish name (outcomes.Value v) at))
      → reply eq settings (Get q now) (after eq settings (Finish name (outcomes.Value v) at) steps) ≡ Some (Found (Some v))
  get-finished le stores live idle own some =
      by (fits name.kind (outcomes.Value v)) (found (is_open_as eq name) (turns steps)) some
    where
      by : (b : Bool) (o : Option (Turn K V E))
          → IsSome (if b then option_map (finished eq settings (events_in steps) name (outcomes.Value v) at) o else None)
          → reply eq settings (Get q now) (with_step (if b then option_map (finished eq settings (events_in steps) name (outcomes.Value v) at) o else None) steps) ≡ Some (Found (Some v))
      by true (Some t) some = get-accepted eq settings laws name.key q v at now same steps le stores live idle own
      by true None some = let never = some in cc
      by false o some = let never = some in cc

-- with a capacity of 0 no look finds anything after a write
pub get-not_stored : {K V E : Type 0} (eq : K → K → Bool) (settings : Settings K V) (steps : List (AcceptedStep K V E)) (k q : K) (v : V) (at now : ℕ) → stores_nothing settings.max_capacity ≡ true → IsLegal eq settings steps
    → reply eq settings (Get q now) (after eq settings (Insert k v at) steps) ≡ Some (Found None)
get-not_stored eq settings steps k q v at now none legal =
    let h : List (Event _ _) = events_in (after eq settings (Insert k v at) steps) in
    ap (λ o. Some (Found (option_map (λ w. w.value) (live_one settings (max (latest h) now) o)))) (standing-empty eq settings none q (after eq settings (Insert k v at) steps) (IsLegal-after eq settings (Insert k v at) steps legal))
