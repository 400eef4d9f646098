-- What a caller finds of a value that it has just inserted, in a cache without an expiry.
use Rattle.std.proofs.Common.{◌≡◌, ℕ, max, Bool, true, false, not, ◌&&◌, cond, if◌then◌else◌, Option, Some, None, List, [], ◌∷◌, ◌++◌, refl, sym, ap, ◌∙◌, subst, ◌+◌, nat_le, arith}
use Rattle.std.specs.Option.{option_map}
use Rattle.std.specs.Cmp.{IsEquivalence}
use Rattle.std.proofs.lemmas.Bool.{cond-true}
use Rattle.moka_model.specs.Lives.{Settings, Lifetimes, Write, no_lifetimes, ends_at, earlier, has_come, given, rest, is_live, live_one, life_given, hit, after_look, after_write, hidden_by}
use Rattle.moka_model.specs.Events.{Event, Looked, TurnedDown, Written, Invalidated, Hidden, Maintained, Passed, Drawn, Taken, latest}
use Rattle.moka_model.specs.Orders.{is_evicted, standing}
use Rattle.moka_model.specs.Numbers.{stores_nothing}
use Rattle.moka_model.specs.Steps.{AcceptedStep, events_in}
use Rattle.moka_model.specs.Calls.{Get, Insert, Found, live_at, flush, after, IsCopyOf}
use Rattle.moka_model.specs.StandsFor.{WholeView, StandsFor, Follows, RepliesWith}
use Rattle.moka_laws.proofs.Written.{is_expired-after_write, after_write-shown, after_write-value}

module _ {K V : Type 0} (eq : K → K → Bool) (settings : Settings K V) where
  -- the entry has no lifetime of its own
  abbrev OwnsNone : Option (Write K V) → Type 0
  OwnsNone None = Unit {0}
  OwnsNone (Some w) = w.own_life ≡ None

  module _ (plain : settings.behaviour.lifetimes ≡ no_lifetimes) where
    -- a write gives none,
    life_given-none : (k : K) (v : V) (at : ℕ) (o : Option (Write K V)) → OwnsNone o → life_given settings k v at o ≡ None
    life_given-none k v at None none = ap (λ (l : Lifetimes K V). l.created k v at) plain
    life_given-none k v at (Some w) none =
        ap (λ (l : Lifetimes K V). if is_live settings w at then l.updated w.key v at (rest w.own_life at) else l.created w.key v at) plain
        ∙ ap (λ own. if is_live settings w at then rest own at else None) none
        ∙ go (is_live settings w at)
      where
        go : (t : Bool) → ◌≡◌ {A = Option ℕ} (if t then None else None) None
        go true = refl
        go false = refl

    written-none : (k : K) (v : V) (at : ℕ) (o : Option (Write K V)) → OwnsNone o → OwnsNone (Some (after_write settings k v at o))
    written-none k v at None none = ap (λ life. given life at) (life_given-none k v at None none)
    written-none k v at (Some w) none = ap (λ life. given life at) (life_given-none k v at (Some w) none)

    -- nor does a lookup
    look-none : (at : ℕ) (o : Option (Write K V)) → OwnsNone o → OwnsNone (option_map (after_look settings at) o)
    look-none at None none = tt
    look-none at (Some w) none = go (is_live settings w at)
      where
        hit-none : (hit settings at w).own_life ≡ None
        hit-none = ap (λ (l : Lifetimes K V). given (l.read w.key w.value at (rest w.own_life at) w.last_modified) at) plain ∙ ap (λ own. given (rest own at) at) none

        go : (t : Bool) → (cond t (hit settings at w) w).own_life ≡ None
        go true = hit-none
        go false = none

    either-none : (t : Bool) (a b : Option (Write K V)) → OwnsNone a → OwnsNone b → OwnsNone (if t then a else b)
    either-none true a b one other = one
    either-none false a b one other = other

    -- so no stored entry has one
    stands-none : (k : K) (h : List (Event K V)) → OwnsNone (standing eq settings k h)
    stands-none k [] = tt
    stands-none k (Looked q at ∷ h) =
        let now : ℕ = latest (Looked q at ∷ h) in
        either-none (eq q k) (option_map (after_look settings now) (standing eq settings k h)) (standing eq settings k h) (look-none now (standing eq settings k h) (stands-none k h)) (stands-none k h)
    stands-none k (TurnedDown q at ∷ h) = stands-none k h
    stands-none k (Written q v at ∷ h) =
        let now : ℕ = latest (Written q v at ∷ h) in
        either-none (eq q k) (Some (after_write settings q v now (standing eq settings k h))) (standing eq settings k h) (written-none q v now (standing eq settings k h) (stands-none k h)) (stands-none k h)
    stands-none k (Invalidated q at ∷ h) = either-none (eq q k) None (standing eq settings k h) tt (stands-none k h)
    stands-none k (Hidden test ∷ h) = hidden (standing eq settings k h) (stands-none k h)
      where
        hidden : (o : Option (Write K V)) → OwnsNone o → OwnsNone (option_map (hidden_by test) o)
        hidden None none = tt
        hidden (Some w) none = none
    stands-none k (Maintained limit at ∷ h) = either-none (is_evicted eq settings k limit at h) None (standing eq settings k h) tt (stands-none k h)
    stands-none k (Passed at ∷ h) = stands-none k h
    stands-none k (Drawn ∷ h) = stands-none k h
    stands-none k (Taken ∷ h) = stands-none k h

    -- The deadline by TTL and TTI of an entry that is written at a moment.
    abbrev pub end_of_lives : ℕ → Option ℕ
    end_of_lives at = earlier (ends_at settings.time_to_live at) (ends_at settings.time_to_idle at)

    -- what a lookup finds after a write, by that deadline
    found_then : (k : K) (v : V) (at now : ℕ) (o : Option (Write K V)) → OwnsNone o → (b : Bool) → has_come (end_of_lives at) now ≡ b
        → option_map (λ (w : Write K V). w.value) (live_one settings now (Some (after_write settings k v at o))) ≡ (if b then None else Some v)
    found_then k v at now o none b come =
        let own : has_come (earlier (end_of_lives at) (ends_at (life_given settings k v at o) at)) now ≡ has_come (end_of_lives at) now =
        ap (λ life. has_come (earlier (end_of_lives at) (ends_at life at)) now) (life_given-none k v at o none) ∙ ap (λ d. has_come d now) (earlier-none (end_of_lives at)) in
        rw (after_write-shown settings k v at o, is_expired-after_write settings k v at o now ∙ own ∙ come) (go b)
      where
        earlier-none : (d : Option ℕ) → earlier d None ≡ d
        earlier-none None = refl
        earlier-none (Some m) = refl

        go : (t : Bool) → option_map (λ (w : Write K V). w.value) (if (true && not t) then Some (after_write settings k v at o) else None) ≡ (if t then None else Some v)
        go true = refl
        go false = ap Some (after_write-value settings k v at o)

module _ {K V E : Type 0} (eq : K → K → Bool) (is_clone : V → V → Type 0) (laws : IsEquivalence eq) (settings : Settings K V) where
  -- the moment of a write after some steps
  abbrev pub moment_of_write : K → V → ℕ → List (AcceptedStep K V E) → ℕ
  moment_of_write k v at steps = latest (events_in (after eq settings (Insert k v at) steps))

  -- what a lookup returns after a write: the value, unless its deadline has come
  answered : (steps : List (AcceptedStep K V E)) (k q : K) (v : V) (at now : ℕ) (plain : settings.behaviour.lifetimes ≡ no_lifetimes) → eq k q ≡ true → stores_nothing settings.max_capacity ≡ false
      → (b : Bool) → has_come (end_of_lives eq settings plain (moment_of_write k v at steps)) (max (moment_of_write k v at steps) now) ≡ b
      → option_map (λ (w : Write K V). w.value) (live_at eq settings q now (events_in (after eq settings (Insert k v at) steps))) ≡ (if b then None else Some v)
  answered steps k q v at now plain same stores b come =
      let h : List (Event K V) = events_in steps in
      let behind : List (Event K V) = flush eq settings at h ++ h in
      let events : events_in (after eq settings (Insert k v at) steps) ≡ Written k v at ∷ behind = ap (λ t. (if t then Passed at ∷ [] else Written k v at ∷ flush eq settings at h) ++ h) stores in
      let now_then : ℕ = max (latest (Written k v at ∷ behind)) now in
      let come_then : has_come (end_of_lives eq settings plain (latest (Written k v at ∷ behind))) now_then ≡ b =
      ap (λ es. has_come (end_of_lives eq settings plain (latest es)) (max (latest es) now)) (sym events) ∙ come in
      ap (λ es. option_map (λ (w : Write K V). w.value) (live_at eq settings q now es)) events
      ∙ ap (λ o. option_map (λ (w : Write K V). w.value) (live_one settings now_then o)) (cond-true (eq k q) (Some (after_write settings k v (latest (Written k v at ∷ behind)) (standing eq settings q behind))) (standing eq settings q behind) same)
      ∙ found_then eq settings plain k v (latest (Written k v at ∷ behind)) now_then (standing eq settings q behind) (stands-none eq settings plain q behind) b come_then

  module _ (before after_it : WholeView K V E) (steps : List (AcceptedStep K V E)) (k q : K) (v : V) (at now : ℕ) (found : Option V)
      (stands : StandsFor eq is_clone settings before steps) (follows : Follows eq is_clone before (Insert k v at) after_it) (replies : RepliesWith eq is_clone after_it (Get q now) (Found found))
      (same : eq k q ≡ true) (plain : settings.behaviour.lifetimes ≡ no_lifetimes) (stores : stores_nothing settings.max_capacity ≡ false) where
    by_answer : IsCopyOf is_clone (option_map (λ (w : Write K V). w.value) (live_at eq settings q now (events_in (after eq settings (Insert k v at) steps)))) found
    by_answer = replies settings (after eq settings (Insert k v at) steps) (follows settings steps stands)

    -- A value that was just inserted is found, as a clone, until its deadline comes,
    pub found-after_insert : has_come (end_of_lives eq settings plain (moment_of_write k v at steps)) (max (moment_of_write k v at steps) now) ≡ false → IsCopyOf is_clone (Some v) found
    found-after_insert lives = subst (λ o. IsCopyOf is_clone o found) (answered steps k q v at now plain same stores false lives) by_answer

    -- and from then on it is not.
    pub none-after_insert : has_come (end_of_lives eq settings plain (moment_of_write k v at steps)) (max (moment_of_write k v at steps) now) ≡ true → found ≡ None
    none-after_insert ended = nothing found (subst (λ o. IsCopyOf is_clone o found) (answered steps k q v at now plain same stores true ended) by_answer)
      where
        nothing : (o : Option V) → IsCopyOf is_clone None o → o ≡ None
        nothing None copy = refl
        nothing (Some w) copy = absurd copy

-- What a caller finds of the first inserted value, in a cache that has only a TTL.
module _ {K V E : Type 0} (eq : K → K → Bool) (is_clone : V → V → Type 0) (laws : IsEquivalence eq) (settings : Settings K V) (plain : settings.behaviour.lifetimes ≡ no_lifetimes)
    (life : ℕ) (live : settings.time_to_live ≡ Some life) (idle : settings.time_to_idle ≡ None) (stores : stores_nothing settings.max_capacity ≡ false)
    (before after_it : WholeView K V E) (k q : K) (v : V) (now : ℕ) (found : Option V) (stands : StandsFor eq is_clone settings before []) (follows : Follows eq is_clone before (Insert k v 0) after_it)
    (replies : RepliesWith eq is_clone after_it (Get q now) (Found found)) (same : eq k q ≡ true) where
  abbrev moment : ℕ
  moment = moment_of_write {E = E} eq is_clone laws settings k v 0 []

  -- the same, by whether the cache stores anything
  abbrev moment_if : Bool → ℕ
  moment_if t = latest ((if t then Passed 0 ∷ [] else Written k v 0 ∷ flush eq settings 0 []) ++ [])

  -- an entry written at moment 0 has reached its deadline once the TTL has passed
  come : has_come (end_of_lives eq settings plain moment) (max moment now) ≡ nat_le life now
  come =
      ap (λ t. has_come (end_of_lives eq settings plain (moment_if t)) (max (moment_if t) now)) stores
      ∙ ap (λ (l : Option ℕ). has_come (earlier (ends_at l 0) (ends_at settings.time_to_idle 0)) (max 0 now)) live
      ∙ ap (λ (i : Option ℕ). has_come (earlier (Some (0 + life)) (ends_at i 0)) (max 0 now)) idle
      ∙ ap (λ (end : ℕ). nat_le end (max 0 now)) (omega (arith))
      ∙ ap (λ (at : ℕ). nat_le life at) (omega (arith))

  -- The first inserted value, at moment 0, is found, as a clone, until the TTL has passed, and not from then on.
  pub found-in_time : (b : Bool) → nat_le life now ≡ b → IsCopyOf is_clone (if b then None else Some v) found
  found-in_time false early = found-after_insert eq is_clone laws settings before after_it [] k q v 0 now found stands follows replies same plain stores (come ∙ early)
  found-in_time true late =
      subst (λ o. IsCopyOf is_clone None o) (sym (none-after_insert eq is_clone laws settings before after_it [] k q v 0 now found stands follows replies same plain stores (come ∙ late))) tt
