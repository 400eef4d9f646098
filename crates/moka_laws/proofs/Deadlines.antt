-- No life's end is undone, and no number comes again.
use Rattle.std.proofs.Common.{◌≡◌, ◌↔◌, ◌⊎◌, inl, inr, ⊎_elim, ℕ, max, min, ◌+◌, ◌≤◌, length, filter, Bool, true, false, not, ◌&&◌, ◌||◌, if◌then◌else◌, is_some, Option, Some, None, List, [], ◌∷◌, ◌++◌, refl, sym, ap, ◌∙◌, subst, arith}
use Rattle.std.specs.Option.{option_map}
use Rattle.std.proofs.lemmas.Bool.{cond-false, leb-true, le-leb}
use Rattle.moka_model.specs.Lives.{Settings, Write, OwnLife, ends_at, earlier, has_come, own_end, deadline, is_expired, is_live, live_one, hit, after_look, hidden_by}
use Rattle.moka_model.specs.Events.{Event, Looked, TurnedDown, Written, Invalidated, Hidden, Maintained, Passed, Drawn, Taken, latest}
use Rattle.moka_model.specs.Orders.{live, is_evicted, standing}
use Rattle.moka_model.specs.Numbers.{drawn, next_number}
use Rattle.moka_model.specs.Steps.{AcceptedStep, events_in}
use Rattle.moka_model.specs.Calls.{Get, ContainsKey, Found, Contains, live_at, after}
use Rattle.moka_model.proofs.Callers.{events_in-append}
use Rattle.moka_laws.specs.Laws.{reply, writes, IsUnwritten, IsUntouched, hidden_since, HasEnded, OwnHasEnded, draws}

-- the latest moment never falls
pub latest-more : {K V : Type 0} (later h : List (Event K V)) → latest h ≤ latest (later ++ h)
latest-more [] h = omega arith
latest-more (e ∷ later) h = let ih : latest h ≤ latest (later ++ h) = latest-more later h in omega arith

-- a deadline that has come has come at each later moment
pub has_come-later : (d : Option ℕ) (at later : ℕ) → at ≤ later → has_come d at ≡ true → has_come d later ≡ true
has_come-later None at later le come = come
has_come-later (Some d) at later le come = le-leb d later (let h = leb-true d at come in omega arith)

-- the next number never falls
pub next_number-more : {K V : Type 0} (settings : Settings K V) (later h : List (Event K V)) → next_number settings h ≤ next_number settings (later ++ h)
next_number-more settings [] h = omega arith
next_number-more settings (e ∷ later) h = let ih : next_number settings h ≤ next_number settings (later ++ h) = next_number-more settings later h in omega arith

-- an event that draws a number draws one, and another none
drawn-draws : {K V : Type 0} (e : Event K V) (h : List (Event K V)) → length (filter draws (e ∷ h)) ≡ length (filter draws h) + drawn e
drawn-draws (Looked q at) h = omega arith
drawn-draws (TurnedDown q at) h = omega arith
drawn-draws (Written q v at) h = omega arith
drawn-draws (Invalidated q at) h = omega arith
drawn-draws (Hidden test) h = omega arith
drawn-draws (Maintained limit at) h = omega arith
drawn-draws (Passed at) h = omega arith
drawn-draws Drawn h = omega arith
drawn-draws Taken h = omega arith

-- the next number is the first plus as many as were drawn
pub next_number-counted : {K V : Type 0} (settings : Settings K V) (h : List (Event K V)) → next_number settings h ≡ settings.first_number + length (filter draws h)
next_number-counted settings [] = omega arith
next_number-counted settings (e ∷ h) =
    let before = next_number-counted settings h in
    let here = drawn-draws e h in
    omega arith

-- what draws one makes it greater
pub next_number-drawn : {K V : Type 0} (settings : Settings K V) (e : Event K V) (h : List (Event K V)) → draws e ≡ true → next_number settings (e ∷ h) ≡ next_number settings h + 1
next_number-drawn settings (Looked q at) h draws_it = absurd (cc)
next_number-drawn settings (TurnedDown q at) h draws_it = absurd (cc)
next_number-drawn settings (Written q v at) h draws_it = refl
next_number-drawn settings (Invalidated q at) h draws_it = absurd (cc)
next_number-drawn settings (Hidden test) h draws_it = absurd (cc)
next_number-drawn settings (Maintained limit at) h draws_it = absurd (cc)
next_number-drawn settings (Passed at) h draws_it = absurd (cc)
next_number-drawn settings Drawn h draws_it = refl
next_number-drawn settings Taken h draws_it = absurd (cc)

-- of two deadlines the earlier has come where one of them has
pub has_come-earlier : (a b : Option ℕ) (at : ℕ) → (has_come (earlier a b) at ≡ true) ↔ ((has_come a at ≡ true) ⊎ (has_come b at ≡ true))
has_come-earlier None b at = (λ come. inr come, λ either. ⊎_elim (λ none. absurd (cc)) (λ come. come) either)
has_come-earlier (Some m) None at = (λ come. inl come, λ either. ⊎_elim (λ come. come) (λ none. absurd (cc)) either)
has_come-earlier (Some m) (Some n) at = (
  λ come. let le = leb-true (min m n) at come in let either : (m ≤ at) ⊎ (n ≤ at) = grind arith in ⊎_elim (λ h. inl (le-leb m at h)) (λ h. inr (le-leb n at h)) either,
  λ either. ⊎_elim (λ h. le-leb (min m n) at (let le = leb-true m at h in omega arith)) (λ h. le-leb (min m n) at (let le = leb-true n at h in omega arith)) either,
)

-- the end of a life has come where it has ended
has_come-life : (life : Option ℕ) (from at : ℕ) → (has_come (ends_at life from) at ≡ true) ↔ HasEnded life from at
has_come-life None from at = (λ come. absurd (cc), λ h. let none = h.1 in absurd (cc))
has_come-life (Some m) from at = (λ come. (m, refl, leb-true (from + m) at come), λ h. let same = h.1 in let it : m ≡ h.0 = cc in let le = h.2 in le-leb (from + m) at (omega arith))

-- and so has that of a life of its own
has_come-own : (own : Option OwnLife) (at : ℕ) → (has_come (own_end own) at ≡ true) ↔ OwnHasEnded own at
has_come-own None at = (λ come. absurd (cc), λ h. let none = h.1 in absurd (cc))
has_come-own (Some it) at = (λ come. (it, refl, leb-true (it.from + it.life) at come), λ h. let is = h.1 in let same : it ≡ h.0 = cc in le-leb (it.from + it.life) at (subst (λ (o : OwnLife). o.from + o.life ≤ at) (sym same) h.2))

-- a write is expired where one of its lives has ended
pub is_expired-ended : {K V : Type 0} (settings : Settings K V) (w : Write K V) (at : ℕ)
    → (is_expired settings w at ≡ true) ↔ (HasEnded settings.time_to_live w.last_modified at ⊎ HasEnded settings.time_to_idle w.last_accessed at ⊎ OwnHasEnded w.own_life at)
is_expired-ended settings w at =
    let live = ends_at settings.time_to_live w.last_modified in
    let idle = ends_at settings.time_to_idle w.last_accessed in
    let whole = has_come-earlier (earlier live idle) (own_end w.own_life) at in
    let shared = has_come-earlier live idle at in
    let by_live = has_come-life settings.time_to_live w.last_modified at in
    let by_idle = has_come-life settings.time_to_idle w.last_accessed at in
    let by_own = has_come-own w.own_life at in (
      λ come. ⊎_elim (λ s. ⊎_elim (λ c. inl (by_live.0 c)) (λ c. inr (inl (by_idle.0 c))) (shared.0 s)) (λ c. inr (inr (by_own.0 c))) (whole.0 come),
      λ ended. whole.1 (⊎_elim (λ e. inl (shared.1 (inl (by_live.1 e)))) (λ more. ⊎_elim (λ e. inl (shared.1 (inr (by_idle.1 e)))) (λ e. inr (by_own.1 e)) more) ended),
    )

-- what is not live is hidden or expired
pub is_live-exactly : {K V : Type 0} (settings : Settings K V) (w : Write K V) (at : ℕ) → (is_live settings w at ≡ true) ↔ ((w.is_hidden ≡ false) × (is_expired settings w at ≡ false))
is_live-exactly settings w at = (to w.is_hidden (is_expired settings w at), from w.is_hidden (is_expired settings w at))
  where
    to : (s t : Bool) → (not s && not t) ≡ true → (s ≡ false) × (t ≡ false)
    to false false e = (refl, refl)
    to false true e = cc
    to true t e = cc

    from : (s t : Bool) → (s ≡ false) × (t ≡ false) → (not s && not t) ≡ true
    from false false e = refl
    from false true e = let no = e.1 in cc
    from true t e = let no = e.0 in cc

-- a dead write is dead at each later moment
pub dead-later : {K V : Type 0} (settings : Settings K V) (w : Write K V) (at later : ℕ) → at ≤ later → is_live settings w at ≡ false → is_live settings w later ≡ false
dead-later settings w at later le dead = go w.is_hidden (is_expired settings w at) refl dead
  where
    still : (s : Bool) → is_expired settings w later ≡ true → (not s && not (is_expired settings w later)) ≡ false
    still true gone = refl
    still false gone = ap not gone

    go : (s t : Bool) → is_expired settings w at ≡ t → (not s && not t) ≡ false → (not s && not (is_expired settings w later)) ≡ false
    go true t is e = refl
    go false true is e = still false (has_come-later (deadline settings w) at later le is)
    go false false is e = cc

-- so it is where it is hidden once more
dead-hidden : {K V : Type 0} (settings : Settings K V) (test : K → V → Bool) (w : Write K V) (at : ℕ) → is_live settings w at ≡ false → is_live settings (hidden_by test w) at ≡ false
dead-hidden settings test w at dead = go w.is_hidden (test w.key w.value) (is_expired settings w at) dead
  where
    go : (s u t : Bool) → (not s && not t) ≡ false → (not (s || u) && not t) ≡ false
    go true u t e = refl
    go false true t e = refl
    go false false t e = e

module _ {K V : Type 0} (eq : K → K → Bool) (settings : Settings K V) (k : K) where
  -- what hides a write leaves it dead
  dead-hidden_since : (later : List (Event K V)) (w : Write K V) (at : ℕ) → is_live settings w at ≡ false → is_live settings (hidden_since later w) at ≡ false
  dead-hidden_since [] w at dead = dead
  dead-hidden_since (Looked q t ∷ later) w at dead = dead-hidden_since later w at dead
  dead-hidden_since (TurnedDown q t ∷ later) w at dead = dead-hidden_since later w at dead
  dead-hidden_since (Written q v t ∷ later) w at dead = dead-hidden_since later w at dead
  dead-hidden_since (Invalidated q t ∷ later) w at dead = dead-hidden_since later w at dead
  dead-hidden_since (Hidden test ∷ later) w at dead = dead-hidden settings test (hidden_since later w) at (dead-hidden_since later w at dead)
  dead-hidden_since (Maintained limit t ∷ later) w at dead = dead-hidden_since later w at dead
  dead-hidden_since (Passed t ∷ later) w at dead = dead-hidden_since later w at dead
  dead-hidden_since (Drawn ∷ later) w at dead = dead-hidden_since later w at dead
  dead-hidden_since (Taken ∷ later) w at dead = dead-hidden_since later w at dead

  -- a dead write stays as it is until its key is written or removed, but that it may be hidden
  pub dead_stays : (later h : List (Event K V)) (w : Write K V) → standing eq settings k h ≡ Some w → is_live settings w (latest h) ≡ false → IsUntouched eq settings k later h → standing eq settings k (later ++ h) ≡ Some (hidden_since later w)
  dead_stays [] h w stands gone u = stands
  dead_stays (Looked q at ∷ later) h w stands gone u = rw (dead_stays later h w stands gone u.1) (look (eq q k))
    where
      now : ℕ
      now = latest (Looked q at ∷ later ++ h)

      it : Write K V
      it = hidden_since later w

      still : is_live settings it now ≡ false
      still = dead-hidden_since later w now (dead-later settings w (latest h) now (latest-more (Looked q at ∷ later) h) gone)

      kept : after_look settings now it ≡ it
      kept = cond-false (is_live settings it now) (hit settings now it) it still

      look : (t : Bool) → (if t then option_map (after_look settings now) (Some it) else Some it) ≡ Some it
      look true = ap Some kept
      look false = refl
  dead_stays (TurnedDown q at ∷ later) h w stands gone u = dead_stays later h w stands gone u.1
  dead_stays (Written q v at ∷ later) h w stands gone u = rw (u.0) (dead_stays later h w stands gone u.1)
  dead_stays (Invalidated q at ∷ later) h w stands gone u = rw (u.0) (dead_stays later h w stands gone u.1)
  dead_stays (Hidden test ∷ later) h w stands gone u = ap (option_map (hidden_by test)) (dead_stays later h w stands gone u.1)
  dead_stays (Maintained limit at ∷ later) h w stands gone u = rw (u.0) (dead_stays later h w stands gone u.1)
  dead_stays (Passed at ∷ later) h w stands gone u = dead_stays later h w stands gone u.1
  dead_stays (Drawn ∷ later) h w stands gone u = dead_stays later h w stands gone u.1
  dead_stays (Taken ∷ later) h w stands gone u = dead_stays later h w stands gone u.1

  -- no live write stands at a moment
  abbrev pub IsUnseen : Option (Write K V) → ℕ → Type 0
  IsUnseen None at = Unit {0}
  IsUnseen (Some w) at = is_live settings w at ≡ false

  -- nor at a later one
  pub IsUnseen-later : (o : Option (Write K V)) (at later : ℕ) → at ≤ later → IsUnseen o at → IsUnseen o later
  IsUnseen-later None at later le unseen = tt
  IsUnseen-later (Some w) at later le unseen = dead-later settings w at later le unseen

  -- a look makes no write live
  IsUnseen-look : (t : Bool) (o : Option (Write K V)) (at : ℕ) → IsUnseen o at → IsUnseen (if t then option_map (after_look settings at) o else o) at
  IsUnseen-look false o at unseen = unseen
  IsUnseen-look true None at unseen = tt
  IsUnseen-look true (Some w) at unseen =
      let kept : w ≡ after_look settings at w = sym (cond-false (is_live settings w at) (hit settings at w) w unseen) in
      subst (λ (u : Write K V). is_live settings u at ≡ false) kept unseen

  -- nor does a removal
  IsUnseen-removal : (t : Bool) (o : Option (Write K V)) (at : ℕ) → IsUnseen o at → IsUnseen (if t then None else o) at
  IsUnseen-removal false o at unseen = unseen
  IsUnseen-removal true o at unseen = tt

  -- nor a hiding
  IsUnseen-hidden : (test : K → V → Bool) (o : Option (Write K V)) (at : ℕ) → IsUnseen o at → IsUnseen (option_map (hidden_by test) o) at
  IsUnseen-hidden test None at unseen = tt
  IsUnseen-hidden test (Some w) at unseen = dead-hidden settings test w at unseen

  -- where no live write stands, none does until the key is written
  pub unseen_from : (later h : List (Event K V)) → IsUnwritten eq k later → IsUnseen (standing eq settings k h) (latest h) → IsUnseen (standing eq settings k (later ++ h)) (latest (later ++ h))
  unseen_from [] h u unseen = unseen
  unseen_from (e ∷ later) h u unseen = next e u.0 (IsUnseen-later (standing eq settings k (later ++ h)) (latest (later ++ h)) (latest (e ∷ later ++ h)) (omega arith) (unseen_from later h u.1 unseen))
    where
      next : (e : Event K V) → writes eq k e ≡ false → IsUnseen (standing eq settings k (later ++ h)) (latest (e ∷ later ++ h)) → IsUnseen (standing eq settings k (e ∷ later ++ h)) (latest (e ∷ later ++ h))
      next (Looked q at) apart here = IsUnseen-look (eq q k) (standing eq settings k (later ++ h)) (latest (Looked q at ∷ later ++ h)) here
      next (TurnedDown q at) apart here = here
      next (Written q v at) apart here = rw apart here
      next (Invalidated q at) apart here = IsUnseen-removal (eq q k) (standing eq settings k (later ++ h)) (latest (Invalidated q at ∷ later ++ h)) here
      next (Hidden test) apart here = IsUnseen-hidden test (standing eq settings k (later ++ h)) (latest (Hidden test ∷ later ++ h)) here
      next (Maintained limit at) apart here = IsUnseen-removal (is_evicted eq settings k limit at (later ++ h)) (standing eq settings k (later ++ h)) (latest (Maintained limit at ∷ later ++ h)) here
      next (Passed at) apart here = here
      next Drawn apart here = here
      next Taken apart here = here

  -- what a look finds nothing of is not seen
  unseen_by : (o : Option (Write K V)) (at : ℕ) → option_map (λ w. w.value) (live_one settings at o) ≡ None → IsUnseen o at
  unseen_by None at missed = tt
  unseen_by (Some w) at missed = go (is_live settings w at) missed
    where
      go : (t : Bool) → option_map (λ (u : Write K V). u.value) (if t then Some w else None) ≡ None → t ≡ false
      go false _ = refl
      go true found = absurd (cc)

  -- and what is not seen no look finds
  pub live-unseen : (o : Option (Write K V)) (at : ℕ) → IsUnseen o at → live_one settings at o ≡ None
  live-unseen None at unseen = refl
  live-unseen (Some w) at unseen = cond-false (is_live settings w at) (Some w) None unseen

  -- after a look that finds nothing, nothing is live until the key is written
  live-missed : (later h : List (Event K V)) (at now : ℕ) → option_map (λ w. w.value) (live_one settings (latest (Looked k at ∷ h)) (standing eq settings k h)) ≡ None → IsUnwritten eq k later → live eq settings k (max (latest (later ++ Looked k at ∷ h)) now) (later ++ Looked k at ∷ h) ≡ None
  live-missed later h at now nothing u =
      live-unseen (standing eq settings k (later ++ Looked k at ∷ h)) (max (latest (later ++ Looked k at ∷ h)) now)
      (IsUnseen-later (standing eq settings k (later ++ Looked k at ∷ h)) (latest (later ++ Looked k at ∷ h)) (max (latest (later ++ Looked k at ∷ h)) now) (omega arith)
      (unseen_from later (Looked k at ∷ h) u (IsUnseen-look (eq k k) (standing eq settings k h) (latest (Looked k at ∷ h)) (unseen_by (standing eq settings k h) (latest (Looked k at ∷ h)) nothing))))

  -- so no look finds anything
  pub looks-missed : {E : Type 0} (later steps : List (AcceptedStep K V E)) (at now : ℕ) → reply eq settings (Get k at) steps ≡ Some (Found None) → IsUnwritten eq k (events_in later)
      → (reply eq settings (Get k now) (later ++ after eq settings (Get k at) steps) ≡ Some (Found None)) × (reply eq settings (ContainsKey k now) (later ++ after eq settings (Get k at) steps) ≡ Some (Contains false))
  looks-missed later steps at now missed u =
      let h : List (Event K V) = events_in steps in
      let nothing : option_map (λ (w : Write K V). w.value) (live_one settings (latest (Looked k at ∷ h)) (standing eq settings k h)) ≡ None = cc in
      let joined : events_in (later ++ after eq settings (Get k at) steps) ≡ events_in later ++ Looked k at ∷ h = events_in-append later (after eq settings (Get k at) steps) in
      let gone = live-missed (events_in later) h at now nothing u in (
        ap (λ es. Some (Found (option_map (λ (w : Write K V). w.value) (live_at eq settings k now es)))) joined ∙ ap (λ o. Some (Found (option_map (λ (w : Write K V). w.value) o))) gone,
        ap (λ es. Some (Contains (is_some (live_at eq settings k now es)))) joined ∙ ap (λ o. Some (Contains (is_some o))) gone,
      )
