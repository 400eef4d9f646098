-- At which events the expiry is asked, and what is left of a life of its own.
use Rattle.std.proofs.Common.{◌≡◌, inr, ⊎_elim, ℕ, ◌+◌, ◌-◌, ◌<◌, ◌≤◌, Bool, true, false, ◌&&◌, cond, is_some, nat_le, Option, Some, None, List, [], ◌∷◌, refl, sym, ap, ◌∙◌, subst, arith}
use Rattle.std.specs.Option.{option_map}
use Rattle.std.specs.Cmp.{IsEquivalence}
use Rattle.std.proofs.lemmas.Bool.{cases_Bool, cond-true, cond-false, cond_both, true≢false, leb-true, leb-false}
use Rattle.moka_model.specs.Lives.{Settings, OwnLife, Write, no_lifetimes, given, rest, is_live, live_one, hit, after_look, life_given, after_write, hidden_by}
use Rattle.moka_model.specs.Events.{Event, Looked, TurnedDown, Written, Invalidated, Hidden, Maintained, Passed, Drawn, Taken, latest}
use Rattle.moka_model.specs.Orders.{is_evicted, standing, live}
use Rattle.moka_laws.specs.Laws.{hidden_since}
use Rattle.moka_laws.specs.OwnLifeLaws.{asks}
use Rattle.moka_laws.proofs.Deadlines.{is_expired-ended, is_live-exactly}
use Rattle.moka_model.proofs.Callers.{standing-holds}

module _ {K V : Type 0} (settings : Settings K V) where
  -- the life that a write gives where nothing live stands,
  own-created : (q : K) (v : V) (at : ℕ) (o : Option (Write K V)) (w : Write K V) → live_one settings at o ≡ None → Some (after_write settings q v at o) ≡ Some w → w.own_life ≡ given (settings.behaviour.lifetimes.created w.key v at) at
  own-created q v at None w none is =
      let same : after_write settings q v at None ≡ w = cc in
      subst (λ (x : Write K V). x.own_life ≡ given (settings.behaviour.lifetimes.created x.key v at) at) same refl
  own-created q v at (Some u) w none is =
      let same : after_write settings q v at (Some u) ≡ w = cc in
      let dead : is_live settings u at ≡ false = dead_one (is_live settings u at) none in
      subst (λ (x : Write K V). x.own_life ≡ given (settings.behaviour.lifetimes.created x.key v at) at) same
      (ap (λ t. given (cond t (settings.behaviour.lifetimes.updated u.key v at (rest u.own_life at)) (settings.behaviour.lifetimes.created u.key v at)) at) dead)
    where
      dead_one : (t : Bool) → cond t (Some u) None ≡ None → t ≡ false
      dead_one true e = cc
      dead_one false e = refl

  -- what is live at a moment is the one that stands, live
  live_one-is : (at : ℕ) (o : Option (Write K V)) (old : Write K V) → live_one settings at o ≡ Some old → (o ≡ Some old) × (is_live settings old at ≡ true)
  live_one-is at None old is = cc
  live_one-is at (Some u) old is = go (is_live settings u at) refl is
    where
      go : (t : Bool) → is_live settings u at ≡ t → cond t (Some u) None ≡ Some old → (Some u ≡ Some old) × (is_live settings old at ≡ true)
      go true e is = let same : u ≡ old = cc in (is, subst (λ (x : Write K V). is_live settings x at ≡ true) same e)
      go false e is = cc

  -- and over a live one,
  own-updated : (q : K) (v : V) (at : ℕ) (o : Option (Write K V)) (old w : Write K V) → live_one settings at o ≡ Some old → Some (after_write settings q v at o) ≡ Some w → w.own_life ≡ given (settings.behaviour.lifetimes.updated w.key v at (rest old.own_life at)) at
  own-updated q v at o old w found is =
      let there = live_one-is at o old found in
      let same : after_write settings q v at (Some old) ≡ w = let e = ap (λ u. Some (after_write settings q v at u)) (sym there.0) ∙ is in cc in
      subst (λ (x : Write K V). x.own_life ≡ given (settings.behaviour.lifetimes.updated x.key v at (rest old.own_life at)) at) same
      (ap (λ t. given (cond t (settings.behaviour.lifetimes.updated old.key v at (rest old.own_life at)) (settings.behaviour.lifetimes.created old.key v at)) at) there.1)

  -- and that of a hit
  own-read : (at : ℕ) (o : Option (Write K V)) (old w : Write K V) → live_one settings at o ≡ Some old → option_map (after_look settings at) o ≡ Some w → w.own_life ≡ given (settings.behaviour.lifetimes.read w.key w.value at (rest old.own_life at) old.last_modified) at
  own-read at o old w found is =
      let there = live_one-is at o old found in
      let hits : option_map (after_look settings at) o ≡ Some (hit settings at old) = ap (option_map (after_look settings at)) there.0 ∙ ap (λ t. Some (cond t (hit settings at old) old)) there.1 in
      let same : hit settings at old ≡ w = let e = sym hits ∙ is in cc in
      subst (λ (x : Write K V). x.own_life ≡ given (settings.behaviour.lifetimes.read x.key x.value at (rest old.own_life at) old.last_modified) at) same refl

  -- a look that hits nothing leaves what stands as it was
  after_look-kept : (at : ℕ) (o : Option (Write K V)) → is_some (live_one settings at o) ≡ false → option_map (after_look settings at) o ≡ o
  after_look-kept at None none = refl
  after_look-kept at (Some u) none = go (is_live settings u at) none
    where
      go : (t : Bool) → is_some (cond t (Some u) None) ≡ false → Some (cond t (hit settings at u) u) ≡ Some u
      go true e = cc
      go false e = refl

module _ {K V : Type 0} (eq : K → K → Bool) (settings : Settings K V) (k : K) where
  pub created-own : (h : List (Event K V)) (q : K) (v : V) (at : ℕ) (w : Write K V) → eq q k ≡ true → live eq settings k (latest (Written q v at ∷ h)) h ≡ None → standing eq settings k (Written q v at ∷ h) ≡ Some w
      → w.own_life ≡ given (settings.behaviour.lifetimes.created w.key v (latest (Written q v at ∷ h))) (latest (Written q v at ∷ h))
  created-own h q v at w same none stands =
      let now : ℕ = latest (Written q v at ∷ h) in
      own-created settings q v now (standing eq settings k h) w none (sym (cond-true (eq q k) (Some (after_write settings q v now (standing eq settings k h))) (standing eq settings k h) same) ∙ stands)

  pub updated-own : (h : List (Event K V)) (q : K) (v : V) (at : ℕ) (old w : Write K V) → eq q k ≡ true → live eq settings k (latest (Written q v at ∷ h)) h ≡ Some old → standing eq settings k (Written q v at ∷ h) ≡ Some w
      → w.own_life ≡ given (settings.behaviour.lifetimes.updated w.key v (latest (Written q v at ∷ h)) (rest old.own_life (latest (Written q v at ∷ h)))) (latest (Written q v at ∷ h))
  updated-own h q v at old w same found stands =
      let now : ℕ = latest (Written q v at ∷ h) in
      own-updated settings q v now (standing eq settings k h) old w found (sym (cond-true (eq q k) (Some (after_write settings q v now (standing eq settings k h))) (standing eq settings k h) same) ∙ stands)

  pub read-own : (h : List (Event K V)) (q : K) (at : ℕ) (old w : Write K V) → eq q k ≡ true → live eq settings k (latest (Looked q at ∷ h)) h ≡ Some old → standing eq settings k (Looked q at ∷ h) ≡ Some w
      → w.own_life ≡ given (settings.behaviour.lifetimes.read w.key w.value (latest (Looked q at ∷ h)) (rest old.own_life (latest (Looked q at ∷ h))) old.last_modified) (latest (Looked q at ∷ h))
  read-own h q at old w same found stands =
      let now : ℕ = latest (Looked q at ∷ h) in
      own-read settings now (standing eq settings k h) old w found (sym (cond-true (eq q k) (option_map (after_look settings now) (standing eq settings k h)) (standing eq settings k h) same) ∙ stands)

  -- what stands after an event that takes it or leaves it stood before
  kept_or_taken : (t : Bool) (o : Option (Write K V)) (w : Write K V) → cond t None o ≡ Some w → o ≡ Some w
  kept_or_taken true o w stands = cc
  kept_or_taken false o w stands = stands

  -- where the expiry is not asked, what stands stood before, just so but for a hiding
  abbrev StoodBefore : Event K V → List (Event K V) → Write K V → Type 0
  StoodBefore e h w = (u : Write K V) × (standing eq settings k h ≡ Some u) × (w ≡ hidden_since (e ∷ []) u)

  pub not_asked : (h : List (Event K V)) (e : Event K V) (w : Write K V) → asks eq settings k e h ≡ false → standing eq settings k (e ∷ h) ≡ Some w → StoodBefore e h w
  not_asked h (Looked q at) w apart stands = (w, go (eq q k) apart stands, refl)
    where
      go : (t : Bool) → (t && is_some (live_one settings (latest (Looked q at ∷ h)) (standing eq settings k h))) ≡ false → cond t (option_map (after_look settings (latest (Looked q at ∷ h))) (standing eq settings k h)) (standing eq settings k h) ≡ Some w → standing eq settings k h ≡ Some w
      go true none stands = sym (after_look-kept settings (latest (Looked q at ∷ h)) (standing eq settings k h) none) ∙ stands
      go false none stands = stands
  not_asked h (TurnedDown q at) w apart stands = (w, stands, refl)
  not_asked h (Written q v at) w apart stands = (w, sym (cond-false (eq q k) (Some (after_write settings q v (latest (Written q v at ∷ h)) (standing eq settings k h))) (standing eq settings k h) apart) ∙ stands, refl)
  not_asked h (Invalidated q at) w apart stands = (w, kept_or_taken (eq q k) (standing eq settings k h) w stands, refl)
  not_asked h (Hidden test) w apart stands = hidden_one (standing eq settings k h) refl stands
    where
      hidden_one : (o : Option (Write K V)) → standing eq settings k h ≡ o → option_map (hidden_by test) o ≡ Some w → StoodBefore (Hidden test) h w
      hidden_one None is stands = absurd (cc)
      hidden_one (Some u) is stands = (u, is, cc)
  not_asked h (Maintained limit at) w apart stands = (w, kept_or_taken (is_evicted eq settings k limit at h) (standing eq settings k h) w stands, refl)
  not_asked h (Passed at) w apart stands = (w, stands, refl)
  not_asked h Drawn w apart stands = (w, stands, refl)
  not_asked h Taken w apart stands = (w, stands, refl)

  -- a life counts from no later than a moment
  abbrev IsFromBefore : ℕ → Option OwnLife → Type 0
  IsFromBefore at None = Unit {0}
  IsFromBefore at (Some it) = it.from ≤ at

  abbrev StandsFromBefore : ℕ → Option (Write K V) → Type 0
  StandsFromBefore at None = Unit {0}
  StandsFromBefore at (Some w) = IsFromBefore at w.own_life

  IsFromBefore-given : (life : Option ℕ) (at : ℕ) → IsFromBefore at (given life at)
  IsFromBefore-given None at = tt
  IsFromBefore-given (Some n) at = omega arith

  IsFromBefore-later : (own : Option OwnLife) (at later : ℕ) → at ≤ later → IsFromBefore at own → IsFromBefore later own
  IsFromBefore-later None at later le before = tt
  IsFromBefore-later (Some it) at later le before = omega arith

  StandsFromBefore-later : (o : Option (Write K V)) (at later : ℕ) → at ≤ later → StandsFromBefore at o → StandsFromBefore later o
  StandsFromBefore-later None at later le before = tt
  StandsFromBefore-later (Some w) at later le before = IsFromBefore-later w.own_life at later le before

  StandsFromBefore-write : (q : K) (v : V) (at : ℕ) (o : Option (Write K V)) → StandsFromBefore at (Some (after_write settings q v at o))
  StandsFromBefore-write q v at None = IsFromBefore-given (life_given settings q v at None) at
  StandsFromBefore-write q v at (Some w) = IsFromBefore-given (life_given settings q v at (Some w)) at

  StandsFromBefore-hidden : (test : K → V → Bool) (at : ℕ) (o : Option (Write K V)) → StandsFromBefore at o → StandsFromBefore at (option_map (hidden_by test) o)
  StandsFromBefore-hidden test at None before = tt
  StandsFromBefore-hidden test at (Some w) before = before

  StandsFromBefore-look : (at : ℕ) (o : Option (Write K V)) → StandsFromBefore at o → StandsFromBefore at (option_map (after_look settings at) o)
  StandsFromBefore-look at None before = tt
  StandsFromBefore-look at (Some w) before =
      cond_both (is_live settings w at) (hit settings at w) w (λ (u : Write K V). IsFromBefore at u.own_life) (λ _. IsFromBefore-given (settings.behaviour.lifetimes.read w.key w.value at (rest w.own_life at) w.last_modified) at) (λ _. before)

  stands_from_before : (h : List (Event K V)) → StandsFromBefore (latest h) (standing eq settings k h)
  stands_from_before [] = tt
  stands_from_before (e ∷ h) = at_event e (StandsFromBefore-later (standing eq settings k h) (latest h) (latest (e ∷ h)) (omega arith) (stands_from_before h))
    where
      at_event : (e : Event K V) → StandsFromBefore (latest (e ∷ h)) (standing eq settings k h) → StandsFromBefore (latest (e ∷ h)) (standing eq settings k (e ∷ h))
      at_event (Looked q at) before =
          cond_both (eq q k) (option_map (after_look settings (latest (Looked q at ∷ h))) (standing eq settings k h)) (standing eq settings k h) (StandsFromBefore (latest (Looked q at ∷ h))) (λ _. StandsFromBefore-look (latest (Looked q at ∷ h)) (standing eq settings k h) before) (λ _. before)
      at_event (TurnedDown q at) before = before
      at_event (Written q v at) before =
          cond_both (eq q k) (Some (after_write settings q v (latest (Written q v at ∷ h)) (standing eq settings k h))) (standing eq settings k h) (StandsFromBefore (latest (Written q v at ∷ h))) (λ _. StandsFromBefore-write q v (latest (Written q v at ∷ h)) (standing eq settings k h)) (λ _. before)
      at_event (Invalidated q at) before = cond_both (eq q k) None (standing eq settings k h) (StandsFromBefore (latest (Invalidated q at ∷ h))) (λ _. tt) (λ _. before)
      at_event (Hidden test) before = StandsFromBefore-hidden test (latest (Hidden test ∷ h)) (standing eq settings k h) before
      at_event (Maintained limit at) before = cond_both (is_evicted eq settings k limit at h) None (standing eq settings k h) (StandsFromBefore (latest (Maintained limit at ∷ h))) (λ _. tt) (λ _. before)
      at_event (Passed at) before = before
      at_event Drawn before = before
      at_event Taken before = before

  pub own-from : (h : List (Event K V)) (w : Write K V) (it : OwnLife) → standing eq settings k h ≡ Some w → w.own_life ≡ Some it → it.from ≤ latest h
  own-from h w it stands own = subst (IsFromBefore (latest h)) own (subst (StandsFromBefore (latest h)) stands (stands_from_before h))

  -- so what is left of it is its end without the moment
  pub own-rest : (h : List (Event K V)) (w : Write K V) (it : OwnLife) (at : ℕ) → standing eq settings k h ≡ Some w → w.own_life ≡ Some it → latest h ≤ at → rest w.own_life at ≡ Some (it.from + it.life - at)
  own-rest h w it at stands own le =
      let from = own-from h w it stands own in
      let same : it.life - (at - it.from) ≡ it.from + it.life - at = omega arith in
      ap (λ o. rest o at) own ∙ ap Some same

-- a live value has not reached the end of its own life
pub own-live : {K V : Type 0} (settings : Settings K V) (w : Write K V) (it : OwnLife) (at : ℕ) → w.own_life ≡ Some it → is_live settings w at ≡ true → at < it.from + it.life
own-live settings w it at own live =
    ⊎_elim
    (λ ended. let expired = (is_expired-ended settings w at).1 (inr (inr (it, own, leb-true (it.from + it.life) at ended))) in absurd (true≢false (sym expired ∙ ((is_live-exactly settings w at).0 live).1)))
    (λ before. leb-false (it.from + it.life) at before)
    (cases_Bool (nat_le (it.from + it.life) at))

-- without an expiry no value has one
pub own-none : {K V : Type 0} (eq : K → K → Bool) (settings : Settings K V) → IsEquivalence eq → settings.behaviour.lifetimes ≡ no_lifetimes → (k : K) (h : List (Event K V)) (w : Write K V) → standing eq settings k h ≡ Some w → w.own_life ≡ None
own-none {K} {V} eq settings laws none k h w stands = standing-holds eq settings (λ u. u.own_life ≡ None) opened over looked (λ test u same. same) laws k h w stands
  where
    opened : (q : K) (v : V) (at : ℕ) → (after_write settings q v at None).own_life ≡ None
    opened q v at = ap (λ lives. given (lives.created q v at) at) none

    no_rest : (own : Option OwnLife) (at : ℕ) → own ≡ None → rest own at ≡ None
    no_rest own at e = ap (λ o. rest o at) e

    over : (q : K) (v : V) (at : ℕ) (u : Write K V) → u.own_life ≡ None → (after_write settings q v at (Some u)).own_life ≡ None
    over q v at u e =
        ap (λ lives. given (cond (is_live settings u at) (lives.updated u.key v at (rest u.own_life at)) (lives.created u.key v at)) at) none
        ∙ ap (λ o. given (cond (is_live settings u at) o None) at) (no_rest u.own_life at e)
        ∙ go (is_live settings u at)
      where
        go : (t : Bool) → given (cond t None None) at ≡ None
        go true = refl
        go false = refl

    looked : (at : ℕ) (u : Write K V) → u.own_life ≡ None → (hit settings at u).own_life ≡ None
    looked at u e = ap (λ lives. given (lives.read u.key u.value at (rest u.own_life at) u.last_modified) at) none ∙ ap (λ o. given o at) (no_rest u.own_life at e)
