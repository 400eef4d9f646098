-- What is hidden is hidden by an event behind it, and is not found again.
use Rattle.std.proofs.Common.{◌≡◌, ◌↔◌, ℕ, max, Bool, true, false, ◌||◌, is_some, Option, Some, None, List, [], ◌∷◌, ◌++◌, refl, sym, ap, ◌∙◌, subst, arith}
use Rattle.std.proofs.Math.Bool.{or-true}
use Rattle.std.specs.Option.{option_map}
use Rattle.moka_model.specs.Lives.{Settings, Write, is_live, hidden_by}
use Rattle.moka_model.specs.Events.{Event, Looked, TurnedDown, Written, Invalidated, Hidden, Maintained, Passed, Drawn, Taken, latest}
use Rattle.moka_model.specs.Orders.{live, standing}
use Rattle.moka_model.specs.Steps.{AcceptedStep, events_in}
use Rattle.moka_model.specs.Calls.{Found, Contains, live_at}
use Rattle.moka_model.proofs.Callers.{events_in-append}
use Rattle.moka_laws.specs.Laws.{IsUnwritten, LastWrite, hides}
use Rattle.moka_laws.specs.HidingLaws.{HidingEvent, IsNotFound}
use Rattle.moka_laws.proofs.Deadlines.{IsUnseen, IsUnseen-later, unseen_from, live-unseen}
use Rattle.moka_laws.proofs.Places.{last_write_stands}

module _ {K V : Type 0} (k : K) (v : V) where
  -- an event that hides among some is one among more
  one_more : (e : Event K V) (those : List (Event K V)) → HidingEvent k v those → HidingEvent k v (e ∷ those)
  one_more e those it = record { later = e ∷ it.later; test = it.test; before = it.before; place = ap (λ l. e ∷ l) it.place; holds = it.holds }

  -- where some events hide a value, one of them does
  hiding_event : (those : List (Event K V)) → hides k v those ≡ true → HidingEvent k v those
  hiding_event [] is = cc
  hiding_event (Looked q at ∷ those) is = one_more (Looked q at) those (hiding_event those is)
  hiding_event (TurnedDown q at ∷ those) is = one_more (TurnedDown q at) those (hiding_event those is)
  hiding_event (Written q w at ∷ those) is = one_more (Written q w at) those (hiding_event those is)
  hiding_event (Invalidated q at ∷ those) is = one_more (Invalidated q at) those (hiding_event those is)
  hiding_event (Hidden test ∷ those) is = go (λ before. one_more (Hidden test) those (hiding_event those before)) (test k v) (hides k v those) refl refl is
    where
      go : (hides k v those ≡ true → HidingEvent k v (Hidden test ∷ those)) → (s t : Bool) → test k v ≡ s → hides k v those ≡ t → (t || s) ≡ true → HidingEvent k v (Hidden test ∷ those)
      go earlier true t holds before e = record { later = []; test = test; before = those; place = refl; holds = holds }
      go earlier false true holds before e = earlier before
      go earlier false false holds before e = cc
  hiding_event (Maintained limit at ∷ those) is = one_more (Maintained limit at) those (hiding_event those is)
  hiding_event (Passed at ∷ those) is = one_more (Passed at) those (hiding_event those is)
  hiding_event (Drawn ∷ those) is = one_more Drawn those (hiding_event those is)
  hiding_event (Taken ∷ those) is = one_more Taken those (hiding_event those is)

  -- and where one of them does, they do
  hides-at : (later : List (Event K V)) (test : K → V → Bool) (before : List (Event K V)) → test k v ≡ true → hides k v (later ++ Hidden test ∷ before) ≡ true
  hides-at [] test before holds = rw holds (or-true (hides k v before))
  hides-at (Looked q at ∷ later) test before holds = hides-at later test before holds
  hides-at (TurnedDown q at ∷ later) test before holds = hides-at later test before holds
  hides-at (Written q w at ∷ later) test before holds = hides-at later test before holds
  hides-at (Invalidated q at ∷ later) test before holds = hides-at later test before holds
  hides-at (Hidden other ∷ later) test before holds = rw (hides-at later test before holds) refl
  hides-at (Maintained limit at ∷ later) test before holds = hides-at later test before holds
  hides-at (Passed at ∷ later) test before holds = hides-at later test before holds
  hides-at (Drawn ∷ later) test before holds = hides-at later test before holds
  hides-at (Taken ∷ later) test before holds = hides-at later test before holds

  hides-exactly : (those : List (Event K V)) → (hides k v those ≡ true) ↔ HidingEvent k v those
  hides-exactly those = (hiding_event those, λ it. rw (it.place) (hides-at it.later it.test it.before it.holds))

module _ {K V : Type 0} (eq : K → K → Bool) (settings : Settings K V) (k : K) where
  pub hidden-exactly : (h : List (Event K V)) (w : Write K V) (last : LastWrite eq settings k h) → standing eq settings k h ≡ Some w → (w.is_hidden ≡ true) ↔ HidingEvent w.key w.value last.later
  hidden-exactly h w last stands =
      let (u, is, as_written) = last_write_stands eq settings k h last in
      let same : u ≡ w = cc in
      let by_events : w.is_hidden ≡ hides w.key w.value last.later = subst (λ (x : Write K V). x.is_hidden ≡ hides x.key x.value last.later) same as_written.hidden in
      let exactly = hides-exactly w.key w.value last.later in
      (λ hidden. exactly.0 (sym by_events ∙ hidden), λ it. by_events ∙ exactly.1 it)

  -- a write that a test hides is not seen
  unseen-hidden : (test : K → V → Bool) (w : Write K V) (at : ℕ) → test w.key w.value ≡ true → is_live settings (hidden_by test w) at ≡ false
  unseen-hidden test w at holds = rw (holds, or-true w.is_hidden) refl

  pub unseen-after : (test : K → V → Bool) (h : List (Event K V)) (w : Write K V) → standing eq settings k h ≡ Some w → test w.key w.value ≡ true → IsUnseen eq settings k (standing eq settings k (Hidden test ∷ h)) (latest (Hidden test ∷ h))
  unseen-after test h w stands holds = rw stands (unseen-hidden test w (latest (Hidden test ∷ h)) holds)

  pub unseen-after_all : (h : List (Event K V)) → IsUnseen eq settings k (standing eq settings k (Hidden (λ _ _. true) ∷ h)) (latest (Hidden (λ _ _. true) ∷ h))
  unseen-after_all h = go (standing eq settings k h)
    where
      go : (o : Option (Write K V)) → IsUnseen eq settings k (option_map (hidden_by (λ _ _. true)) o) (latest (Hidden (λ _ _. true) ∷ h))
      go None = tt
      go (Some w) = unseen-hidden (λ _ _. true) w (latest (Hidden (λ _ _. true) ∷ h)) refl

  -- what is not seen is not found, until its key is written
  pub not_found : {E : Type 0} (later steps : List (AcceptedStep K V E)) → IsUnwritten eq k (events_in later) → IsUnseen eq settings k (standing eq settings k (events_in steps)) (latest (events_in steps)) → IsNotFound eq settings k (later ++ steps)
  not_found later steps unwritten unseen at =
      let h : List (Event K V) = events_in steps in
      let all : List (Event K V) = events_in later ++ h in
      let joined : events_in (later ++ steps) ≡ all = events_in-append later steps in
      let gone : live eq settings k (max (latest all) at) all ≡ None =
      live-unseen eq settings k (standing eq settings k all) (max (latest all) at)
      (IsUnseen-later eq settings k (standing eq settings k all) (latest all) (max (latest all) at) (omega arith)
      (unseen_from eq settings k (events_in later) h unwritten unseen)) in
      let found = ap (λ es. Some (Found (option_map (λ (w : Write K V). w.value) (live_at eq settings k at es)))) joined ∙ ap (λ o. Some (Found (option_map (λ (w : Write K V). w.value) o))) gone in
      (found, ap (λ es. Some (Contains (is_some (live_at eq settings k at es)))) joined ∙ ap (λ o. Some (Contains (is_some o))) gone, found)
