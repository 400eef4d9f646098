-- The terms of the laws about the lifetimes of single entries.
use Rattle.std.specs.Prelude.{◌≡◌, ℕ, ◌+◌, ◌-◌, ◌<◌, ◌≤◌, Bool, true, false, ◌&&◌, Option, Some, None, List, [], ◌∷◌, is_some}
use Rattle.moka_model.specs.Lives.{Settings, OwnLife, Write, no_lifetimes, given, rest, is_live}
use Rattle.moka_model.specs.Events.{Event, Looked, Written, latest}
use Rattle.moka_model.specs.Orders.{standing, live}
use Rattle.moka_laws.specs.Laws.{hidden_since}

-- Whether the expiry is called for a key at an event after `h`: a write of the key, or a recorded lookup that hits it.
abbrev pub asks : {K V : Type 0} → (K → K → Bool) → Settings K V → K → Event K V → List (Event K V) → Bool
asks eq settings k (Looked q at) h = eq q k && is_some (live eq settings k (latest (Looked q at ∷ h)) h)
asks eq settings k (Written q v at) h = eq q k
asks eq settings k e h = false

module _ {K V : Type 0} (eq : K → K → Bool) (settings : Settings K V) (h : List (Event K V)) where
  -- The moment of a write after `h`, and that of a recorded lookup.
  abbrev pub written_at : K → V → ℕ → ℕ
  written_at q v at = latest (Written q v at ∷ h)

  abbrev pub looked_at : K → ℕ → ℕ
  looked_at q at = latest (Looked q at ∷ h)

  -- After a write without a live value before it, the entry has the lifetime that its creation gives it at that moment.
  abbrev pub CreationGives : Type 0
  CreationGives =
      (k q : K) (v : V) (at : ℕ) (w : Write K V) → eq q k ≡ true
      → live eq settings k (written_at q v at) h ≡ None → standing eq settings k (Written q v at ∷ h) ≡ Some w
      → w.own_life ≡ given (settings.behaviour.lifetimes.created w.key v (written_at q v at)) (written_at q v at)

  -- After a write over a live value, it has the lifetime that the update gives it, with the rest of the old one.
  abbrev pub UpdateGives : Type 0
  UpdateGives =
      (k q : K) (v : V) (at : ℕ) (old w : Write K V) → eq q k ≡ true
      → live eq settings k (written_at q v at) h ≡ Some old → standing eq settings k (Written q v at ∷ h) ≡ Some w
      → w.own_life ≡ given (settings.behaviour.lifetimes.updated w.key v (written_at q v at) (rest old.own_life (written_at q v at)))
      (written_at q v at)

  -- After a hit, it has the lifetime that the access gives it, with the rest of the old one and the moment of the write.
  abbrev pub AccessGives : Type 0
  AccessGives =
      (k q : K) (at : ℕ) (old w : Write K V) → eq q k ≡ true
      → live eq settings k (looked_at q at) h ≡ Some old → standing eq settings k (Looked q at ∷ h) ≡ Some w
      → w.own_life ≡ given (settings.behaviour.lifetimes.read w.key w.value (looked_at q at) (rest old.own_life (looked_at q at))
      old.last_modified) (looked_at q at)

  -- After another event, what stands stood before it, but that it may be invalidated.
  abbrev pub OthersKeepIt : Type 0
  OthersKeepIt =
      (k : K) (e : Event K V) (w : Write K V) → asks eq settings k e h ≡ false → standing eq settings k (e ∷ h) ≡ Some w
      → (u : Write K V) × (standing eq settings k h ≡ Some u) × (w ≡ hidden_since (e ∷ []) u)

  -- A lifetime of its own starts no later than the latest moment.
  abbrev pub StartsByNow : Type 0
  StartsByNow =
      (k : K) (w : Write K V) (it : OwnLife) → standing eq settings k h ≡ Some w → w.own_life ≡ Some it → it.from ≤ latest h

  -- What is left of it at a later moment is its end without the moment.
  abbrev pub RestIsCounted : Type 0
  RestIsCounted =
      (k : K) (w : Write K V) (it : OwnLife) (at : ℕ) → standing eq settings k h ≡ Some w → w.own_life ≡ Some it → latest h ≤ at
      → rest w.own_life at ≡ Some (it.from + it.life - at)

  -- Without an expiry no entry has a lifetime of its own.
  abbrev pub HasNoneWithoutExpiry : Type 0
  HasNoneWithoutExpiry =
      (k : K) (w : Write K V) → settings.behaviour.lifetimes ≡ no_lifetimes → standing eq settings k h ≡ Some w → w.own_life ≡ None

-- A live entry's own lifetime has not ended.
abbrev pub EndsLater : {K V : Type 0} → Settings K V → Write K V → Type 0
EndsLater settings w = (it : OwnLife) (at : ℕ) → w.own_life ≡ Some it → is_live settings w at ≡ true → at < it.from + it.life
