-- What a caller does until it has a value or a turn, round by round.
use Rattle.std.specs.Prelude.{⊤, ◌≡◌, ℕ, zero, suc, ◌+◌, ◌<◌, ◌⊎◌, Option, Some, None}
use Rattle.moka_single_flight.specs.declared.replies.Begun.{Begun}
use Rattle.moka_single_flight.specs.declared.replies.Begun.TheVariants.{Found, Run, Wait}
use Rattle.moka_single_flight.specs.declared.replies.Collected.{Collected}
use Rattle.moka_single_flight.specs.declared.replies.Collected.TheVariants.{Ready, NotYet, Retry}
use Rattle.moka_single_flight.specs.declared.replies.Joined.{Joined}
use Rattle.moka_single_flight.specs.declared.replies.Joined.TheVariants.{Value, Turn, TooMany}

-- So many rounds are fewer than the limit. Without a limit, any number is.
abbrev pub Fewer : Option ℕ → ℕ → Type 0
Fewer None n = ⊤
Fewer (Some max_retries) n = n < max_retries

-- What is left of the limit after so many rounds.
abbrev pub IsLeft : Option ℕ → Option ℕ → ℕ → Type 0
IsLeft None None n = ⊤
IsLeft (Some max_retries) (Some left) n = left + n ≡ max_retries
IsLeft max_retries left n = ⊥

-- One round fewer is left.
abbrev pub IsOneLess : Option ℕ → Option ℕ → Type 0
IsOneLess None None = ⊤
IsOneLess (Some left) (Some rest) = rest + 1 ≡ left
IsOneLess left rest = ⊥

-- `collected s t b u`: the caller `s` may collect the ticket `t`, get `b`, and is `u` afterwards.
module _ {P V K : Type 0} (collected : P → K → Collected V K → P → Type 0) where
  -- So many collects found the turn open, each of the ticket that came back, and then one got `b`.
  abbrev pub Collects : ℕ → P → K → Collected V K → P → Type 0
  Collects zero s t b u = collected s t b u
  Collects (suc n) s t b u = (back : K) × (m : P) × collected s t (NotYet back) m × Collects n m back b u

  -- Collects until the turn has ended: with a value, or with nothing for this caller.
  abbrev pub CollectsTo : P → K → Option V → P → Type 0
  CollectsTo s t (Some v) u = (n : ℕ) × Collects n s t (Ready v) u
  CollectsTo s t None u = (n : ℕ) × Collects n s t Retry u

  -- `collect_refused s t r u`: a collect of `t` may fail with `r`.
  module _ {E : Type 0} (collect_refused : P → K → E → P → Type 0) where
    -- So many collects found the turn open, and then one failed.
    abbrev pub CollectsRefused : ℕ → P → K → E → P → Type 0
    CollectsRefused zero s t r u = collect_refused s t r u
    CollectsRefused (suc n) s t r u = (back : K) × (m : P) × collected s t (NotYet back) m × CollectsRefused n m back r u

    -- Collects of which the last failed.
    abbrev pub IsCollectRefused : P → K → E → P → Type 0
    IsCollectRefused s t r u = (n : ℕ) × CollectsRefused n s t r u

-- `begun s b u`: the caller `s` may begin, get `b`, and is `u` afterwards.
module _ {P V T K : Type 0} (begun : P → Begun V T K → P → Type 0) (collected : P → K → Collected V K → P → Type 0) where
  -- A wait: a begin that got a ticket, and collects until the turn has ended.
  abbrev pub Waits : P → Option V → P → Type 0
  Waits s value u = (t : K) × (m : P) × begun s (Wait t) m × CollectsTo collected m t value u

  -- So many waits that gave nothing.
  abbrev pub Rounds : ℕ → P → P → Type 0
  Rounds zero s u = u ≡ s
  Rounds (suc n) s u = (m : P) × Rounds n s m × Waits m None u

  -- How the loop ends. After fewer waits than the limit it has a value, found or waited for, or a turn. After as many
  -- waits as the limit it has neither.
  abbrev pub Ends : Option ℕ → P → Joined V T → P → Type 0
  Ends max_retries s (Value v) u = (n : ℕ) × (m : P) × Fewer max_retries n × Rounds n s m × (begun m (Found v) u ⊎ Waits m (Some v) u)
  Ends max_retries s (Turn t) u = (n : ℕ) × (m : P) × Fewer max_retries n × Rounds n s m × begun m (Run t) u
  Ends (Some max_retries) s TooMany u = Rounds max_retries s u
  Ends None s TooMany u = ⊥

  -- `begin_refused s r u`: a begin may fail with `r`.
  module _ {E : Type 0} (begin_refused : P → E → P → Type 0) (collect_refused : P → K → E → P → Type 0) where
    -- A begin that got a ticket, and collects of which the last failed.
    abbrev pub WaitsRefused : P → E → P → Type 0
    WaitsRefused s r u = (t : K) × (m : P) × begun s (Wait t) m × IsCollectRefused collected collect_refused m t r u

    -- How the loop fails: after fewer waits than the limit, a begin or a collect fails.
    abbrev pub IsRefused : Option ℕ → P → E → P → Type 0
    IsRefused max_retries s r u =
        (n : ℕ) × (m : P) × Fewer max_retries n × Rounds n s m × (begin_refused m r u ⊎ WaitsRefused m r u)
