-- Callers that preserve an invariant: what the calls of such a caller ensure of their results, the loop ensures of its
-- own.
use Rattle.std.proofs.Common.{ℕ, zero, suc, Option, Some, None, ⊎_elim, subst, sym}
use Rattle.std.specs.Prelude.{⊤}
use Rattle.moka_single_flight.specs.declared.replies.Begun.{Begun}
use Rattle.moka_single_flight.specs.declared.replies.Begun.TheVariants.{Found, Run, Wait}
use Rattle.moka_single_flight.specs.declared.replies.Collected.{Collected}
use Rattle.moka_single_flight.specs.declared.replies.Collected.TheVariants.{Ready, NotYet, Retry}
use Rattle.moka_single_flight.specs.declared.replies.Joined.{Joined}
use Rattle.moka_single_flight.specs.declared.replies.Joined.TheVariants.{Value, Turn, TooMany}
use Rattle.moka_single_flight.specs.Holds.{HoldsOfBegun, HoldsOfCollected, HoldsOfJoined}
use Rattle.moka_single_flight.specs.Rounds.{Collects, CollectsTo, CollectsRefused, Waits, Rounds, Ends, WaitsRefused, IsRefused}

module _ {V : Type 0} (Q : V → Type 0) where
  -- it holds of the value, if there is one
  abbrev pub HoldsOfValue : Option V → Type 0
  HoldsOfValue (Some v) = Q v
  HoldsOfValue None = ⊤

module _ {P V T K : Type 0} (begun : P → Begun V T K → P → Type 0) (collected : P → K → Collected V K → P → Type 0)
    (Inv : P → Type 0) (Q : V → Type 0) (R : T → Type 0) (OfTicket : K → Type 0)
    (begins : (s : P) (b : Begun V T K) (u : P) → Inv s → begun s b u → Inv u × HoldsOfBegun Q R OfTicket b)
    (collects : (s : P) (t : K) (b : Collected V K) (u : P) → Inv s → OfTicket t → collected s t b u → Inv u × HoldsOfCollected Q OfTicket b) where
  collects-keep : (n : ℕ) (s : P) (t : K) (b : Collected V K) (u : P) → Inv s → OfTicket t → Collects collected n s t b u → Inv u × HoldsOfCollected Q OfTicket b
  collects-keep zero s t b u inv of h = collects s t b u inv of h
  collects-keep (suc n) s t b u inv of h = let one = collects s t (NotYet h.0) h.1 inv of h.2 in collects-keep n h.1 h.0 b u one.0 one.1 h.3

  collects-to-keep : (s : P) (t : K) (o : Option V) (u : P) → Inv s → OfTicket t → CollectsTo collected s t o u → Inv u × HoldsOfValue Q o
  collects-to-keep s t (Some v) u inv of h = collects-keep h.0 s t (Ready v) u inv of h.1
  collects-to-keep s t None u inv of h = collects-keep h.0 s t Retry u inv of h.1

  waits-keep : (s : P) (o : Option V) (u : P) → Inv s → Waits begun collected s o u → Inv u × HoldsOfValue Q o
  waits-keep s o u inv h = let told = begins s (Wait h.0) h.1 inv h.2 in collects-to-keep h.1 h.0 o u told.0 told.1 h.3

  rounds-keep : (n : ℕ) (s u : P) → Inv s → Rounds begun collected n s u → Inv u
  rounds-keep zero s u inv h = subst Inv (sym h) inv
  rounds-keep (suc n) s u inv h = (waits-keep h.0 None u (rounds-keep n s h.0 inv h.1) h.2).0

  -- where it ends with a value
  pub value-holds : (max_retries : Option ℕ) (s : P) (v : V) (u : P) → Inv s → Ends begun collected max_retries s (Value v) u → Inv u × Q v
  value-holds max_retries s v u inv h =
      let before = rounds-keep h.0 s h.1 inv h.3 in
      ⊎_elim (λ found. begins h.1 (Found v) u before found) (λ waited. waits-keep h.1 (Some v) u before waited) h.4

  -- where it ends with a turn
  pub turn-holds : (max_retries : Option ℕ) (s : P) (t : T) (u : P) → Inv s → Ends begun collected max_retries s (Turn t) u → Inv u × R t
  turn-holds max_retries s t u inv h = begins h.1 (Run t) u (rounds-keep h.0 s h.1 inv h.3) h.4

  -- where it gives up
  pub too-many-keeps : (max_retries : Option ℕ) (s u : P) → Inv s → Ends begun collected max_retries s TooMany u → Inv u
  too-many-keeps None s u inv h = absurd h
  too-many-keeps (Some max_retries) s u inv h = rounds-keep max_retries s u inv h

  -- however it ends
  pub ends-hold : (max_retries : Option ℕ) (s : P) (w : Joined V T) (u : P) → Inv s → Ends begun collected max_retries s w u → Inv u × HoldsOfJoined Q R w
  ends-hold max_retries s (Value v) u inv h = value-holds max_retries s v u inv h
  ends-hold max_retries s (Turn t) u inv h = turn-holds max_retries s t u inv h
  ends-hold max_retries s TooMany u inv h = (too-many-keeps max_retries s u inv h, tt)

  -- `F` holds of what each refused call gives.
  module _ {E : Type 0} (begin_refused : P → E → P → Type 0) (collect_refused : P → K → E → P → Type 0) (F : E → Type 0)
      (begin-refuses : (s : P) (r : E) (u : P) → Inv s → begin_refused s r u → F r)
      (collect-refuses : (s : P) (t : K) (r : E) (u : P) → Inv s → OfTicket t → collect_refused s t r u → F r) where
    collects-refused : (n : ℕ) (s : P) (t : K) (r : E) (u : P) → Inv s → OfTicket t → CollectsRefused collected collect_refused n s t r u → F r
    collects-refused zero s t r u inv of h = collect-refuses s t r u inv of h
    collects-refused (suc n) s t r u inv of h = let one = collects s t (NotYet h.0) h.1 inv of h.2 in collects-refused n h.1 h.0 r u one.0 one.1 h.3

    waits-refused : (s : P) (r : E) (u : P) → Inv s → WaitsRefused begun collected begin_refused collect_refused s r u → F r
    waits-refused s r u inv h = let told = begins s (Wait h.0) h.1 inv h.2 in collects-refused h.3.0 h.1 h.0 r u told.0 told.1 h.3.1

    -- where it is refused
    pub refused-holds : (max_retries : Option ℕ) (s : P) (r : E) (u : P) → Inv s → IsRefused begun collected begin_refused collect_refused max_retries s r u → F r
    refused-holds max_retries s r u inv h =
        let before = rounds-keep h.0 s h.1 inv h.3 in
        ⊎_elim (λ refused. begin-refuses h.1 r u before refused) (λ waited. waits-refused h.1 r u before waited) h.4
