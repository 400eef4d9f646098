-- Each pair that is no longer stored is noticed exactly once.
use Rattle.std.specs.Prelude.{◌≡◌, ℕ, Bool, Some, List, [], ◌∷◌, ◌++◌, filter}
use Rattle.moka_model.specs.Lives.{Settings}
use Rattle.moka_model.specs.Events.{Event}
use Rattle.moka_model.specs.Orders.{orders}
use Rattle.moka_model.specs.Removals.{Removal, removals, notices_left}
use Rattle.moka_model.specs.Conserved.{SeesKeysAlike, count_written, count_standing, IsConserved}
use Rattle.moka_model.specs.StandsFor.{Books}
use Rattle.moka_model.specs.Steps.{events_in}
use Rattle.moka_model.specs.Calls.{Reply, Noticed}
use Rattle.moka_laws.specs.TicketLaws.{Made, steps_made}

module _ {K V E : Type 0} where
  -- The removal that a result tells of, if it is a notice.
  abbrev pub notice_in : Reply K V E → List (Removal K V)
  notice_in (Noticed (Some l)) = l ∷ []
  notice_in said = []

  -- The removals in the notices that calls returned, in order.
  abbrev pub notices_returned : List (Made K V E) → List (Removal K V)
  notices_returned [] = []
  notices_returned (one ∷ made) = notices_returned made ++ notice_in one.it.reply

module _ {K V : Type 0} (test : K → V → Bool) where
  -- The removals of pairs that pass the test.
  abbrev pub passing : List (Removal K V) → List (Removal K V)
  passing ls = filter (λ l. test l.key l.value) ls

  -- Exactly one of these removals passes the test.
  abbrev pub OnePasses : List (Removal K V) → Type 0
  OnePasses ls = (l : Removal K V) × (passing ls ≡ l ∷ [])

module _ {K V E : Type 0} (eq : K → K → Bool) (settings : Settings K V) (made : List (Made K V E)) where
  -- The events of the calls.
  abbrev pub events_made : List (Event K V)
  events_made = events_in (steps_made made)

  -- The notices that the calls returned, and then the queued ones.
  abbrev pub all_notices : List (Removal K V)
  all_notices = notices_returned made ++ notices_left eq settings events_made

  -- How many written pairs pass a test, and how many stored ones.
  abbrev pub Passes : (K → V → Bool) → ℕ → ℕ → Type 0
  Passes test written stored =
      SeesKeysAlike eq test × (count_written test events_made ≡ written)
      × (count_standing test (orders eq settings events_made) ≡ stored)

  -- A pair that was written once and is not stored is noticed exactly once.
  abbrev pub NoticedOnce : Type 0
  NoticedOnce = (test : K → V → Bool) → Passes test 1 0 → OnePasses test all_notices

  -- One that was written once and is stored is not noticed,
  abbrev pub StoredIsNotNoticed : Type 0
  StoredIsNotNoticed = (test : K → V → Bool) → Passes test 1 1 → passing test all_notices ≡ []

  -- nor is one that was never written.
  abbrev pub UnwrittenIsNotNoticed : Type 0
  UnwrittenIsNotNoticed = (test : K → V → Bool) → Passes test 0 0 → passing test all_notices ≡ []

  -- The notices are all removals, in order.
  abbrev pub ReturnedAndQueued : Type 0
  ReturnedAndQueued = all_notices ≡ removals eq settings events_made

-- With what was given out and the queued notices of these books nothing is lost or doubled. Then a pair that was written
-- once and does not stand in the books is noticed exactly once.
abbrev pub ConservedIsNoticedOnce : {K V : Type 0} → (K → K → Bool) → Settings K V → Type 0
ConservedIsNoticedOnce {K} {V} eq settings =
    (h : List (Event K V)) (books : Books K V) (given : List (Removal K V)) (test : K → V → Bool)
    → IsConserved eq settings h books given → SeesKeysAlike eq test
    → count_written test h ≡ 1 → count_standing test books.orders ≡ 0 → OnePasses test (given ++ books.notices)
