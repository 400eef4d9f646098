-- The terms of the law that no pair of a key and a value is lost or doubled.
use Rattle.std.specs.Prelude.{◌≡◌, ◌+◌, ◌++◌, ℕ, suc, Bool, true, if◌then◌else◌, List, [], ◌∷◌, option_to_list, slice_get}
use Rattle.moka_model.specs.Lives.{Settings, Write}
use Rattle.moka_model.specs.Events.{Event, Written, Taken}
use Rattle.moka_model.specs.Maintenance.{Queues}
use Rattle.moka_model.specs.MaintenanceLaws.{count, everything}
use Rattle.moka_model.specs.Removals.{Removal, removals, notices_left}
use Rattle.moka_model.specs.StandsFor.{Books}

-- The test of pairs does not distinguish equal keys.
abbrev pub SeesKeysAlike : {K V : Type 0} → (K → K → Bool) → (K → V → Bool) → Type 0
SeesKeysAlike {K} {V} eq test = (a b : K) (v : V) → eq a b ≡ true → test a v ≡ test b v

module _ {K V : Type 0} (test : K → V → Bool) where
  -- How many of the written pairs pass the test.
  abbrev pub count_written : List (Event K V) → ℕ
  count_written [] = 0
  count_written (Written k v at ∷ h) = if test k v then suc (count_written h) else count_written h
  count_written (e ∷ h) = count_written h

  -- How many of the stored pairs pass the test.
  abbrev pub count_standing : Queues (Write K V) → ℕ
  count_standing q = count (λ w. test w.key w.value) (everything q)

  -- How many of the removed pairs pass the test.
  abbrev pub count_left : List (Removal K V) → ℕ
  count_left ls = count (λ l. test l.key l.value) ls

-- The removal that an event after `h` gives out: the first queued notice, if the event takes one.
abbrev pub given_by : {K V : Type 0} → (K → K → Bool) → Settings K V → Event K V → List (Event K V) → List (Removal K V)
given_by eq settings Taken h = option_to_list (slice_get (notices_left eq settings h) 0)
given_by eq settings e h = []

-- The removals that were taken as notices, in order.
abbrev pub given_out : {K V : Type 0} → (K → K → Bool) → Settings K V → List (Event K V) → List (Removal K V)
given_out eq settings [] = []
given_out eq settings (e ∷ h) = given_out eq settings h ++ given_by eq settings e h

-- Nothing is lost or doubled, given these books and the removals given out so far. Each written pair is at one place:
-- stored, queued as a notice, or given out. This is stated by counts, for each test that does not distinguish equal
-- keys: as many written pairs pass it as of the others together. The removals given out, followed by the queued ones,
-- are all removals, in order and with their causes.
pub record IsConserved {K V : Type 0} (eq : K → K → Bool) (settings : Settings K V) (h : List (Event K V)) (books : Books K V)
    (given : List (Removal K V)) : Type 0 where
  pub pairs : (test : K → V → Bool) → SeesKeysAlike eq test
      → count_written test h ≡ count_standing test books.orders + (count_left test books.notices + count_left test given)
  pub removals : given ++ books.notices ≡ removals eq settings h
