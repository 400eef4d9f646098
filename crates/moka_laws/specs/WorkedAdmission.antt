-- Settings and events of the worked cases of admission by frequency and by weight, and of the lifetimes of single
-- entries. Keys and values are numbers.
use Rattle.std.specs.Prelude.{ℕ, ◌-◌, ◌%◌, zero, suc, false, Some, None, List, [], ◌∷◌}
use Rattle.moka_model.specs.Lives.{Settings, Lifetimes}
use Rattle.moka_model.specs.Events.{Event, Looked, Written, Maintained}
use Rattle.moka_laws.specs.Worked.{seconds, plain_behaviour, without_lives, written}
use Rattle.moka_laws.specs.WorkedSize.{at_capacity, fourth_comes}

-- A capacity under TinyLFU.
abbrev pub by_frequency : ℕ → Settings ℕ ℕ
by_frequency capacity = record (at_capacity capacity) { behaviour = record plain_behaviour { is_lru = false } }

-- A capacity under TinyLFU; a value weighs its last two digits.
abbrev pub by_weight : ℕ → Settings ℕ ℕ
by_weight capacity = record (at_capacity capacity) { behaviour = record plain_behaviour { is_lru = false; weight = λ k v. v % 100 } }

-- No capacity; a value weighs itself.
abbrev pub weighed : Settings ℕ ℕ
weighed = record without_lives { behaviour = record plain_behaviour { weight = λ k v. v } }

-- 5 s from creation, and 3 s from each hit.
abbrev pub five_and_three : Lifetimes ℕ ℕ
five_and_three =
    record { created = λ k v at. Some (seconds 5); read = λ k v at left written. Some (seconds 3); updated = λ k v at left. left }

-- 5 s from creation, which no hit and no update changes.
abbrev pub five_alone : Lifetimes ℕ ℕ
five_alone = record { created = λ k v at. Some (seconds 5); read = λ k v at left written. left; updated = λ k v at left. left }

-- 3 s from a hit, and 7 s from an update.
abbrev pub from_a_hit : Lifetimes ℕ ℕ
from_a_hit = record { created = λ k v at. None; read = λ k v at left written. Some (seconds 3); updated = λ k v at left. Some (seconds 7) }

-- 5 s from creation, and no end after a hit.
abbrev pub until_a_hit : Lifetimes ℕ ℕ
until_a_hit = record { created = λ k v at. Some (seconds 5); read = λ k v at left written. None; updated = λ k v at left. left }

-- From a hit as long as the value's age; no end before.
abbrev pub as_long_again : Lifetimes ℕ ℕ
as_long_again = record {
  created = λ k v at. None;
  read = λ k v at left written. Some (at - written);
  updated = λ k v at left. left;
}

-- Entries have these lifetimes.
abbrev pub with_lives : Lifetimes ℕ ℕ → Settings ℕ ℕ
with_lives lifetimes = record without_lives { behaviour = record plain_behaviour { lifetimes = lifetimes } }

-- After the fourth key was written and dropped, it is looked up once, and written again,
abbrev pub asked_once : List (Event ℕ ℕ)
asked_once = Written 4 41 14 ∷ Looked 4 13 ∷ Maintained None 12 ∷ fourth_comes

-- and it is looked up once more, and written a third time.
abbrev pub asked_twice : List (Event ℕ ℕ)
asked_twice = Written 4 42 17 ∷ Looked 4 16 ∷ Maintained None 15 ∷ asked_once

-- Then it is admitted, and the third is evicted.
abbrev pub fourth_enters : List (Event ℕ ℕ)
fourth_enters = Maintained None 18 ∷ asked_twice

-- Three keys of weights 10, 15 and 5, in access order 3, 1, 2.
abbrev pub three_weighed : List (Event ℕ ℕ)
three_weighed =
    Maintained None 10 ∷ Looked 2 9 ∷ Looked 1 8 ∷ Maintained None 7 ∷ Looked 3 6 ∷ Written 3 5 5 ∷ Maintained None 4 ∷ Looked 2 3
    ∷ Looked 1 2 ∷ Written 2 15 1 ∷ Written 1 10 0 ∷ []

-- A fourth key, of weight 15, is written `n` times, each time followed by a maintenance and a lookup of it.
abbrev pub fourth_tries : ℕ → List (Event ℕ ℕ)
fourth_tries zero = three_weighed
fourth_tries (suc n) = Looked 4 11 ∷ Maintained None 11 ∷ Written 4 15 11 ∷ fourth_tries n

-- After four such times it is written with another value,
abbrev pub fourth_again : List (Event ℕ ℕ)
fourth_again = Written 4 115 12 ∷ fourth_tries 4

-- it is admitted, and the third and the first are evicted,
abbrev pub fourth_fits : List (Event ℕ ℕ)
fourth_fits = Maintained None 13 ∷ fourth_again

-- all are looked up, and the second gets heavier,
abbrev pub second_heavier : List (Event ℕ ℕ)
second_heavier = Written 2 20 14 ∷ Looked 4 13 ∷ Looked 3 13 ∷ Looked 2 13 ∷ Looked 1 13 ∷ Maintained None 13 ∷ fourth_again

-- and the first is written anew, and the second gets lighter.
abbrev pub second_lighter : List (Event ℕ ℕ)
second_lighter = Written 2 15 16 ∷ Written 1 10 16 ∷ Maintained None 15 ∷ second_heavier

-- Two keys of weights 3 and 2, looked up once each, and a third of weight 4, looked up twice.
abbrev pub third_of_four : List (Event ℕ ℕ)
third_of_four = Looked 3 7 ∷ Looked 3 6 ∷ Written 3 4 5 ∷ Maintained None 4 ∷ Looked 2 3 ∷ Looked 1 2 ∷ Written 2 2 1 ∷ Written 1 3 0 ∷ []

-- A key is looked up `n` times.
abbrev pub looked : ℕ → ℕ → List (Event ℕ ℕ) → List (Event ℕ ℕ)
looked key zero h = h
looked key (suc n) h = Looked key 5 ∷ looked key n h

-- Two keys are written, looked up twice and once, and admitted,
abbrev pub two_stand : List (Event ℕ ℕ)
two_stand = Maintained None 4 ∷ Looked 2 3 ∷ Looked 1 2 ∷ Looked 1 2 ∷ Written 2 20 1 ∷ Written 1 10 0 ∷ []

-- and a third and a fourth are written, and looked up so many times.
abbrev pub two_contend : ℕ → ℕ → List (Event ℕ ℕ)
two_contend third fourth = looked 4 fourth (looked 3 third (Written 4 40 5 ∷ Written 3 30 5 ∷ two_stand))

-- Two values of the greatest weight.
abbrev pub two_heaviest : List (Event ℕ ℕ)
two_heaviest = Written 2 4294967295 0 ∷ Written 1 4294967295 0 ∷ []

-- Hits at 4 s and at 6 s.
abbrev pub hit_twice : List (Event ℕ ℕ)
hit_twice = Looked 1 (seconds 6) ∷ Looked 1 (seconds 4) ∷ written

-- A value is written after 2 s and looked up after 5 s.
abbrev pub three_seconds_old : List (Event ℕ ℕ)
three_seconds_old = Looked 1 (seconds 5) ∷ Written 1 7 (seconds 2) ∷ []
