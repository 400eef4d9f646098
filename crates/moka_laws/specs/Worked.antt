-- Settings and events of the worked cases. Keys and values are numbers.
use Rattle.std.specs.Prelude.{ℕ, ◌*◌, ◌%◌, Bool, true, nat_eq, Option, Some, None, List, [], ◌∷◌}
use Rattle.moka_model.specs.declared.notification.RemovalCause.{RemovalCause}
use Rattle.moka_model.specs.Lives.{Settings, Behaviour, no_lifetimes}
use Rattle.moka_model.specs.Events.{Event, Looked, Written, Invalidated, Maintained}
use Rattle.moka_model.specs.Orders.{orders}
use Rattle.moka_model.specs.OrderLaws.{keys}
use Rattle.moka_model.specs.Removals.{Removal, removals_at}
use Rattle.moka_model.specs.Steps.{AcceptedStep}
use Rattle.moka_model.specs.Calls.{Call, Get, ContainsKey, EntryCount, WeightedSize, TakeNotice}
use Rattle.moka_model.specs.Calls.{Reply, Done, Found, Contains, Counted, Noticed, after}
use Rattle.moka_laws.specs.Laws.{reply, and_then}
use Rattle.moka_policy.specs.Frequency.{estimate_after}

-- `n` seconds, in nanoseconds.
abbrev pub seconds : ℕ → ℕ
seconds n = n * 1_000_000_000

-- LRU; each key is its own hash, every entry weighs 1, and none has a lifetime of its own.
abbrev pub plain_behaviour : Behaviour ℕ ℕ
plain_behaviour = record { is_lru = true; hash = λ k. k; weight = λ k v. 1; lifetimes = no_lifetimes }

-- No TTL, no TTI and no capacity.
abbrev pub without_lives : Settings ℕ ℕ
without_lives =
    record {
      time_to_live = None;
      time_to_idle = None;
      max_capacity = None;
      first_number = 0;
      supports_closures = true;
      flush_limit = None;
      behaviour = plain_behaviour;
      frequency = estimate_after 6;
    }

-- A TTL of 10 s.
abbrev pub ten_to_live : Settings ℕ ℕ
ten_to_live = record without_lives { time_to_live = Some (seconds 10) }

-- A TTI of 5 s.
abbrev pub five_to_idle : Settings ℕ ℕ
five_to_idle = record without_lives { time_to_idle = Some (seconds 5) }

-- A TTL of 10 s and a TTI of 5 s.
abbrev pub both_lives : Settings ℕ ℕ
both_lives = record without_lives { time_to_live = Some (seconds 10); time_to_idle = Some (seconds 5) }

-- One sequence number is left to draw.
abbrev pub at_the_last_number : Settings ℕ ℕ
at_the_last_number = record without_lives { first_number = 18446744073709551614 }

-- The value 7 is written to the key 1 at moment 0.
abbrev pub written : List (Event ℕ ℕ)
written = Written 1 7 0 ∷ []

-- It is looked up after 4 s and after 8 s.
abbrev pub looked_up_twice : List (Event ℕ ℕ)
looked_up_twice = Looked 1 (seconds 8) ∷ Looked 1 (seconds 4) ∷ written

-- It is looked up a nanosecond before 10 s have passed.
abbrev pub looked_up_late : List (Event ℕ ℕ)
looked_up_late = Looked 1 9_999_999_999 ∷ written

-- It is overwritten and removed.
abbrev pub two_left : List (Event ℕ ℕ)
two_left = Invalidated 1 2 ∷ Written 1 8 1 ∷ written

-- It is overwritten under another key with the same last digit, and removed.
abbrev pub overwritten_as_11 : List (Event ℕ ℕ)
overwritten_as_11 = Invalidated 21 2 ∷ Written 11 8 1 ∷ written

-- It is removed, and written under another key with the same last digit.
abbrev pub anew_as_11 : List (Event ℕ ℕ)
anew_as_11 = Invalidated 21 3 ∷ Written 11 8 2 ∷ Invalidated 31 1 ∷ written

-- Whether two numbers are equal as keys: their last digits are.
abbrev pub same_last_digit : ℕ → ℕ → Bool
same_last_digit a b = nat_eq (a % 10) (b % 10)

-- Some events as one accepted step.
abbrev pub stepped : List (Event ℕ ℕ) → List (AcceptedStep ℕ ℕ ℕ)
stepped h = and_then h []

-- What a call returns after some events.
abbrev pub reply_after : (ℕ → ℕ → Bool) → Settings ℕ ℕ → Call ℕ ℕ ℕ → List (Event ℕ ℕ) → Option (Reply ℕ ℕ ℕ)
reply_after eq settings call h = reply eq settings call (stepped h)

module _ (settings : Settings ℕ ℕ) where
  -- What a `get` of a key returns at a moment after some events.
  abbrev pub get_at : ℕ → ℕ → List (Event ℕ ℕ) → Option (Reply ℕ ℕ ℕ)
  get_at k at h = reply_after nat_eq settings (Get k at) h

  -- What a `contains_key` returns.
  abbrev pub contains_at : ℕ → ℕ → List (Event ℕ ℕ) → Option (Reply ℕ ℕ ℕ)
  contains_at k at h = reply_after nat_eq settings (ContainsKey k at) h

  -- What a count of the entries returns.
  abbrev pub entry_count_of : List (Event ℕ ℕ) → Option (Reply ℕ ℕ ℕ)
  entry_count_of h = reply_after nat_eq settings EntryCount h

  -- What a call for the weight returns.
  abbrev pub weight_of : List (Event ℕ ℕ) → Option (Reply ℕ ℕ ℕ)
  weight_of h = reply_after nat_eq settings WeightedSize h

  -- What a call that takes a notice returns.
  abbrev pub next_notice : List (Event ℕ ℕ) → Option (Reply ℕ ℕ ℕ)
  next_notice h = reply_after nat_eq settings TakeNotice h

  -- What a full maintenance at a moment removes.
  abbrev pub evictions : ℕ → List (Event ℕ ℕ) → List (Removal ℕ ℕ)
  evictions at h = removals_at nat_eq settings (Maintained None at) h

  -- The resident keys, in access order.
  abbrev pub resident_keys : List (Event ℕ ℕ) → List ℕ
  resident_keys h = keys (orders nat_eq settings h).admitted

  -- The pending keys, in arrival order.
  abbrev pub pending_keys : List (Event ℕ ℕ) → List ℕ
  pending_keys h = keys (orders nat_eq settings h).waiting

-- What calls return, in order, after some accepted steps.
abbrev pub replies : (ℕ → ℕ → Bool) → Settings ℕ ℕ → List (Call ℕ ℕ ℕ) → List (AcceptedStep ℕ ℕ ℕ) → List (Option (Reply ℕ ℕ ℕ))
replies eq settings [] steps = []
replies eq settings (call ∷ calls) steps = reply eq settings call steps ∷ replies eq settings calls (after eq settings call steps)

-- The result of an accepted lookup.
abbrev pub found : Option ℕ → Option (Reply ℕ ℕ ℕ)
found value = Some (Found value)

-- The result of an accepted `contains_key`.
abbrev pub contains : Bool → Option (Reply ℕ ℕ ℕ)
contains is_there = Some (Contains is_there)

-- The result of an accepted call that returns nothing.
abbrev pub is_done : Option (Reply ℕ ℕ ℕ)
is_done = Some Done

-- The result of an accepted count.
abbrev pub counted : ℕ → Option (Reply ℕ ℕ ℕ)
counted n = Some (Counted n)

-- The result of an accepted call that takes a notice.
abbrev pub noticed : Option (Removal ℕ ℕ) → Option (Reply ℕ ℕ ℕ)
noticed removal = Some (Noticed removal)

-- What a `contains_key` and then a `get` return, after the write.
abbrev pub contains_then_get : Settings ℕ ℕ → ℕ → ℕ → List (Option (Reply ℕ ℕ ℕ))
contains_then_get settings at later = replies nat_eq settings (ContainsKey 1 at ∷ Get 1 later ∷ []) (stepped written)

-- The removal of a value under a key.
abbrev pub left_as : ℕ → ℕ → RemovalCause → Removal ℕ ℕ
left_as k v cause = record { key = k; value = v; cause = cause }

-- The result of an accepted call that takes the notice of a removed value.
abbrev pub notice_of : ℕ → ℕ → RemovalCause → Option (Reply ℕ ℕ ℕ)
notice_of k v cause = noticed (Some (left_as k v cause))
