-- The notices that calls hand out.
use Rattle.std.specs.Prelude.{ℕ, ◌≡◌, ◌==◌, if◌then◌else◌, List, length, Option, Some, None, IsSomeAnd, option_map, option_and_then}
use Rattle.moka_model.specs.declared.notification.RemovalCause.{RemovalCause}
use Rattle.moka_model.specs.declared.notification.RemovalCause.TheVariants.{Expired, Explicit, Replaced, Size}
use Rattle.moka_model.specs.Removals.{Removal}
use Rattle.moka_c.specs.declared.notices.BytesNotice.{BytesNotice}
use Rattle.moka_c.specs.declared.notices.NumberNotice.{NumberNotice}

-- The cause of a removal that has this number.
abbrev pub removal_cause : ℕ → Option RemovalCause
removal_cause number =
    if number == 0 then Some Expired
    else (if number == 1 then Some Explicit
    else (if number == 2 then Some Replaced else (if number == 3 then Some Size else None)))

-- The removal that a call with this number stored for the caller, or none. Other numbers stand for nothing.
abbrev pub number_noticed : ℕ → NumberNotice → Option (Option (Removal ℕ ℕ))
number_noticed number notice =
    if number == 0
    then option_map (λ cause. Some (record { key = notice.key; value = notice.value; cause = cause })) (removal_cause notice.cause)
    else (if number == 1 then Some None else None)

-- The removal whose key and value a call with this number keeps for the caller, or none. Other numbers stand for nothing.
abbrev pub bytes_noticed : ℕ → ℕ → Option (List ℕ) → Option (List ℕ) → Option (Option (Removal (List ℕ) (List ℕ)))
bytes_noticed number cause key value =
    if number == 0
    then option_and_then (λ k. option_and_then (λ v. option_map (λ c. Some (record { key = k; value = v; cause = c }))
    (removal_cause cause)) value) key
    else (if number == 1 then Some None else None)

-- A notice has the lengths of the key and of the value that are kept.
abbrev pub HasLengths : BytesNotice → Option (List ℕ) → Option (List ℕ) → Type 0
HasLengths notice key value = IsSomeAnd key (λ k. notice.key_len ≡ length k) × IsSomeAnd value (λ v. notice.value_len ≡ length v)
