-- The numbers that calls return, and the results that they stand for.
use Rattle.std.specs.Prelude.{ℕ, ◌==◌, if◌then◌else◌, Option, Some, None, Result, Ok, Err}
use Rattle.moka_policy.specs.declared.policy.Refused.{Refused}
use Rattle.moka_policy.specs.declared.policy.Refused.TheVariants.{OutOfMemory, NumbersUsedUp}
use Rattle.moka_policy.specs.declared.refused.InsertRefused.{InsertRefused}
use Rattle.moka_model.specs.declared.notification.RemovalCause.{RemovalCause}
use Rattle.moka_model.specs.declared.notification.RemovalCause.TheVariants.{Expired, Explicit, Replaced, Size}

-- The number of the cause of a failed call.
abbrev pub number_of : Refused → ℕ
number_of NumbersUsedUp = 3
number_of _ = 2

-- The number of the cause of a removal.
abbrev pub cause_number : RemovalCause → ℕ
cause_number Expired = 0
cause_number Explicit = 1
cause_number Replaced = 2
cause_number Size = 3

-- What a lookup returned, given its number and what it stored for the caller. Other numbers stand for nothing.
abbrev pub read_of : {V : Type 0} → ℕ → V → Option (Result (Option V) Refused)
read_of number value =
    if number == 0 then Some (Ok (Some value))
    else (if number == 1 then Some (Ok None) else (if number == 2 then Some (Err OutOfMemory) else None))

-- What a write returned, given its number, its key and its value. Other numbers stand for nothing.
abbrev pub written_of : {K V : Type 0} → ℕ → K → V → Option (Result (Unit {0}) (InsertRefused K V))
written_of number key value =
    if number == 0 then Some (Ok tt)
    else (if number == 2 then Some (Err (record { key = key; value = value; cause = OutOfMemory }))
    else (if number == 3 then Some (Err (record { key = key; value = value; cause = NumbersUsedUp })) else None))
