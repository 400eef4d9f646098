-- The deadline of a row's value.
use Rattle.std.specs.Prelude.{◌≡◌, ℕ, ◌-◌, ◌^◌, nat_le, if◌then◌else◌, Option, Some, None, List, option_map}
use Rattle.std.specs.List.{AllByRecursion}
use Rattle.std.specs.Duration.{as_nanos}
use Rattle.moka_model.specs.Lives.{ends_at, earlier, own_end}
use Rattle.moka_model.specs.Lives as model
use Rattle.moka_expiration.specs.declared.expiration_policy.ExpirationPolicy.{ExpirationPolicy}
use Rattle.moka_rows.specs.declared.rows.EntryInfo.{EntryInfo}
use Rattle.moka_rows.specs.declared.rows.Row.{Row}
use Rattle.moka_rows.specs.declared.rows.OwnLife.{OwnLife}

-- An own lifetime, as the specification has it.
abbrev pub own_life : OwnLife → model.OwnLife
own_life it = record { from = it.from; life = as_nanos it.life }

-- The own lifetime in the metadata of a value, if it has one.
abbrev pub own_of : EntryInfo → Option model.OwnLife
own_of info = option_map own_life info.own_life

-- The deadline of a value: the earliest end of the time to live, the time to idle and its own lifetime.
abbrev pub deadline_of : ExpirationPolicy → EntryInfo → Option ℕ
deadline_of lives info =
    earlier (earlier (ends_at (option_map as_nanos lives.time_to_live) info.last_modified)
    (ends_at (option_map as_nanos lives.time_to_idle) info.last_accessed)) (own_end (own_of info))

-- The deadline that is stored for a deadline: none if it is past the last moment, since it never comes.
abbrev pub within_moments : Option ℕ → Option ℕ
within_moments None = None
within_moments (Some deadline) = if nat_le deadline (2 ^ 64 - 1) then Some deadline else None

-- The metadata of a value with its deadline.
abbrev pub dated : ExpirationPolicy → EntryInfo → EntryInfo
dated lives info = record info { deadline = within_moments (deadline_of lives info) }

-- The deadline in the metadata is the right one.
abbrev pub IsDated : ExpirationPolicy → EntryInfo → Type 0
IsDated lives info = info.deadline ≡ within_moments (deadline_of lives info)

-- The deadline of each row is the right one.
abbrev pub AreDated : {K V : Type 0} → ExpirationPolicy → List (ℕ × Row K V) → Type 0
AreDated lives rows = AllByRecursion (λ p. IsDated lives p.1.info) rows
