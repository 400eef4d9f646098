-- Which lives and which flush limits a cache cannot be built with.
use Rattle.std.specs.Prelude.{ℕ, ◌*◌, nat_eq, nat_lt, Bool, false, Option, Some, None, if◌then◌else◌}
use Rattle.moka_policy.specs.declared.builder_utils.BuildError.{BuildError}
use Rattle.moka_policy.specs.declared.builder_utils.BuildError.TheVariants.{TimeToLiveTooLong, TimeToIdleTooLong}
use Rattle.moka_policy.specs.declared.builder_utils.BuildError.TheVariants.{ZeroFlushLimit, FlushLimitWithWeigher}

-- The longest time to live or to idle: 1000 years of 365 days, in nanoseconds.
abbrev pub longest_life : ℕ
longest_life = 1000 * 365 * 24 * 3600 * 1_000_000_000

-- Whether a time to live or to idle, in nanoseconds, is longer than the longest one; an absent one is not.
abbrev pub is_too_long : Option ℕ → Bool
is_too_long None = false
is_too_long (Some life) = nat_lt longest_life life

-- The error for a time to live and a time to idle, if one is too long; the time to live is checked first.
abbrev pub too_long_of : Option ℕ → Option ℕ → Option BuildError
too_long_of time_to_live time_to_idle =
    if is_too_long time_to_live then Some TimeToLiveTooLong
    else (if is_too_long time_to_idle then Some TimeToIdleTooLong else None)

-- The error for a flush limit and for whether there is a weigher, if they are not allowed; a limit of 0 is checked
-- first.
abbrev pub flush_refused_of : Option ℕ → Bool → Option BuildError
flush_refused_of None has_weigher = None
flush_refused_of (Some limit) has_weigher =
    if nat_eq limit 0 then Some ZeroFlushLimit else (if has_weigher then Some FlushLimitWithWeigher else None)
