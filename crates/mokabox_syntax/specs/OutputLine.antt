-- What the program prints for each output line.
use Rattle.std.specs.Prelude.{ℕ, Bool, true, false, List, [], ◌∷◌, ◌++◌, Option, Some, None, codes, String, flat_map}
use Rattle.std.specs.Fmt.{decimal}
use Rattle.std.specs.String.{string_bytes}
use Rattle.std.specs.declared.alloc.Global.{Global}
use Rattle.moka_model.specs.declared.notification.RemovalCause.{RemovalCause}
use Rattle.moka_model.specs.declared.notification.RemovalCause.TheVariants as causes
use Rattle.moka_policy.specs.declared.builder_utils.BuildError.{BuildError}
use Rattle.moka_policy.specs.declared.builder_utils.BuildError.TheVariants as builds
use Rattle.moka_policy.specs.declared.policy.Refused as moka_refused
use Rattle.moka_policy.specs.declared.policy.Refused.TheVariants as refusals
use Rattle.moka_predicate_ids.specs.declared.predicate_error.PredicateError.{PredicateError}
use Rattle.moka_predicate_ids.specs.declared.predicate_error.PredicateError.TheVariants as predicates
use Rattle.mokabox_syntax.specs.declared.output_line.OutputLine.{OutputLine}
use Rattle.mokabox_syntax.specs.declared.output_line.OutputLine.TheVariants.{Done, Found, NotFound, Whether, Counted, Refused, NotBuilt}
use Rattle.mokabox_syntax.specs.declared.output_line.OutputLine.TheVariants.{Unfinished, NotHidden, Policy, Walked, BadLine}
use Rattle.mokabox_syntax.specs.declared.output_line.OutputLine.TheVariants.{Entered, Run, Waits, Nothing, Failed, NotYet, Abandoned, Ended}
use Rattle.mokabox_syntax.specs.declared.output_line.OutputLine.TheVariants.{Shown, Computed, Left, End}
use Rattle.mokabox_syntax.specs.declared.output_line.Became.{Became}
use Rattle.mokabox_syntax.specs.declared.output_line.Became.TheVariants.{StillNone, Unchanged, Inserted, ReplacedWith, Removed}

-- The number that is printed for a failure.
abbrev pub refusal_number : moka_refused.Refused → ℕ
refusal_number refusals.OutOfMemory = 1
refusal_number refusals.NumbersUsedUp = 2
refusal_number refusals.UnknownTurn = 3
refusal_number refusals.UnknownTicket = 4
refusal_number refusals.TurnIsOpen = 5
refusal_number refusals.WaitsAbandoned = 6

-- The number that is printed for a failure to build.
abbrev pub build_refusal_number : BuildError → ℕ
build_refusal_number builds.NoSegments = 1
build_refusal_number builds.TooManySegments = 2
build_refusal_number builds.TimeToLiveTooLong = 3
build_refusal_number builds.TimeToIdleTooLong = 4
build_refusal_number builds.OutOfMemory = 5
build_refusal_number builds.ZeroFlushLimit = 6
build_refusal_number builds.FlushLimitWithWeigher = 7

-- The number that is printed for a failed invalidation by values.
abbrev pub predicate_error_number : PredicateError → ℕ
predicate_error_number predicates.InvalidationClosuresDisabled = 1
predicate_error_number predicates.OutOfMemory = 2

-- The word that is printed for a cause.
abbrev pub cause_text : RemovalCause → List ℕ
cause_text causes.Expired = codes "Expired"
cause_text causes.Explicit = codes "Explicit"
cause_text causes.Replaced = codes "Replaced"
cause_text causes.Size = codes "Size"

-- How an optional number is printed.
abbrev pub measure_text : Option ℕ → List ℕ
measure_text None = codes "none"
measure_text (Some number) = decimal number

-- Keys with their values, each pair as `KEY=VALUE` after a space.
abbrev pub pairs_text : List (ℕ × String Global) → List ℕ
pairs_text pairs = flat_map (λ pair. codes " " ++ (decimal pair.0 ++ (codes "=" ++ string_bytes pair.1))) pairs

-- How it is printed whether a maintenance left something undone.
abbrev pub rest_text : Bool → List ℕ
rest_text true = codes "left"
rest_text false = codes "done"

-- How it is printed whether the call stored an entry's value.
abbrev pub age_text : Bool → List ℕ
age_text true = codes "fresh"
age_text false = codes "old"

-- What is printed after an entry that overwrote a live value.
abbrev pub replaced_text : Bool → List ℕ
replaced_text true = codes " replaced"
replaced_text false = []

-- A key with its value.
abbrev pub pair_text : ℕ → String Global → List ℕ
pair_text key value = decimal key ++ (32 ∷ string_bytes value)

-- How the result of a compute is printed.
abbrev pub became_text : Became → List ℕ
became_text (StillNone key) = codes "still-none " ++ decimal key
became_text (Unchanged key value) = codes "unchanged " ++ pair_text key value
became_text (Inserted key value) = codes "inserted " ++ pair_text key value
became_text (ReplacedWith key value) = codes "replaced-with " ++ pair_text key value
became_text (Removed key value) = codes "removed " ++ pair_text key value

-- How an optional value is printed.
abbrev pub live_text : Option (String Global) → List ℕ
live_text None = codes "none"
live_text (Some value) = codes "some " ++ string_bytes value

-- The text of an output line, without its end.
abbrev pub output_text : OutputLine → List ℕ
output_text Done = codes "ok"
output_text (Found value) = codes "some " ++ string_bytes value
output_text NotFound = codes "none"
output_text (Whether true) = codes "true"
output_text (Whether false) = codes "false"
output_text (Counted count) = decimal count
output_text (Unfinished is_left) = rest_text is_left
output_text (Refused refused) = codes "refused " ++ decimal (refusal_number refused)
output_text (NotBuilt refusal) = codes "refused build " ++ decimal (build_refusal_number refusal)
output_text (NotHidden refusal) = codes "error " ++ decimal (predicate_error_number refusal)
output_text (Left key value cause) = codes "notice " ++ (decimal key ++ (32 ∷ (string_bytes value ++ (32 ∷ cause_text cause))))
output_text (Policy capacity live idle segments) =
    codes "policy capacity " ++ (measure_text capacity.0 ++ (codes " ttl " ++ (measure_text live.0
    ++ (codes " tti " ++ (measure_text idle.0 ++ (codes " segments " ++ decimal segments))))))
output_text (Walked pairs) = codes "walk" ++ pairs_text pairs.0.items
output_text (Entered key value is_fresh is_replaced) =
    codes "entry " ++ (decimal key ++ (32 ∷ (string_bytes value ++ (32 ∷ (age_text is_fresh ++ replaced_text is_replaced)))))
output_text (Run number) = codes "run " ++ decimal number
output_text (Shown number live) = codes "run " ++ (decimal number ++ (32 ∷ live_text live.0))
output_text (Waits number) = codes "wait " ++ decimal number
output_text Nothing = codes "nothing"
output_text (Failed error) = codes "failed " ++ string_bytes error
output_text (Computed became) = became_text became
output_text NotYet = codes "not yet"
output_text Abandoned = codes "abandoned"
output_text Ended = codes "ended"
output_text End = codes "end"
output_text BadLine = codes "bad line"

-- The line with its end.
abbrev pub written_line : OutputLine → List ℕ
written_line output = output_text output ++ (10 ∷ [])
