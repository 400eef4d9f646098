-- Which arguments ask for workers, what the workers write into their cache, and what is printed.
use Rattle.std.specs.Prelude.{◌≡◌, ℕ, ◌+◌, ◌*◌, nat_lt, ◌&&◌, List, [], ◌∷◌, ◌++◌, Option, Some, None, option_and_then}
use Rattle.std.specs.Prelude.{Result, Ok, Err, IfOk, codes, if◌then◌else◌}
use Rattle.std.specs.Fmt.{decimal}
use Rattle.std.specs.Str.{bytes_eq}
use Rattle.moka_policy.specs.declared.policy.Refused.{Refused}
use Rattle.mokabox_syntax.specs.OutputLine.{written_line}
use Rattle.mokabox_syntax.specs.Fields.{number_of}
use Rattle.mokabox_syntax.specs.declared.output_line.OutputLine.TheVariants as outputs
use Rattle.mokabox_threads.specs.declared.threads.Counts.{Counts}
use Rattle.mokabox_threads.specs.declared.threads.Ended.{Ended}
use Rattle.mokabox_threads.specs.declared.threads.Ended.TheVariants as endings

-- The number of workers, if it is from 1 to 16.
abbrev pub workers_in_range : ℕ → Option ℕ
workers_in_range count = if nat_lt 0 count && nat_lt count 17 then Some count else None

-- The number of workers that the arguments, without the program's own name, ask for: the word `threads` and a number.
abbrev pub workers_by : List (List ℕ) → Option ℕ
workers_by [] = None
workers_by (word ∷ []) = None
workers_by (word ∷ count ∷ []) = if bytes_eq word (codes "threads") then option_and_then workers_in_range (number_of count) else None
workers_by (word ∷ count ∷ other ∷ more) = None

-- The value that a worker writes for a key.
abbrev pub value_text : ℕ → List ℕ
value_text key = codes "value " ++ decimal key

-- What was counted: each key of the workers once, as present or as absent; or an error.
abbrev pub IsCounted : ℕ → Result Counts Refused → Type 0
IsCounted workers counted = IfOk counted (λ counts. counts.present + counts.absent ≡ 64 * workers)

-- The line that is printed.
abbrev pub counted_line : ℕ → Result Counts Refused → List ℕ
counted_line workers (Ok counts) = codes "workers " ++ (decimal workers ++ (codes " present " ++ (decimal counts.present
    ++ (codes " absent " ++ (decimal counts.absent ++ (10 ∷ []))))))
counted_line workers (Err cause) = written_line (outputs.Refused cause)

-- How the run ends.
abbrev pub ended_by : Result Counts Refused → Ended
ended_by (Ok counts) = endings.Counted
ended_by (Err cause) = endings.Refused

-- The exit status of the program.
abbrev pub code_of : Ended → ℕ
code_of endings.Counted = 0
code_of endings.Refused = 1
