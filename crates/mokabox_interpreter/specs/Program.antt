-- What the program does, by its arguments.
use Rattle.std.specs.Prelude.{◌≡◌, ℕ, List, [], ◌∷◌, ◌++◌, Option, Some, None, IfSome, codes, if◌then◌else◌}
use Rattle.std.specs.Str.{bytes_eq}
use Rattle.std.specs.Io.KnownBytes.{Appends}
use Rattle.mokabox_interpreter.specs.Script.{ScriptPrints, lines_of, lines_text}
use Rattle.mokabox_interpreter.specs.declared.program.Mode.{Mode}
use Rattle.mokabox_interpreter.specs.declared.program.Mode.TheVariants.{Script, Help, Version}

-- What the arguments, without the program's own name, ask for: a script if there are none.
abbrev pub mode_by : List (List ℕ) → Option Mode
mode_by [] = Some Script
mode_by (word ∷ []) = if bytes_eq word (codes "--help") then Some Help else if bytes_eq word (codes "--version") then Some Version else None
mode_by (word ∷ other ∷ more) = None

-- The line that says how the program is called.
abbrev pub usage_line : List ℕ
usage_line = codes "usage: mokabox [threads N]" ++ (10 ∷ [])

-- What `--help` prints: what the program does, by its arguments.
abbrev pub help_text : List ℕ
help_text = lines_text (
    codes "mokabox drives a cache by a script, or by threads that share the cache."
    ∷ []
    ∷ codes "mokabox            reads a script from standard input, and prints its replies"
    ∷ codes "mokabox threads N  runs N workers, from 1 to 16, and counts their keys"
    ∷ codes "mokabox --help     prints this text"
    ∷ codes "mokabox --version  prints the version"
    ∷ []
    ∷ codes "The first line of a script is `new` with settings, such as"
    ∷ codes "`new capacity=100 policy=lru ttl=10`. Each other line is a command, such as"
    ∷ codes "`insert 1 one`, `get 1`, `tasks` or `notices`. docs/SCRIPT.md has them all."
    ∷ codes "Why a line is bad is said on standard error."
    ∷ [])

-- The line that says the version.
abbrev pub version_line : List ℕ
version_line = codes "mokabox 0.1.0" ++ (10 ∷ [])

-- What the program appends to what its writer held, and its exit status.
abbrev pub ProgramWrites : Option Mode → Option (List ℕ) → Option (List ℕ) → Option (List ℕ) → ℕ → Type 0
ProgramWrites None input held held_after status = Appends held held_after usage_line × (status ≡ 2)
ProgramWrites (Some Help) input held held_after status = Appends held held_after help_text × (status ≡ 0)
ProgramWrites (Some Version) input held held_after status = Appends held held_after version_line × (status ≡ 0)
ProgramWrites (Some Script) input held held_after status = IfSome input (λ bytes.
    (printed : List (List ℕ)) × ScriptPrints (lines_of bytes) printed status × Appends held held_after (lines_text printed))
