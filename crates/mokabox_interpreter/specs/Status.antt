-- The exit status of a run.
use Rattle.std.specs.Prelude.{ℕ}
use Rattle.mokabox_interpreter.specs.declared.script.Status.{Status}
use Rattle.mokabox_interpreter.specs.declared.script.Status.TheVariants.{Done, Bad, Failed}

-- The exit status of the program.
abbrev pub code_of : Status → ℕ
code_of Done = 0
code_of Failed = 1
code_of Bad = 2
