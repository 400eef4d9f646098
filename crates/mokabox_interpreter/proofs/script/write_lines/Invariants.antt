use Rattle.std.proofs.Common.{map, take}
use Rattle.std.specs.Io.KnownBytes.{Appends}
use Rattle.mokabox_syntax.specs.OutputLine.{output_text}
use Rattle.mokabox_interpreter.specs.Script.{lines_text}
use Rattle.mokabox_interpreter.proofs.script.write_lines.Given as goal

abbrev pub invariant-loop-output : goal.invariant-loop-output
invariant-loop-output g l = Appends (g.W.Write.contents l.initial.writer) (g.W.Write.contents l.writer) (lines_text (map output_text (take l.output-index l.outputs)))
