use Rattle.std.proofs.Common.{map, subst}
use Rattle.std.specs.Io.KnownBytes.{Appends}
use Rattle.mokabox_syntax.specs.OutputLine.{output_text}
use Rattle.mokabox_syntax.specs.Command.{plain_command}
use Rattle.mokabox_interpreter.specs.Script.{lines_text}
use Rattle.mokabox_interpreter.proofs.RunLaws.{bad_line_done, command_done}
use Rattle.mokabox_interpreter.proofs.script.do_line.Goals as goal

pub returns-in_default : goal.returns-in_default
returns-in_default g c = bad_line_done _ _ _ _ _ c.in_default.ensures.exact c.in_ok-write_line.ensures

pub returns : goal.returns
returns g c = command_done _ _ _ _ _ (plain_command c.in-Some.command) (map output_text c.in_ok-outputs.outputs.items) _ _ c.in-Some.ensures.exact c.in_ok-outputs.ensures (subst (λ items. Appends (g.W.Write.contents c.args.writer.now) (g.W.Write.contents c.write_lines.new.writer) (lines_text (map output_text items))) c.deref.ensures.value c.in_ok-write_lines.ensures)
