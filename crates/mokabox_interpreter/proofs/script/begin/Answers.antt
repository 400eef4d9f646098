use Rattle.std.proofs.Common.{ap, sym}
use Rattle.mokabox_interpreter.proofs.RunLaws.{first_bad, first_not_built, first_done}
use Rattle.mokabox_interpreter.specs.Script.{status_of}
use Rattle.mokabox_interpreter.proofs.script.begin.Goals as goal

pub returns-in_default : goal.returns-in_default
returns-in_default g c = first_bad c.args.settings _ _ _ c.in_default.is c.in_ok-write_line.ensures

pub returns-then-is_bad : goal.returns-then-is_bad
returns-then-is_bad g c = first_done c.args.settings c.in-Some.settings _ _ _ _ _ _ c.in_ok-is_bad-in-Ok.is_bad 2 c.in-Some.is c.in-Ok.ensures.accepted c.in-Ok.ensures.begun c.in_ok-write_line-in-Ok.ensures c.in_ok-is_bad-in-Ok.ensures (ap status_of (sym c.if-is_bad.true))

pub returns-else-is_bad : goal.returns-else-is_bad
returns-else-is_bad g c = first_done c.args.settings c.in-Some.settings _ _ _ _ _ _ c.in_ok-is_bad-in-Ok.is_bad 0 c.in-Some.is c.in-Ok.ensures.accepted c.in-Ok.ensures.begun c.in_ok-write_line-in-Ok.ensures c.in_ok-is_bad-in-Ok.ensures (ap status_of (sym c.if-is_bad.false))

pub returns-in_ok-write_line-in-Err : goal.returns-in_ok-write_line-in-Err
returns-in_ok-write_line-in-Err g c = first_not_built c.args.settings c.in-Some.settings c.in-Err.refusal _ _ _ c.in-Some.is c.in-Err.ensures.refused c.in_ok-write_line-in-Err.ensures
