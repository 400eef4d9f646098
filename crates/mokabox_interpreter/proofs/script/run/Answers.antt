use Rattle.std.specs.Io.Iter.{split_byte}
use Rattle.mokabox_interpreter.proofs.RunLaws.{script_done}
use Rattle.mokabox_interpreter.specs.Status.{code_of}
use Rattle.mokabox_interpreter.proofs.script.run.Goals as goal

pub returns : goal.returns
returns g c = script_done (λ v. v.items) c.in-Some.first c.in_ok-first.field-0 c.deref.result.now c.parse_first.result _ _ _ _ _ _ (split_byte c.split-lines.result) (code_of c.in_ok-status.status) c.split-lines.ensures.bytes c.split-lines.ensures.byte c.in-Some.ensures.steps.2 c.in_ok-first.was c.deref.ensures.value c.parse_first.ensures c.in_ok-status.ensures c.flush-2.ensures.bytes
