use Rattle.std.proofs.Common.{◌≡◌, sym, subst}
use Rattle.std.specs.Io.Iter.{split_byte}
use Rattle.mokabox_interpreter.proofs.LineLaws.{run_begun, run_ended}
use Rattle.mokabox_interpreter.proofs.RunLaws.{next_after_bad, next_after_good}
use Rattle.mokabox_interpreter.proofs.script.go_on.Goals as goal

pub loop-line-init : goal.loop-line-init
loop-line-init g c = run_begun _ _ _ _ _ (subst (λ it. split_byte it ≡ 10) (sym c.into_iter-line-iterator.ensures.into_iter_gives) c.requires)

pub loop-line-preserved-then-is_bad : goal.loop-line-preserved-then-is_bad
loop-line-preserved-then-is_bad g c = next_after_bad (λ v. v.items) c.in-Some.line c.in_ok-line.field-0 c.deref.result.now _ _ _ _ _ _ _ _ _ c.loop-line.is_bad c.in_ok-is_bad_line.is_bad_line _ _ _ _ _ c.loop-line.invariant c.in-Some.ensures.steps.1 c.in-Some.ensures.steps.2 c.in_ok-line.was c.deref.ensures.value c.in_ok-is_bad_line.ensures c.if-is_bad.true

pub loop-line-preserved : goal.loop-line-preserved
loop-line-preserved g c = next_after_good (λ v. v.items) c.in-Some.line c.in_ok-line.field-0 c.deref.result.now _ _ _ _ _ _ _ _ _ c.loop-line.is_bad c.in_ok-is_bad_line.is_bad_line _ _ _ _ _ c.loop-line.invariant c.in-Some.ensures.steps.1 c.in-Some.ensures.steps.2 c.in_ok-line.was c.deref.ensures.value c.in_ok-is_bad_line.ensures c.if-is_bad.false

pub returns : goal.returns
returns g c = λ rules before is. rw (← c.into_iter-line-iterator.ensures.into_iter_gives) (run_ended _ _ _ _ _ _ _ _ _ _ c.loop-line.invariant c.in-None.ensures.steps.2 rules before is)
