use Rattle.std.proofs.Common.{subst, suc, rules}
use Rattle.moka_single_flight.specs.declared.replies.Collected.TheVariants.{Ready, Retry}
use Rattle.moka_single_flight.proofs.wait.collect_all.Goals as goal

pub returns-in-Ready-clause-done : goal.returns-in-Ready-clause-done
returns-in-Ready-clause-done g c = c.loop.invariant.0 0 (Ready c.in-Ready.value) _ (subst (λ b. g.P.Participant.collected c.args.at.now c.loop.caller c.loop.ticket b c.collect.new.self) c.in-Ready.is c.in_ok-value.ensures.done)

pub returns-in-Retry-clause-done : goal.returns-in-Retry-clause-done
returns-in-Retry-clause-done g c = c.loop.invariant.0 0 Retry _ (subst (λ b. g.P.Participant.collected c.args.at.now c.loop.caller c.loop.ticket b c.collect.new.self) c.in-Retry.is c.in_ok-value.ensures.done)

pub loop-preserved : goal.loop-preserved
loop-preserved g c =
    let not_yet = subst (λ b. g.P.Participant.collected c.args.at.now c.loop.caller c.loop.ticket b c.collect.new.self) c.in-NotYet.is c.in_ok-value.ensures.done in (
      λ n b u h. c.loop.invariant.0 (suc n) b u (c.in-NotYet.same, c.collect.new.self, not_yet, h),
      λ n r u h. c.loop.invariant.1 (suc n) r u (c.in-NotYet.same, c.collect.new.self, not_yet, h),
      c.collect.ensures.still,
    )

pub returns-in_err-value-clause-refused : goal.returns-in_err-value-clause-refused
returns-in_err-value-clause-refused g c =
    let h = c.loop.invariant.1 0 _ _ c.in_err-value.ensures.refused in
    search rules
