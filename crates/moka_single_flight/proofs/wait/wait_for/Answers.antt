use Rattle.std.proofs.Common.{suc, subst}
use Rattle.moka_single_flight.specs.Rounds.{CollectsTo}
use Rattle.moka_single_flight.proofs.Left.{one_more}
use Rattle.moka_single_flight.proofs.wait.wait_for.Goals as goal

pub loop-preserved : goal.loop-preserved
loop-preserved g c =
    let i = c.loop.invariant in
    let begun = subst (λ b. g.P.Participant.begun c.args.at.now c.loop.caller b c.begin.new.self) c.in-Wait.is c.in_ok-value.ensures.done in
    let ended = subst (λ o. CollectsTo (g.P.Participant.collected c.args.at.now) c.begin.new.self c.in-Wait.ticket o c.collect_all.new.caller) c.in_default-2.is c.in_ok-value-2.ensures.done in
    (suc i.0, one_more _ _ _ i.0 i.1 c.in-Some-take_retry.ensures.some, (c.loop.caller, i.2, (c.in-Wait.ticket, c.begin.new.self, begun, ended)), c.collect_all.ensures.still)
