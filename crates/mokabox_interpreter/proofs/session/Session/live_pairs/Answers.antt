use Rattle.std.specs.Arc.{arc_value}
use Rattle.mokabox_interpreter.proofs.WalkLines.{walked_more, walked_all}
use Rattle.mokabox_interpreter.proofs.session.Session.live_pairs.Goals as goal

pub loop-pair-preserved : goal.loop-pair-preserved
loop-pair-preserved c =
    walked_more c.args.self.now.cache c.args.self.now.moment c.segments-states.result.now c.segments-states.ensures c.loop-pair.pairs.items c.loop-pair.cursor c.next.new.self c.loop-pair.invariant (arc_value c.in-Ok.key, c.in-Ok.value) _ (rw c.in-Ok.is at c.in-Some.ensures.step) (rw c.deref.ensures at c.in_ok-push-in-Ok.ensures.items)

pub returns-clause-pairs : goal.returns-clause-pairs
returns-clause-pairs c =
    walked_all c.args.self.now.cache c.args.self.now.moment c.segments-states.result.now c.segments-states.ensures c.loop-pair.pairs.items c.loop-pair.cursor c.next.new.self c.loop-pair.invariant c.in_default.ensures.step
