use Rattle.std.proofs.Common.{◌-◌}
use Rattle.moka_iter.proofs.Goings.{IsOnItsWay}
use Rattle.moka_iter.proofs.position.IterPosition.next.Given as goal

abbrev pub invariant-loop-found : goal.invariant-loop-found
invariant-loop-found g l = IsOnItsWay (g.S.Segments.count l.segments) (g.S.Segments.stands l.segments) (g.S.Segments.finds l.segments) l.fn.self l.self

abbrev pub decreases-loop-found : goal.decreases-loop-found
decreases-loop-found g l = g.S.Segments.count l.segments - l.self.reached
