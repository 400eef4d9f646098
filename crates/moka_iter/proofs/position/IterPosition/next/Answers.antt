use Rattle.std.proofs.Common.{◌<◌, ◌≤◌, arith}
use Rattle.moka_iter.proofs.Goings.{goes-first, goes-on, goes-further, ends-within, ends-refused, ends-finished, nearer}
use Rattle.moka_iter.proofs.position.IterPosition.next.Goals as goal

pub loop-found-init : goal.loop-found-init
loop-found-init g c = goes-first _ _ _ c.args.self.now

pub loop-found-preserved : goal.loop-found-preserved
loop-found-preserved g c =
    let on = goes-on _ _ _ _ _ c.next_pending.new.self c.loop-found.invariant c.in_default.ensures.reached c.in_default.ensures.stops in
    let more : c.next_pending.new.self.reached < g.S.Segments.count c.args.segments.now = rw (← c.self.view_is) (omega (arith, c.if-self-len.false, c.len.ensures)) in
    goes-further _ _ _ _ _ _ on c.in_default.ensures.stops.1 more c.reach.ensures.reached c.in_default-reach.ensures.keys

pub returns-in-Some : goal.returns-in-Some
returns-in-Some g c =
    let step = ends-within _ _ _ _ _ c.next_pending.new.self _ c.loop-found.invariant c.in-Some.ensures.reached c.in-Some.ensures.stops in
    record { step = step; nearer = nearer _ _ _ _ c.next_pending.new.self _ step c.next_pending.ensures.fits }

pub returns-then-self-len : goal.returns-then-self-len
returns-then-self-len g c =
    let on = goes-on _ _ _ _ _ c.next_pending.new.self c.loop-found.invariant c.in_default.ensures.reached c.in_default.ensures.stops in
    let all : g.S.Segments.count c.args.segments.now ≤ c.next_pending.new.self.reached = rw (← c.self.view_is) (omega (arith, c.if-self-len.true, c.len.ensures)) in
    record { step = ends-finished _ _ _ _ _ on c.in_default.ensures.stops.1 all; nearer = tt }

pub returns-in-Err : goal.returns-in-Err
returns-in-Err g c =
    let on = goes-on _ _ _ _ _ c.next_pending.new.self c.loop-found.invariant c.in_default.ensures.reached c.in_default.ensures.stops in
    let more : c.next_pending.new.self.reached < g.S.Segments.count c.args.segments.now = rw (← c.self.view_is) (omega (arith, c.if-self-len.false, c.len.ensures)) in
    let step = ends-refused _ _ _ _ _ c.reach.new.self _ on c.in_default.ensures.stops.1 more c.reach.ensures.reached c.in-Err.ensures.refused.0 c.in-Err.ensures.refused.1 in
    record { step = step; nearer = nearer _ _ _ _ c.reach.new.self _ step (rw c.in-Err.ensures.refused.0 (omega arith)) }
