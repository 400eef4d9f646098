use Rattle.std.proofs.Common.{None}
use Rattle.std.specs.Arc.{arc_value}
use Rattle.moka_single_flight.specs.declared.replies.Joined.TheVariants.{Value, Turn}
use Rattle.moka_sync.proofs.Waiting.{computes}
use Rattle.moka_sync.proofs.cache.Cache.ask_to_compute.Goals as goal

pub returns-in-Ok-Turn : goal.returns-in-Ok-Turn
returns-in-Ok-Turn g c =
    computes g.C.CacheTypes.keeps None (record { key = arc_value c.args.key }) (Turn c.in-Ok-Turn.turn) c.wait_for.new.caller (rw c.in-Ok-Turn.field-0-is at c.in-Ok-Turn.ensures.done)

pub unreachable-requires : goal.unreachable-requires
unreachable-requires g c =
    computes g.C.CacheTypes.keeps None (record { key = arc_value c.args.key }) (Value tt) c.wait_for.new.caller (rw c.in-Ok-Value.field-0-is at c.in-Ok-Value.ensures.done)
