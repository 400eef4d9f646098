use Rattle.std.proofs.Common.{◌/◌, ◌<◌, length, get_or, arith}
use Rattle.std.proofs.lemmas.Grind.{common_steps}
use Rattle.std.proofs.lemmas.List.Edits.{map_over_more}
use Rattle.moka_sketch.proofs.frequency_sketch.halve.Goals as goal

-- one more counter is halved
pub loop-counter-preserved : goal.loop-counter-preserved
loop-counter-preserved c =
    let within : c.loop-counter.counter-index < length c.args.counters.now = omega arith in
    map_over_more (λ count. count / 2) c.args.counters.now c.loop-counter.counters c.loop-counter.counter-index (get_or c.loop-counter.counters c.loop-counter.counter-index 0) within c.loop-counter.invariant (grind (arith, common_steps))
