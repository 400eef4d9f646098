use Rattle.std.proofs.Common.{◌≡◌, ◌/◌, ◌++◌, map, take, drop}
use Rattle.moka_sketch.proofs.frequency_sketch.halve.Given as goal

-- the counters so far are halved
abbrev pub invariant-loop-counter : goal.invariant-loop-counter
invariant-loop-counter l = l.counters ≡ map (λ count. count / 2) (take l.counter-index l.initial.counters) ++ drop l.counter-index l.initial.counters
