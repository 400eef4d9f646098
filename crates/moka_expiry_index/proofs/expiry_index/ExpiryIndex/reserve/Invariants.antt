use Rattle.std.proofs.Common.{◌≡◌, ◌<◌, ◌-◌, ◌*◌}
use Rattle.moka_expiry_index.specs.ExpiryIndex.{order_of, known_of, PreservesRoom}
use Rattle.moka_expiry_index.proofs.expiry_index.ExpiryIndex.reserve.Given as goal

abbrev pub invariant-loop-self : goal.invariant-loop-self
invariant-loop-self l = record {
  known : l.number < known_of l.self;
  order : order_of l.self ≡ order_of l.fn.self;
  preserves : PreservesRoom l.fn.self l.self;
}

abbrev pub decreases-loop-self : goal.decreases-loop-self
decreases-loop-self l = 2 * l.count - l.self.size
