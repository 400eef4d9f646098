use Rattle.moka.specs.Walks.{calls_left}
use Rattle.examples.proofs.walks.retain_by_length.Given as goal

abbrev pub decreases-loop-pair : goal.decreases-loop-pair
decreases-loop-pair l = calls_left 1 l.cursor
