use Rattle.std.proofs.Common.{length}
use Rattle.moka_iter.specs.Walks.{calls_left}
use Rattle.mokabox_interpreter.proofs.WalkLines.{HasWalked}
use Rattle.mokabox_interpreter.proofs.session.Session.live_pairs.Given as goal

abbrev pub invariant-loop-pair : goal.invariant-loop-pair
invariant-loop-pair l = HasWalked l.self.cache l.self.moment l.pairs.items l.cursor

abbrev pub decreases-loop-pair : goal.decreases-loop-pair
decreases-loop-pair l = calls_left (length l.self.cache.segments) l.cursor
