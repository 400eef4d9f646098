use Rattle.std.proofs.Common.{◌≡◌, ◌+◌}
use Rattle.mokabox_threads.proofs.worker.count.Given as goal

abbrev pub invariant-loop-key : goal.invariant-loop-key
invariant-loop-key g l = l.present + l.absent ≡ l.key-counter
