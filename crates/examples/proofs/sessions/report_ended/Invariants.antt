-- Each notice that is taken leaves one fewer in the queue.
use Rattle.std.proofs.Common.{length}
use Rattle.examples.proofs.sessions.report_ended.Given as goal

abbrev pub decreases-loop-notice : goal.decreases-loop-notice
decreases-loop-notice l = length l.sessions.books.notices
