-- Each notice that is taken leaves one fewer in the queue.
use Rattle.std.proofs.Common.{length}
use Rattle.examples.proofs.temp_files.delete_removed.Given as goal

abbrev pub decreases-loop-notice : goal.decreases-loop-notice
decreases-loop-notice l = length l.pages.books.notices
