use Rattle.moka_sync.proofs.build.cache_of.Goals as goal

-- The state under the lock is the one that was opened.
pub returns-clause-empty : goal.returns-clause-empty
returns-clause-empty g c = rw c.in_ok-share.ensures.shared (rw c.new.ensures c.in-Ok.ensures.empty)
