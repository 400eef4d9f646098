use Rattle.moka_laws.proofs.Departures.{gone-dead_first, removals_at-dead_first}
use Rattle.moka_laws.proofs.size_laws.the_dead_leave_as_removed_or_expired.Goals as goal

pub returns-clause-dead_first : goal.returns-clause-dead_first
returns-clause-dead_first g c settings h at = gone-dead_first g.K.PartialEq.eq settings at h

pub returns-clause-causes : goal.returns-clause-causes
returns-clause-causes g c settings h at = removals_at-dead_first g.K.PartialEq.eq settings at h
