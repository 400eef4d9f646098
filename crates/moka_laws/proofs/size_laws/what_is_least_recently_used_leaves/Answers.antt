use Rattle.moka_laws.proofs.Departures.{gone-within, removals_at-within, admitted-within, admitted-without}
use Rattle.moka_laws.proofs.size_laws.what_is_least_recently_used_leaves.Goals as goal

pub returns-clause-leaving : goal.returns-clause-leaving
returns-clause-leaving g c settings h at capacity lru ones e = gone-within g.K.PartialEq.eq settings at h lru ones capacity e

pub returns-clause-causes : goal.returns-clause-causes
returns-clause-causes g c settings h at capacity lru ones e = removals_at-within g.K.PartialEq.eq settings at h lru ones capacity e

pub returns-clause-admitted : goal.returns-clause-admitted
returns-clause-admitted g c settings h at capacity lru ones e = admitted-within g.K.PartialEq.eq settings at h lru ones capacity e

pub returns-clause-without_a_capacity : goal.returns-clause-without_a_capacity
returns-clause-without_a_capacity g c settings h at e = admitted-without g.K.PartialEq.eq settings at h e
