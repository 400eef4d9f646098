use Rattle.std.proofs.Common.{arith}
use Rattle.moka_iter.proofs.Needs.{needed}
use Rattle.moka_iter.proofs.walk_laws.a_segment_is_reached_when_it_is_needed.Goals as goal

pub returns-clause-needed : goal.returns-clause-needed
returns-clause-needed g c histories now old new it walks some further = needed g.K.PartialEq.eq g.V.Clone.is_clone g.V.Clone.is_infallible histories now old new it walks some further

-- the key at its end is of the first segment, and the second one was reached
pub returns-clause-not_early : goal.returns-clause-not_early
returns-clause-not_early g c histories now k next v walks = let last = walks.ends.2 in omega (arith, last)
