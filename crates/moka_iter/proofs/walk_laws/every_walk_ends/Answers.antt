use Rattle.moka_iter.proofs.Laws.{each-walk-ends, within-most, stays}
use Rattle.moka_iter.proofs.walk_laws.every_walk_ends.Goals as goal

pub returns-clause-calls : goal.returns-clause-calls
returns-clause-calls g c calls new walk = each-walk-ends g.K.PartialEq.eq g.met.K.Eq.laws g.V.Clone.is_clone g.V.Clone.is_infallible calls new walk

pub returns-clause-segments : goal.returns-clause-segments
returns-clause-segments g c most calls new few walk = within-most g.K.PartialEq.eq g.met.K.Eq.laws g.V.Clone.is_clone g.V.Clone.is_infallible most calls new few walk

pub returns-clause-stays : goal.returns-clause-stays
returns-clause-stays g c histories now old new it walks none all = stays g.K.PartialEq.eq g.met.K.Eq.laws g.V.Clone.is_clone g.V.Clone.is_infallible histories now old new it walks none all
