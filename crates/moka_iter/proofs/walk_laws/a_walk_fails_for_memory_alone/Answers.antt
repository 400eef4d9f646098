use Rattle.moka_iter.proofs.Needs.{fails-for_memory}
use Rattle.moka_iter.proofs.walk_laws.a_walk_fails_for_memory_alone.Goals as goal

pub returns : goal.returns
returns g c histories now old e new may = fails-for_memory g.K.PartialEq.eq g.V.Clone.is_clone g.V.Clone.is_infallible histories now old e new may
