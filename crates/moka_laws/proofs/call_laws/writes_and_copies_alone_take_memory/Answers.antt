use Rattle.moka_laws.proofs.Memory.{stores-something, takes_memory}
use Rattle.moka_laws.proofs.call_laws.writes_and_copies_alone_take_memory.Goals as goal

pub returns-clause-write : goal.returns-clause-write
returns-clause-write g c settings steps k v at = stores-something settings.max_capacity

pub returns-clause-others : goal.returns-clause-others
returns-clause-others g c settings steps call other = takes_memory g.K.PartialEq.eq g.V.Clone.is_clone g.V.Clone.is_infallible settings steps call other
