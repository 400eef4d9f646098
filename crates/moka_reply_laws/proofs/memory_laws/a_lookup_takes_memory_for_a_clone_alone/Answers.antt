use Rattle.moka_model.specs.Steps.{events_in}
use Rattle.moka_model.specs.Calls.{live_at}
use Rattle.moka_reply_laws.proofs.Memory.{missed, found-may}
use Rattle.moka_reply_laws.proofs.memory_laws.a_lookup_takes_memory_for_a_clone_alone.Goals as goal

pub returns-clause-miss : goal.returns-clause-miss
returns-clause-miss g c settings steps k at says =
    let none = missed g.V.Clone.is_infallible (live_at g.K.PartialEq.eq settings k at (events_in steps)) says in
    (none, none)

pub returns-clause-found : goal.returns-clause-found
returns-clause-found g c settings steps k at v says =
    let may = found-may g.V.Clone.is_infallible (live_at g.K.PartialEq.eq settings k at (events_in steps)) v says in
    (may, may)
