use Rattle.std.proofs.Common.{Some, subst}
use Rattle.std.specs.Prelude.{IfOk}
use Rattle.moka_single_flight.specs.Holds.{HoldsOfJoined}
use Rattle.moka_sync.specs.Waiting.{InitializerData, IsGivenTo, IsTurnFor}
use Rattle.moka_sync.proofs.Waiting.{if-asked}
use Rattle.moka_sync.proofs.cache.Cache.ask.Goals as goal

pub returns : goal.returns
returns g c =
    subst (λ (it : InitializerData _ _). IfOk c.wait_for.result (HoldsOfJoined (IsGivenTo g.C.CacheTypes.keeps it.kind it.key) (IsTurnFor it.kind it.key))) c.new-caller.ensures
    (if-asked g.C.CacheTypes.keeps (Some 200) c.new-caller.result c.wait_for.new.caller c.wait_for.result c.wait_for.ensures.done)
