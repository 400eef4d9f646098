use Rattle.moka_laws.proofs.Written.{or_inserted-hit, or_inserted-fresh, get-or_inserted}
use Rattle.moka_laws.proofs.laws.get_after_or_insert.Goals as goal

pub returns-clause-hit : goal.returns-clause-hit
returns-clause-hit g c settings steps k v at w live = or_inserted-hit g.K.PartialEq.eq settings k v at steps w live

pub returns-clause-fresh : goal.returns-clause-fresh
returns-clause-fresh g c settings steps k v at none = or_inserted-fresh g.K.PartialEq.eq settings k v at steps none

pub returns-clause-found : goal.returns-clause-found
returns-clause-found g c settings steps k q v at now same le stores live idle own none = get-or_inserted g.K.PartialEq.eq settings k v at steps g.met.K.Eq.laws q now same le stores live idle own none
