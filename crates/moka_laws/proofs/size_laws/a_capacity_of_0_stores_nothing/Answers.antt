use Rattle.std.proofs.Common.{refl}
use Rattle.moka_model.proofs.Callers.{orders-empty, standing-empty, removals-empty}
use Rattle.moka_laws.proofs.Flushes.{drawn-empty}
use Rattle.moka_laws.proofs.size_laws.a_capacity_of_0_stores_nothing.Goals as goal

pub returns-clause-orders : goal.returns-clause-orders
returns-clause-orders g c settings steps none legal = rw (orders-empty g.K.PartialEq.eq settings none steps legal) (refl, refl, refl)

pub returns-clause-standing : goal.returns-clause-standing
returns-clause-standing g c settings steps k none legal = standing-empty g.K.PartialEq.eq settings none k steps legal

pub returns-clause-looks : goal.returns-clause-looks
returns-clause-looks g c settings steps k at none legal = rw (standing-empty g.K.PartialEq.eq settings none k steps legal) (refl, refl)

pub returns-clause-removals : goal.returns-clause-removals
returns-clause-removals g c settings steps none legal = removals-empty g.K.PartialEq.eq settings none steps legal

pub returns-clause-drawn : goal.returns-clause-drawn
returns-clause-drawn g c settings h k v at none = drawn-empty g.K.PartialEq.eq settings none k v at h
