use Rattle.moka_laws.proofs.Arrivals.{waiting_in_order}
use Rattle.moka_laws.proofs.Positions.{older_first}
use Rattle.moka_laws.proofs.order_laws.waiting_is_the_order_of_arrival.Goals as goal

pub returns-clause-in_order : goal.returns-clause-in_order
returns-clause-in_order g c settings h = waiting_in_order g.K.PartialEq.eq settings g.met.K.Eq.laws h

pub returns-clause-older_first : goal.returns-clause-older_first
returns-clause-older_first g c settings h before middle after a b is x y = older_first g.K.PartialEq.eq settings g.met.K.Eq.laws h before middle after a b is x y
