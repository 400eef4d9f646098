use Rattle.moka_model.specs.Orders.{standing}
use Rattle.moka_model.proofs.Callers.{held-orders}
use Rattle.moka_laws.proofs.RestOnes.{each_stands, in_one_order}
use Rattle.moka_laws.proofs.order_laws.the_queues_hold_what_stands.Goals as goal

pub returns-clause-held : goal.returns-clause-held
returns-clause-held g c settings h k = held-orders g.K.PartialEq.eq settings g.met.K.Eq.laws k h

pub returns-clause-one_each : goal.returns-clause-one_each
returns-clause-one_each g c settings h k = (standing g.K.PartialEq.eq settings k h, held-orders g.K.PartialEq.eq settings g.met.K.Eq.laws k h)

pub returns-clause-each_stands : goal.returns-clause-each_stands
returns-clause-each_stands g c settings h before after w is = each_stands g.K.PartialEq.eq settings g.met.K.Eq.laws h before after w is

pub returns-clause-in_one_order : goal.returns-clause-in_one_order
returns-clause-in_one_order g c settings h k w stands = in_one_order g.K.PartialEq.eq settings g.met.K.Eq.laws h k w stands
